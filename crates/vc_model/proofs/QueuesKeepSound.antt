-- Each row that changes one queue leaves the queue sound. Buffers are counted by index over all four lists, and each
-- row only moves one from a list to another or takes all of them back; ordinals count up as buffers are queued.
use Rattle.std.proofs.Common.{ℕ, zero, suc, ◌≡◌, ◌≤◌, ◌<◌, ◌+◌, min, ◌==◌, eqb, ltb, Bool, true, false, not, cond, Some, List, [], ◌∷◌, ◌++◌, map, length, refl, sym, ap, ◌∙◌, subst, arith, length-append, append_assoc}
use Rattle.std.specs.List.{filter, find}
use Rattle.std.proofs.lemmas.Bool.{eqb-true, eqb-false, ne_eqb, eq-eqb, ltb-true, ltb-false, lt-ltb, le-ltb, false≢true}
use Rattle.vc_base.specs.declared.Stamp.{Stamp}
use Rattle.vc_base.specs.declared.Side.{Side}
use Rattle.vc_base.specs.declared.Side.TheVariants.{Out, Cap}
use Rattle.vc_base.specs.Buffers.{Buffer, QueueState, buffers, buffer_count, held_again, new_buffers, new_queue, with_index, queued_buffer, queue_held}
use Rattle.vc_base.specs.Buffers.{known_bytes, lend_front, give_back_from, retire_from, take_front, streamon_after, streamoff_after, reqbufs_after}
use Rattle.vc_base.specs.Buffers.{create_after, created}
use Rattle.vc_base.specs.Limits.{most_buffers}
use Rattle.vc_model.specs.Sound.{count_index, OnceEach, CountsUp, IsSoundQueue}

-- Counting

pub count-append : (xs ys : List Buffer) (i : ℕ) → count_index (xs ++ ys) i ≡ count_index xs i + count_index ys i
count-append [] ys i = omega arith
count-append (x ∷ xs) ys i = let h = count-append xs ys i in omega arith

pub count_parts : (h r j d : List Buffer) (i : ℕ) → count_index (h ++ (r ++ (j ++ d))) i ≡ count_index h i + (count_index r i + (count_index j i + count_index d i))
count_parts h r j d i =
    omega (arith, count-append h (r ++ (j ++ d)) i, count-append r (j ++ d) i, count-append j d i)

pub count_back : (bs : List Buffer) (i : ℕ) → count_index (map held_again bs) i ≡ count_index bs i
count_back [] i = refl
count_back (b ∷ bs) i = ap (λ n. cond (eqb b.index i) 1 0 + n) (count_back bs i)

pub length_back : (bs : List Buffer) → length (map held_again bs) ≡ length bs
length_back [] = refl
length_back (b ∷ bs) = let h = length_back bs in omega arith

-- buffers with the indices from `first` on
new_below : (size first n i : ℕ) → i < first → count_index (new_buffers size first n) i ≡ 0
new_below size first zero i h = refl
new_below size first (suc n) i h =
    let e = new_below size (first + 1) n i (omega arith) in
    let other : eqb first i ≡ false = ne_eqb first i (λ (z : first ≡ i). omega arith) in
    ap (λ b. cond b 1 0 + count_index (new_buffers size (first + 1) n) i) other ∙ omega arith

new_above : (size first n i : ℕ) → first + n ≤ i → count_index (new_buffers size first n) i ≡ 0
new_above size first zero i h = refl
new_above size first (suc n) i h =
    let e = new_above size (first + 1) n i (omega arith) in
    let other : eqb first i ≡ false = ne_eqb first i (λ (z : first ≡ i). omega arith) in
    ap (λ b. cond b 1 0 + count_index (new_buffers size (first + 1) n) i) other ∙ omega arith

within_split : (size first n i : ℕ) → first ≤ i → i < first + suc n → (first + 1 ≤ i → count_index (new_buffers size (first + 1) n) i ≡ 1) → (b : Bool) → eqb first i ≡ b → cond b 1 0 + count_index (new_buffers size (first + 1) n) i ≡ 1
within_split size first n i h k later true e =
    let same = eqb-true first i e in
    let z = new_below size (first + 1) n i (omega arith) in
    omega arith
within_split size first n i h k later false e =
    let other = eqb-false first i e in
    let z = later (omega arith) in
    omega arith

new_within : (size first n i : ℕ) → first ≤ i → i < first + n → count_index (new_buffers size first n) i ≡ 1
new_within size first zero i h k = absurd (omega arith)
new_within size first (suc n) i h k =
    within_split size first n i h k (λ (l : first + 1 ≤ i). new_within size (first + 1) n i l (omega arith)) (eqb first i) refl

pub length_new : (size first n : ℕ) → length (new_buffers size first n) ≡ n
length_new size first zero = refl
length_new size first (suc n) = let h = length_new size (first + 1) n in omega arith

-- the buffer with an index
find_split :
    (x b : Buffer) (bs : List Buffer) (k : ℕ) → (find (λ h. h.index == k) bs ≡ Some b → (b.index ≡ k) × (1 ≤ count_index bs k)) → (t : Bool)
    → eqb x.index k ≡ t → cond t (Some x) (find (λ h. h.index == k) bs) ≡ Some b → (b.index ≡ k) × (1 ≤ cond t 1 0 + count_index bs k)
find_split x b bs k later true e f =
    let same : x ≡ b = cc in
    (ap (λ y. y.index) (sym same) ∙ eqb-true x.index k e, omega arith)
find_split x b bs k later false e f = let h = later f in (h.0, let l = h.1 in omega arith)

pub find_index : (bs : List Buffer) (k : ℕ) (b : Buffer) → find (λ h. h.index == k) bs ≡ Some b → (b.index ≡ k) × (1 ≤ count_index bs k)
find_index [] k b f = absurd (cc)
find_index (x ∷ bs) k b f =
    find_split x b bs k (λ (g : find (λ h. h.index == k) bs ≡ Some b). find_index bs k b g) (eqb x.index k) refl f

-- the buffers without an index
abbrev pub without : ℕ → List Buffer → List Buffer
without k bs = filter (λ h. not (h.index == k)) bs

length_split : (x : Buffer) (bs : List Buffer) (k : ℕ) → length (without k bs) + count_index bs k ≡ length bs → (t : Bool) → length (cond (not t) (x ∷ without k bs) (without k bs)) + (cond t 1 0 + count_index bs k) ≡ length (x ∷ bs)
length_split x bs k h true = omega arith
length_split x bs k h false = omega arith

pub length_without : (bs : List Buffer) (k : ℕ) → length (without k bs) + count_index bs k ≡ length bs
length_without [] k = omega arith
length_without (x ∷ bs) k = length_split x bs k (length_without bs k) (eqb x.index k)

same_split : (x : Buffer) (bs : List Buffer) (k : ℕ) → count_index (without k bs) k ≡ 0 → (t : Bool) → eqb x.index k ≡ t → count_index (cond (not t) (x ∷ without k bs) (without k bs)) k ≡ 0
same_split x bs k h true e = h
same_split x bs k h false e = ap (λ b. cond b 1 0 + count_index (without k bs) k) e ∙ omega arith

count_without_same : (bs : List Buffer) (k : ℕ) → count_index (without k bs) k ≡ 0
count_without_same [] k = refl
count_without_same (x ∷ bs) k = same_split x bs k (count_without_same bs k) (eqb x.index k) refl

other_split :
    (x : Buffer) (bs : List Buffer) (k i : ℕ) → (i ≡ k → ⊥) → count_index (without k bs) i ≡ count_index bs i → (t : Bool) → eqb x.index k ≡ t
    → count_index (cond (not t) (x ∷ without k bs) (without k bs)) i ≡ count_index (x ∷ bs) i
other_split x bs k i n h true e =
    let other : eqb x.index i ≡ false = ne_eqb x.index i (λ (z : x.index ≡ i). n (sym z ∙ eqb-true x.index k e)) in
    let gone : count_index (x ∷ bs) i ≡ 0 + count_index bs i = ap (λ b. cond b 1 0 + count_index bs i) other in
    omega arith
other_split x bs k i n h false e = ap (λ m. cond (eqb x.index i) 1 0 + m) h

count_without_other : (bs : List Buffer) (k i : ℕ) → (i ≡ k → ⊥) → count_index (without k bs) i ≡ count_index bs i
count_without_other [] k i n = refl
count_without_other (x ∷ bs) k i n =
    other_split x bs k i n (count_without_other bs k i n) (eqb x.index k) refl

-- Ordinals

counts_end : (bs : List Buffer) (b : Buffer) (first next : ℕ) → CountsUp bs first next → b.ordinal ≡ next → CountsUp (bs ++ b ∷ []) first (next + 1)
counts_end [] b first next c o = (o ∙ sym c, ap (λ n. n + 1) c)
counts_end (x ∷ bs) b first next c o = (c.0, counts_end bs b (first + 1) next c.1 o)

pub no_longer : {A : Type 0} → (b : Bool) → b ≡ true → b ≡ false → A
no_longer b s e = absurd (false≢true (sym e ∙ s))

-- the same buffers, in other places
once_to : (q r : QueueState) → buffer_count r ≡ buffer_count q → ((i : ℕ) → count_index (buffers r) i ≡ count_index (buffers q) i) → OnceEach q → OnceEach r
once_to q r n c o = λ i. c i ∙ (o i ∙ ap (λ m. cond (ltb i m) 1 0) (sym n))

once_split : (i n : ℕ) (c : ℕ) → (i < n → c ≡ 1) → (n ≤ i → c ≡ 0) → (b : Bool) → ltb i n ≡ b → c ≡ cond b 1 0
once_split i n c h k true e = h (ltb-true i n e)
once_split i n c h k false e = k (ltb-false i n e)

-- an index below the number stands once, and no other stands
pub is_once : (q : QueueState) → OnceEach q → (i : ℕ) → i < buffer_count q → count_index (buffers q) i ≡ 1
is_once q o i h = o i ∙ ap (λ b. cond b 1 0) (lt-ltb i (buffer_count q) h)

pub is_none_there : (q : QueueState) → OnceEach q → (i : ℕ) → buffer_count q ≤ i → count_index (buffers q) i ≡ 0
is_none_there q o i h = o i ∙ ap (λ b. cond b 1 0) (le-ltb i (buffer_count q) h)

at_most_one : (b : Bool) → cond b 1 0 ≤ 1
at_most_one true = omega arith
at_most_one false = omega arith

pub once_at_most : (q : QueueState) → OnceEach q → (i : ℕ) → count_index (buffers q) i ≤ 1
once_at_most q o i = subst (λ m. m ≤ 1) (sym (o i)) (at_most_one (ltb i (buffer_count q)))

-- A queue at Open

pub new_sound : (side : Side) → IsSoundQueue (new_queue side)
new_sound side =
    record {
      once = λ i. once_split i 0 0 (λ (h : i < 0). omega arith) (λ (h : 0 ≤ i). refl) (ltb i 0) refl;
      latest = record { first = 0; counts = refl };
      job_at_rest = λ e. refl;
      done_at_rest = λ e. refl;
      seq_at_rest = λ e. refl;
      filled = λ (e : false ≡ true). absurd (false≢true e);
    }

-- Claim: the front of ready goes into the job

pub lend_sound : (q : QueueState) (b : Buffer) (rest : List Buffer) → q.ready ≡ b ∷ rest → q.job ≡ [] → q.streams ≡ true → IsSoundQueue q → IsSoundQueue (lend_front q (b ∷ rest))
lend_sound q b rest r j s q_sound =
    let lr = ap length r in
    let lj = ap length j in
    let same : buffer_count (lend_front q (b ∷ rest)) ≡ buffer_count q = omega arith in
    record {
      once =
          once_to q (lend_front q (b ∷ rest)) same (λ i.
          let p = count_parts q.held q.ready q.job q.done i in
          let p2 = count_parts q.held rest (b ∷ []) q.done i in let cr = ap (λ l. count_index l i) r in let cj = ap (λ l. count_index l i) j in omega arith)
          q_sound.once;
      latest = record { first = q_sound.latest.first; counts = subst (λ l. CountsUp l q_sound.latest.first q.next_ordinal) (ap (λ l. l ++ q.ready) j ∙ r) q_sound.latest.counts };
      job_at_rest = no_longer q.streams s;
      done_at_rest = no_longer q.streams s;
      seq_at_rest = no_longer q.streams s;
      filled = λ e. subst (λ m. 0 < m) (sym same) (q_sound.filled e);
    }

-- A run that leaves the buffer: it goes to the front of ready

pub give_back_sound : (q : QueueState) (b : Buffer) (cursor : ℕ) (bytes : List ℕ) → q.job ≡ b ∷ [] → q.streams ≡ true → IsSoundQueue q → IsSoundQueue (give_back_from q (b ∷ []) cursor bytes)
give_back_sound q b cursor bytes j s q_sound =
    let x : Buffer = record b { cursor = cursor; bytes = bytes } in
    let lj = ap length j in
    let same : buffer_count (give_back_from q (b ∷ []) cursor bytes) ≡ buffer_count q = omega arith in
    record {
      once =
          once_to q (give_back_from q (b ∷ []) cursor bytes) same
          (λ i. let p = count_parts q.held q.ready q.job q.done i in let p2 = count_parts q.held (x ∷ q.ready) [] q.done i in let cj = ap (λ l. count_index l i) j in omega arith)
          q_sound.once;
      latest = record { first = q_sound.latest.first; counts = subst (λ l. CountsUp l q_sound.latest.first q.next_ordinal) (ap (λ l. l ++ q.ready) j) q_sound.latest.counts };
      job_at_rest = no_longer q.streams s;
      done_at_rest = no_longer q.streams s;
      seq_at_rest = no_longer q.streams s;
      filled = λ e. subst (λ m. 0 < m) (sym same) (q_sound.filled e);
    }

-- A run that is done with the buffer: it goes to the end of done

pub retire_sound : (q : QueueState) (b : Buffer) (used : ℕ) (bytes : List ℕ) (flags : ℕ) (stamp : Stamp) → q.job ≡ b ∷ [] → q.streams ≡ true → IsSoundQueue q → IsSoundQueue (retire_from q (b ∷ []) used bytes flags stamp)
retire_sound q b used bytes flags stamp j s q_sound =
    let x : Buffer = record b { used = used; bytes = known_bytes q.side flags bytes; flags = flags; stamp = stamp; seq = q.next_seq } in
    let lj = ap length j in
    let ld = length-append q.done (x ∷ []) in
    let same : buffer_count (retire_from q (b ∷ []) used bytes flags stamp) ≡ buffer_count q = omega arith in
    let c = subst (λ l. CountsUp l q_sound.latest.first q.next_ordinal) (ap (λ l. l ++ q.ready) j) q_sound.latest.counts in
    record {
      once =
          once_to q (retire_from q (b ∷ []) used bytes flags stamp) same (λ i.
          let p = count_parts q.held q.ready q.job q.done i in
          let p2 = count_parts q.held q.ready [] (q.done ++ x ∷ []) i in let p3 = count-append q.done (x ∷ []) i in let cj = ap (λ l. count_index l i) j in omega arith)
          q_sound.once;
      latest = record { first = q_sound.latest.first + 1; counts = c.1 };
      job_at_rest = no_longer q.streams s;
      done_at_rest = no_longer q.streams s;
      seq_at_rest = no_longer q.streams s;
      filled = λ e. subst (λ m. 0 < m) (sym same) (q_sound.filled e);
    }

-- DqBuf: the front of done is held again

pub take_sound : (q : QueueState) (b : Buffer) (rest : List Buffer) → q.done ≡ b ∷ rest → q.streams ≡ true → IsSoundQueue q → IsSoundQueue (take_front q (b ∷ rest))
take_sound q b rest d s q_sound =
    let ld = ap length d in
    let lh = length-append q.held (held_again b ∷ []) in
    let same : buffer_count (take_front q (b ∷ rest)) ≡ buffer_count q = omega arith in
    record {
      once =
          once_to q (take_front q (b ∷ rest)) same (λ i.
          let p = count_parts q.held q.ready q.job q.done i in
          let p2 = count_parts (q.held ++ held_again b ∷ []) q.ready q.job rest i in let p3 = count-append q.held (held_again b ∷ []) i in let cd = ap (λ l. count_index l i) d in omega arith)
          q_sound.once;
      latest = record { first = q_sound.latest.first; counts = q_sound.latest.counts };
      job_at_rest = no_longer q.streams s;
      done_at_rest = no_longer q.streams s;
      seq_at_rest = no_longer q.streams s;
      filled = λ e. subst (λ m. 0 < m) (sym same) (q_sound.filled e);
    }

-- QBuf: the buffer goes from held to the end of ready

queued_index : (side : Side) (b : Buffer) (used : ℕ) (stamp : Stamp) (bytes : List ℕ) (ordinal : ℕ) → (queued_buffer side b used stamp bytes ordinal).index ≡ b.index
queued_index Out b used stamp bytes ordinal = refl
queued_index Cap b used stamp bytes ordinal = refl

pub queued_ordinal : (side : Side) (b : Buffer) (used : ℕ) (stamp : Stamp) (bytes : List ℕ) (ordinal : ℕ) → (queued_buffer side b used stamp bytes ordinal).ordinal ≡ ordinal
queued_ordinal Out b used stamp bytes ordinal = refl
queued_ordinal Cap b used stamp bytes ordinal = refl

pub queued_size : (side : Side) (b : Buffer) (used : ℕ) (stamp : Stamp) (bytes : List ℕ) (ordinal : ℕ) → (queued_buffer side b used stamp bytes ordinal).size ≡ b.size
queued_size Out b used stamp bytes ordinal = refl
queued_size Cap b used stamp bytes ordinal = refl

queued_split : (q : QueueState) (k i : ℕ) (x : Buffer) → x.index ≡ k → count_index q.held k ≡ 1 → (b : Bool) → eqb k i ≡ b → count_index (without k q.held ++ ((q.ready ++ x ∷ []) ++ (q.job ++ q.done))) i ≡ count_index (buffers q) i
queued_split q k i x e one true same =
    let z : k ≡ i = eqb-true k i same in
    let p = count_parts q.held q.ready q.job q.done i in
    let p2 = count_parts (without k q.held) (q.ready ++ x ∷ []) q.job q.done i in
    let p3 = count-append q.ready (x ∷ []) i in
    let none : count_index (without k q.held) i ≡ 0 = subst (λ m. count_index (without k q.held) m ≡ 0) z (count_without_same q.held k) in
    let held : count_index q.held i ≡ 1 = subst (λ m. count_index q.held m ≡ 1) z one in
    let mine : count_index (x ∷ []) i ≡ 1 + 0 = ap (λ b. cond b 1 0 + 0) (eq-eqb x.index i (e ∙ z)) in
    omega arith
queued_split q k i x e one false other =
    let n : k ≡ i → ⊥ = eqb-false k i other in
    let p = count_parts q.held q.ready q.job q.done i in
    let p2 = count_parts (without k q.held) (q.ready ++ x ∷ []) q.job q.done i in
    let p3 = count-append q.ready (x ∷ []) i in
    let held = count_without_other q.held k i (λ (z : i ≡ k). n (sym z)) in
    let mine : count_index (x ∷ []) i ≡ 0 + 0 = ap (λ b. cond b 1 0 + 0) (ne_eqb x.index i (λ (z : x.index ≡ i). n (sym e ∙ z))) in
    omega arith

pub queue_sound : (q : QueueState) (k : ℕ) (b : Buffer) (used : ℕ) (stamp : Stamp) (bytes : List ℕ) → with_index k q.held ≡ Some b → IsSoundQueue q → IsSoundQueue (queue_held q k (Some b) used stamp bytes)
queue_sound q k b used stamp bytes f q_sound =
    let x = queued_buffer q.side b used stamp bytes q.next_ordinal in
    let found = find_index q.held k b f in
    let some : 1 ≤ count_index q.held k = found.1 in
    let most = once_at_most q q_sound.once k in
    let parts = count_parts q.held q.ready q.job q.done k in
    let one : count_index q.held k ≡ 1 = omega arith in
    let lw = length_without q.held k in
    let lr = length-append q.ready (x ∷ []) in
    let same : buffer_count (queue_held q k (Some b) used stamp bytes) ≡ buffer_count q = omega arith in
    record {
      once = once_to q (queue_held q k (Some b) used stamp bytes) same (λ i. queued_split q k i x (queued_index q.side b used stamp bytes q.next_ordinal ∙ found.0) one (eqb k i) refl) q_sound.once;
      latest =
          record {
            first = q_sound.latest.first;
            counts =
                subst (λ l. CountsUp l q_sound.latest.first (q.next_ordinal + 1)) (append_assoc q.job q.ready (x ∷ []))
                (counts_end (q.job ++ q.ready) x q_sound.latest.first q.next_ordinal q_sound.latest.counts (queued_ordinal q.side b used stamp bytes q.next_ordinal));
          };
      job_at_rest = q_sound.job_at_rest;
      done_at_rest = q_sound.done_at_rest;
      seq_at_rest = q_sound.seq_at_rest;
      filled = λ e. subst (λ m. 0 < m) (sym same) (q_sound.filled e);
    }

-- StreamOn

pub streamon_sound : (q : QueueState) → 0 < buffer_count q → IsSoundQueue q → IsSoundQueue (streamon_after q)
streamon_sound q n q_sound =
    record {
      once = q_sound.once;
      latest = record { first = q_sound.latest.first; counts = q_sound.latest.counts };
      job_at_rest = λ (e : true ≡ false). absurd (false≢true (sym e));
      done_at_rest = λ (e : true ≡ false). absurd (false≢true (sym e));
      seq_at_rest = λ (e : true ≡ false). absurd (false≢true (sym e));
      filled = λ e. n;
    }

-- StreamOff: what is ready or done is held again

pub streamoff_sound : (q : QueueState) → q.job ≡ [] → IsSoundQueue q → IsSoundQueue (streamoff_after q)
streamoff_sound q j q_sound =
    let lj = ap length j in
    let l1 = length-append (q.held ++ map held_again q.ready) (map held_again q.done) in
    let l2 = length-append q.held (map held_again q.ready) in
    let l3 = length_back q.ready in
    let l4 = length_back q.done in
    let same : buffer_count (streamoff_after q) ≡ buffer_count q = omega arith in
    record {
      once =
          once_to q (streamoff_after q) same (λ i.
          let p = count_parts q.held q.ready q.job q.done i in
          let p2 = count_parts ((q.held ++ map held_again q.ready) ++ map held_again q.done) [] q.job [] i in
          let p3 = count-append (q.held ++ map held_again q.ready) (map held_again q.done) i in
          let p4 = count-append q.held (map held_again q.ready) i in let c1 = count_back q.ready i in let c2 = count_back q.done i in omega arith)
          q_sound.once;
      latest = record { first = q.next_ordinal; counts = subst (λ l. CountsUp (l ++ []) q.next_ordinal q.next_ordinal) (sym j) refl };
      job_at_rest = λ e. j;
      done_at_rest = λ e. refl;
      seq_at_rest = λ e. refl;
      filled = λ (e : false ≡ true). absurd (false≢true e);
    }

-- ReqBufs

pub reqbufs_sound : (q : QueueState) (count size : ℕ) → q.streams ≡ false → IsSoundQueue q → IsSoundQueue (reqbufs_after q count size)
reqbufs_sound q count size s q_sound =
    let n = min count most_buffers in
    let l = length_new size 0 n in
    record {
      once =
          λ i.
          once_split i (buffer_count (reqbufs_after q count size)) (count_index (buffers (reqbufs_after q count size)) i)
          (λ (h : i < buffer_count (reqbufs_after q count size)). let p = count_parts (new_buffers size 0 n) [] [] [] i in let w = new_within size 0 n i (omega arith) (omega arith) in omega arith)
          (λ (h : buffer_count (reqbufs_after q count size) ≤ i). let p = count_parts (new_buffers size 0 n) [] [] [] i in let w = new_above size 0 n i (omega arith) in omega arith)
          (ltb i (buffer_count (reqbufs_after q count size))) refl;
      latest = record { first = q.next_ordinal; counts = refl };
      job_at_rest = λ e. refl;
      done_at_rest = λ e. refl;
      seq_at_rest = q_sound.seq_at_rest;
      filled = λ e. no_longer q.streams e s;
    }

-- CreateBufs

create_within : (q : QueueState) (n size i : ℕ) → OnceEach q → i < buffer_count q + n → (b : Bool) → ltb i (buffer_count q) ≡ b → count_index (buffers q) i + count_index (new_buffers size (buffer_count q) n) i ≡ 1
create_within q n size i o h true e =
    let l = ltb-true i (buffer_count q) e in
    let a = is_once q o i l in
    let w = new_below size (buffer_count q) n i l in
    omega arith
create_within q n size i o h false e =
    let l = ltb-false i (buffer_count q) e in
    let a = is_none_there q o i l in
    let w = new_within size (buffer_count q) n i l h in
    omega arith

pub create_sound : (q : QueueState) (count size : ℕ) → IsSoundQueue q → IsSoundQueue (create_after q count size)
create_sound q count size q_sound =
    let n = created q count in
    let fresh = new_buffers size (buffer_count q) n in
    let l1 = length_new size (buffer_count q) n in
    let l2 = length-append q.held fresh in
    let more : buffer_count (create_after q count size) ≡ buffer_count q + n = omega arith in
    record {
      once =
          λ i.
          once_split i (buffer_count (create_after q count size)) (count_index (buffers (create_after q count size)) i)
          (λ (h : i < buffer_count (create_after q count size)).
          let p = count_parts q.held q.ready q.job q.done i in
          let p2 = count_parts (q.held ++ fresh) q.ready q.job q.done i in
          let p3 = count-append q.held fresh i in let w = create_within q n size i q_sound.once (omega arith) (ltb i (buffer_count q)) refl in omega arith)
          (λ (h : buffer_count (create_after q count size) ≤ i).
          let p = count_parts q.held q.ready q.job q.done i in
          let p2 = count_parts (q.held ++ fresh) q.ready q.job q.done i in
          let p3 = count-append q.held fresh i in let a = is_none_there q q_sound.once i (omega arith) in let w = new_above size (buffer_count q) n i (omega arith) in omega arith)
          (ltb i (buffer_count (create_after q count size))) refl;
      latest = record { first = q_sound.latest.first; counts = q_sound.latest.counts };
      job_at_rest = q_sound.job_at_rest;
      done_at_rest = q_sound.done_at_rest;
      seq_at_rest = q_sound.seq_at_rest;
      filled = λ e. let f = q_sound.filled e in omega arith;
    }
