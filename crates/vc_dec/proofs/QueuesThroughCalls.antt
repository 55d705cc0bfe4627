-- What a call makes of one queue beside settling: it counts up by one at most, its buffer in the job stays, and the
-- lengths of its buffers are those it had. Each is shown list by list.
use Rattle.std.proofs.Common.{ℕ, ◌≡◌, ◌≤◌, ◌<◌, ◌+◌, eqb, eqb-true, le-leb, nat_le, Bool, true, false, cond, not, Option, Some, None, List, [], ◌∷◌, ◌++◌, map, length, refl, ap, ◌∙◌, subst, arith, length-append}
use Rattle.std.specs.Prelude.{◌==◌}
use Rattle.std.specs.List.{list_all, filter}
use Rattle.std.proofs.lemmas.Bool.{and_parts, and_from}
use Rattle.std.proofs.lemmas.List.Folds.{list_all-append, list_all-map}
use Rattle.vc_base.specs.declared.Side.{Side}
use Rattle.vc_base.specs.declared.Side.TheVariants.{Out, Cap}
use Rattle.vc_base.specs.declared.Errno.{Errno}
use Rattle.vc_base.specs.declared.Stamp.{Stamp}
use Rattle.vc_base.specs.Buffers.{Buffer, QueueState, buffer_count, held_again, with_index, queued_buffer, queue_held, take_front, streamon_after, streamoff_after}
use Rattle.vc_model.proofs.QueuesKeepSound.{length_back, queued_size}
use Rattle.vc_queue.specs.Answers.{after_of}
use Rattle.vc_context.specs.Contexts.{AreFilled}
use Rattle.vc_dec.specs.Decoders.{AllLengths, AreBegun, AreUntouched, AreUnused, AreBlank}

-- No more bytes of the ready buffers were consumed than are used, and none of those that the user holds.
pub record IsBegun (q : QueueState) : Type 0 where
  pub ready : AreBegun q.ready
  pub held : AreUntouched q.held

-- The queue counts up, its buffer in the job stays there, what is done has room for what is used of it, no bytes are consumed, and
-- CAPTURE's buffers stay blank.
pub record Counts (old new : QueueState) : Type 0 where
  pub queued : new.next_ordinal ≤ old.next_ordinal + 1
  pub retired : new.next_seq ≤ old.next_seq
  pub job : new.job ≡ old.job
  pub done : AreFilled old.done → AreFilled new.done
  pub begun : IsBegun old → IsBegun new
  pub blank : old.side ≡ Cap → AreBlank old → AreBlank new

-- The queue counts up, and no buffer comes or goes.
pub record Calls (old new : QueueState) : Type 0 where
  pub counts : Counts old new
  pub gone : buffer_count new ≡ 0 → buffer_count old ≡ 0
  pub some : 0 < buffer_count new → 0 < buffer_count old
  pub lengths : (p : ℕ → Bool) → AllLengths p old → AllLengths p new

pub no_change : (q : QueueState) → Counts q q
no_change q =
    record { queued = omega arith; retired = omega arith; job = refl; done = λ h. h; begun = λ h. h; blank = λ s h. h }

pub after_counts : (o : Option Errno) (q r : QueueState) → Counts q r → Counts q (after_of o q r)
after_counts (Some e) q r c = no_change q
after_counts None q r c = c

pub stays : (q : QueueState) → Calls q q
stays q =
    record { counts = no_change q; gone = λ h. h; some = λ h. h; lengths = λ p a. a }

pub after_calls : (o : Option Errno) (q r : QueueState) → Calls q r → Calls q (after_of o q r)
after_calls (Some e) q r c = stays q
after_calls None q r c = c

pub on_calls : (q : QueueState) → Calls q (streamon_after q)
on_calls q =
    record {
      counts = record { queued = omega arith; retired = omega arith; job = refl; done = λ h. h; begun = λ h. record { ready = h.ready; held = h.held }; blank = λ s h. record { held = h.held; ready = h.ready; job = h.job } };
      gone = λ h. h;
      some = λ h. h;
      lengths = λ p a. record { held = a.held; ready = a.ready; job = a.job; done = a.done };
    }

-- lists that are put together

both : (p : Buffer → Bool) (xs ys : List Buffer) → list_all p xs ≡ true → list_all p ys ≡ true → list_all p (xs ++ ys) ≡ true
both p xs ys x y = list_all-append p xs ys ∙ and_from (list_all p xs) (list_all p ys) x y

one_more : (p : Buffer → Bool) (xs : List Buffer) (b : Buffer) → list_all p xs ≡ true → p b ≡ true → list_all p (xs ++ b ∷ []) ≡ true
one_more p xs b x y = both p xs (b ∷ []) x (and_from (p b) true y refl)

back_lengths : (p : ℕ → Bool) (bs : List Buffer) → list_all (λ b. p b.size) bs ≡ true → list_all (λ b. p b.size) (map held_again bs) ≡ true
back_lengths p bs h = list_all-map (λ (b : Buffer). p b.size) held_again bs ∙ h

back_untouched : (bs : List Buffer) → AreUntouched (map held_again bs)
back_untouched [] = refl
back_untouched (b ∷ bs) = back_untouched bs

back_unused : (bs : List Buffer) → AreUnused (map held_again bs)
back_unused [] = refl
back_unused (b ∷ bs) = back_unused bs

pub off_calls : (q : QueueState) → Calls q (streamoff_after q)
off_calls q =
    let l1 = length-append (q.held ++ map held_again q.ready) (map held_again q.done) in
    let l2 = length-append q.held (map held_again q.ready) in
    let l3 = length_back q.ready in
    let l4 = length_back q.done in
    record {
      counts =
          record {
            queued = omega arith;
            retired = omega arith;
            job = refl;
            done = λ h. refl;
            begun =
                λ h.
                record {
                  ready = refl;
                  held =
                      both (λ b. b.cursor == 0) (q.held ++ map held_again q.ready) (map held_again q.done)
                      (both (λ b. b.cursor == 0) q.held (map held_again q.ready) h.held (back_untouched q.ready)) (back_untouched q.done);
                };
            blank =
                λ s h.
                record {
                  held =
                      both (λ b. b.used == 0) (q.held ++ map held_again q.ready) (map held_again q.done)
                      (both (λ b. b.used == 0) q.held (map held_again q.ready) h.held (back_unused q.ready)) (back_unused q.done);
                  ready = refl;
                  job = h.job;
                };
          };
      gone = λ h. omega arith;
      some = λ h. omega arith;
      lengths = λ p a. record {
        held = both (λ b. p b.size) (q.held ++ map held_again q.ready) (map held_again q.done) (both (λ b. p b.size) q.held (map held_again q.ready) a.held (back_lengths p q.ready a.ready)) (back_lengths p q.done a.done);
        ready = refl;
        job = a.job;
        done = refl;
      };
    }

pub taken_calls : (q : QueueState) (ds : List Buffer) → q.done ≡ ds → Calls q (take_front q ds)
taken_calls q [] e = stays q
taken_calls q (b ∷ rest) e =
    let l1 = length-append q.held (held_again b ∷ []) in
    let l2 = ap length e in
    record {
      counts =
          record {
            queued = omega arith;
            retired = omega arith;
            job = refl;
            done = λ h. (and_parts (nat_le b.used b.size) (list_all (λ x. nat_le x.used x.size) rest) (subst AreFilled e h)).1;
            begun = λ h. record { ready = h.ready; held = one_more (λ x. x.cursor == 0) q.held (held_again b) h.held refl };
            blank = λ s h. record { held = one_more (λ x. x.used == 0) q.held (held_again b) h.held refl; ready = h.ready; job = h.job };
          };
      gone = λ h. omega arith;
      some = λ h. omega arith;
      lengths = λ p a. let d = and_parts (p b.size) (list_all (λ x. p x.size) rest) (subst (λ (bs : List Buffer). list_all (λ x. p x.size) bs ≡ true) e a.done) in record {
        held = one_more (λ x. p x.size) q.held (held_again b) a.held d.0;
        ready = a.ready;
        job = a.job;
        done = d.1;
      };
    }

-- the buffer with an index

found_split : (p : Buffer → Bool) (x b : Buffer) (rest : Option Buffer) (t : Bool) → cond t (Some x) rest ≡ Some b → p x ≡ true → (rest ≡ Some b → p b ≡ true) → p b ≡ true
found_split p x b rest true e h later = let same : x ≡ b = cc in subst (λ (y : Buffer). p y ≡ true) same h
found_split p x b rest false e h later = later e

found_fits : (p : Buffer → Bool) (bs : List Buffer) (index : ℕ) (b : Buffer) → with_index index bs ≡ Some b → list_all p bs ≡ true → p b ≡ true
found_fits p [] index b e h = absurd (cc)
found_fits p (x ∷ xs) index b e h =
    let r = and_parts (p x) (list_all p xs) h in
    found_split p x b (with_index index xs) (eqb x.index index) e r.0 (λ (f : with_index index xs ≡ Some b). found_fits p xs index b f r.1)

kept_split : (p : Buffer → Bool) (x : Buffer) (rest : List Buffer) (t : Bool) → p x ≡ true → list_all p rest ≡ true → list_all p (cond t (x ∷ rest) rest) ≡ true
kept_split p x rest true h r = and_from (p x) (list_all p rest) h r
kept_split p x rest false h r = r

kept_fit : (p f : Buffer → Bool) (bs : List Buffer) → list_all p bs ≡ true → list_all p (filter f bs) ≡ true
kept_fit p f [] h = refl
kept_fit p f (x ∷ xs) h =
    let r = and_parts (p x) (list_all p xs) h in kept_split p x (filter f xs) (f x) r.0 (kept_fit p f xs r.1)

found_some : (bs : List Buffer) (index : ℕ) (b : Buffer) → with_index index bs ≡ Some b → 0 < length bs
found_some [] index b e = absurd (cc)
found_some (x ∷ xs) index b e = omega arith

-- of a buffer that is queued nothing was consumed
fresh_begun : (side : Side) (b : Buffer) (used : ℕ) (stamp : Stamp) (bytes : List ℕ) (ordinal : ℕ) → (b.cursor == 0) ≡ true → let x : Buffer = queued_buffer side b used stamp bytes ordinal in nat_le x.cursor x.used ≡ true
fresh_begun Out b used stamp bytes ordinal e =
    let z : b.cursor ≡ 0 = eqb-true b.cursor 0 e in le-leb b.cursor used (omega (arith, z))
fresh_begun Cap b used stamp bytes ordinal e =
    let z : b.cursor ≡ 0 = eqb-true b.cursor 0 e in le-leb b.cursor b.used (omega (arith, z))

-- no byte is used of a CAPTURE buffer that is queued
queued_unused : (side : Side) (b : Buffer) (used : ℕ) (stamp : Stamp) (bytes : List ℕ) (ordinal : ℕ) → side ≡ Cap → (b.used == 0) ≡ true → let x : Buffer = queued_buffer side b used stamp bytes ordinal in (x.used == 0) ≡ true
queued_unused Out b used stamp bytes ordinal e h = absurd (cc)
queued_unused Cap b used stamp bytes ordinal e h = h

pub queued_calls : (q : QueueState) (index : ℕ) (f : Option Buffer) (used : ℕ) (stamp : Stamp) (bytes : List ℕ) → with_index index q.held ≡ f → Calls q (queue_held q index f used stamp bytes)
queued_calls q index None used stamp bytes e = stays q
queued_calls q index (Some b) used stamp bytes e =
    let x : Buffer = queued_buffer q.side b used stamp bytes q.next_ordinal in
    let l1 = length-append q.ready (x ∷ []) in
    let l2 = found_some q.held index b e in
    let s : x.size ≡ b.size = queued_size q.side b used stamp bytes q.next_ordinal in
    record {
      counts =
          record {
            queued = omega arith;
            retired = omega arith;
            job = refl;
            done = λ h. h;
            begun =
                λ h.
                record {
                  ready = one_more (λ y. nat_le y.cursor y.used) q.ready x h.ready (fresh_begun q.side b used stamp bytes q.next_ordinal (found_fits (λ y. y.cursor == 0) q.held index b e h.held));
                  held = kept_fit (λ y. y.cursor == 0) (λ y. not (y.index == index)) q.held h.held;
                };
            blank =
                λ s h.
                record {
                  held = kept_fit (λ y. y.used == 0) (λ y. not (y.index == index)) q.held h.held;
                  ready = one_more (λ y. y.used == 0) q.ready x h.ready (queued_unused q.side b used stamp bytes q.next_ordinal s (found_fits (λ y. y.used == 0) q.held index b e h.held));
                  job = h.job;
                };
          };
      gone = λ h. absurd (omega arith);
      some = λ h. omega arith;
      lengths = λ p a. record {
        held = kept_fit (λ y. p y.size) (λ y. not (y.index == index)) q.held a.held;
        ready = one_more (λ y. p y.size) q.ready x a.ready (ap p s ∙ found_fits (λ y. p y.size) q.held index b e a.held);
        job = a.job;
        done = a.done;
      };
    }
