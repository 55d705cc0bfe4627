-- What the end of a job makes of one queue: the source goes to done or back to ready, the destination to done or
-- back, and numbers rise by one at most. No buffer changes its length.
use Rattle.std.proofs.Common.{ℕ, ◌≡◌, ◌≤◌, ◌<◌, ◌+◌, eqb, nat_le, Bool, true, false, cond, ◌&&◌, Option, Some, None, List, [], ◌∷◌, ◌++◌, take, refl, sym, ap, ◌∙◌, subst, arith, le-leb, length-append}
use Rattle.std.specs.List.{list_all}
use Rattle.std.proofs.lemmas.Bool.{and_parts, and_from}
use Rattle.std.proofs.lemmas.List.Folds.{list_all-append}
use Rattle.vc_base.specs.declared.Stamp.{Stamp}
use Rattle.vc_base.specs.Buffers.{Buffer, QueueState, buffer_count, retire_from, retire_after, give_back_from, lend_front, known_bytes, zero_stamp}
use Rattle.vc_base.specs.Limits.{last_flag}
use Rattle.vc_defs.specs.declared.Geometry.{Geometry}
use Rattle.vc_model.specs.Context.{Cause, drain, change, PhaseState, run, owe, last, stopped}
use Rattle.vc_queue.specs.declared.queue.Lent.{Lent}
use Rattle.vc_queue.specs.Lending.{back_bytes}
use Rattle.vc_pair.specs.Pairs.{PairState, source_retired, is_final, pair_settled, owes_last, last_given, given}
use Rattle.vc_context.specs.Contexts.{AreFilled}
use Rattle.vc_dec.specs.declared.finishing.Shown.{Shown}
use Rattle.vc_dec.specs.Decoders.{AllLengths, AreBegun, AreUnused, AreBlank}
use Rattle.vc_dec.specs.Ends.{source_put, dest_put, changed_where, handed_back, dest_ended}
use Rattle.vc_dec.proofs.SettlingLeavesTheRest.{settles}

one_more : (p : Buffer → Bool) (xs : List Buffer) (b : Buffer) → list_all p xs ≡ true → p b ≡ true → list_all p (xs ++ b ∷ []) ≡ true
one_more p xs b x y =
    list_all-append p xs (b ∷ []) ∙ and_from (list_all p xs) (p b && true) x (and_from (p b) true y refl)

front_of : (p : Buffer → Bool) (b : Buffer) (rest : List Buffer) → list_all p (b ∷ rest) ≡ true → p b ≡ true
front_of p b rest h = (and_parts (p b) (list_all p rest) h).0

-- the source

pub record SourceEnds (old new : QueueState) : Type 0 where
  pub job : new.job ≡ []
  pub held : new.held ≡ old.held
  pub queued : new.next_ordinal ≡ old.next_ordinal
  pub retired : new.next_seq ≤ old.next_seq + 1
  pub some : 0 < buffer_count new
  pub ready : AreFilled old.ready → AreFilled old.job → AreFilled new.ready
  pub done : AreFilled old.done → AreFilled old.job → AreFilled new.done
  pub begun : AreBegun old.ready → AreBegun new.ready

retired_source : (q : QueueState) (b : Buffer) (bytes : List ℕ) (flags : ℕ) → q.job ≡ b ∷ [] → SourceEnds q (retire_from q (b ∷ []) b.used bytes flags b.stamp)
retired_source q b bytes flags e =
    let back : Buffer = record b { bytes = known_bytes q.side flags bytes; flags = flags; seq = q.next_seq } in
    record {
      job = refl;
      held = refl;
      queued = refl;
      retired = omega arith;
      some = omega (arith, length-append q.done (back ∷ []));
      ready = λ r j. r;
      done = λ d j. one_more (λ y. nat_le y.used y.size) q.done back d (front_of (λ y. nat_le y.used y.size) b [] (subst AreFilled e j));
      begun = λ h. h;
    }

given_source : (q : QueueState) (b : Buffer) (cursor : ℕ) (bytes : List ℕ) → q.job ≡ b ∷ [] → cursor ≤ b.used → SourceEnds q (give_back_from q (b ∷ []) cursor bytes)
given_source q b cursor bytes e n =
    record {
      job = refl;
      held = refl;
      queued = refl;
      retired = omega arith;
      some = omega arith;
      ready = λ r j. and_from (nat_le b.used b.size) (list_all (λ y. nat_le y.used y.size) q.ready) (front_of (λ y. nat_le y.used y.size) b [] (subst AreFilled e j)) r;
      done = λ d j. d;
      begun = λ h. and_from (nat_le cursor b.used) (list_all (λ y. nat_le y.cursor y.used) q.ready) (le-leb cursor b.used n) h;
    }

pub source_ends : (p : PairState) (source : Lent) (b : Buffer) (up : Bool) (flags : ℕ) → p.out.job ≡ b ∷ [] → (up ≡ false → source.cursor ≤ b.used) → SourceEnds p.out (source_put p source up flags).out
source_ends p source b true flags e n =
    subst (λ (bs : List Buffer). SourceEnds p.out (source_retired p.out bs (back_bytes p.out.job source) flags)) (sym e)
    (subst (λ (bs : List Buffer). SourceEnds p.out (retire_from p.out bs b.used (back_bytes p.out.job source) flags b.stamp)) (sym e) (retired_source p.out b (back_bytes p.out.job source) flags e))
source_ends p source b false flags e n =
    subst (λ (bs : List Buffer). SourceEnds p.out (give_back_from p.out bs source.cursor (back_bytes p.out.job source))) (sym e) (given_source p.out b source.cursor (back_bytes p.out.job source) e (n refl))

pub put_cap : (p : PairState) (source : Lent) (up : Bool) (flags : ℕ) → (source_put p source up flags).cap ≡ p.cap
put_cap p source true flags = refl
put_cap p source false flags = refl

pub put_phase : (p : PairState) (source : Lent) (up : Bool) (flags : ℕ) → (source_put p source up flags).phase ≡ p.phase
put_phase p source true flags = refl
put_phase p source false flags = refl

-- the destination

pub record DestEnds (old new : QueueState) : Type 0 where
  pub queued : new.next_ordinal ≡ old.next_ordinal
  pub retired : new.next_seq ≤ old.next_seq + 1
  pub done : AreFilled old.done → AreFilled new.done
  pub lengths : (f : ℕ → Bool) → AllLengths f old → AllLengths f new
  pub blank : AreBlank old → AreBlank new

pub dest_stays : (q : QueueState) → DestEnds q q
dest_stays q = record { queued = refl; retired = omega arith; done = λ h. h; lengths = λ f h. h; blank = λ h. h }

-- the buffer of the job has room for the used bytes
abbrev pub HasRoomFor : ℕ → List Buffer → Type 0
HasRoomFor used [] = Unit {0}
HasRoomFor used (b ∷ rest) = used ≤ b.size

retired_dest : (q : QueueState) (bs : List Buffer) (used : ℕ) (bytes : List ℕ) (flags : ℕ) (stamp : Stamp) → q.job ≡ bs → HasRoomFor used bs → DestEnds q (retire_from q bs used bytes flags stamp)
retired_dest q [] used bytes flags stamp e r = dest_stays q
retired_dest q (b ∷ rest) used bytes flags stamp e r =
    let back : Buffer = record b { used = used; bytes = known_bytes q.side flags bytes; flags = flags; stamp = stamp; seq = q.next_seq } in
    record {
      queued = refl;
      retired = omega arith;
      done = λ d. one_more (λ y. nat_le y.used y.size) q.done back d (le-leb used b.size r);
      lengths = λ f a. record { held = a.held; ready = a.ready; job = refl; done = one_more (λ y. f y.size) q.done back a.done (front_of (λ y. f y.size) b rest (subst (λ (l : List Buffer). list_all (λ y. f y.size) l ≡ true) e a.job)) };
      blank = λ a. record { held = a.held; ready = a.ready; job = refl };
    }

given_dest : (q : QueueState) (bs : List Buffer) (cursor : ℕ) (bytes : List ℕ) → q.job ≡ bs → DestEnds q (give_back_from q bs cursor bytes)
given_dest q [] cursor bytes e = dest_stays q
given_dest q (b ∷ rest) cursor bytes e =
    record {
      queued = refl;
      retired = omega arith;
      done = λ d. d;
      lengths =
          λ f a.
          record {
            held = a.held;
            ready = and_from (f b.size) (list_all (λ y. f y.size) q.ready) (front_of (λ y. f y.size) b rest (subst (λ (l : List Buffer). list_all (λ y. f y.size) l ≡ true) e a.job)) a.ready;
            job = refl;
            done = a.done;
          };
      blank = λ a. record { held = a.held; ready = and_from (eqb b.used 0) (list_all (λ y. eqb y.used 0) q.ready) (front_of (λ y. eqb y.used 0) b rest (subst AreUnused e a.job)) a.ready; job = refl };
    }

either_dest : (old : QueueState) (b : Bool) (q : PairState) (x y : QueueState) (phase : PhaseState) → DestEnds old x → DestEnds old y → DestEnds old (cond b (record q { cap = x; phase = phase }) (record q { cap = y })).cap
either_dest old true q x y phase h g = h
either_dest old false q x y phase h g = g

-- settling keeps the buffers blank

given_blank : (p : PairState) (phase : PhaseState) (cause : Cause) (ready : List Buffer) → p.cap.ready ≡ ready → AreBlank p.cap → AreBlank (last_given (record p { phase = phase }) cause ready).cap
given_blank p phase cause [] e a = a
given_blank p phase cause (b ∷ rest) e a =
    let front : p.cap.ready ≡ b ∷ rest = e in
    let here : AreUnused (b ∷ rest) = subst AreUnused front a.ready in
    let out : AreBlank (retire_after (lend_front p.cap (b ∷ rest)) 0 [] last_flag zero_stamp) = record { held = a.held; ready = (and_parts (eqb b.used 0) (list_all (λ y. eqb y.used 0) rest) here).1; job = refl } in
    subst (λ (l : List Buffer). AreBlank (retire_after (lend_front p.cap l) 0 [] last_flag zero_stamp)) (sym front) out

blank_cases : (p : PairState) (phase before : PhaseState) → AreBlank p.cap → AreBlank (given (record p { phase = before }) phase).cap
blank_cases p run before a = a
blank_cases p (owe cause) before a = given_blank p before cause p.cap.ready refl a
blank_cases p (last cause) before a = a
blank_cases p (stopped cause) before a = a

blank_owing : (p : PairState) (b : Bool) → AreBlank p.cap → let o : PairState = cond b (record p { phase = owe drain }) p in AreBlank (given o o.phase).cap
blank_owing p true a = blank_cases p (owe drain) (owe drain) a
blank_owing p false a = blank_cases p p.phase p.phase a

pub settled_blank : (p : PairState) → AreBlank p.cap → AreBlank (pair_settled p).cap
settled_blank p a = blank_owing p (owes_last p) a

settled_dest : (old : QueueState) (p : PairState) → p.cap.next_seq ≡ old.next_seq → DestEnds old p.cap → DestEnds old (pair_settled p).cap
settled_dest old p n d =
    let s = settles p in
    let r = s.retired in
    record {
      queued = s.queued ∙ d.queued;
      retired = omega (arith, r, n);
      done = λ h. s.done (d.done h);
      lengths = λ f h. s.lengths f (d.lengths f h);
      blank = λ h. settled_blank p (d.blank h);
    }

changed_cases : (b : Bool) (p : PairState) (phase : PhaseState) → ((cond b (record p { phase = phase }) p).cap ≡ p.cap) × ((cond b (record p { phase = phase }) p).out ≡ p.out)
changed_cases true p phase = (refl, refl)
changed_cases false p phase = (refl, refl)

changed_queues : (changed : Option Geometry) (p : PairState) → ((changed_where changed p).cap ≡ p.cap) × ((changed_where changed p).out ≡ p.out)
changed_queues None p = (refl, refl)
changed_queues (Some g) p = changed_cases p.cap.streams p (owe change)

put_dest_ends : (p : PairState) (dest : Option Lent) → DestEnds p.cap (dest_put p dest).cap × ((dest_put p dest).cap.next_seq ≡ p.cap.next_seq) × ((dest_put p dest).out ≡ p.out)
put_dest_ends p None = (dest_stays p.cap, refl, refl)
put_dest_ends p (Some lent) =
    (given_dest p.cap p.cap.job lent.cursor (back_bytes p.cap.job lent) refl, same p.cap.job, refl)
  where
    same : (bs : List Buffer) → (give_back_from p.cap bs lent.cursor (back_bytes p.cap.job lent)).next_seq ≡ p.cap.next_seq
    same [] = refl
    same (b ∷ rest) = refl

back_ends : (p : PairState) (dest : Option Lent) (changed : Option Geometry) → DestEnds p.cap (pair_settled (handed_back p dest changed)).cap × ((pair_settled (handed_back p dest changed)).out ≡ p.out)
back_ends p dest changed =
    let put = put_dest_ends p dest in
    let c = changed_queues changed (dest_put p dest) in
    let there : DestEnds p.cap (handed_back p dest changed).cap = subst (DestEnds p.cap) (sym c.0) put.0 in
    (settled_dest p.cap (handed_back p dest changed) (ap (λ (y : QueueState). y.next_seq) c.0 ∙ put.1) there, (settles (handed_back p dest changed)).out ∙ (c.1 ∙ put.2))

either_out : (b : Bool) (x y : PairState) (o : QueueState) → x.out ≡ o → y.out ≡ o → (cond b x y).out ≡ o
either_out true x y o e k = e
either_out false x y o e k = k

abbrev pub RoomShown : Option Shown → List Buffer → Type 0
RoomShown None bs = Unit {0}
RoomShown (Some s) bs = HasRoomFor s.used bs

pub dest_ends : (p : PairState) (shown : Option Shown) (dest : Option Lent) (changed : Option Geometry) → RoomShown shown p.cap.job → DestEnds p.cap (dest_ended p shown dest changed).cap × ((dest_ended p shown dest changed).out ≡ p.out)
dest_ends p None dest changed r = back_ends p dest changed
dest_ends p (Some s) None changed r = back_ends p None changed
dest_ends p (Some s) (Some lent) changed r = (
  either_dest p.cap (is_final p) p _ _ _ (retired_dest p.cap p.cap.job s.used (take s.used lent.payload.items) _ s.stamp refl r)
      (retired_dest p.cap p.cap.job s.used (take s.used lent.payload.items) s.flags s.stamp refl r),
  either_out (is_final p) _ _ p.out refl refl,
)
