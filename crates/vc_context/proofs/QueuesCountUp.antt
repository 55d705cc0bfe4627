-- What a call makes of one queue: it keeps its side, its numbers rise by one at most, and no buffer gets more used
-- bytes than it has room for.
use Rattle.std.proofs.Common.{ℕ, ◌≡◌, ◌≤◌, ◌+◌, ltb, leb, nat_le, Bool, true, false, Option, Some, None, List, [], ◌∷◌, ◌++◌, map, refl, sym, subst, arith, le-leb}
use Rattle.std.specs.Prelude.{nat_lt}
use Rattle.std.specs.List.{list_all}
use Rattle.std.proofs.lemmas.Bool.{and_parts, and_from}
use Rattle.vc_base.specs.declared.Side.{Side}
use Rattle.vc_base.specs.declared.Side.TheVariants.{Out}
use Rattle.vc_base.specs.declared.Errno.{Errno}
use Rattle.vc_base.specs.declared.Errno.TheVariants.{Inval}
use Rattle.vc_base.specs.declared.Stamp.{Stamp}
use Rattle.vc_base.specs.Buffers.{Buffer, QueueState, refuse_if, reqbufs_after, create_after, qbuf_refusal, qbuf_after, queue_held, queued_buffer, with_index}
use Rattle.vc_base.specs.Buffers.{held_refusal, dqbuf_after, take_front, streamon_after, streamoff_after, lend_after, lend_front, retire_after, retire_from}
use Rattle.vc_base.specs.Buffers.{known_bytes, without_bytes, without_job_bytes}
use Rattle.vc_queue.specs.Answers.{after_of}
use Rattle.vc_context.specs.Contexts.{AreFilled}
use Rattle.vc_context.specs.Works.{IsIndexOf}

pub record Goes (old new : QueueState) : Type 0 where
  pub side : new.side ≡ old.side
  pub idle : old.job ≡ [] → new.job ≡ []
  pub queued : new.next_ordinal ≤ old.next_ordinal + 1
  pub retired : new.next_seq ≤ old.next_seq + 1
  pub index : (i : ℕ) → IsIndexOf i old.job → IsIndexOf i new.job
  pub job : AreFilled old.job → AreFilled new.job
  pub done : AreFilled old.done → AreFilled new.done

pub stays : (q : QueueState) → Goes q q
stays q =
    record { side = refl; idle = λ e. e; queued = omega arith; retired = omega arith; index = λ i h. h; job = λ h. h; done = λ h. h }

-- a refusal changes nothing
pub goes_after : (o : Option Errno) (q r : QueueState) → Goes q r → Goes q (after_of o q r)
goes_after (Some e) q r g = stays q
goes_after None q r g = g

pub queued_goes : (q : QueueState) (index : ℕ) (f : Option Buffer) (used : ℕ) (stamp : Stamp) (bytes : List ℕ) → Goes q (queue_held q index f used stamp bytes)
queued_goes q index None used stamp bytes = stays q
queued_goes q index (Some b) used stamp bytes =
    record { side = refl; idle = λ e. e; queued = omega arith; retired = omega arith; index = λ i h. h; job = λ h. h; done = λ h. h }

rest_filled : (b : Buffer) (rest : List Buffer) → AreFilled (b ∷ rest) → AreFilled rest
rest_filled b rest h = (and_parts (nat_le b.used b.size) (list_all (λ x. nat_le x.used x.size) rest) h).1

pub taken_goes : (q : QueueState) (ds : List Buffer) → q.done ≡ ds → Goes q (take_front q ds)
taken_goes q [] e = stays q
taken_goes q (b ∷ rest) e =
    record { side = refl; idle = λ e. e; queued = omega arith; retired = omega arith; index = λ i h. h; job = λ h. h; done = λ h. rest_filled b rest (subst AreFilled e h) }

pub taken_ready : (q : QueueState) (ds : List Buffer) → (take_front q ds).ready ≡ q.ready
taken_ready q [] = refl
taken_ready q (b ∷ rest) = refl

pub new_goes : (q : QueueState) (count size : ℕ) → Goes q (reqbufs_after q count size)
new_goes q count size =
    record { side = refl; idle = λ e. refl; queued = omega arith; retired = omega arith; index = λ i h. tt; job = λ h. refl; done = λ h. refl }

pub more_goes : (q : QueueState) (count size : ℕ) → Goes q (create_after q count size)
more_goes q count size =
    record { side = refl; idle = λ e. e; queued = omega arith; retired = omega arith; index = λ i h. h; job = λ h. h; done = λ h. h }

pub on_goes : (q : QueueState) → Goes q (streamon_after q)
on_goes q =
    record { side = refl; idle = λ e. e; queued = omega arith; retired = omega arith; index = λ i h. h; job = λ h. h; done = λ h. h }

pub off_goes : (q : QueueState) → Goes q (streamoff_after q)
off_goes q =
    record { side = refl; idle = λ e. e; queued = omega arith; retired = omega arith; index = λ i h. h; job = λ h. h; done = λ h. refl }

-- the buffers that are ready have room for what is used of them

all_end : (p : Buffer → Bool) (bs : List Buffer) (x : Buffer) → list_all p bs ≡ true → p x ≡ true → list_all p (bs ++ x ∷ []) ≡ true
all_end p [] x h e = and_from (p x) true e refl
all_end p (b ∷ bs) x h e =
    let r = and_parts (p b) (list_all p bs) h in and_from (p b) (list_all p (bs ++ x ∷ [])) r.0 (all_end p bs x r.1 e)

not_above : (used size : ℕ) → ltb size used ≡ false → leb used size ≡ true
not_above used size e = grind (arith, e)

has_room : (b : Buffer) (used least : ℕ) (t : Bool) → nat_lt b.size used ≡ t → refuse_if t Inval (refuse_if (nat_lt b.size least) Inval None) ≡ None → leb used b.size ≡ true
has_room b used least true e h = cc
has_room b used least false e h = not_above used b.size e

pub queued_filled :
    (q : QueueState) (index : ℕ) (f : Option Buffer) (used least : ℕ) (stamp : Stamp) (bytes : List ℕ) → q.side ≡ Out
    → held_refusal Out f used least ≡ None → AreFilled q.ready → AreFilled (queue_held q index f used stamp bytes).ready
queued_filled q index None used least stamp bytes s h r = r
queued_filled q index (Some b) used least stamp bytes s h r =
    let room : (queued_buffer Out b used stamp bytes q.next_ordinal).size ≡ b.size = refl in
    rw s (all_end (λ x. nat_le x.used x.size) q.ready (queued_buffer Out b used stamp bytes q.next_ordinal) r (has_room b used least _ refl h))

pub filled_after : (o : Option Errno) (q r : QueueState) → AreFilled q.ready → (o ≡ None → AreFilled r.ready) → AreFilled (after_of o q r).ready
filled_after (Some e) q r h g = h
filled_after None q r h g = g refl

-- a claim takes the front of ready into the job

pub record IsLentOut (old new : QueueState) : Type 0 where
  pub side : new.side ≡ old.side
  pub queued : new.next_ordinal ≡ old.next_ordinal
  pub retired : new.next_seq ≡ old.next_seq
  pub ready : AreFilled old.ready → AreFilled new.ready
  pub job : AreFilled old.ready → AreFilled old.job → AreFilled new.job
  pub done : new.done ≡ old.done

lent_at : (q : QueueState) (bs : List Buffer) → q.ready ≡ bs → IsLentOut q (without_job_bytes (lend_front q bs))
lent_at q [] e =
    record { side = refl; queued = refl; retired = refl; ready = λ h. h; job = λ r h. without_filled q.job h; done = refl }
  where
    without_filled : (bs : List Buffer) → AreFilled bs → AreFilled (map without_bytes bs)
    without_filled [] h = refl
    without_filled (b ∷ bs) h =
        let r = and_parts (nat_le b.used b.size) (list_all (λ x. nat_le x.used x.size) bs) h in and_from (nat_le b.used b.size) (list_all (λ x. nat_le x.used x.size) (map without_bytes bs)) r.0 (without_filled bs r.1)
lent_at q (b ∷ rest) e =
    record {
      side = refl;
      queued = refl;
      retired = refl;
      ready = λ h. rest_filled b rest (subst AreFilled e h);
      job = λ r h. and_from (nat_le b.used b.size) true (and_parts (nat_le b.used b.size) (list_all (λ x. nat_le x.used x.size) rest) (subst AreFilled e r)).0 refl;
      done = refl;
    }

pub lent_out : (q : QueueState) → IsLentOut q (without_job_bytes (lend_after q))
lent_out q = lent_at q q.ready refl

-- a finish puts the buffer of the job at the end of done

-- the buffer of the job has room for the used bytes
abbrev pub HasRoomFor : ℕ → List Buffer → Type 0
HasRoomFor used [] = Unit {0}
HasRoomFor used (b ∷ rest) = used ≤ b.size

retired_at : (q : QueueState) (bs : List Buffer) (used : ℕ) (bytes : List ℕ) (flags : ℕ) (stamp : Stamp) → q.job ≡ bs → HasRoomFor used bs → Goes q (retire_from q bs used bytes flags stamp)
retired_at q [] used bytes flags stamp e h = stays q
retired_at q (b ∷ rest) used bytes flags stamp e h =
    let back : Buffer = record b { used = used; bytes = known_bytes q.side flags bytes; flags = flags; stamp = stamp; seq = q.next_seq } in
    let fine : nat_le back.used back.size ≡ true = le-leb used b.size h in
    record {
      side = refl;
      idle = λ i. refl;
      queued = omega arith;
      retired = omega arith;
      index = λ i g. tt;
      job = λ g. refl;
      done = λ g. all_end (λ x. nat_le x.used x.size) q.done back g fine;
    }

pub retired_goes : (q : QueueState) (used : ℕ) (bytes : List ℕ) (flags : ℕ) (stamp : Stamp) → HasRoomFor used q.job → Goes q (retire_after q used bytes flags stamp)
retired_goes q used bytes flags stamp h =
    retired_at q q.job used bytes flags stamp refl h

pub retired_ready : (q : QueueState) (bs : List Buffer) (used : ℕ) (bytes : List ℕ) (flags : ℕ) (stamp : Stamp) → (retire_from q bs used bytes flags stamp).ready ≡ q.ready
retired_ready q [] used bytes flags stamp = refl
retired_ready q (b ∷ rest) used bytes flags stamp = refl
