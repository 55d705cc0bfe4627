-- The moves of a buffer between ready, the job and done leave the buffers that the user holds, so a hold that fits the queue
-- goes on fitting it. Each changes other lists than the held one, which alone says what fits.
use Rattle.std.proofs.Common.{ℕ, zero, suc, length, Option, None, ◌≡◌, List, replicate, [], ◌∷◌, refl, ap, ◌∙◌}
use Rattle.std.specs.Option.{option_map}
use Rattle.vc_base.specs.declared.Side.{Side}
use Rattle.vc_base.specs.declared.Side.TheVariants.{Out, Cap}
use Rattle.vc_base.specs.declared.Stamp.{Stamp}
use Rattle.vc_base.specs.Buffers.{Buffer, QueueState, new_queue, without_job_bytes, lend_front, lend_after, give_back_from, give_back_after, retire_from, retire_after}
use Rattle.vc_queue.specs.Payloads.{payload_at}
use Rattle.vc_queue.specs.Holds.{HoldState, held_payload, Fits}

lent_front : (q : QueueState) (ready : List Buffer) (hold : HoldState) → Fits q hold → Fits (without_job_bytes (lend_front q ready)) hold
lent_front q [] hold f = f
lent_front q (b ∷ rest) hold f = f

-- a hold that fits goes on fitting when a buffer is lent, given back or retired
pub fits_lent : (q : QueueState) (hold : HoldState) → Fits q hold → Fits (without_job_bytes (lend_after q)) hold
fits_lent q hold f = lent_front q q.ready hold f

back_from : (q : QueueState) (job : List Buffer) (cursor : ℕ) (bytes : List ℕ) (hold : HoldState) → Fits q hold → Fits (give_back_from q job cursor bytes) hold
back_from q [] cursor bytes hold f = f
back_from q (b ∷ rest) cursor bytes hold f = f

pub fits_given_back : (q : QueueState) (cursor : ℕ) (bytes : List ℕ) (hold : HoldState) → Fits q hold → Fits (give_back_after q cursor bytes) hold
fits_given_back q cursor bytes hold f = back_from q q.job cursor bytes hold f

done_from : (q : QueueState) (job : List Buffer) (used : ℕ) (bytes : List ℕ) (flags : ℕ) (stamp : Stamp) (hold : HoldState) → Fits q hold → Fits (retire_from q job used bytes flags stamp) hold
done_from q [] used bytes flags stamp hold f = f
done_from q (b ∷ rest) used bytes flags stamp hold f = f

pub fits_retired : (q : QueueState) (used : ℕ) (bytes : List ℕ) (flags : ℕ) (stamp : Stamp) (hold : HoldState) → Fits q hold → Fits (retire_after q used bytes flags stamp) hold
fits_retired q used bytes flags stamp hold f = done_from q q.job used bytes flags stamp hold f

-- a hold without payloads fits a queue without buffers
pub fits_new : (side : Side) (hold : HoldState) → ((index : ℕ) → held_payload hold side index ≡ None) → Fits (new_queue side) hold
fits_new side hold nothing index h = ap (option_map length) (nothing index)

none_in : (n i : ℕ) → payload_at (replicate n None) i ≡ None
none_in zero i = refl
none_in (suc n) zero = refl
none_in (suc n) (suc i) = none_in n i

-- 32 empty places on each side
pub nothing_held : (out cap : List (Option (List ℕ))) → out ≡ replicate 32 None → cap ≡ replicate 32 None → (side : Side) (index : ℕ) → held_payload (record { out = out; cap = cap }) side index ≡ None
nothing_held out cap eo ec Out index = ap (λ l. payload_at l index) eo ∙ none_in 32 index
nothing_held out cap eo ec Cap index = ap (λ l. payload_at l index) ec ∙ none_in 32 index
