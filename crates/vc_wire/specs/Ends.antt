-- How serving a stream of messages ends.
use Rattle.std.specs.Prelude.{ℕ, ◌≡◌, ◌≢◌, ◌<◌, ◌≤◌, ◌+◌, ◌^◌, ◌⊎◌, Bool, true, false, Option, List, [], length, take, ⊤}
use Rattle.std.specs.Io.KnownBytes.{Appends, Consumes, IsAtEnd}
use Rattle.vc_io.specs.Written.{AppendsFront}
use Rattle.vc_model.specs.Coder.{the_coder}
use Rattle.vc_model.specs.Devices.{new_device}
use Rattle.vc_model.specs.Messages.{has_bad_length, messages}
use Rattle.vc_model.specs.Wire.{Replies, RepliesFrom, events_of_wire, wire_events}
use Rattle.vc_desk.specs.Carries.{finishes, IsCounted}
use Rattle.vc_wire.specs.declared.ends.WireEnd.{WireEnd}
use Rattle.vc_wire.specs.declared.ends.WireEnd.TheVariants.{Whole, BadMessage, ReadFault, WriteFault, EngineFault, TooLong, NoMemory}

-- the bytes of an input that is too long
abbrev pub most_input : ℕ
most_input = 2 ^ 40

-- What stands outside at a moment: the bytes that were written, and the engine's counts of runs and of faults.
pub record Outside : Type 0 where
  pub written : Option (List ℕ)
  pub runs : ℕ
  pub faults : ℕ

abbrev pub standing : Option (List ℕ) → ℕ → ℕ → Outside
standing written runs faults = record { written = written; runs = runs; faults = faults }

abbrev pub outside : {K E : Type 0} → (K → Option (List ℕ)) → (E → ℕ) → (E → ℕ) → K → E → Outside
outside written runs faults sink engine = standing (written sink) (runs engine) (faults engine)

-- Each message of the bytes was answered, its reply was written, and the engine counts the jobs that ended. So many of them
-- ended with a fault.
pub record AllAnswered (n : ℕ) (bytes : List ℕ) (before now : Outside) (Failed : ℕ → Type 0) : Type 0 where
  pub output : List ℕ
  pub replies : Replies the_coder n bytes output
  pub written : Appends before.written now.written output
  pub counted : IsCounted (events_of_wire the_coder n bytes output) before.runs now.runs before.faults now.faults
  pub failed : Failed (finishes true (events_of_wire the_coder n bytes output))

-- The first messages of the bytes were answered, and a prefix of their replies was written.
pub record FrontAnswered (n : ℕ) (bytes : List ℕ) (before now : Outside) : Type 0 where
  pub count : ℕ
  pub output : List ℕ
  pub replies : RepliesFrom the_coder n (new_device n) (take count (messages bytes).bodies) output
  pub written : AppendsFront before.written now.written output
  pub counted : IsCounted (wire_events the_coder n (new_device n) (take count (messages bytes).bodies) output) before.runs now.runs before.faults now.faults

-- These bytes were read, and they are not too many.
pub record HasRead (left left' : Option (List ℕ)) (bytes : List ℕ) : Type 0 where
  pub read : Consumes left left' bytes
  pub few : length bytes < most_input

-- The input was read to its end, and is a list of messages without a rest.
pub record HasReadWhole (left left' : Option (List ℕ)) (bytes : List ℕ) : Type 0 where
  pub read : HasRead left left' bytes
  pub end : IsAtEnd left'
  pub no_rest : (messages bytes).rest ≡ []

-- Behind the messages, at byte `at`, a message begins whose length isn't in range, or inside of which the input ends.
pub record HasReadBad (left left' : Option (List ℕ)) (bytes : List ℕ) (at : ℕ) : Type 0 where
  pub read : HasRead left left' bytes
  pub begun : at + length (messages bytes).rest ≡ length bytes
  pub bad : (has_bad_length (messages bytes).rest ≡ true) ⊎ (IsAtEnd left' × ((messages bytes).rest ≢ []))

-- Too many bytes were read.
pub record HasReadTooLong (left left' : Option (List ℕ)) (bytes : List ℕ) : Type 0 where
  pub read : Consumes left left' bytes
  pub long : most_input ≤ length bytes

-- how serving a device of n slots ends, by the input that was left and what stood outside, before and now
abbrev pub EndsAs : ℕ → Option (List ℕ) → Option (List ℕ) → Outside → Outside → WireEnd → Type 0
EndsAs n left left' before now Whole =
    (bytes : List ℕ) × HasReadWhole left left' bytes × AllAnswered n bytes before now (λ k. k ≡ 0)
EndsAs n left left' before now EngineFault =
    (bytes : List ℕ) × HasReadWhole left left' bytes × AllAnswered n bytes before now (λ k. 0 < k)
EndsAs n left left' before now (BadMessage at) =
    (bytes : List ℕ) × HasReadBad left left' bytes at × AllAnswered n bytes before now (λ k. ⊤)
EndsAs n left left' before now ReadFault =
    (bytes : List ℕ) × HasRead left left' bytes × AllAnswered n bytes before now (λ k. ⊤)
EndsAs n left left' before now WriteFault =
    (bytes : List ℕ) × HasRead left left' bytes × FrontAnswered n bytes before now
EndsAs n left left' before now TooLong =
    (bytes : List ℕ) × HasReadTooLong left left' bytes × FrontAnswered n bytes before now
EndsAs n left left' before now NoMemory =
    (bytes : List ℕ) × HasRead left left' bytes × FrontAnswered n bytes before now

-- all that was written is handed on, but where the sink failed or memory was out
abbrev pub hands_on : WireEnd → Bool
hands_on WriteFault = false
hands_on NoMemory = false
hands_on end = true
