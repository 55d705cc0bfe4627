-- What the laws of the wire ask of a codec, of the codec itself (docs/FORMAT.md, "The wire").
use Rattle.std.specs.Prelude.{ℕ, Bool, List}
use Rattle.vc_model.specs.Coder.{the_coder}
use Rattle.vc_model.specs.Devices.{new_device}
use Rattle.vc_model.specs.Messages.{messages}
use Rattle.vc_model.specs.Wire.{RunsAreShort, Replies, chosen_replies}

-- No run of the codec gives more bytes than the longest buffer has.
abbrev pub CodecRunsAreShort : Type 0
CodecRunsAreShort = RunsAreShort the_coder

-- Each number of slots, input and list of choices have an output: the replies by these choices are one.
abbrev pub CodecHasReplies : Type 0
CodecHasReplies =
    (n : ℕ) (input : List ℕ) (choices : List Bool) → Replies the_coder n input (chosen_replies the_coder n (new_device n) (messages input).bodies choices)
