-- In which format the client of a decoder gets its pictures ("Capture Setup" of the stateful decoder).
use Rattle.std.specs.Prelude.{◌≡◌, Bool, true, false, ◌||◌, Some, None, List, [], ◌∷◌, ◌++◌}
use Rattle.std.specs.List.{All, flat_map}
use Rattle.vc_base.specs.declared.Side.TheVariants.{Cap}
use Rattle.vc_base.specs.declared.Kind.TheVariants.{Dec}
use Rattle.vc_base.specs.declared.Fourcc.{Fourcc}
use Rattle.vc_base.specs.declared.Call.{Call}
use Rattle.vc_base.specs.declared.Call.TheVariants.{SetFmt}
use Rattle.vc_defs.specs.Raw.{first_raw}
use Rattle.vc_defs.specs.Outputs.{picture_bytes}
use Rattle.vc_defs.specs.Decoder.{FrameResult, ResultKind, Picture, Damaged, Changed}
use Rattle.vc_model.specs.Coder.{Coder, the_coder}
use Rattle.vc_model.specs.Context.{Context, Slot, Running}
use Rattle.vc_model.specs.Solo.{SoloEvent, Called, Claims, Finishes, solo_step, solo_slot}
use Rattle.vc_laws.specs.Segments.{SegmentResult, segment_of}
use Rattle.vc_laws.specs.Following.{results_of}
use Rattle.vc_laws.specs.Taking.{IsTakenWhole, handed_in}

abbrev pub call_asks_format : Call → Bool
call_asks_format (SetFmt Cap want) = true
call_asks_format request = false

-- the client asks for a format of CAPTURE
abbrev pub asks_format : SoloEvent → Bool
asks_format (Called request bytes found) = call_asks_format request
asks_format Claims = false
asks_format (Finishes fault) = false

-- whether it did so since the slot was opened
abbrev pub asked_by : Slot → Bool → SoloEvent → Bool
asked_by None asked e = false
asked_by (Some c) asked e = asked || asks_format e

abbrev pub asked_from : Coder → Bool → Slot → List SoloEvent → Bool
asked_from coder asked s [] = asked
asked_from coder asked s (e ∷ es) = asked_from coder (asked_by s asked e) (solo_step coder s e).slot es

abbrev pub asked_format : Coder → List SoloEvent → Bool
asked_format coder events = asked_from coder false None events

-- a picture is in the first raw format of its layout
abbrev pub IsInFirst : Fourcc → ResultKind → Type 0
IsInFirst fourcc (Picture geometry key planes) = fourcc ≡ first_raw geometry.layout
IsInFirst fourcc Damaged = Unit {0}
IsInFirst fourcc (Changed geometry) = Unit {0}

-- A client that asked for no format of CAPTURE since it opened the slot gets each picture in the first raw format of its layout.
abbrev pub PicturesAreInFirst : Type 0
PicturesAreInFirst =
    (events : List SoloEvent) (c : Context) → solo_slot the_coder None events ≡ Some c → c.kind ≡ Dec → asked_format the_coder events ≡ false
    → All (λ (x : SegmentResult). IsInFirst x.fourcc x.what.kind) (segment_of the_coder events).results

-- Over a run of one segment that drops nothing, whose runs gave all results of the bytes that they consumed, such a client gets
-- the pictures that the sequential decoder gives for these bytes, each in the first raw format of its layout, and nothing else.
abbrev pub DecodersHandOutPictures : Type 0
DecodersHandOutPictures =
    (events more : List SoloEvent) (d : Context) (r : Running) → d.kind ≡ Dec → IsTakenWhole the_coder events more d
    → asked_format the_coder (events ++ more) ≡ false
    → let seg = segment_of the_coder (events ++ more) in
    seg.first ≡ Some r → seg.given ≡ true → handed_in the_coder events more ≡ flat_map (λ (x : FrameResult). picture_bytes x.kind) (results_of seg r)
