-- No run of the codec gives more bytes than the longest buffer, whatever calls, claims and finishes came before. A frame is of the
-- format that its encoder's OUTPUT has, whose sizes are in range; a picture is of a legal header; a copy is none of the codec's.
-- So the codec has a reply to every message.
use Rattle.std.proofs.Common.{◌≡◌, ◌≤◌, refl, sym, ap, ◌∙◌, subst, Option, Some, None, drop, length, arith}
use Rattle.vc_base.specs.declared.Kind.{Kind}
use Rattle.vc_base.specs.declared.Kind.TheVariants.{Copy, Enc, Dec}
use Rattle.vc_base.specs.declared.Format.{Format}
use Rattle.vc_base.specs.Limits.{longest_buffer}
use Rattle.vc_defs.specs.declared.Geometry.{Geometry}
use Rattle.vc_model.specs.Formats.{FormatPair}
use Rattle.vc_model.specs.Coder.{CodecState, no_codec, encoder, decoder, the_coder}
use Rattle.vc_model.specs.Context.{Context, Running, RunSort, copy, encode, decode, probe}
use Rattle.vc_model.specs.Runs.{JobData, job_data, sort_of, run_format, encode_run, decode_run, run_of, run_result}
use Rattle.vc_model.specs.Sound.{IsSound, IsSoundSlot, IsRunOf, HasRun, has_dest}
use Rattle.vc_model.specs.Wire.{coded_bytes}
use Rattle.vc_model.proofs.FormatsAndJobsFit.{always_sound}
use Rattle.vc_model.proofs.ChoicesHaveReplies.{choices_have_replies}
use Rattle.vc_wire_laws.specs.Laws.{CodecRunsAreShort, CodecHasReplies}
use Rattle.vc_wire_laws.proofs.FramesAreShort.{frame_short}
use Rattle.vc_wire_laws.proofs.PicturesAreShort.{picture_short}
use Rattle.vc_wire_laws.proofs.EncodersKeepTheirSizes.{HasSizes, InRange, always_in_range}

-- Runs

encoded_short : (j : JobData) (codec : CodecState) → InRange j.format → length (coded_bytes j.format.fourcc (encode_run the_coder j codec)) ≤ longest_buffer
encoded_short j (encoder state) h = frame_short state j.format j.rates j.source.bytes h.0 h.1
encoded_short j no_codec h = omega arith
encoded_short j (decoder state) h = omega arith

decoded_short : (j : JobData) (codec : CodecState) → length (coded_bytes j.format.fourcc (decode_run the_coder j codec)) ≤ longest_buffer
decoded_short j (decoder state) =
    picture_short j.format.fourcc state j.geometry j.limit (drop j.source.cursor j.source.bytes) j.source.stamp
decoded_short j no_codec = omega arith
decoded_short j (encoder state) = omega arith

sort_short : (j : JobData) (sort : RunSort) → (sort ≡ encode → InRange j.format) → length (coded_bytes j.format.fourcc (run_of the_coder j sort)) ≤ longest_buffer
sort_short j copy h = omega arith
sort_short j encode h = encoded_short j j.codec (h refl)
sort_short j decode h = decoded_short j j.codec
sort_short j probe h = decoded_short j j.codec

-- Formats of runs

-- only an encoder encodes
format_in_range : (kind : Kind) (formats : FormatPair) (geometry : Option Geometry) (format : Format) → HasSizes kind formats → format ≡ run_format kind formats → sort_of kind geometry ≡ encode → InRange format
format_in_range Copy formats geometry format s f e = absurd cc
format_in_range Enc formats geometry format s f e = subst InRange (sym f) s
format_in_range Dec formats None format s f e = absurd cc
format_in_range Dec formats (Some g) format s f e = absurd cc

run_in_range : (c : Context) (r : Running) → HasSizes c.kind c.formats → IsRunOf c.kind c.formats c.geometry r → r.sort ≡ encode → InRange r.format
run_in_range c r s x e =
    format_in_range c.kind c.formats c.geometry r.format s (x.format (ap has_dest e)) (sym x.sort ∙ e)

run_short : (c : Context) (r : Running) → HasSizes c.kind c.formats → HasRun c.kind c.formats c.geometry (Some r) → length (coded_bytes r.format.fourcc (run_result the_coder (job_data c r))) ≤ longest_buffer
unfolding run_result
run_short c r s x = sort_short (job_data c r) r.sort (run_in_range c r s x)

pub codec_runs_are_short : CodecRunsAreShort
codec_runs_are_short events c r here running =
    let sound : IsSound c = subst IsSoundSlot here (always_sound the_coder events) in
    run_short c r (always_in_range the_coder events c here) (subst (HasRun c.kind c.formats c.geometry) running sound.run)

pub codec_has_replies : CodecHasReplies
codec_has_replies n input choices = choices_have_replies the_coder n input choices codec_runs_are_short
