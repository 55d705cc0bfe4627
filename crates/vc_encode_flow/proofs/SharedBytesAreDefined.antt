-- Pictures of the generator that are queued one after another, and the tally of their frames. Once all are queued and all
-- frames taken, the tally is that of the bytes that are defined, since the encoder reads back the planes that the generator
-- made.
use Rattle.std.proofs.Common.{ℕ, ◌≡◌, ◌≤◌, ◌+◌, ◌*◌, ◌%◌, List, [], ◌∷◌, ◌++◌, length, map, refl, sym, ap, ◌∙◌, subst, arith, length-append}
use Rattle.std.specs.List.{range_with_len, flat_map}
use Rattle.std.proofs.lemmas.List.FromFn.{map-range_with_len_more, length-map-range_with_len}
use Rattle.std.proofs.lemmas.List.Sums.{fold-append}
use Rattle.vc_base.specs.declared.Format.{Format}
use Rattle.vc_base.specs.declared.Fourcc.{Fourcc}
use Rattle.vc_defs.specs.Encoder.{fresh_encoder, encoded, encoded_after, encoded_bytes}
use Rattle.vc_defs.specs.Laws.{IsRawFormat}
use Rattle.vc_defs.specs.Outputs.{default_rates, fold_of, shared_bytes, shared_frames, frames_of, frames_bytes, generated_pictures}
use Rattle.vc_defs.specs.Raw.{layout_of, geometry_of}
use Rattle.vc_model.specs.Solo.{SoloEvent}
use Rattle.vc_port.specs.Payloads.{bytes_out, good_finishes}
use Rattle.vc_encode_flow.specs.Frames.{frames_from, joined}
use Rattle.vc_encode_flow.specs.Flows.{FlowSoFar, IsKept, IsFlow, flow_of, with_picture}
use Rattle.vc_encode_flow.specs.Shares.{generated_bytes, SharedInYu12, raw_picture, raw_pictures, IsSharing}
use Rattle.vc_encode_flow.specs.Tallies.{tally_of, folded}
use Rattle.vc_encode_flow.specs.declared.tallying.Tally.{Tally}
use Rattle.vc_encode_flow.proofs.FramesGoOn.{frames_are_encoded}
use Rattle.vc_encode_flow.proofs.GeneratedPicturesAreRaw.{kept_raw, planes_back}
use Rattle.vc_encode_flow.proofs.StoppingWritesAPrefix.{joined_more}
use Rattle.vc_encode_flow.proofs.AllFramesAreTaken.{all_taken}

-- Tallies

fold_append : (xs ys : List ℕ) → fold_of (xs ++ ys) ≡ folded (fold_of xs) ys
unfolding fold_of
fold_append xs ys = fold-append (λ (f b : ℕ). (31 * f + b) % 4294967296) 0 xs ys

pub none_tallied : record { bytes = 0; fold = 0 } ≡ tally_of []
unfolding fold_of
none_tallied = refl

-- the tally of bytes that go on
pub tally_more : (old new : Tally) (before bytes : List ℕ) → old ≡ tally_of before → new.bytes ≡ old.bytes + length bytes → new.fold ≡ folded old.fold bytes → new ≡ tally_of (before ++ bytes)
tally_more old new before bytes e n f =
    let count : new.bytes ≡ length (before ++ bytes) = n ∙ (ap (λ (t : Tally). t.bytes + length bytes) e ∙ sym (length-append before bytes)) in
    let fold : new.fold ≡ fold_of (before ++ bytes) = f ∙ (ap (λ (t : Tally). folded t.fold bytes) e ∙ sym (fold_append before bytes)) in
    ap (λ (z : ℕ). record new { bytes = z }) count ∙ ap (λ (z : ℕ). record { bytes = length (before ++ bytes); fold = z }) fold

-- Steps

-- the flow of pictures of the generator
abbrev pub sharing_flow : Format → ℕ → ℕ → List (List ℕ) → FlowSoFar
sharing_flow format number queued frames =
    record { format = format; rates = default_rates; queued = raw_pictures format number queued; taken = frames }

pub begun : (start events : List SoloEvent) (format : Format) (number : ℕ) → IsFlow start (flow_of format default_rates) events → IsSharing start format number 0 0 (tally_of []) events
begun start events format number w = record { frames = []; count = refl; flow = w; tallied = refl }

pub picture_more : (format : Format) (number queued : ℕ) → raw_pictures format number (queued + 1) ≡ raw_pictures format number queued ++ raw_picture format number queued ∷ []
picture_more format number queued =
    map-range_with_len_more (raw_picture format number) 0 queued queued (omega arith)

-- a picture more was queued
pub fed : (start : List SoloEvent) (format : Format) (number queued taken : ℕ) (tally : Tally) (picture : List ℕ) (old new : List SoloEvent) →
    picture ≡ raw_picture format number queued → IsSharing start format number queued taken tally old →
    ((f : FlowSoFar) → IsFlow start f old → IsFlow start (with_picture f picture) new) → IsSharing start format number (queued + 1) taken tally new
fed start format number queued taken tally picture old new e h step =
    let f = sharing_flow format number queued h.frames in
    let same : with_picture f picture ≡ sharing_flow format number (queued + 1) h.frames = ap (λ (p : List ℕ). with_picture f p) e ∙ ap (λ (l : List (List ℕ)). record f { queued = l }) (sym (picture_more format number queued)) in
    record { frames = h.frames; count = h.count; flow = subst (λ (z : FlowSoFar). IsFlow start z new) same (step f h.flow); tallied = h.tallied }

-- a frame more was handed out and tallied
pub tallied_more : (start : List SoloEvent) (format : Format) (number queued taken : ℕ) (old new : Tally) (frame : List ℕ)
    (before events : List SoloEvent) → (h : IsSharing start format number queued taken old before) → new ≡ tally_of (joined h.frames ++ frame) →
    IsFlow start (sharing_flow format number queued (h.frames ++ frame ∷ [])) events → IsSharing start format number queued (taken + 1) new events
tallied_more start format number queued taken old new frame before events h e w =
    let n = h.count in
    record {
      frames = h.frames ++ frame ∷ [];
      count = length-append h.frames (frame ∷ []) ∙ ap (λ (z : ℕ). z + 1) n;
      flow = w;
      tallied = e ∙ ap tally_of (sym (joined_more h.frames frame));
    }

-- Whole

generated_as_encoded : (format : Format) (count number : ℕ) → generated_bytes format count number ≡ flat_map encoded_bytes (encoded_after (geometry_of format) fresh_encoder (map (λ (planes : List (List ℕ)). (planes, default_rates)) (generated_pictures (geometry_of format) count number)))
unfolding encoded
generated_as_encoded format count number = refl

frames_are_generated : (format : Format) (count number : ℕ) → IsRawFormat format → joined (frames_from fresh_encoder format default_rates (raw_pictures format number count)) ≡ generated_bytes format count number
frames_are_generated format count number raw =
    frames_are_encoded fresh_encoder format default_rates (raw_pictures format number count)
    ∙ (ap (λ (l : List (List (List ℕ))). flat_map encoded_bytes (encoded_after (geometry_of format) fresh_encoder (map (λ (planes : List (List ℕ)). (planes, default_rates)) l))) (planes_back format number (range_with_len 0 count) raw)
    ∙ sym (generated_as_encoded format count number))

-- All pictures were queued, and all frames were handed out and tallied.
pub record IsShared (start : List SoloEvent) (format : Format) (count number : ℕ) (tally : Tally) (events : List SoloEvent) : Type 0 where
  pub bytes : tally.bytes ≡ length (generated_bytes format count number)
  pub fold : tally.fold ≡ fold_of (generated_bytes format count number)
  pub handed : bytes_out events ≡ bytes_out start ++ generated_bytes format count number
  pub finishes : good_finishes start + count ≤ good_finishes events

pub is_shared : (start before events : List SoloEvent) (format : Format) (count number : ℕ) (tally : Tally) → IsKept format →
    IsSharing start format number count count tally before → bytes_out events ≡ bytes_out before → good_finishes before ≤ good_finishes events →
    IsShared start format count number tally events
is_shared start before events format count number tally k h b n =
    let f = sharing_flow format number count h.frames in
    let queued : length f.queued ≡ count = length-map-range_with_len (raw_picture format number) 0 count in
    let all = all_taken start f before (h.count ∙ sym queued) h.flow in
    let frames : joined h.frames ≡ generated_bytes format count number = all.frames ∙ frames_are_generated format count number (kept_raw format k) in
    let finished = all.finishes in
    record {
      bytes = ap (λ (t : Tally). t.bytes) h.tallied ∙ ap (λ (l : List ℕ). length l) frames;
      fold = ap (λ (t : Tally). t.fold) h.tallied ∙ ap fold_of frames;
      handed = b ∙ (h.flow.handed ∙ ap (λ (l : List ℕ). bytes_out start ++ l) frames);
      finishes = omega (arith, finished, queued, n);
    }

-- In the format of the sharing command

pub shared_in_yu12 : SharedInYu12
unfolding shared_bytes shared_frames
shared_in_yu12 format count number e =
    ap (λ (f : Fourcc). frames_bytes (frames_of (record { width = format.width; height = format.height; layout = layout_of f }) default_rates (generated_pictures (record { width = format.width; height = format.height; layout = layout_of f }) count number))) e
