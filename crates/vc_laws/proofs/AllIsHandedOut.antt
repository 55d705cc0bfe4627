-- Over a run that drops nothing the client gets all pictures or frames of the segment. What is handed out is what
-- went to done, in order; what went to done is what the runs gave; and these are the sequential coder's pictures or
-- frames.
use Rattle.std.proofs.Common.{ℕ, ◌≡◌, Some, None, List, [], ◌∷◌, ◌++◌, map, refl, sym, ap, ◌∙◌}
use Rattle.std.proofs.lemmas.List.{append-nil}
use Rattle.std.specs.List.{All, flat_map}
use Rattle.std.proofs.lemmas.List.Elements.{All-head, All-tail}
use Rattle.vc_defs.specs.Raw.{raw_of}
use Rattle.vc_defs.specs.Outputs.{picture_bytes}
use Rattle.vc_defs.specs.Decoder.{FrameResult, ResultKind, Picture, Damaged, Changed}
use Rattle.vc_base.specs.declared.Kind.TheVariants.{Enc}
use Rattle.vc_defs.specs.Encoder.{encoded_bytes}
use Rattle.vc_model.specs.Coder.{Coder, the_coder}
use Rattle.vc_model.specs.Context.{Context, Slot}
use Rattle.vc_model.specs.Solo.{SoloEvent, solo_step, solo_run, solo_slot}
use Rattle.vc_model.specs.Handed.{handed_out}
use Rattle.vc_laws.specs.Segments.{SegmentResult, EncodedPicture, segment_of}
use Rattle.vc_laws.specs.FirstFormats.{IsInFirst, DecodersHandOutPictures}
use Rattle.vc_laws.specs.Following.{sequential_frames}
use Rattle.vc_laws.specs.Taking.{bytes_of, bytes_of_kind, bytes_of_result, done_in, IsTakenWhole, handed_in, AllIsHandedOut}
use Rattle.vc_laws.proofs.TakenInOrder.{handed_in_order, done_is_retired}
use Rattle.vc_laws.proofs.EncoderFollows.{encoder_follows}
use Rattle.vc_laws.proofs.DecoderFollows.{follows}
use Rattle.vc_laws.proofs.PicturesAreInFirst.{pictures_are_in_first}
use Rattle.vc_laws.proofs.DoneBuffersHoldPictures.{pictures_are_handed_out, frames_are_handed_out}

slot_append : (coder : Coder) (s : Slot) (es fs : List SoloEvent) → solo_slot coder s (es ++ fs) ≡ solo_slot coder (solo_slot coder s es) fs
slot_append coder s [] fs = refl
slot_append coder s (e ∷ es) fs = slot_append coder (solo_step coder s e).slot es fs

-- what is handed out is what went to done in the segment
handed_is_retired : (coder : Coder) (events more : List SoloEvent) (d : Context) → IsTakenWhole coder events more d → handed_in coder events more ≡ bytes_of (segment_of coder (events ++ more)).retired
handed_is_retired coder events more d w =
    let c = w.c in
    let order = handed_in_order coder events more c d w.begins w.ends w.drops_nothing in
    let retired = done_is_retired coder events more c w.begins w.keeps in
    let handed = handed_in coder events more in
    let same : handed ++ bytes_of d.cap.done ≡ bytes_of c.cap.done ++ bytes_of (done_in coder (Some c) more) = ap (λ s. handed_out (solo_run coder s more) ++ bytes_of d.cap.done) w.begins ∙ order in
    sym (append-nil handed)
    ∙ (ap (λ l. handed ++ bytes_of l) (sym w.none_left)
    ∙ (same ∙ (ap (λ l. bytes_of l ++ bytes_of (done_in coder (Some c) more)) w.none_there ∙ ap bytes_of (sym (retired ∙ ap (λ l. l ++ done_in coder (Some c) more) w.none_retired)))))

ends_there : (coder : Coder) (events more : List SoloEvent) (d : Context) → IsTakenWhole coder events more d → solo_slot coder None (events ++ more) ≡ Some d
ends_there coder events more d w =
    slot_append coder None events more ∙ (ap (λ s. solo_slot coder s more) w.begins ∙ w.ends)

flat_as_map : {A : Type 0} → (f : A → List ℕ) (xs : List A) → flat_map f xs ≡ flat_map (λ l. l) (map f xs)
flat_as_map f [] = refl
flat_as_map f (x ∷ xs) = ap (λ l. f x ++ l) (flat_as_map f xs)

-- the frames of the segment are the sequential encoder's
frames_in_order :
    (events : List SoloEvent) (c : Context) → solo_slot the_coder None events ≡ Some c → c.kind ≡ Enc
    → flat_map (λ (p : EncodedPicture). p.frame) (segment_of the_coder events).pictures ≡ flat_map encoded_bytes (sequential_frames (segment_of the_coder events) c.formats.out)
frames_in_order events c at k =
    let seg = segment_of the_coder events in
    flat_as_map (λ (p : EncodedPicture). p.frame) seg.pictures ∙ (ap (flat_map (λ l. l)) (encoder_follows events c at k).frames ∙ sym (flat_as_map encoded_bytes (sequential_frames seg c.formats.out)))

pub all_is_handed_out : AllIsHandedOut
all_is_handed_out events more d =
    record {
      decoders = λ k w. handed_is_retired the_coder events more d w ∙ pictures_are_handed_out (events ++ more) d (ends_there the_coder events more d w) k;
      encoders =
          λ k w.
          handed_is_retired the_coder events more d w
          ∙ (frames_are_handed_out the_coder (events ++ more) d (ends_there the_coder events more d w) k ∙ frames_in_order (events ++ more) d (ends_there the_coder events more d w) k);
    }

-- Pictures in their first formats

first_bytes : (x : SegmentResult) (kind : ResultKind) → IsInFirst x.fourcc kind → bytes_of_kind x.fourcc kind ≡ picture_bytes kind
first_bytes x (Picture geometry key planes) h = ap (λ f. raw_of f planes) h
first_bytes x Damaged h = refl
first_bytes x (Changed geometry) h = refl

all_first_bytes : (xs : List SegmentResult) → All (λ (x : SegmentResult). IsInFirst x.fourcc x.what.kind) xs → flat_map bytes_of_result xs ≡ flat_map (λ (r : FrameResult). picture_bytes r.kind) (map (λ (x : SegmentResult). x.what) xs)
all_first_bytes [] h = refl
all_first_bytes (x ∷ xs) h =
    let P : SegmentResult → Type 0 = λ (y : SegmentResult). IsInFirst y.fourcc y.what.kind in
    ap (λ l. l ++ flat_map bytes_of_result xs) (first_bytes x x.what.kind (All-head P x xs h)) ∙ ap (λ l. picture_bytes x.what.kind ++ l) (all_first_bytes xs (All-tail P x xs h))

pub decoders_hand_out_pictures : DecodersHandOutPictures
decoders_hand_out_pictures events more d r k w asked first given =
    let seg = segment_of the_coder (events ++ more) in
    let there = ends_there the_coder events more d w in
    (all_is_handed_out events more d).decoders k w
    ∙ (all_first_bytes seg.results (pictures_are_in_first (events ++ more) d there k asked)
    ∙ ap (flat_map (λ (x : FrameResult). picture_bytes x.kind)) ((follows (events ++ more) d r there k first).all given))
