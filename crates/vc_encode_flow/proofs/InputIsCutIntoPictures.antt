-- Cutting an input into its pictures. Bytes that are so many pieces of one size and less than one more are cut into these
-- pieces and the rest, by the quotient and the remainder of their length.
use Rattle.std.proofs.Common.{ℕ, suc, nat_eq, ◌≡◌, ◌≤◌, ◌<◌, ◌+◌, ◌-◌, ◌*◌, ◌/◌, ◌%◌, List, [], ◌∷◌, ◌++◌, length, take, drop, map, not, refl, sym, ap, ◌∙◌, subst, arith, All, append-nil, append_assoc, length-append, suc-add, mul-pos, le-div_iff_mul-le}
use Rattle.std.specs.List.{flat_map}
use Rattle.std.proofs.lemmas.Nat.{div-mul-add, mod-mul-add}
use Rattle.vc_base.specs.declared.Format.{Format}
use Rattle.vc_defs.specs.declared.Layout.{Layout}
use Rattle.vc_defs.specs.declared.Layout.TheVariants.{Grey, C420, C422}
use Rattle.vc_defs.specs.declared.Geometry.{Geometry}
use Rattle.vc_defs.specs.Raw.{grey, yu12, nv12, yuyv, layout_of, raw_size, planes_of, pieces_from, pictures_in}
use Rattle.vc_defs.specs.Encoder.{RunRates, fresh_encoder, encoded_bytes, encoded, encoded_after}
use Rattle.vc_defs.specs.Outputs.{encode_output, encode_frames, encode_count, is_short_raw}
use Rattle.vc_defs.proofs.EachPictureIsAFrame.{each_picture_is_a_frame}
use Rattle.vc_model.specs.Formats.{listed_or, width_for, height_for}
use Rattle.vc_encode_flow.specs.Frames.{frames_from, joined}
use Rattle.vc_encode_flow.specs.Flows.{IsKept}
use Rattle.vc_encode_flow.proofs.FramesGoOn.{frames_are_encoded}

take_piece : (p x : List ℕ) → take (length p) (p ++ x) ≡ p
take_piece [] x = refl
take_piece (y ∷ p) x = ap (λ (l : List ℕ). y ∷ l) (take_piece p x)

drop_piece : (p x : List ℕ) → drop (length p) (p ++ x) ≡ x
drop_piece [] x = refl
drop_piece (y ∷ p) x = drop_piece p x

head_is : (size : ℕ) (p : List ℕ) (ps : List (List ℕ)) → All (λ (q : List ℕ). length q ≡ size) (p ∷ ps) → length p ≡ size
head_is size p ps a = a 0 p (omega (arith))

others_are : (size : ℕ) (p : List ℕ) (ps : List (List ℕ)) → All (λ (q : List ℕ). length q ≡ size) (p ∷ ps) → All (λ (q : List ℕ). length q ≡ size) ps
others_are size p ps a = λ k d l. a (suc k) d (omega (arith, l))

joined_long : (size : ℕ) (ps : List (List ℕ)) → All (λ (p : List ℕ). length p ≡ size) ps → length (joined ps) ≡ length ps * size
joined_long size [] a = omega arith
joined_long size (p ∷ ps) a =
    let first : length p ≡ size = head_is size p ps a in
    let others = joined_long size ps (others_are size p ps a) in
    length-append p (joined ps) ∙ omega (arith, first, others)

-- bytes that begin with pictures are cut into these first
pub pieces_front : (size count : ℕ) (ps : List (List ℕ)) (rest : List ℕ) → All (λ (p : List ℕ). length p ≡ size) ps → pieces_from (length ps + count) size (joined ps ++ rest) ≡ ps ++ pieces_from count size rest
pieces_front size count [] rest a = ap (λ (n : ℕ). pieces_from n size rest) (omega arith)
pieces_front size count (p ∷ ps) rest a =
    let first : length p ≡ size = head_is size p ps a in
    let bytes = joined ps ++ rest in
    let cut : take size (p ++ bytes) ≡ p = ap (λ (n : ℕ). take n (p ++ bytes)) (sym first) ∙ take_piece p bytes in
    let left : drop size (p ++ bytes) ≡ bytes = ap (λ (n : ℕ). drop n (p ++ bytes)) (sym first) ∙ drop_piece p bytes in
    ap (λ (n : ℕ). pieces_from n size ((p ++ joined ps) ++ rest)) (suc-add (length ps) count)
    ∙ (ap (λ (l : List ℕ). take size l ∷ pieces_from (length ps + count) size (drop size l)) (append_assoc p (joined ps) rest)
    ∙ (ap (λ (l : List ℕ). l ∷ pieces_from (length ps + count) size (drop size (p ++ bytes))) cut
    ∙ (ap (λ (l : List ℕ). p ∷ pieces_from (length ps + count) size l) left
    ∙ ap (λ (l : List (List ℕ)). p ∷ l) (pieces_front size count ps rest (others_are size p ps a)))))

-- The whole pictures of bytes that are pictures and a part of one
pub record IsCut (size : ℕ) (ps : List (List ℕ)) (rest bytes : List ℕ) : Type 0 where
  pub pieces : pieces_from (length bytes / size) size bytes ≡ ps
  pub number : length bytes / size ≡ length ps
  pub part : length bytes % size ≡ length rest

pub cut_whole : (size : ℕ) (ps : List (List ℕ)) (rest bytes : List ℕ) → All (λ (p : List ℕ). length p ≡ size) ps → length rest < size → bytes ≡ joined ps ++ rest → IsCut size ps rest bytes
cut_whole size ps rest bytes a l e =
    let long : length bytes ≡ length ps * size + length rest = ap (λ (z : List ℕ). length z) e ∙ (length-append (joined ps) rest ∙ ap (λ (n : ℕ). n + length rest) (joined_long size ps a)) in
    let number : length bytes / size ≡ length ps = ap (λ (n : ℕ). n / size) long ∙ div-mul-add (length ps) size (length rest) l in
    record {
      pieces = ap (λ (n : ℕ). pieces_from n size bytes) number ∙ (ap (λ (z : List ℕ). pieces_from (length ps) size z) e ∙ (ap (λ (n : ℕ). pieces_from n size (joined ps ++ rest)) (omega arith) ∙ (pieces_front size 0 ps rest a ∙ append-nil ps)));
      number = number;
      part = ap (λ (n : ℕ). n % size) long ∙ mod-mul-add (length ps) size (length rest) l;
    }

-- the pictures that bytes begin with are the first of its whole pictures
pub cut_front : (size : ℕ) (ps : List (List ℕ)) (rest bytes : List ℕ) → 0 < size → All (λ (p : List ℕ). length p ≡ size) ps → bytes ≡ joined ps ++ rest → (others : List (List ℕ)) × (pieces_from (length bytes / size) size bytes ≡ ps ++ others)
cut_front size ps rest bytes p a e =
    let long : length bytes ≡ length ps * size + length rest = ap (λ (z : List ℕ). length z) e ∙ (length-append (joined ps) rest ∙ ap (λ (n : ℕ). n + length rest) (joined_long size ps a)) in
    let enough : length ps * size ≤ length bytes = omega (arith, long) in
    let there : length ps ≤ length bytes / size = (le-div_iff_mul-le p).1 enough in
    let count = length bytes / size - length ps in
    let all : length bytes / size ≡ length ps + count = omega (arith, there) in
    (pieces_from count size rest, ap (λ (n : ℕ). pieces_from n size bytes) all ∙ (ap (λ (z : List ℕ). pieces_from (length ps + count) size z) e ∙ pieces_front size count ps rest a))

-- The size of a format's pictures

pub kept_size : (format : Format) → IsKept format → format.size ≡ raw_size (layout_of format.fourcc) format.width format.height
kept_size format k =
    subst (λ (x : Format). x.size ≡ raw_size (layout_of x.fourcc) x.width x.height) k refl

some_size : (layout : Layout) (width height : ℕ) → 0 < raw_size layout (width_for layout width) (height_for layout height)
some_size Grey width height =
    let w : 0 < width_for Grey width = omega arith in
    let h : 0 < height_for Grey height = omega arith in
    mul-pos w h
some_size C420 width height =
    let w : 0 < width_for C420 width = omega arith in
    let h : 0 < height_for C420 height = omega arith in
    let both : 0 < width_for C420 width * height_for C420 height = mul-pos w h in
    omega (arith, both)
some_size C422 width height =
    let w : 0 < width_for C422 width = omega arith in
    let h : 0 < height_for C422 height = omega arith in
    let both : 0 < width_for C422 width * height_for C422 height = mul-pos w h in
    omega (arith, both)

pub kept_some : (format : Format) → IsKept format → 0 < format.size
kept_some format k =
    subst (λ (x : Format). 0 < x.size) k (some_size (layout_of (listed_or (grey ∷ yu12 ∷ nv12 ∷ yuyv ∷ []) format.fourcc yu12)) format.width format.height)

-- What is defined for an input

pub output_is : (format : Format) (rates : RunRates) (input : List ℕ) (ps : List (List ℕ)) → IsKept format → pieces_from (length input / format.size) format.size input ≡ ps → encode_output format.fourcc format.width format.height rates input ≡ joined (frames_from fresh_encoder format rates ps)
unfolding encode_output encode_frames pictures_in encoded
output_is format rates input ps k e =
    let g : Geometry = record { width = format.width; height = format.height; layout = layout_of format.fourcc } in
    let bytes_of : List (List ℕ) → List ℕ = λ (l : List (List ℕ)). flat_map encoded_bytes (encoded_after g fresh_encoder (map (λ (planes : List (List ℕ)). (planes, rates)) (map (planes_of format.fourcc format.width format.height) l))) in
    ap (λ (n : ℕ). bytes_of (pieces_from (length input / n) n input)) (sym (kept_size format k)) ∙ (ap bytes_of e ∙ sym (frames_are_encoded fresh_encoder format rates ps))

pub count_is : (format : Format) (rates : RunRates) (input : List ℕ) (count : ℕ) → IsKept format → length input / format.size ≡ count → encode_count format.fourcc format.width format.height rates input ≡ count
count_is format rates input count k e =
    each_picture_is_a_frame.1 format.fourcc format.width format.height rates input ∙ (ap (λ (n : ℕ). length input / n) (sym (kept_size format k)) ∙ e)

pub short_is : (format : Format) (input : List ℕ) (rest : ℕ) → IsKept format → length input % format.size ≡ rest → is_short_raw format.fourcc format.width format.height input ≡ not (nat_eq rest 0)
unfolding is_short_raw
short_is format input rest k e =
    ap (λ (n : ℕ). not (nat_eq (length input % n) 0)) (sym (kept_size format k)) ∙ ap (λ (n : ℕ). not (nat_eq n 0)) e
