-- Pictures that are written one after another.
use Rattle.std.proofs.Common.{◌≡◌, refl, ℕ, zero, suc, ◌+◌, ◌-◌, ◌<◌, ◌≤◌, List, [], ◌∷◌, ◌++◌, length, take, Option, sym, ◌∙◌, ap, subst, arith, append_assoc, length-append}
use Rattle.std.specs.List.{flat_map}
use Rattle.std.specs.Io.KnownBytes.{Appends}
use Rattle.std.proofs.KnownBytes.{Appends-nil, Appends-trans}
use Rattle.std.proofs.lemmas.Grind.{flat_map-append}
use Rattle.std.proofs.lemmas.List.{append-nil, take-append-le}
use Rattle.std.proofs.lemmas.List.FromFn.{map-range_with_len_more}
use Rattle.std.proofs.Math.Seq.{take-append-add}
use Rattle.vc_base.specs.declared.Fourcc.{Fourcc}
use Rattle.vc_defs.specs.Raw.{raw_of, generated, layout_of}
use Rattle.vc_defs.specs.Outputs.{make_output, generated_pictures}
use Rattle.vc_io.specs.Written.{AppendsFront}

-- the bytes of one picture
abbrev pub picture_of : Fourcc → ℕ → ℕ → ℕ → ℕ → List ℕ
picture_of f w h number k = raw_of f (generated (record { width = w; height = h; layout = layout_of f }) k number)

none : (f : Fourcc) (w h number : ℕ) → make_output f w h 0 number ≡ []
unfolding make_output
none f w h number = refl

-- one picture more
one_more : (f : Fourcc) (w h number k : ℕ) → make_output f w h (k + 1) number ≡ make_output f w h k number ++ picture_of f w h number k
unfolding make_output
one_more f w h number k =
    ap (flat_map (raw_of f)) (map-range_with_len_more (λ n. generated (record { width = w; height = h; layout = layout_of f }) n number) 0 k k (omega arith))
    ∙ flat_map-append (raw_of f) (generated_pictures (record { width = w; height = h; layout = layout_of f }) k number) (generated (record { width = w; height = h; layout = layout_of f }) k number ∷ [])
    ∙ ap (λ z. flat_map (raw_of f) (generated_pictures (record { width = w; height = h; layout = layout_of f }) k number) ++ z) (append-nil (picture_of f w h number k))

-- fewer pictures are a prefix of more
some_more : (f : Fourcc) (w h number k m : ℕ) → (rest : List ℕ) × (make_output f w h (k + m) number ≡ make_output f w h k number ++ rest)
some_more f w h number k zero =
    ([], ap (λ t. make_output f w h t number) (let e : k + 0 ≡ k = omega arith in e) ∙ sym (append-nil (make_output f w h k number)))
some_more f w h number k (suc m) =
    let before = some_more f w h number k m in
    let next : k + suc m ≡ (k + m) + 1 = omega arith in (
      before.0 ++ picture_of f w h number (k + m),
      ap (λ t. make_output f w h t number) next
          ∙ one_more f w h number (k + m)
          ∙ ap (λ z. z ++ picture_of f w h number (k + m)) before.1
          ∙ append_assoc (make_output f w h k number) before.0 (picture_of f w h number (k + m)),
    )

-- nothing is written at first
pub none_written : (f : Fourcc) (w h number : ℕ) (old : Option (List ℕ)) → Appends old old (make_output f w h 0 number)
none_written f w h number old = subst (λ z. Appends old old z) (sym (none f w h number)) (Appends-nil old)

-- a picture after those before it
pub more_written : (f : Fourcc) (w h number k : ℕ) (old mid new : Option (List ℕ)) → Appends old mid (make_output f w h k number) →
    Appends mid new (picture_of f w h number k) → Appends old new (make_output f w h (k + 1) number)
more_written f w h number k old mid new before here =
    subst (λ z. Appends old new z) (sym (one_more f w h number k)) (Appends-trans old mid new (make_output f w h k number) (picture_of f w h number k) before here)

-- a prefix of a picture after those before it is a prefix of all
pub front_written : (f : Fourcc) (w h number k count : ℕ) (old mid new : Option (List ℕ)) → k < count → Appends old mid (make_output f w h k number) →
    AppendsFront mid new (picture_of f w h number k) → AppendsFront old new (make_output f w h count number)
front_written f w h number k count old mid new below before here =
    subst (λ z. AppendsFront old new z) (sym whole) (
      length so_far + here.0,
      omega (arith, here.1, length-append (so_far ++ bytes) rest.0, length-append so_far bytes),
      subst (λ z. Appends old new z) (sym front) (Appends-trans old mid new so_far (take here.0 bytes) before here.2),
    )
  where
    so_far : List ℕ
    so_far = make_output f w h k number

    bytes : List ℕ
    bytes = picture_of f w h number k

    rest : (rest : List ℕ) × (make_output f w h (k + 1 + (count - (k + 1))) number ≡ make_output f w h (k + 1) number ++ rest)
    rest = some_more f w h number (k + 1) (count - (k + 1))

    all : k + 1 + (count - (k + 1)) ≡ count
    all = omega arith

    whole : make_output f w h count number ≡ (so_far ++ bytes) ++ rest.0
    whole =
        ap (λ t. make_output f w h t number) (sym all)
        ∙ rest.1
        ∙ ap (λ z. z ++ rest.0) (one_more f w h number k)

    inside : length so_far + here.0 ≤ length (so_far ++ bytes)
    inside = omega (arith, here.1, length-append so_far bytes)

    front : take (length so_far + here.0) ((so_far ++ bytes) ++ rest.0) ≡ so_far ++ take here.0 bytes
    front = take-append-le (length so_far + here.0) (so_far ++ bytes) rest.0 inside ∙ take-append-add so_far bytes here.0
