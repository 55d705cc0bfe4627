-- No magic begins inside a legal header before its last three bytes, so a header is known before anything can cut its
-- frame. At each earlier place some byte of the header differs from the byte that the magic would have there.
use Rattle.std.proofs.Common.{◌≡◌, ◌≢◌, ◌∙◌, sym, ap, refl, subst, ℕ, suc, zero, ◌+◌, ◌-◌, ◌*◌, ◌/◌, ◌%◌, ◌<◌, ◌≤◌, inl, inr, List, [], ◌∷◌, take, drop, get_or, arith}
use Rattle.std.specs.Prelude.{Bool, true, false}
use Rattle.std.specs.declared.option.Option.{Option}
use Rattle.std.specs.declared.option.Option.TheVariants.{Some, None}
use Rattle.std.proofs.lemmas.Option.{none-some}
use Rattle.std.proofs.lemmas.Bool.{cases_lt}
use Rattle.std.proofs.lemmas.Slice.Eq.{bytes_eq-Decides}
use Rattle.std.proofs.lemmas.List.{get_or-take, get_or-drop, drop-drop}
use Rattle.vc_defs.specs.declared.Geometry.{Geometry}
use Rattle.vc_defs.specs.declared.Header.{Header}
use Rattle.vc_defs.specs.Headers.{magic, flags_of, header_bytes, is_legal, header_from}
use Rattle.vc_defs.specs.Places.{one_further, first_magic}
use Rattle.vc_defs.proofs.BlocksAreRead.{chosen, some_same}
use Rattle.vc_defs.proofs.HeadersAreRead.{kept, one, one_small, chroma, full, chroma_small, full_small, number_of, number_small, flags_number, Bits, bits_of, flags_are, made, remade, remade_is, flags_of_remade, bytes_at, headers_read}
use Rattle.vc_defs.proofs.KnownPlacesStay.{is_magic}

-- some bytes of a legal header: none of them stands in the magic at its place
record Stops (bytes : List ℕ) : Type 0 where
  at_12 : get_or bytes 12 0 ≡ 0
  at_16 : get_or bytes 16 0 ≡ 0
  at_17 : get_or bytes 17 0 ≡ 0
  at_21 : get_or bytes 21 0 ≢ 255
  at_24 : get_or bytes 24 0 ≡ 0
  at_28 : get_or bytes 28 0 ≡ 0
  at_32 : get_or bytes 32 0 ≡ 0
  at_36 : get_or bytes 36 0 ≡ 0
  at_40 : get_or bytes 40 0 ≤ 1

flags_byte : (f m : ℕ) → m ≤ 1 → f / 65536 % 8 ≡ 2 * m → f / 65536 % 256 ≢ 255
flags_byte f m h e = λ is. omega arith

made_stops : (g : Geometry) (key r0 r1 r2 : Bool) (c0 c1 c2 c3 size : ℕ) (number : Option ℕ) (m : ℕ) → g.width ≤ 4096 → g.height ≤ 2160 → c0 < 256 → c1 < 256 → c2 < 256 → c3 < 256 → size ≤ 17694720 → m ≤ 1 →
    flags_of (made g key r0 r1 r2 c0 c1 c2 c3 size number) / 65536 % 8 ≡ 2 * m → Stops (header_bytes (made g key r0 r1 r2 c0 c1 c2 c3 size number))
unfolding header_bytes made
made_stops g key r0 r1 r2 c0 c1 c2 c3 size number m hw hh h0 h1 h2 h3 hs hm hf =
    let a : g.width / 16777216 % 256 ≡ 0 = omega arith in
    let b : g.height / 16777216 % 256 ≡ 0 = omega arith in
    let c : g.height / 65536 % 256 ≡ 0 = omega arith in
    let d0 : c0 / 16777216 % 256 ≡ 0 = omega arith in
    let d1 : c1 / 16777216 % 256 ≡ 0 = omega arith in
    let d2 : c2 / 16777216 % 256 ≡ 0 = omega arith in
    let d3 : c3 / 16777216 % 256 ≡ 0 = omega arith in
    let s : size / 16777216 % 256 ≤ 1 = omega arith in
    record {
      at_12 = a;
      at_16 = b;
      at_17 = c;
      at_21 = flags_byte (flags_of (made g key r0 r1 r2 c0 c1 c2 c3 size number)) m hm hf;
      at_24 = d0;
      at_28 = d1;
      at_32 = d2;
      at_36 = d3;
      at_40 = s;
    }

header_stops : (limit : ℕ) (h : Header) → is_legal limit h ≡ true → Stops (header_bytes h)
header_stops limit h legal =
    let k = kept limit h legal in
    let number : number_of h.number < 2048 = number_small h.number k.number in
    let b0 : Bits
    (flags_number (one (get_or h.raw 0 false)) (one (get_or h.raw 1 false)) (one (get_or h.raw 2 false)) (one h.key) (chroma h.geometry.layout) (full h.geometry.layout) (number_of h.number))
    (one (get_or h.raw 0 false)) (one (get_or h.raw 1 false)) (one (get_or h.raw 2 false)) (one h.key) (chroma h.geometry.layout)
    (full h.geometry.layout) (number_of h.number) =
    bits_of (one (get_or h.raw 0 false)) (one (get_or h.raw 1 false)) (one (get_or h.raw 2 false)) (one h.key) (chroma h.geometry.layout) (full h.geometry.layout) (number_of h.number)
    (one_small (get_or h.raw 0 false)) (one_small (get_or h.raw 1 false)) (one_small (get_or h.raw 2 false)) (one_small h.key) (chroma_small h.geometry.layout) (full_small h.geometry.layout) number in
    let bits : flags_of (remade h) / 65536 % 8 ≡ 2 * chroma h.geometry.layout = ap (λ f. f / 65536 % 8) (flags_of_remade h ∙ flags_are h) ∙ b0.bits_16 in
    subst (λ (g : Header). Stops (header_bytes g)) (sym (remade_is h k.planes k.colours))
    (made_stops h.geometry h.key (get_or h.raw 0 false) (get_or h.raw 1 false) (get_or h.raw 2 false) (get_or h.colour 0 0) (get_or h.colour 1 0) (get_or h.colour 2 0) (get_or h.colour 3 0) h.size h.number (chroma h.geometry.layout)
    k.width k.height (bytes_at h.colour 0 k.bytes) (bytes_at h.colour 1 k.bytes) (bytes_at h.colour 2 k.bytes) (bytes_at h.colour 3 k.bytes) k.size (chroma_small h.geometry.layout) bits)

-- where the magic is seen first it stands
pub magic_there : (bytes : List ℕ) (n : ℕ) → first_magic bytes ≡ Some n → is_magic (drop n bytes) ≡ true
magic_there [] n e = absurd (none-some n e)
magic_there (b ∷ bytes) n e =
    elim (chosen (is_magic (b ∷ bytes)) (Some 0) (one_further (first_magic bytes)) (Some n) e) [
      | inl p ↦ ap (λ k. is_magic (drop k (b ∷ bytes))) (sym (some_same 0 n p.1)) ∙ p.0
      | inr p ↦ further (first_magic bytes) (λ m is. magic_there bytes m is) p.1
    ]
  where
    further : (o : Option ℕ) → ((m : ℕ) → o ≡ Some m → is_magic (drop m bytes) ≡ true) → one_further o ≡ Some n → is_magic (drop n (b ∷ bytes)) ≡ true
    further None is e = absurd (none-some n e)
    further (Some m) is e =
        let same : m + 1 ≡ n = some_same (m + 1) n e in
        let same' : suc m ≡ n = omega arith in
        ap (λ k. is_magic (drop k (b ∷ bytes))) (sym same') ∙ is m refl

magic_ff : (j : ℕ) → j < 4 → get_or magic (4 + j) 0 ≡ 255
magic_ff zero h = refl
magic_ff (suc zero) h = refl
magic_ff (suc (suc zero)) h = refl
magic_ff (suc (suc (suc zero))) h = refl
magic_ff (suc (suc (suc (suc j)))) h = absurd (omega arith)

magic_4f : (j : ℕ) → j < 4 → get_or magic j 0 ≡ 79
magic_4f zero h = refl
magic_4f (suc zero) h = refl
magic_4f (suc (suc zero)) h = refl
magic_4f (suc (suc (suc zero))) h = refl
magic_4f (suc (suc (suc (suc j)))) h = absurd (omega arith)

-- a byte of a magic that stands at a place
pub magic_byte : (bytes : List ℕ) (o j : ℕ) → is_magic (drop o bytes) ≡ true → j < 8 → get_or bytes (o + j) 0 ≡ get_or magic j 0
magic_byte bytes o j e h =
    let same : magic ≡ take 8 (drop o bytes) = (bytes_eq-Decides magic (take 8 (drop o bytes))).0 e in
    sym (get_or-drop o bytes j 0) ∙ sym (get_or-take 8 (drop o bytes) j 0 h) ∙ ap (λ t. get_or t j 0) (sym same)

pub ff_there : (bytes : List ℕ) (o i : ℕ) → is_magic (drop o bytes) ≡ true → o + 4 ≤ i → i < o + 8 → get_or bytes i 0 ≡ 255
ff_there bytes o i e h k =
    let is : i ≡ o + (4 + (i - o - 4)) = omega arith in
    ap (λ n. get_or bytes n 0) is ∙ magic_byte bytes o (4 + (i - o - 4)) e (omega arith) ∙ magic_ff (i - o - 4) (omega arith)

first_there : (bytes : List ℕ) (o i : ℕ) → is_magic (drop o bytes) ≡ true → o ≤ i → i < o + 4 → get_or bytes i 0 ≡ 79
first_there bytes o i e h k =
    let is : i ≡ o + (i - o) = omega arith in
    ap (λ n. get_or bytes n 0) is ∙ magic_byte bytes o (i - o) e (omega arith) ∙ magic_4f (i - o) (omega arith)

none_inside : (bytes : List ℕ) (o : ℕ) → Stops bytes → is_magic (drop o bytes) ≡ true → 8 ≤ o → o < 41 → ⊥
none_inside bytes o s e low high =
    elim (cases_lt o 9) [
      | inl h ↦ let f : get_or bytes 12 0 ≡ 255 = ff_there bytes o 12 e (omega arith) (omega arith) in omega (arith, f, s.at_12)
      | inr h9 ↦
          elim (cases_lt o 13) [
            | inl h ↦ let f : get_or bytes 16 0 ≡ 255 = ff_there bytes o 16 e (omega arith) (omega arith) in omega (arith, f, s.at_16)
            | inr h13 ↦
                elim (cases_lt o 14) [
                  | inl h ↦ let f : get_or bytes 17 0 ≡ 255 = ff_there bytes o 17 e (omega arith) (omega arith) in omega (arith, f, s.at_17)
                  | inr h14 ↦
                      elim (cases_lt o 17) [
                        | inl h ↦ s.at_21 (ff_there bytes o 21 e (omega arith) (omega arith))
                        | inr h17 ↦ late h17
                      ]
                ]
          ]
    ]
  where
    later : 25 ≤ o → ⊥
    later h25 =
        elim (cases_lt o 29) [
          | inl h ↦ let f : get_or bytes 32 0 ≡ 255 = ff_there bytes o 32 e (omega arith) (omega arith) in omega (arith, f, s.at_32)
          | inr h29 ↦
              elim (cases_lt o 33) [
                | inl h ↦ let f : get_or bytes 36 0 ≡ 255 = ff_there bytes o 36 e (omega arith) (omega arith) in omega (arith, f, s.at_36)
                | inr h33 ↦
                    elim (cases_lt o 37) [
                      | inl h ↦ let f : get_or bytes 40 0 ≡ 255 = ff_there bytes o 40 e (omega arith) (omega arith) in omega (arith, f, s.at_40)
                      | inr h37 ↦ let f : get_or bytes 40 0 ≡ 79 = first_there bytes o 40 e (omega arith) (omega arith) in omega (arith, f, s.at_40)
                    ]
              ]
        ]

    late : 17 ≤ o → ⊥
    late h17 =
        elim (cases_lt o 21) [
          | inl h ↦ let f : get_or bytes 24 0 ≡ 255 = ff_there bytes o 24 e (omega arith) (omega arith) in omega (arith, f, s.at_24)
          | inr h21 ↦
              elim (cases_lt o 25) [
                | inl h ↦ let f : get_or bytes 28 0 ≡ 255 = ff_there bytes o 28 e (omega arith) (omega arith) in omega (arith, f, s.at_28)
                | inr h25 ↦ later h25
              ]
        ]

stops_front : (bytes : List ℕ) → Stops (take 44 bytes) → Stops bytes
stops_front bytes s =
    let e : (i : ℕ) → i < 44 → get_or (take 44 bytes) i 0 ≡ get_or bytes i 0 = λ i h. get_or-take 44 bytes i 0 h in
    record {
      at_12 = sym (e 12 (omega arith)) ∙ s.at_12;
      at_16 = sym (e 16 (omega arith)) ∙ s.at_16;
      at_17 = sym (e 17 (omega arith)) ∙ s.at_17;
      at_21 = λ is. s.at_21 (e 21 (omega arith) ∙ is);
      at_24 = sym (e 24 (omega arith)) ∙ s.at_24;
      at_28 = sym (e 28 (omega arith)) ∙ s.at_28;
      at_32 = sym (e 32 (omega arith)) ∙ s.at_32;
      at_36 = sym (e 36 (omega arith)) ∙ s.at_36;
      at_40 = omega (arith, e 40 (omega arith), s.at_40);
    }

-- The next magic behind a legal header's own begins three bytes before the header's end at the earliest.
pub inner_magic : (limit : ℕ) (h : Header) (bytes : List ℕ) (n : ℕ) → header_from limit (take 44 bytes) ≡ Some h → first_magic (drop 8 bytes) ≡ Some n → 33 ≤ n
inner_magic limit h bytes n is e =
    let header = (headers_read limit (take 44 bytes) h).0 is in
    let stops : Stops bytes = stops_front bytes (subst (λ (t : List ℕ). Stops t) (sym header.1) (header_stops limit h header.0)) in
    let there : is_magic (drop (8 + n) bytes) ≡ true = ap is_magic (sym (drop-drop n 8 bytes)) ∙ magic_there (drop 8 bytes) n e in
    elim (cases_lt n 33) [ inl h ↦ absurd (none_inside bytes (8 + n) stops there (omega arith) (omega arith)) | inr h ↦ h ]
