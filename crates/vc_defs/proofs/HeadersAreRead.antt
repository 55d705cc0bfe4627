-- The bytes from which a header is read are exactly the bytes of a legal header. Each field is written in bytes from
-- which it is read back, and what is read back is checked against all that a legal header keeps to.
use Rattle.std.proofs.Common.{◌≡◌, ◌∙◌, sym, ap, refl, subst, ℕ, suc, zero, ◌+◌, ◌*◌, ◌/◌, ◌%◌, ◌^◌, ◌<◌, ◌≤◌, inl, inr, List, [], ◌∷◌, length, get_or, arith}
use Rattle.std.specs.Prelude.{Bool, true, false, ◌&&◌, nat_eq, nat_lt, nat_le, cond}
use Rattle.std.specs.List.{list_all}
use Rattle.std.specs.Str.{bytes_eq}
use Rattle.std.specs.declared.option.Option.{Option}
use Rattle.std.specs.declared.option.Option.TheVariants.{Some, None}
use Rattle.std.proofs.lemmas.Nat.{from_be_bytes-to_be_bytes_4}
use Rattle.std.proofs.lemmas.Option.{none-some}
use Rattle.std.proofs.lemmas.Bool.{and_parts, and_from, cond-true}
use Rattle.std.proofs.lemmas.Bool.Decides.{nat_tests}
use Rattle.std.proofs.lemmas.Slice.Eq.{bytes_eq-Decides}
use Rattle.vc_defs.specs.declared.Layout.{Layout}
use Rattle.vc_defs.specs.declared.Layout.TheVariants.{Grey, C420, C422}
use Rattle.vc_defs.specs.declared.Geometry.{Geometry}
use Rattle.vc_defs.specs.declared.Header.{Header}
use Rattle.vc_defs.specs.Headers.{bit, layout_bits, number_bits, version_of, flags_of, header_bytes, is_legal, is_legal_geometry, is_legal_size, size_suits}
use Rattle.vc_defs.specs.Headers.{raw_suits, is_legal_number, is_whole_header, IsHeader, field_at, has_bit, layout_from, number_from, header_with}
use Rattle.vc_defs.specs.Headers.{checked_header, header_from}
use Rattle.vc_base.specs.Limits.{most_bytes}
use Rattle.vc_defs.specs.Laws.{HeadersAreRead}
use Rattle.vc_defs.proofs.BlocksAreRead.{chosen, some_same}

-- what a legal header keeps to
pub record Kept (limit : ℕ) (h : Header) : Type 0 where
  pub width : h.geometry.width ≤ 4096
  pub height : h.geometry.height ≤ 2160
  pub size : h.size ≤ 17694720
  pub number : is_legal_number h.number ≡ true
  pub planes : length h.raw ≡ 3
  pub colours : length h.colour ≡ 4
  pub bytes : list_all (λ c. nat_lt c 256) h.colour ≡ true

pub kept : (limit : ℕ) (h : Header) → is_legal limit h ≡ true → Kept limit h
unfolding is_legal
kept limit h e =
    let a = and_parts (is_legal_geometry h.geometry && raw_suits h.geometry.layout h.raw && nat_le h.size most_bytes && nat_le h.size limit && is_legal_number h.number) (is_whole_header h) e in
    let b = and_parts (is_legal_geometry h.geometry && raw_suits h.geometry.layout h.raw && nat_le h.size most_bytes && nat_le h.size limit) (is_legal_number h.number) a.0 in
    let c = and_parts (is_legal_geometry h.geometry && raw_suits h.geometry.layout h.raw && nat_le h.size most_bytes) (nat_le h.size limit) b.0 in
    let d = and_parts (is_legal_geometry h.geometry && raw_suits h.geometry.layout h.raw) (nat_le h.size most_bytes) c.0 in
    let f = and_parts (is_legal_geometry h.geometry) (raw_suits h.geometry.layout h.raw) d.0 in
    let g = and_parts (is_legal_size h.geometry.width h.geometry.height) (size_suits h.geometry.layout h.geometry.width h.geometry.height) f.0 in
    let i = and_parts (nat_le 16 h.geometry.width && nat_le h.geometry.width 4096 && nat_le 16 h.geometry.height) (nat_le h.geometry.height 2160) g.0 in
    let j = and_parts (nat_le 16 h.geometry.width && nat_le h.geometry.width 4096) (nat_le 16 h.geometry.height) i.0 in
    let k = and_parts (nat_le 16 h.geometry.width) (nat_le h.geometry.width 4096) j.0 in
    let w = and_parts (nat_eq (length h.raw) 3 && nat_eq (length h.colour) 4) (list_all (λ c. nat_lt c 256) h.colour) a.1 in
    let l = and_parts (nat_eq (length h.raw) 3) (nat_eq (length h.colour) 4) w.0 in
    let width : nat_le h.geometry.width 4096 ≡ true = k.1 in
    let height : nat_le h.geometry.height 2160 ≡ true = i.1 in
    let size : nat_le h.size 17694720 ≡ true = d.1 in
    let planes : nat_eq (length h.raw) 3 ≡ true = l.0 in
    let colours : nat_eq (length h.colour) 4 ≡ true = l.1 in
    record {
      width = grind (arith, nat_tests);
      height = grind (arith, nat_tests);
      size = grind (arith, nat_tests);
      number = b.1;
      planes = grind (arith, nat_tests);
      colours = grind (arith, nat_tests);
      bytes = w.1;
    }

pub one : Bool → ℕ
one true = 1
one false = 0

pub one_small : (b : Bool) → one b ≤ 1
unfolding one
one_small true = omega arith
one_small false = omega arith

bit_is : (n : ℕ) (b : Bool) → bit n b ≡ 2 ^ n * one b
unfolding one
bit_is n true = omega arith
bit_is n false = omega arith

is_one : (n : ℕ) (b : Bool) → n ≡ one b → nat_eq n 1 ≡ b
unfolding one
is_one n true e = ap (λ k. nat_eq k 1) e
is_one n false e = ap (λ k. nat_eq k 1) e

pub chroma : Layout → ℕ
chroma Grey = 0
chroma C420 = 1
chroma C422 = 1

pub full : Layout → ℕ
full Grey = 0
full C420 = 0
full C422 = 1

pub chroma_small : (l : Layout) → chroma l ≤ 1
unfolding chroma
chroma_small Grey = omega arith
chroma_small C420 = omega arith
chroma_small C422 = omega arith

pub full_small : (l : Layout) → full l ≤ 1
unfolding full
full_small Grey = omega arith
full_small C420 = omega arith
full_small C422 = omega arith

layout_is : (l : Layout) → layout_bits l ≡ 131072 * chroma l + 128 * full l
unfolding chroma full
layout_is Grey = refl
layout_is C420 = refl
layout_is C422 = refl

pub number_of : Option ℕ → ℕ
number_of None = 0
number_of (Some n) = n

number_is : (o : Option ℕ) → number_bits o ≡ 2097152 * number_of o
unfolding number_of
number_is None = refl
number_is (Some n) = omega arith

pub number_small : (o : Option ℕ) → is_legal_number o ≡ true → number_of o < 2048
unfolding number_of
number_small None e = omega arith
number_small (Some n) e = let t : nat_lt n 2048 ≡ true = e in grind (arith, nat_tests)

layout_back : (f : ℕ) (l : Layout) → f / 65536 % 8 ≡ 2 * chroma l → f / 128 % 2 ≡ full l → layout_from f ≡ Some l
unfolding chroma full
layout_back f Grey p q = rw (p, q) refl
layout_back f C420 p q = rw (p, q) refl
layout_back f C422 p q = rw (p, q) refl

number_back : (f : ℕ) (o : Option ℕ) → f / 2097152 ≡ number_of o → number_from (version_of o) f ≡ o
unfolding number_of
number_back f None e = refl
number_back f (Some n) e = ap (λ k. Some k) e

-- the sum of flags as one number, and what its bits are
pub flags_number : ℕ → ℕ → ℕ → ℕ → ℕ → ℕ → ℕ → ℕ
flags_number a b c k m l n = 16 * a + 32 * b + 64 * c + 1024 * k + (131072 * m + 128 * l) + 524288 + 2097152 * n

pub record Bits (f a b c k m l n : ℕ) : Type 0 where
  pub bit_4 : f / 16 % 2 ≡ a
  pub bit_5 : f / 32 % 2 ≡ b
  pub bit_6 : f / 64 % 2 ≡ c
  pub bit_10 : f / 1024 % 2 ≡ k
  pub bits_16 : f / 65536 % 8 ≡ 2 * m
  pub bit_7 : f / 128 % 2 ≡ l
  pub bits_21 : f / 2097152 ≡ n
  pub small : f < 4294967296

pub bits_of : (a b c k m l n : ℕ) → a ≤ 1 → b ≤ 1 → c ≤ 1 → k ≤ 1 → m ≤ 1 → l ≤ 1 → n < 2048 → Bits (flags_number a b c k m l n) a b c k m l n
unfolding flags_number
bits_of a b c k m l n ha hb hc hk hm hl hn =
    record { bit_4 = omega arith; bit_5 = omega arith; bit_6 = omega arith; bit_10 = omega arith; bits_16 = omega arith; bit_7 = omega arith; bits_21 = omega arith; small = omega arith }

pub flags_are : (h : Header) → flags_of h ≡ flags_number (one (get_or h.raw 0 false)) (one (get_or h.raw 1 false)) (one (get_or h.raw 2 false)) (one h.key) (chroma h.geometry.layout) (full h.geometry.layout) (number_of h.number)
unfolding flags_number
flags_are h =
    omega (arith, bit_is 4 (get_or h.raw 0 false), bit_is 5 (get_or h.raw 1 false), bit_is 6 (get_or h.raw 2 false), bit_is 10 h.key, layout_is h.geometry.layout, number_is h.number)

unfoldable pub made : Geometry → Bool → Bool → Bool → Bool → ℕ → ℕ → ℕ → ℕ → ℕ → Option ℕ → Header
made g key r0 r1 r2 c0 c1 c2 c3 size number =
    record { geometry = g; key = key; raw = r0 ∷ r1 ∷ r2 ∷ []; colour = c0 ∷ c1 ∷ c2 ∷ c3 ∷ []; size = size; number = number }

version_small : (o : Option ℕ) → version_of o < 4294967296
version_small None = omega arith
version_small (Some n) = omega arith

-- the fields of the bytes of a header
record Fields (bytes : List ℕ) (h : Header) (c0 c1 c2 c3 : ℕ) : Type 0 where
  version : field_at bytes 8 ≡ version_of h.number
  width : field_at bytes 12 ≡ h.geometry.width
  height : field_at bytes 16 ≡ h.geometry.height
  flags : field_at bytes 20 ≡ flags_of h
  space : field_at bytes 24 ≡ c0
  transfer : field_at bytes 28 ≡ c1
  encoding : field_at bytes 32 ≡ c2
  range : field_at bytes 36 ≡ c3
  size : field_at bytes 40 ≡ h.size

fields_of : (g : Geometry) (key r0 r1 r2 : Bool) (c0 c1 c2 c3 size : ℕ) (number : Option ℕ) → g.width < 4294967296 → g.height < 4294967296 → flags_of (made g key r0 r1 r2 c0 c1 c2 c3 size number) < 4294967296 →
    c0 < 4294967296 → c1 < 4294967296 → c2 < 4294967296 → c3 < 4294967296 → size < 4294967296 →
    Fields (header_bytes (made g key r0 r1 r2 c0 c1 c2 c3 size number)) (made g key r0 r1 r2 c0 c1 c2 c3 size number) c0 c1 c2 c3
unfolding header_bytes made
fields_of g key r0 r1 r2 c0 c1 c2 c3 size number hw hh hf h0 h1 h2 h3 hs = record {
  version = from_be_bytes-to_be_bytes_4 (version_of number) (version_small number);
  width = from_be_bytes-to_be_bytes_4 g.width hw;
  height = from_be_bytes-to_be_bytes_4 g.height hh;
  flags = from_be_bytes-to_be_bytes_4 (flags_of (made g key r0 r1 r2 c0 c1 c2 c3 size number)) hf;
  space = from_be_bytes-to_be_bytes_4 c0 h0;
  transfer = from_be_bytes-to_be_bytes_4 c1 h1;
  encoding = from_be_bytes-to_be_bytes_4 c2 h2;
  range = from_be_bytes-to_be_bytes_4 c3 h3;
  size = from_be_bytes-to_be_bytes_4 size hs;
}

abbrev built : Layout → ℕ → ℕ → Bool → Bool → Bool → Bool → ℕ → ℕ → ℕ → ℕ → ℕ → Option ℕ → Header
built l w h k a b c d0 d1 d2 d3 s n =
    record { geometry = record { width = w; height = h; layout = l }; key = k; raw = a ∷ b ∷ c ∷ []; colour = d0 ∷ d1 ∷ d2 ∷ d3 ∷ []; size = s; number = n }

-- bytes with these fields would be this header
would_be : (bytes : List ℕ) (g : Geometry) (key r0 r1 r2 : Bool) (c0 c1 c2 c3 size : ℕ) (number : Option ℕ) → Fields bytes (made g key r0 r1 r2 c0 c1 c2 c3 size number) c0 c1 c2 c3 →
    Bits (flags_of (made g key r0 r1 r2 c0 c1 c2 c3 size number)) (one r0) (one r1) (one r2) (one key) (chroma g.layout) (full g.layout) (number_of number) →
    header_with bytes g.layout ≡ made g key r0 r1 r2 c0 c1 c2 c3 size number
unfolding made
would_be bytes g key r0 r1 r2 c0 c1 c2 c3 size number f b =
    let h4 : has_bit (field_at bytes 20) 4 ≡ r0 = ap (λ x. has_bit x 4) f.flags ∙ is_one _ r0 b.bit_4 in
    let h5 : has_bit (field_at bytes 20) 5 ≡ r1 = ap (λ x. has_bit x 5) f.flags ∙ is_one _ r1 b.bit_5 in
    let h6 : has_bit (field_at bytes 20) 6 ≡ r2 = ap (λ x. has_bit x 6) f.flags ∙ is_one _ r2 b.bit_6 in
    let h10 : has_bit (field_at bytes 20) 10 ≡ key = ap (λ x. has_bit x 10) f.flags ∙ is_one _ key b.bit_10 in
    let n : number_from (field_at bytes 8) (field_at bytes 20) ≡ number =
    ap (λ v. number_from v (field_at bytes 20)) f.version ∙ ap (λ x. number_from (version_of number) x) f.flags ∙ number_back (flags_of (made g key r0 r1 r2 c0 c1 c2 c3 size number)) number b.bits_21 in
    ap (λ x.
    built g.layout x (field_at bytes 16) (has_bit (field_at bytes 20) 10) (has_bit (field_at bytes 20) 4) (has_bit (field_at bytes 20) 5)
    (has_bit (field_at bytes 20) 6) (field_at bytes 24) (field_at bytes 28) (field_at bytes 32) (field_at bytes 36) (field_at bytes 40)
    (number_from (field_at bytes 8) (field_at bytes 20)))
    f.width
    ∙ ap (λ x.
    built g.layout (g.width) x (has_bit (field_at bytes 20) 10) (has_bit (field_at bytes 20) 4) (has_bit (field_at bytes 20) 5)
    (has_bit (field_at bytes 20) 6) (field_at bytes 24) (field_at bytes 28) (field_at bytes 32) (field_at bytes 36) (field_at bytes 40)
    (number_from (field_at bytes 8) (field_at bytes 20)))
    f.height
    ∙ ap (λ x.
    built g.layout (g.width) (g.height) x (has_bit (field_at bytes 20) 4) (has_bit (field_at bytes 20) 5) (has_bit (field_at bytes 20) 6)
    (field_at bytes 24) (field_at bytes 28) (field_at bytes 32) (field_at bytes 36) (field_at bytes 40)
    (number_from (field_at bytes 8) (field_at bytes 20)))
    h10
    ∙ ap (λ x.
    built g.layout (g.width) (g.height) key x (has_bit (field_at bytes 20) 5) (has_bit (field_at bytes 20) 6) (field_at bytes 24) (field_at bytes 28)
    (field_at bytes 32) (field_at bytes 36) (field_at bytes 40) (number_from (field_at bytes 8) (field_at bytes 20)))
    h4
    ∙ ap (λ x.
    built g.layout (g.width) (g.height) key r0 x (has_bit (field_at bytes 20) 6) (field_at bytes 24) (field_at bytes 28) (field_at bytes 32)
    (field_at bytes 36) (field_at bytes 40) (number_from (field_at bytes 8) (field_at bytes 20)))
    h5
    ∙ ap (λ x. built g.layout (g.width) (g.height) key r0 r1 x (field_at bytes 24) (field_at bytes 28) (field_at bytes 32) (field_at bytes 36) (field_at bytes 40) (number_from (field_at bytes 8) (field_at bytes 20))) h6
    ∙ ap (λ x. built g.layout (g.width) (g.height) key r0 r1 r2 x (field_at bytes 28) (field_at bytes 32) (field_at bytes 36) (field_at bytes 40) (number_from (field_at bytes 8) (field_at bytes 20))) f.space
    ∙ ap (λ x. built g.layout (g.width) (g.height) key r0 r1 r2 c0 x (field_at bytes 32) (field_at bytes 36) (field_at bytes 40) (number_from (field_at bytes 8) (field_at bytes 20))) f.transfer
    ∙ ap (λ x. built g.layout (g.width) (g.height) key r0 r1 r2 c0 c1 x (field_at bytes 36) (field_at bytes 40) (number_from (field_at bytes 8) (field_at bytes 20))) f.encoding
    ∙ ap (λ x. built g.layout (g.width) (g.height) key r0 r1 r2 c0 c1 c2 x (field_at bytes 40) (number_from (field_at bytes 8) (field_at bytes 20))) f.range
    ∙ ap (λ x. built g.layout (g.width) (g.height) key r0 r1 r2 c0 c1 c2 c3 x (number_from (field_at bytes 8) (field_at bytes 20))) f.size
    ∙ ap (λ x. built g.layout (g.width) (g.height) key r0 r1 r2 c0 c1 c2 c3 size x) n

three_there : (xs : List Bool) → length xs ≡ 3 → xs ≡ get_or xs 0 false ∷ get_or xs 1 false ∷ get_or xs 2 false ∷ []
three_there [] e = absurd (omega (arith, e))
three_there (a ∷ []) e = absurd (omega (arith, e))
three_there (a ∷ b ∷ []) e = absurd (omega (arith, e))
three_there (a ∷ b ∷ c ∷ []) e = refl
three_there (a ∷ b ∷ c ∷ d ∷ xs) e = absurd (omega (arith, e))

four_there : (xs : List ℕ) → length xs ≡ 4 → xs ≡ get_or xs 0 0 ∷ get_or xs 1 0 ∷ get_or xs 2 0 ∷ get_or xs 3 0 ∷ []
four_there [] e = absurd (omega (arith, e))
four_there (a ∷ []) e = absurd (omega (arith, e))
four_there (a ∷ b ∷ []) e = absurd (omega (arith, e))
four_there (a ∷ b ∷ c ∷ []) e = absurd (omega (arith, e))
four_there (a ∷ b ∷ c ∷ d ∷ []) e = refl
four_there (a ∷ b ∷ c ∷ d ∷ f ∷ xs) e = absurd (omega (arith, e))

pub bytes_at : (xs : List ℕ) (i : ℕ) → list_all (λ c. nat_lt c 256) xs ≡ true → get_or xs i 0 < 256
bytes_at [] i e = omega arith
bytes_at (x ∷ xs) zero e = let t = and_parts (nat_lt x 256) (list_all (λ c. nat_lt c 256) xs) e in let first : nat_lt x 256 ≡ true = t.0 in grind (arith, nat_tests)
bytes_at (x ∷ xs) (suc i) e = bytes_at xs i (and_parts (nat_lt x 256) (list_all (λ c. nat_lt c 256) xs) e).1

abbrev pub remade : Header → Header
remade h = made h.geometry h.key (get_or h.raw 0 false) (get_or h.raw 1 false) (get_or h.raw 2 false) (get_or h.colour 0 0) (get_or h.colour 1 0) (get_or h.colour 2 0) (get_or h.colour 3 0) h.size h.number

pub remade_is : (h : Header) → length h.raw ≡ 3 → length h.colour ≡ 4 → h ≡ remade h
unfolding made
remade_is h p q =
    ap (λ raw. record { geometry = h.geometry; key = h.key; raw = raw; colour = h.colour; size = h.size; number = h.number }) (three_there h.raw p)
    ∙ ap (λ colour. record { geometry = h.geometry; key = h.key; raw = get_or h.raw 0 false ∷ get_or h.raw 1 false ∷ get_or h.raw 2 false ∷ []; colour = colour; size = h.size; number = h.number }) (four_there h.colour q)

pub flags_of_remade : (h : Header) → flags_of (remade h) ≡ flags_of h
unfolding made
flags_of_remade h = refl

-- Bytes of a legal header are read as it.
pub header_back : (limit : ℕ) (h : Header) → is_legal limit h ≡ true → header_from limit (header_bytes h) ≡ Some h
unfolding header_from
header_back limit h legal =
    let k = kept limit h legal in
    let same : h ≡ remade h = remade_is h k.planes k.colours in
    let number : number_of h.number < 2048 = number_small h.number k.number in
    let b0 : Bits
    (flags_number (one (get_or h.raw 0 false)) (one (get_or h.raw 1 false)) (one (get_or h.raw 2 false)) (one h.key) (chroma h.geometry.layout) (full h.geometry.layout) (number_of h.number))
    (one (get_or h.raw 0 false)) (one (get_or h.raw 1 false)) (one (get_or h.raw 2 false)) (one h.key) (chroma h.geometry.layout)
    (full h.geometry.layout) (number_of h.number) =
    bits_of (one (get_or h.raw 0 false)) (one (get_or h.raw 1 false)) (one (get_or h.raw 2 false)) (one h.key) (chroma h.geometry.layout) (full h.geometry.layout) (number_of h.number)
    (one_small (get_or h.raw 0 false)) (one_small (get_or h.raw 1 false)) (one_small (get_or h.raw 2 false)) (one_small h.key) (chroma_small h.geometry.layout) (full_small h.geometry.layout) number in
    let b : Bits (flags_of (remade h)) (one (get_or h.raw 0 false)) (one (get_or h.raw 1 false)) (one (get_or h.raw 2 false)) (one h.key) (chroma h.geometry.layout) (full h.geometry.layout) (number_of h.number) =
    subst
    (λ (f : ℕ). Bits f (one (get_or h.raw 0 false)) (one (get_or h.raw 1 false)) (one (get_or h.raw 2 false)) (one h.key) (chroma h.geometry.layout) (full h.geometry.layout) (number_of h.number))
    (sym (flags_of_remade h ∙ flags_are h)) b0 in
    let w0 : get_or h.colour 0 0 < 256 = bytes_at h.colour 0 k.bytes in
    let w1 : get_or h.colour 1 0 < 256 = bytes_at h.colour 1 k.bytes in
    let w2 : get_or h.colour 2 0 < 256 = bytes_at h.colour 2 k.bytes in
    let w3 : get_or h.colour 3 0 < 256 = bytes_at h.colour 3 k.bytes in
    let f : Fields (header_bytes (remade h)) (remade h) (get_or h.colour 0 0) (get_or h.colour 1 0) (get_or h.colour 2 0) (get_or h.colour 3 0) =
    fields_of h.geometry h.key (get_or h.raw 0 false) (get_or h.raw 1 false) (get_or h.raw 2 false) (get_or h.colour 0 0) (get_or h.colour 1 0) (get_or h.colour 2 0) (get_or h.colour 3 0) h.size h.number
    (omega (arith, k.width)) (omega (arith, k.height)) b.small (omega (arith, w0)) (omega (arith, w1)) (omega (arith, w2)) (omega (arith, w3)) (omega (arith, k.size)) in
    let is : header_with (header_bytes (remade h)) h.geometry.layout ≡ remade h =
    would_be (header_bytes (remade h)) h.geometry h.key (get_or h.raw 0 false) (get_or h.raw 1 false) (get_or h.raw 2 false) (get_or h.colour 0 0) (get_or h.colour 1 0) (get_or h.colour 2 0) (get_or h.colour 3 0) h.size h.number f b in
    let layout : layout_from (field_at (header_bytes (remade h)) 20) ≡ Some h.geometry.layout =
    ap (λ f. layout_from f) f.flags ∙ layout_back (flags_of (remade h)) h.geometry.layout b.bits_16 b.bit_7 in
    let is' : header_with (header_bytes h) h.geometry.layout ≡ h = ap (λ g. header_with (header_bytes g) h.geometry.layout) same ∙ is ∙ sym same in
    let layout' : layout_from (field_at (header_bytes h) 20) ≡ Some h.geometry.layout = ap (λ g. layout_from (field_at (header_bytes g) 20)) same ∙ layout in
    ap (λ l. checked_header limit (header_bytes h) l) layout'
    ∙ ap (λ g. cond (is_legal limit g && bytes_eq (header_bytes h) (header_bytes g)) (Some g) None) is'
    ∙ cond-true (is_legal limit h && bytes_eq (header_bytes h) (header_bytes h)) (Some h) None
    (and_from (is_legal limit h) (bytes_eq (header_bytes h) (header_bytes h)) legal ((bytes_eq-Decides (header_bytes h) (header_bytes h)).1 refl))

header_is : (limit : ℕ) (bytes : List ℕ) (h : Header) (o : Option Layout) → checked_header limit bytes o ≡ Some h → IsHeader limit bytes h
header_is limit bytes h None e = absurd (none-some h e)
header_is limit bytes h (Some l) e =
    elim (chosen (is_legal limit (header_with bytes l) && bytes_eq bytes (header_bytes (header_with bytes l))) (Some (header_with bytes l)) None (Some h) e) [
      | inl p ↦
          let same : header_with bytes l ≡ h = some_same (header_with bytes l) h p.1 in
          let both = and_parts (is_legal limit (header_with bytes l)) (bytes_eq bytes (header_bytes (header_with bytes l))) p.0 in
          (ap (λ g. is_legal limit g) (sym same) ∙ both.0, (bytes_eq-Decides bytes (header_bytes (header_with bytes l))).0 both.1 ∙ ap (λ g. header_bytes g) same)
      | inr p ↦ absurd (none-some h p.1)
    ]

pub headers_read : HeadersAreRead
unfolding header_from
headers_read limit bytes h = (
  λ e. header_is limit bytes h (layout_from (field_at bytes 20)) e,
  λ p. ap (λ t. header_from limit t) p.1 ∙ header_back limit h p.0,
)
