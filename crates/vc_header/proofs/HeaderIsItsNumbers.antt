-- A header's bytes are its numbers written one after the other, each as four bytes. Each write puts its own four
-- bytes, so that eleven of them are the whole.
use Rattle.std.proofs.Common.{◌≡◌, ◌∙◌, sym, ap, ℕ, ◌+◌, ◌*◌, ◌-◌, ◌<◌, List, [], ◌∷◌, ◌++◌, length, take, drop, get_or, arith, length-append}
use Rattle.std.specs.Prelude.{true, ◌&&◌, nat_le}
use Rattle.std.specs.List.{flat_map}
use Rattle.std.specs.Int.{w32, to_be_bytes}
use Rattle.std.proofs.lemmas.Grind.{flat_map-append}
use Rattle.std.proofs.lemmas.List.{take_more, take_at, length-take-le, append-nil, take_all}
use Rattle.std.proofs.lemmas.Bool.{and_parts}
use borrow.Rule.Slice.PartMut.{put_mid, mid_of}
use Rattle.vc_defs.specs.Bytes.{written_at}
use Rattle.vc_defs.specs.declared.Header.{Header}
use Rattle.vc_defs.specs.Headers.{is_legal, is_legal_geometry, is_legal_number, raw_suits, is_whole_header, header_fields, header_bytes}
use Rattle.vc_base.specs.Limits.{most_bytes}
use Rattle.vc_defs.proofs.WritesInParts.{written_in_part, length_written}

pub legal_number : (limit : ℕ) (h : Header) → is_legal limit h ≡ true → is_legal_number h.number ≡ true
unfolding is_legal
legal_number limit h e =
    let front = and_parts (is_legal_geometry h.geometry && raw_suits h.geometry.layout h.raw && nat_le h.size most_bytes && nat_le h.size limit && is_legal_number h.number) (is_whole_header h) e in
    (and_parts (is_legal_geometry h.geometry && raw_suits h.geometry.layout h.raw && nat_le h.size most_bytes && nat_le h.size limit) (is_legal_number h.number) front.0).1

pub one_more : (out part fields : List ℕ) (i : ℕ) → length out ≡ 44 → i < 11 → length fields ≡ 11 → part ≡ to_be_bytes w32 (get_or fields i 0) ++ drop 4 (mid_of (4 * i) (44 - 4 * i) out) →
    take (4 * i) out ≡ flat_map (to_be_bytes w32) (take i fields) →
    (length (put_mid (4 * i) (44 - 4 * i) out part) ≡ 44) × (take (4 * (i + 1)) (put_mid (4 * i) (44 - 4 * i) out part) ≡ flat_map (to_be_bytes w32) (take (i + 1) fields))
one_more out part fields i long hi enough is before =
    let bytes : List ℕ = to_be_bytes w32 (get_or fields i 0) in
    let e : put_mid (4 * i) (44 - 4 * i) out part ≡ written_at out (4 * i) (to_be_bytes w32 (get_or fields i 0)) =
    written_in_part out part (to_be_bytes w32 (get_or fields i 0)) (4 * i) (44 - 4 * i) (omega arith) (omega arith) is in
    let here : length (take (4 * i) out ++ to_be_bytes w32 (get_or fields i 0)) ≡ 4 * (i + 1) =
    length-append (take (4 * i) out) (to_be_bytes w32 (get_or fields i 0)) ∙ ap (λ n. n + 4) (length-take-le (4 * i) out (omega arith)) ∙ omega arith in (
      ap length e ∙ length_written out (4 * i) (to_be_bytes w32 (get_or fields i 0)) (omega arith) ∙ long,
      ap (λ t. take (4 * (i + 1)) t) e
          ∙ take_at (take (4 * i) out ++ to_be_bytes w32 (get_or fields i 0)) (drop (4 * i + 4) out) (4 * (i + 1)) here
          ∙ ap (λ t. t ++ to_be_bytes w32 (get_or fields i 0)) before
          ∙ sym (ap (λ t. flat_map (to_be_bytes w32) t) (take_more fields i 0 (omega arith)) ∙ flat_map-append (to_be_bytes w32) (take i fields) (get_or fields i 0 ∷ []) ∙ ap (λ t. flat_map (to_be_bytes w32) (take i fields) ++ t) (append-nil (to_be_bytes w32 (get_or fields i 0)))),
    )

pub all_written : (h : Header) (out fields : List ℕ) (i : ℕ) → fields ≡ header_fields h → length out ≡ 44 → length fields ≡ 11 → i ≡ 11 → take (4 * i) out ≡ flat_map (to_be_bytes w32) (take i fields) → out ≡ header_bytes h
unfolding header_bytes
all_written h out fields i is long enough e w =
    sym (take_all (4 * i) out (omega arith)) ∙ w ∙ ap (λ t. flat_map (to_be_bytes w32) t) (take_all i fields (omega arith) ∙ is)
