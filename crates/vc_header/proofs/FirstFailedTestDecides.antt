-- What bytes are read as, by the first test that fails. The definition asks for all tests at once, so that one that
-- fails makes the bytes no header, and behind all of them they are one.
use Rattle.std.proofs.Common.{◌≡◌, ◌∙◌, sym, ap, refl, ℕ, List}
use Rattle.std.specs.Prelude.{true, false, ◌&&◌, nat_le, nat_lt}
use Rattle.std.specs.List.{list_all}
use Rattle.std.specs.declared.option.Option.TheVariants.{Some, None}
use Rattle.std.proofs.lemmas.Bool.{and_parts, and_from, and_left, and_right, cond-true, cond-false}
use Rattle.vc_defs.specs.declared.Layout.{Layout}
use Rattle.vc_defs.specs.declared.Header.{Header}
use Rattle.vc_defs.specs.Headers.{is_legal, is_legal_geometry, is_legal_number, raw_suits, header_bytes, header_with, header_from, checked_header, layout_from, field_at, colour_fields, is_whole_header}
use Rattle.vc_base.specs.Limits.{most_bytes}
use Rattle.std.specs.Str.{bytes_eq}

pub legal_at_most : (limit : ℕ) (h : Header) → is_legal limit h ≡ true → is_legal most_bytes h ≡ true
unfolding is_legal
legal_at_most limit h e =
    let all = and_parts (is_legal_geometry h.geometry && raw_suits h.geometry.layout h.raw && nat_le h.size most_bytes && nat_le h.size limit && is_legal_number h.number) (is_whole_header h) e in
    let last = and_parts (is_legal_geometry h.geometry && raw_suits h.geometry.layout h.raw && nat_le h.size most_bytes && nat_le h.size limit) (is_legal_number h.number) all.0 in
    let first = and_parts (is_legal_geometry h.geometry && raw_suits h.geometry.layout h.raw && nat_le h.size most_bytes) (nat_le h.size limit) last.0 in
    let size = and_parts (is_legal_geometry h.geometry && raw_suits h.geometry.layout h.raw) (nat_le h.size most_bytes) first.0 in
    and_from (is_legal_geometry h.geometry && raw_suits h.geometry.layout h.raw && nat_le h.size most_bytes && nat_le h.size most_bytes && is_legal_number h.number) (is_whole_header h)
    (and_from (is_legal_geometry h.geometry && raw_suits h.geometry.layout h.raw && nat_le h.size most_bytes && nat_le h.size most_bytes) (is_legal_number h.number)
    (and_from (is_legal_geometry h.geometry && raw_suits h.geometry.layout h.raw && nat_le h.size most_bytes) (nat_le h.size most_bytes) first.0 size.1) last.1) all.1

pub no_layout : (limit : ℕ) (bytes : List ℕ) → layout_from (field_at bytes 20) ≡ None → header_from limit bytes ≡ None
unfolding header_from
no_layout limit bytes e = ap (λ l. checked_header limit bytes l) e

by_layout : (limit : ℕ) (bytes : List ℕ) (layout : Layout) → layout_from (field_at bytes 20) ≡ Some layout → header_from limit bytes ≡ checked_header limit bytes (Some layout)
unfolding header_from
by_layout limit bytes layout e = ap (λ l. checked_header limit bytes l) e

pub not_legal : (limit : ℕ) (bytes : List ℕ) (layout : Layout) (h : Header) → layout_from (field_at bytes 20) ≡ Some layout → h ≡ header_with bytes layout → is_legal limit h ≡ false → header_from limit bytes ≡ None
not_legal limit bytes layout h e is n =
    by_layout limit bytes layout e
    ∙ cond-false (is_legal limit (header_with bytes layout) && bytes_eq bytes (header_bytes (header_with bytes layout))) (Some (header_with bytes layout)) None
    (and_left (is_legal limit (header_with bytes layout)) (bytes_eq bytes (header_bytes (header_with bytes layout))) (ap (λ h. is_legal limit h) (sym is) ∙ n))

-- The header that the fields would be has three planes and four numbers on colour.
pub whole_by_colour : (bytes : List ℕ) (layout : Layout) (h : Header) → h ≡ header_with bytes layout → true ≡ list_all (λ c. nat_lt c 256) (colour_fields bytes) → is_whole_header h ≡ true
whole_by_colour bytes layout h is colour = ap (λ h. is_whole_header h) is ∙ sym colour

not_whole : (limit : ℕ) (h : Header) → is_whole_header h ≡ false → is_legal limit h ≡ false
unfolding is_legal
not_whole limit h n =
    and_right (is_legal_geometry h.geometry && raw_suits h.geometry.layout h.raw && nat_le h.size most_bytes && nat_le h.size limit && is_legal_number h.number) (is_whole_header h) n

pub no_colour : (limit : ℕ) (bytes : List ℕ) (layout : Layout) → layout_from (field_at bytes 20) ≡ Some layout → list_all (λ c. nat_lt c 256) (colour_fields bytes) ≡ false → header_from limit bytes ≡ None
no_colour limit bytes layout e n = not_legal limit bytes layout (header_with bytes layout) e refl (not_whole limit (header_with bytes layout) n)

pub not_spelled : (limit : ℕ) (bytes : List ℕ) (layout : Layout) (h : Header) → layout_from (field_at bytes 20) ≡ Some layout → h ≡ header_with bytes layout → bytes_eq bytes (header_bytes h) ≡ false → header_from limit bytes ≡ None
not_spelled limit bytes layout h e is n =
    by_layout limit bytes layout e
    ∙ cond-false (is_legal limit (header_with bytes layout) && bytes_eq bytes (header_bytes (header_with bytes layout))) (Some (header_with bytes layout)) None
    (and_right (is_legal limit (header_with bytes layout)) (bytes_eq bytes (header_bytes (header_with bytes layout))) (ap (λ h. bytes_eq bytes (header_bytes h)) (sym is) ∙ n))

pub found : (limit : ℕ) (bytes : List ℕ) (layout : Layout) (h : Header) → layout_from (field_at bytes 20) ≡ Some layout → h ≡ header_with bytes layout → is_legal limit h ≡ true → bytes_eq bytes (header_bytes h) ≡ true → header_from limit bytes ≡ Some h
found limit bytes layout h e is legal spelled =
    by_layout limit bytes layout e
    ∙ cond-true (is_legal limit (header_with bytes layout) && bytes_eq bytes (header_bytes (header_with bytes layout))) (Some (header_with bytes layout)) None
    (and_from (is_legal limit (header_with bytes layout)) (bytes_eq bytes (header_bytes (header_with bytes layout)))
    (ap (λ h. is_legal limit h) (sym is) ∙ legal) (ap (λ h. bytes_eq bytes (header_bytes h)) (sym is) ∙ spelled))
    ∙ ap (λ h. Some h) (sym is)
