-- Whether there is a reference for buffers of a length: the present one, or one of the others. The code looks at them
-- in this order.
use Rattle.std.proofs.Common.{ℕ, ◌≡◌, Bool, true, false, ◌||◌, Option, List, [], ◌∷◌, ◌++◌, map, refl, sym, ap, ◌∙◌}
use Rattle.std.specs.Prelude.{◌==◌}
use Rattle.std.specs.List.{list_any}
use Rattle.std.proofs.lemmas.List.Folds.{list_any-append}
use Rattle.vc_resync.specs.Assembling.{AssemblyState}
use Rattle.vc_work.specs.References.{CodecReference}
use Rattle.vc_dec.specs.Decoders.{CodecParts, serves}
use Rattle.vc_dec.specs.Parts.{parts_of, room_of}

any_size : (rs : List CodecReference) (length : ℕ) → list_any (λ room. room == length) (map (λ (r : CodecReference). r.size) rs) ≡ list_any (λ (r : CodecReference). r.size == length) rs
any_size [] length = refl
any_size (r ∷ rs) length = ap (λ b. (r.size == length) || b) (any_size rs length)

split : (a : List ℕ) (rs : List CodecReference) (length : ℕ) → serves (a ++ map (λ (r : CodecReference). r.size) rs) length ≡ (serves a length || list_any (λ (r : CodecReference). r.size == length) rs)
split a rs length =
    list_any-append (λ room. room == length) a (map (λ (r : CodecReference). r.size) rs) ∙ ap (λ b. serves a length || b) (any_size rs length)

module _ (assembly : Option AssemblyState) (present : Option CodecReference) (others : List CodecReference) (parts : CodecParts) (view : parts_of assembly present others ≡ parts) (length : ℕ) where
  parts_split : serves parts.rooms length ≡ (serves (room_of present) length || list_any (λ (r : CodecReference). r.size == length) others)
  parts_split = ap (λ (p : CodecParts). serves p.rooms length) (sym view) ∙ split (room_of present) others length

  pub present_serves : (b : Bool) → b ≡ serves (room_of present) length → b ≡ true → true ≡ serves parts.rooms length
  present_serves b e t =
      sym (parts_split ∙ ap (λ x. x || list_any (λ (r : CodecReference). r.size == length) others) (sym e ∙ t))

  pub others_serve : (b o : Bool) → b ≡ serves (room_of present) length → b ≡ false → o ≡ list_any (λ (r : CodecReference). r.size == length) others → o ≡ serves parts.rooms length
  others_serve b o e f g =
      g ∙ sym (parts_split ∙ ap (λ x. x || list_any (λ (r : CodecReference). r.size == length) others) (sym e ∙ f))

  -- where the present one does not serve, another one does
  pub others_have : (b : Bool) → b ≡ serves (room_of present) length → b ≡ false → serves parts.rooms length ≡ true → list_any (λ (r : CodecReference). r.size == length) others ≡ true
  others_have b e f h =
      ap (λ x. x || list_any (λ (r : CodecReference). r.size == length) others) (sym f ∙ e) ∙ (sym parts_split ∙ h)
