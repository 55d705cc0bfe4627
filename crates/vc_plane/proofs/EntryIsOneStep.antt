-- Reading an entry is one step of reading the blocks of a plane. A head and the words behind it give one block and so
-- many more like it, or no entry stands there.
use Rattle.std.proofs.Common.{◌≡◌, ◌∙◌, sym, ap, refl, ℕ, suc, zero, ◌+◌, ◌*◌, ◌-◌, ◌<◌, ◌≤◌, List, [], ◌∷◌, length, take, drop, get_or, replicate, arith, length-drop, subst}
use Rattle.std.specs.Prelude.{ℤ, Bool, true, false, ◌&&◌, ◌||◌, not, nat_eq, nat_lt}
use mir.Val.{Fits}
use mir.Syntax.{w8}
use Rattle.std.specs.declared.option.Option.{Option}
use Rattle.std.specs.declared.option.Option.TheVariants.{Some, None}
use Rattle.std.proofs.lemmas.Bool.{cond-true, cond-false, and_parts}
use Rattle.std.proofs.lemmas.Bool.Decides.{nat_tests}
use Rattle.std.proofs.lemmas.List.{drop_more, take_at}
use Rattle.std.proofs.lemmas.List.Elements.{All-tail, All-from_get_or}
use Rattle.vc_defs.specs.Words.{words_bytes, word_of, values_from, BlockBetween, in_scan_order, from_scan_order}
use Rattle.vc_defs.specs.Planes.{Block, head_of, inter_of, repeats_of, is_head, blocks_behind, after_head, blocks_from}
use Rattle.vc_defs.specs.Laws.{AreBytes}
use Rattle.vc_defs.proofs.ScanVisitsEachPlace.{from_in_scan_order}
use Rattle.vc_defs.proofs.BlocksAreRead.{IsFront, front_of, length-words_bytes}
use Rattle.vc_coder.specs.Blocks.{block_with}
use Rattle.vc_plane.specs.Entries.{IsEntryRead, IsNoEntry}

-- two bytes in front of the others
two_in_front : (bytes : List ℕ) (at : ℕ) → at + 2 ≤ length bytes → drop at bytes ≡ get_or bytes at 0 ∷ get_or bytes (at + 1) 0 ∷ drop (at + 2) bytes
two_in_front bytes at h =
    let e : at + 1 + 1 ≡ at + 2 = omega arith in
    drop_more bytes at 0 (omega arith) ∙ ap (λ t. get_or bytes at 0 ∷ t) (drop_more bytes (at + 1) 0 (omega arith) ∙ ap (λ n. get_or bytes (at + 1) 0 ∷ drop n bytes) e)

-- reading blocks, where some are left and two bytes are there
from_word : (turns : ℕ) (frame : Bool) (left : ℕ) (bytes : List ℕ) (at w : ℕ) → 0 < left → at + 2 ≤ length bytes → w ≡ word_of (get_or bytes at 0) (get_or bytes (at + 1) 0) →
    blocks_from (suc turns) frame left (drop at bytes) ≡ after_head frame left w (values_from 64 (drop (at + 2) bytes)) (λ n rest. blocks_from turns frame n rest)
from_word turns frame zero bytes at w some h is = absurd (omega arith)
from_word turns frame (suc left) bytes at w some h is =
    ap (λ t. blocks_from (suc turns) frame (suc left) t) (two_in_front bytes at h)
    ∙ ap (λ v. after_head frame (suc left) v (values_from 64 (drop (at + 2) bytes)) (λ n rest. blocks_from turns frame n rest)) (sym is)

pub entry_step : (turns : ℕ) (frame : Bool) (left : ℕ) (bytes : List ℕ) (at w end : ℕ) (q : List ℤ) → 0 < left → at + 2 ≤ length bytes → w ≡ word_of (get_or bytes at 0) (get_or bytes (at + 1) 0) →
    is_head frame left w ≡ true → length q ≡ 64 → values_from 64 (drop (at + 2) bytes) ≡ Some (in_scan_order q, drop end bytes) →
    blocks_from (suc turns) frame left (drop at bytes) ≡ blocks_behind (replicate (repeats_of w + 1) (block_with (inter_of w) q)) (blocks_from turns frame (left - (repeats_of w + 1)) (drop end bytes))
entry_step turns frame left bytes at w end q some h is head long values =
    from_word turns frame left bytes at w some h is
    ∙ ap (λ o. after_head frame left w o (λ n rest. blocks_from turns frame n rest)) values
    ∙ cond-true (is_head frame left w) (blocks_behind (replicate (repeats_of w + 1) (block_with (inter_of w) (from_scan_order (in_scan_order q)))) (blocks_from turns frame (left - (repeats_of w + 1)) (drop end bytes))) None head
    ∙ ap (λ vs. blocks_behind (replicate (repeats_of w + 1) (block_with (inter_of w) vs)) (blocks_from turns frame (left - (repeats_of w + 1)) (drop end bytes))) (from_in_scan_order q long)

after_no_head : (frame : Bool) (left w : ℕ) (values : Option (List ℤ × List ℕ)) (read : ℕ → List ℕ → Option (List Block × List ℕ)) → is_head frame left w ≡ false → after_head frame left w values read ≡ None
after_no_head frame left w None read h = refl
after_no_head frame left w (Some v) read h =
    cond-false (is_head frame left w) (blocks_behind (replicate (repeats_of w + 1) (block_with (inter_of w) (from_scan_order v.0))) (read (left - (repeats_of w + 1)) v.1)) None h

pub no_head : (frame : Bool) (left : ℕ) (bytes : List ℕ) (at w : ℕ) → 0 < left → at + 2 ≤ length bytes → w ≡ word_of (get_or bytes at 0) (get_or bytes (at + 1) 0) → is_head frame left w ≡ false → IsNoEntry bytes at frame left
no_head frame left bytes at w some h is none turns =
    from_word turns frame left bytes at w some h is ∙ after_no_head frame left w (values_from 64 (drop (at + 2) bytes)) (λ n rest. blocks_from turns frame n rest) none

pub no_values : (frame : Bool) (left : ℕ) (bytes : List ℕ) (at w : ℕ) → 0 < left → at + 2 ≤ length bytes → w ≡ word_of (get_or bytes at 0) (get_or bytes (at + 1) 0) → values_from 64 (drop (at + 2) bytes) ≡ None → IsNoEntry bytes at frame left
no_values frame left bytes at w some h is none turns =
    from_word turns frame left bytes at w some h is ∙ ap (λ o. after_head frame left w o (λ n rest. blocks_from turns frame n rest)) none

-- too few bytes for a word
no_word : (turns : ℕ) (frame : Bool) (left : ℕ) (bytes : List ℕ) → 0 < left → length bytes < 2 → blocks_from (suc turns) frame left bytes ≡ None
no_word turns frame zero bytes some h = absurd (omega arith)
no_word turns frame (suc left) [] some h = refl
no_word turns frame (suc left) (b ∷ []) some h = refl
no_word turns frame (suc left) (b ∷ c ∷ bytes) some h = absurd (omega arith)

pub no_bytes : (frame : Bool) (left : ℕ) (bytes : List ℕ) (at : ℕ) → 0 < left → length bytes < at + 2 → IsNoEntry bytes at frame left
no_bytes frame left bytes at some h turns = no_word turns frame left (drop at bytes) some (omega (arith, length-drop at bytes))

all_dropped : (n : ℕ) (bytes : List ℕ) → AreBytes bytes → AreBytes (drop n bytes)
all_dropped zero bytes h = h
all_dropped (suc n) [] h = h
all_dropped (suc n) (b ∷ bytes) h = all_dropped n bytes (All-tail (λ b. b < 256) b bytes h)

front_between : (bytes rest : List ℕ) (start : ℕ) (values : List ℤ) → (f : IsFront 64 (drop start bytes) rest values) → BlockBetween bytes start (start + 2 * length f.0) 64 values
front_between bytes rest start values f =
    (f.0, (refl, ap (λ t. take (2 * length f.0) t) f.1.0 ∙ take_at (words_bytes f.0) rest (2 * length f.0) (length-words_bytes f.0), f.1.1, f.1.2))

-- Where no block stands, no values are read.
pub none_between : (bytes : List ℕ) (start : ℕ) → AreBytes bytes → ((end : ℕ) (values : List ℤ) → BlockBetween bytes start end 64 values → ⊥) → values_from 64 (drop start bytes) ≡ None
none_between bytes start ok none = by_read (values_from 64 (drop start bytes)) refl
  where
    by_read : (o : Option (List ℤ × List ℕ)) → values_from 64 (drop start bytes) ≡ o → o ≡ None
    by_read None e = refl
    by_read (Some r) e =
        let f : IsFront 64 (drop start bytes) r.1 r.0 = front_of 64 (drop start bytes) r.1 r.0 (all_dropped start bytes ok) e in
        absurd (none (start + 2 * length f.0) r.0 (front_between bytes r.1 start r.0 f))

pub are_bytes : (bytes : List ℕ) → ((i : ℕ) → Fits w8 (get_or bytes i 0)) → AreBytes bytes
are_bytes bytes h = All-from_get_or (λ b. b < 256) bytes 0 (λ i hi. let f : Fits w8 (get_or bytes i 0) = h i in f.fits)

-- A head has fewer further blocks than are left.
pub head_fits : (frame : Bool) (left w : ℕ) → is_head frame left w ≡ true → repeats_of w < left
head_fits frame left w e =
    let both = and_parts (nat_eq w (head_of (inter_of w) (repeats_of w)) && nat_lt (repeats_of w) left) (frame || not (inter_of w)) e in
    let two = and_parts (nat_eq w (head_of (inter_of w) (repeats_of w))) (nat_lt (repeats_of w) left) both.0 in
    let less : nat_lt (repeats_of w) left ≡ true = two.1 in
    grind (arith, nat_tests)

-- An entry that its head's parts name.
pub entry_is : (bytes : List ℕ) (at : ℕ) (frame : Bool) (left w : ℕ) (inter : Bool) (repeats : ℕ) (q : List ℤ) (end : ℕ) → inter ≡ inter_of w → repeats ≡ repeats_of w → IsEntryRead bytes at frame left (inter_of w) (repeats_of w) q end →
    IsEntryRead bytes at frame left inter repeats q end
entry_is bytes at frame left w inter repeats q end i r e =
    subst (λ (x : Bool). IsEntryRead bytes at frame left x repeats q end) (sym i) (subst (λ (n : ℕ). IsEntryRead bytes at frame left (inter_of w) n q end) (sym r) e)
