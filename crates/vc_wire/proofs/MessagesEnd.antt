-- What a piece brings, as the messages of all bytes have it: a message that ends is the first one of what was kept and the piece.
use Rattle.std.proofs.Common.{ℕ, zero, suc, ◌≡◌, ◌≤◌, ◌<◌, ◌+◌, ◌-◌, ◌^◌, nat_le, Bool, true, false, not, cond, ◌&&◌, List, [], ◌∷◌, ◌++◌, length, take, drop, refl, sym, ap, ◌∙◌, subst, arith, length-append}
use Rattle.std.specs.Int.{from_be_bytes, w32}
use Rattle.std.proofs.lemmas.Bool.{le-leb, leb-true, leb-false, false≢true}
use Rattle.std.proofs.lemmas.List.{append-nil, take-append-le, length-drop, length-take-le}
use Rattle.std.proofs.Math.Seq.{drop-append-add}
use Rattle.vc_base.specs.Limits.{longest_message}
use Rattle.vc_model.specs.Messages.{number_at, is_length, has_bad_length, has_message, first_body, behind_first, Messages, with_body, messages_within, messages, Framing, more, whole, bad_length, Fed, fed}
use Rattle.vc_model.proofs.PartsOfTests.{and_left, and_right, and_both}
use Rattle.vc_model.proofs.MessagesContinue.{one_message}

abbrev only_rest : List ℕ → Messages
only_rest bytes = record { bodies = []; rest = bytes }

pub none_alone : (bytes : List ℕ) → has_message bytes ≡ false → messages bytes ≡ only_rest bytes
none_alone [] e = refl
none_alone (b ∷ bytes) e =
    let all = b ∷ bytes in
    ap (λ t. cond t (with_body (first_body all) (messages_within (length bytes) (behind_first all))) (only_rest all)) e

message_first : (bytes : List ℕ) → has_message bytes ≡ true → messages bytes ≡ with_body (first_body bytes) (messages (behind_first bytes))
message_first bytes e =
    ap messages (sym (append-nil bytes)) ∙ (one_message bytes [] e ∙ ap (λ l. with_body (first_body bytes) (messages l)) (append-nil (behind_first bytes)))

-- no message is behind a length out of range
bad_split : (a i l : Bool) → (a && not i) ≡ true → (a && (i && l)) ≡ false
bad_split true true l e = absurd (false≢true e)
bad_split true false l e = refl
bad_split false i l e = refl

pub bad_has_none : (bytes : List ℕ) → has_bad_length bytes ≡ true → has_message bytes ≡ false
bad_has_none bytes e =
    let n = number_at bytes 0 in bad_split (nat_le 4 (length bytes)) (is_length n) (nat_le (4 + n) (length bytes)) e

-- a message that a piece ends takes a byte of it at least
takes_split : (kept piece : List ℕ) → has_message kept ≡ false → has_message (kept ++ piece) ≡ true → (b : Bool) → nat_le (4 + number_at (kept ++ piece) 0) (length kept) ≡ b → length kept < 4 + number_at (kept ++ piece) 0
takes_split kept piece h e true l =
    let all = kept ++ piece in
    let n = number_at all 0 in
    let long = leb-true (4 + n) (length kept) l in
    let inner = and_right (nat_le 4 (length all)) (is_length n && nat_le (4 + n) (length all)) e in
    let same : number_at kept 0 ≡ n = ap (λ x. from_be_bytes w32 x) (sym (take-append-le 4 kept piece (omega arith))) in
    let test : (nat_le 4 (length kept) && (is_length n && nat_le (4 + n) (length kept))) ≡ true =
    and_both (nat_le 4 (length kept)) (is_length n && nat_le (4 + n) (length kept)) (le-leb 4 (length kept) (omega arith))
    (and_both (is_length n) (nat_le (4 + n) (length kept)) (and_left (is_length n) (nat_le (4 + n) (length all)) inner) l) in
    let there : has_message kept ≡ true = ap (λ m. nat_le 4 (length kept) && (is_length m && nat_le (4 + m) (length kept))) same ∙ test in
    absurd (false≢true (sym h ∙ there))
takes_split kept piece h e false l =
    let s = leb-false (4 + number_at (kept ++ piece) 0) (length kept) l in omega arith

-- what one turn tells, by its two tests
abbrev fed_by : List ℕ → List ℕ → Bool → Bool → Fed
fed_by kept piece bad there =
    let all = kept ++ piece in
    cond bad (record { taken = 4 - length kept; kept = take 4 all; told = bad_length })
    (cond there (record { taken = (4 + number_at all 0) - length kept; kept = []; told = whole (first_body all) }) (record { taken = length piece; kept = all; told = more }))

-- A message ended.
pub record Ended (kept piece body : List ℕ) (f : Fed) : Type 0 where
  pub kept_none : f.kept ≡ []
  pub some : 0 < f.taken
  pub short : length body < 2 ^ 32
  pub size : 4 + length body + length (drop f.taken piece) ≡ length (kept ++ piece)
  pub messages_are : messages (kept ++ piece) ≡ with_body body (messages (drop f.taken piece))

ended_split :
    (kept piece body : List ℕ) (bad there : Bool) → has_message kept ≡ false → has_bad_length (kept ++ piece) ≡ bad → has_message (kept ++ piece) ≡ there
    → (fed_by kept piece bad there).told ≡ whole body → Ended kept piece body (fed_by kept piece bad there)
ended_split kept piece body true there h e f t = absurd (cc)
ended_split kept piece body false false h e f t = absurd (cc)
ended_split kept piece body false true h e f t =
    let all = kept ++ piece in
    let n = number_at all 0 in
    let is : first_body all ≡ body = cc in
    let short = takes_split kept piece h f (nat_le (4 + n) (length kept)) refl in
    let inner = and_right (nat_le 4 (length all)) (is_length n && nat_le (4 + n) (length all)) f in
    let range = and_left (is_length n) (nat_le (4 + n) (length all)) inner in
    let few = leb-true n longest_message (and_right (nat_le 1 n) (nat_le n longest_message) range) in
    let long = leb-true (4 + n) (length all) (and_right (is_length n) (nat_le (4 + n) (length all)) inner) in
    let both = length-append kept piece in
    let taken = (4 + n) - length kept in
    let sum : length kept + taken ≡ 4 + n = omega arith in
    let left : drop taken piece ≡ behind_first all = sym (drop-append-add kept piece taken) ∙ ap (λ m. drop m all) sum in
    let dropped = length-drop taken piece in
    let inside = length-drop 4 all in
    let size : length (first_body all) ≡ n = length-take-le n (drop 4 all) (omega arith) in
    let sized : length body ≡ n = ap length (sym is) ∙ size in
    record {
      kept_none = refl;
      some = omega arith;
      short = omega arith;
      size = omega arith;
      messages_are = message_first all f ∙ (ap (λ b. with_body b (messages (behind_first all))) is ∙ ap (λ l. with_body body (messages l)) (sym left));
    }

pub ended : (kept piece body : List ℕ) → has_message kept ≡ false → (fed kept piece).told ≡ whole body → Ended kept piece body (fed kept piece)
ended kept piece body h t = ended_split kept piece body (has_bad_length (kept ++ piece)) (has_message (kept ++ piece)) h refl refl t

-- More is needed.
pub record NeedsMore (kept piece : List ℕ) (f : Fed) : Type 0 where
  pub taken : f.taken ≡ length piece
  pub kept_all : f.kept ≡ kept ++ piece
  pub none : has_message (kept ++ piece) ≡ false
  pub good : has_bad_length (kept ++ piece) ≡ false

more_split :
    (kept piece : List ℕ) (bad there : Bool) → has_bad_length (kept ++ piece) ≡ bad → has_message (kept ++ piece) ≡ there
    → (fed_by kept piece bad there).told ≡ more → NeedsMore kept piece (fed_by kept piece bad there)
more_split kept piece true there e f t = absurd (cc)
more_split kept piece false true e f t = absurd (cc)
more_split kept piece false false e f t = record { taken = refl; kept_all = refl; none = f; good = e }

pub needs_more : (kept piece : List ℕ) → (fed kept piece).told ≡ more → NeedsMore kept piece (fed kept piece)
needs_more kept piece t = more_split kept piece (has_bad_length (kept ++ piece)) (has_message (kept ++ piece)) refl refl t

-- A length isn't in range.
is_bad_split : (kept piece : List ℕ) (bad there : Bool) → (fed_by kept piece bad there).told ≡ bad_length → bad ≡ true
is_bad_split kept piece true there t = refl
is_bad_split kept piece false true t = absurd (cc)
is_bad_split kept piece false false t = absurd (cc)

pub is_bad : (kept piece : List ℕ) → (fed kept piece).told ≡ bad_length → (has_bad_length (kept ++ piece) ≡ true) × (messages (kept ++ piece) ≡ only_rest (kept ++ piece))
is_bad kept piece t =
    let e = is_bad_split kept piece (has_bad_length (kept ++ piece)) (has_message (kept ++ piece)) t in (e, none_alone (kept ++ piece) (bad_has_none (kept ++ piece) e))
