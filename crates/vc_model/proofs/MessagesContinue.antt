-- The messages of bytes do not depend on how the bytes are cut. A message says its own length, so the messages of the
-- first bytes stay the first ones, and the rest is read on with what comes behind it.
use Rattle.std.proofs.Common.{ℕ, zero, suc, ◌≡◌, ◌≤◌, ◌+◌, nat_le, Bool, true, false, cond, ◌&&◌, List, [], ◌∷◌, ◌++◌, length, take, drop, refl, sym, ap, ◌∙◌, arith, length-append}
use Rattle.std.specs.Int.{from_be_bytes, w32}
use Rattle.std.proofs.lemmas.Bool.{le-leb, leb-true}
use Rattle.std.proofs.lemmas.List.{take-append-le, drop-append-le, length-drop}
use Rattle.vc_model.specs.Messages.{number_at, is_length, has_message, first_body, behind_first, Messages, with_body, messages_within, messages, MessagesContinue}
use Rattle.vc_model.proofs.PartsOfTests.{and_left, and_right}

-- as many turns as bytes are enough
none_within : (n : ℕ) → messages_within n [] ≡ record { bodies = []; rest = [] }
none_within zero = refl
none_within (suc n) = refl

either_within : (b : Bool) (x y z : Messages) → (b ≡ true → x ≡ y) → cond b x z ≡ cond b y z
either_within true x y z h = h refl
either_within false x y z h = refl

pub shorter : (bytes : List ℕ) (n : ℕ) → length bytes ≤ suc n → length (behind_first bytes) ≤ n
shorter bytes n h = let l = length-drop (4 + number_at bytes 0) bytes in omega arith

pub within_enough : (n m : ℕ) (bytes : List ℕ) → length bytes ≤ n → length bytes ≤ m → messages_within n bytes ≡ messages_within m bytes
within_enough n m [] h i = none_within n ∙ sym (none_within m)
within_enough zero m (b ∷ bytes) h i = absurd (omega arith)
within_enough (suc n) zero (b ∷ bytes) h i = absurd (omega arith)
within_enough (suc n) (suc m) (b ∷ bytes) h i =
    let all = b ∷ bytes in
    either_within (has_message all) (with_body (first_body all) (messages_within n (behind_first all)))
    (with_body (first_body all) (messages_within m (behind_first all))) (record { bodies = []; rest = all })
    (λ e. ap (with_body (first_body all)) (within_enough n m (behind_first all) (shorter all n h) (shorter all m i)))

-- what is known of bytes that begin with a message
pub record Begins (bytes further : List ℕ) : Type 0 where
  pub there : has_message (bytes ++ further) ≡ true
  pub body : first_body (bytes ++ further) ≡ first_body bytes
  pub behind : behind_first (bytes ++ further) ≡ behind_first bytes ++ further

pub begins : (bytes further : List ℕ) → has_message bytes ≡ true → Begins bytes further
begins bytes further e =
    let k = number_at bytes 0 in
    let four = leb-true 4 (length bytes) (and_left (nat_le 4 (length bytes)) (is_length k && nat_le (4 + k) (length bytes)) e) in
    let inner = and_right (nat_le 4 (length bytes)) (is_length k && nat_le (4 + k) (length bytes)) e in
    let long = leb-true (4 + k) (length bytes) (and_right (is_length k) (nat_le (4 + k) (length bytes)) inner) in
    let same : number_at (bytes ++ further) 0 ≡ k = ap (λ l. from_be_bytes w32 l) (take-append-le 4 bytes further four) in
    let more = length-append bytes further in
    let rest = length-drop 4 bytes in
    let test : (nat_le 4 (length (bytes ++ further)) && (is_length k && nat_le (4 + k) (length (bytes ++ further)))) ≡ true =
    ap (λ b. b && (is_length k && nat_le (4 + k) (length (bytes ++ further)))) (le-leb 4 (length (bytes ++ further)) (omega arith))
    ∙ (ap (λ b. b && nat_le (4 + k) (length (bytes ++ further))) (and_left (is_length k) (nat_le (4 + k) (length bytes)) inner) ∙ le-leb (4 + k) (length (bytes ++ further)) (omega arith)) in
    record {
      there = ap (λ n. nat_le 4 (length (bytes ++ further)) && (is_length n && nat_le (4 + n) (length (bytes ++ further)))) same ∙ test;
      body = ap (λ n. take n (drop 4 (bytes ++ further))) same ∙ (ap (take k) (drop-append-le 4 bytes further four) ∙ take-append-le k (drop 4 bytes) further (omega arith));
      behind = ap (λ n. drop (4 + n) (bytes ++ further)) same ∙ drop-append-le (4 + k) bytes further long;
    }

-- messages and then those of the rest and what comes behind it
abbrev pub gone_on : Messages → List ℕ → Messages
gone_on m further =
    let later = messages (m.rest ++ further) in record { bodies = m.bodies ++ later.bodies; rest = later.rest }

pub one_message : (bytes further : List ℕ) → has_message bytes ≡ true → messages (bytes ++ further) ≡ with_body (first_body bytes) (messages (behind_first bytes ++ further))
one_message bytes further e =
    let all = bytes ++ further in
    let n = length all in
    let b = begins bytes further e in
    let step : messages all ≡ messages_within (suc n) all = within_enough n (suc n) all (omega arith) (omega arith) in
    let taken : messages_within (suc n) all ≡ with_body (first_body all) (messages_within n (behind_first all)) =
    ap (λ t. cond t (with_body (first_body all) (messages_within n (behind_first all))) (record { bodies = []; rest = all })) b.there in
    let left : messages_within n (behind_first all) ≡ messages (behind_first all) = within_enough n (length (behind_first all)) (behind_first all) (let l = length-drop (4 + number_at all 0) all in omega arith) (omega arith) in
    step ∙ (taken ∙ (ap (with_body (first_body all)) left ∙ (ap (λ l. with_body l (messages (behind_first all))) b.body ∙ ap (λ l. with_body (first_body bytes) (messages l)) b.behind)))

continue_split :
    (n : ℕ) (bytes further : List ℕ)
    → (has_message bytes ≡ true → messages (behind_first bytes ++ further) ≡ gone_on (messages_within n (behind_first bytes)) further) → (b : Bool)
    → has_message bytes ≡ b
    → messages (bytes ++ further) ≡ gone_on (cond b (with_body (first_body bytes) (messages_within n (behind_first bytes))) (record { bodies = []; rest = bytes })) further
continue_split n bytes further h true e = one_message bytes further e ∙ ap (with_body (first_body bytes)) (h e)
continue_split n bytes further h false e = refl

continue_within : (n : ℕ) (bytes further : List ℕ) → length bytes ≤ n → messages (bytes ++ further) ≡ gone_on (messages_within n bytes) further
continue_within zero bytes further h = refl
continue_within (suc n) bytes further h =
    continue_split n bytes further (λ e. continue_within n (behind_first bytes) further (shorter bytes n h)) (has_message bytes) refl

pub messages_continue : MessagesContinue
messages_continue bytes further = continue_within (length bytes) bytes further (omega arith)
