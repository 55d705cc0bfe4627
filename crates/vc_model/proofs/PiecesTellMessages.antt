-- Pieces of bytes, fed one after another, tell the messages of all the bytes in order, and a length out of range
-- where one stands. What is kept between two pieces is the rest of the bytes so far, so that a piece goes on where
-- the one before ended; and after a bad length nothing is taken any more.
use Rattle.std.proofs.Common.{ℕ, zero, suc, ◌≡◌, ◌≤◌, ◌<◌, ◌+◌, ◌-◌, nat_le, Bool, true, false, not, cond, ◌&&◌, ◌||◌, List, [], ◌∷◌, ◌++◌, length, get_or, take, drop, refl, sym, ap, ◌∙◌, arith, length-append, append_assoc}
use Rattle.std.specs.Int.{from_be_bytes, w32}
use Rattle.std.specs.List.{flat_map, list_all}
use Rattle.std.proofs.lemmas.Bool.{le-leb, leb-true, leb-false, false≢true}
use Rattle.std.proofs.lemmas.List.{append-nil, take-append-le, length-drop, length-take, length-take-le, take-append-drop}
use Rattle.std.proofs.Math.Seq.{drop-append-add}
use Rattle.std.proofs.lemmas.Nat.{be_bytes_4}
use Rattle.vc_model.specs.Wire.{framed, AreTheMessages, MessagesAreFramed}
use Rattle.vc_model.specs.Messages.{number_bytes, number_at, is_length, has_bad_length, has_message, first_body, behind_first, Messages, with_body}
use Rattle.vc_model.specs.Messages.{messages_within, messages, more, whole, bad_length, Fed, fed, Feeding, told_before, fed_within, fed_whole, fed_before}
use Rattle.vc_model.specs.Messages.{fed_pieces, PiecesTellMessages, BadLengthStays}
use Rattle.vc_model.proofs.PartsOfTests.{and_left, and_right, and_both}
use Rattle.vc_model.proofs.MessagesContinue.{shorter, one_message, gone_on, messages_continue}

-- Bytes that begin with no message

-- no message is behind a length out of range
bad_split : (a i l : Bool) → (a && not i) ≡ true → (a && (i && l)) ≡ false
bad_split true true l e = absurd (false≢true e)
bad_split true false l e = refl
bad_split false i l e = refl

bad_has_none : (bytes : List ℕ) → has_bad_length bytes ≡ true → has_message bytes ≡ false
bad_has_none bytes e =
    let n = number_at bytes 0 in bad_split (nat_le 4 (length bytes)) (is_length n) (nat_le (4 + n) (length bytes)) e

abbrev only_rest : List ℕ → Messages
only_rest bytes = record { bodies = []; rest = bytes }

none_alone : (bytes : List ℕ) → has_message bytes ≡ false → messages bytes ≡ only_rest bytes
none_alone [] e = refl
none_alone (b ∷ bytes) e =
    let all = b ∷ bytes in
    ap (λ t. cond t (with_body (first_body all) (messages_within (length bytes) (behind_first all))) (only_rest all)) e

-- the rest of messages begins with none
rest_split :
    (n : ℕ) (bytes : List ℕ) → has_message (messages_within n (behind_first bytes)).rest ≡ false → (b : Bool) → has_message bytes ≡ b
    → has_message (cond b (with_body (first_body bytes) (messages_within n (behind_first bytes))) (only_rest bytes)).rest ≡ false
rest_split n bytes h true e = h
rest_split n bytes h false e = e

rest_within : (n : ℕ) (bytes : List ℕ) → length bytes ≤ n → has_message (messages_within n bytes).rest ≡ false
rest_within zero [] h = refl
rest_within zero (b ∷ bytes) h = absurd (omega arith)
rest_within (suc n) bytes h =
    rest_split n bytes (rest_within n (behind_first bytes) (shorter bytes n h)) (has_message bytes) refl

-- the first message of bytes that begin with one
message_first : (bytes : List ℕ) → has_message bytes ≡ true → messages bytes ≡ with_body (first_body bytes) (messages (behind_first bytes))
message_first bytes e =
    ap messages (sym (append-nil bytes)) ∙ (one_message bytes [] e ∙ ap (λ l. with_body (first_body bytes) (messages l)) (append-nil (behind_first bytes)))

-- Four bytes with a length out of range

record StaysBad (bytes further : List ℕ) : Type 0 where
  pub longer : has_bad_length (bytes ++ further) ≡ true
  pub four : has_bad_length (take 4 bytes) ≡ true
  pub four_longer : has_bad_length (take 4 bytes ++ further) ≡ true
  pub same : take 4 (bytes ++ further) ≡ take 4 bytes
  pub same_four : take 4 (take 4 bytes ++ further) ≡ take 4 bytes

-- whether a length is in range is decided by its four bytes
four_bad : (a b c d : ℕ) (bytes others : List ℕ) → has_bad_length (a ∷ (b ∷ (c ∷ (d ∷ bytes)))) ≡ true → has_bad_length (a ∷ (b ∷ (c ∷ (d ∷ others)))) ≡ true
four_bad a b c d bytes others e =
    let n = number_at (a ∷ (b ∷ (c ∷ (d ∷ [])))) 0 in
    let m = length (a ∷ (b ∷ (c ∷ (d ∷ others)))) in
    and_both (nat_le 4 m) (not (is_length n)) (le-leb 4 m (omega arith)) (and_right (nat_le 4 (length (a ∷ (b ∷ (c ∷ (d ∷ bytes)))))) (not (is_length n)) e)

stays_bad : (bytes further : List ℕ) → has_bad_length bytes ≡ true → StaysBad bytes further
stays_bad [] further e = absurd (false≢true e)
stays_bad (a ∷ []) further e = absurd (false≢true e)
stays_bad (a ∷ (b ∷ [])) further e = absurd (false≢true e)
stays_bad (a ∷ (b ∷ (c ∷ []))) further e = absurd (false≢true e)
stays_bad (a ∷ (b ∷ (c ∷ (d ∷ bytes)))) further e =
    record { longer = four_bad a b c d bytes (bytes ++ further) e; four = four_bad a b c d bytes [] e; four_longer = four_bad a b c d bytes further e; same = refl; same_four = refl }

-- what pieces come to, as messages have it
abbrev kept_of : List ℕ → List ℕ
kept_of rest = cond (has_bad_length rest) (take 4 rest) rest

abbrev feeding_of : Messages → Feeding
feeding_of m = record { bodies = m.bodies; kept = kept_of m.rest; is_bad = has_bad_length m.rest }

abbrev feeding_by : List ℕ → Bool → Feeding
feeding_by bytes b = record { bodies = []; kept = cond b (take 4 bytes) bytes; is_bad = b }

none_feeding : (bytes : List ℕ) (b : Bool) → has_message bytes ≡ false → has_bad_length bytes ≡ b → feeding_of (messages bytes) ≡ feeding_by bytes b
none_feeding bytes b h e = ap feeding_of (none_alone bytes h) ∙ ap (feeding_by bytes) e

kept_split : (rest : List ℕ) → has_message rest ≡ false → (b : Bool) → has_bad_length rest ≡ b → has_message (cond b (take 4 rest) rest) ≡ false
kept_split rest h true e = bad_has_none (take 4 rest) (stays_bad rest [] e).four
kept_split rest h false e = h

kept_has_none : (rest : List ℕ) → has_message rest ≡ false → has_message (kept_of rest) ≡ false
kept_has_none rest h = kept_split rest h (has_bad_length rest) refl

-- One piece

-- a message that a piece ends takes a byte of it at least
takes_split : (kept piece : List ℕ) → has_message kept ≡ false → has_message (kept ++ piece) ≡ true → (b : Bool) → nat_le (4 + number_at (kept ++ piece) 0) (length kept) ≡ b → length kept < 4 + number_at (kept ++ piece) 0
takes_split kept piece h e true l =
    let all = kept ++ piece in
    let n = number_at all 0 in
    let long = leb-true (4 + n) (length kept) l in
    let inner = and_right (nat_le 4 (length all)) (is_length n && nat_le (4 + n) (length all)) e in
    let same : number_at kept 0 ≡ n = ap (λ x. from_be_bytes w32 x) (sym (take-append-le 4 kept piece (omega arith))) in
    let test : (nat_le 4 (length kept) && (is_length n && nat_le (4 + n) (length kept))) ≡ true =
    and_both (nat_le 4 (length kept)) (is_length n && nat_le (4 + n) (length kept)) (le-leb 4 (length kept) (omega arith))
    (and_both (is_length n) (nat_le (4 + n) (length kept)) (and_left (is_length n) (nat_le (4 + n) (length all)) inner) l) in
    let there : has_message kept ≡ true = ap (λ m. nat_le 4 (length kept) && (is_length m && nat_le (4 + m) (length kept))) same ∙ test in
    absurd (false≢true (sym h ∙ there))
takes_split kept piece h e false l =
    let s = leb-false (4 + number_at (kept ++ piece) 0) (length kept) l in omega arith

-- what one turn tells, by its two tests
abbrev fed_by : List ℕ → List ℕ → Bool → Bool → Fed
fed_by kept piece bad there =
    let all = kept ++ piece in
    cond bad (record { taken = 4 - length kept; kept = take 4 all; told = bad_length })
    (cond there (record { taken = (4 + number_at all 0) - length kept; kept = []; told = whole (first_body all) }) (record { taken = length piece; kept = all; told = more }))

abbrev turn : ℕ → List ℕ → Fed → Feeding
turn most piece f = told_before f.told f.kept (fed_within most f.kept (drop f.taken piece))

abbrev Tells : ℕ → List ℕ → List ℕ → Type 0
Tells n kept piece = fed_within n kept piece ≡ feeding_of (messages (kept ++ piece))

turn_tells :
    (most : ℕ) (kept piece : List ℕ) → length piece < suc most → has_message kept ≡ false
    → ((left : List ℕ) → length left < most → Tells most [] left) → (bad there : Bool) → has_bad_length (kept ++ piece) ≡ bad
    → has_message (kept ++ piece) ≡ there → turn most piece (fed_by kept piece bad there) ≡ feeding_of (messages (kept ++ piece))
turn_tells most kept piece l h next true there e f =
    sym (none_feeding (kept ++ piece) true (bad_has_none (kept ++ piece) e) e)
turn_tells most kept piece l h next false false e f = sym (none_feeding (kept ++ piece) false f e)
turn_tells most kept piece l h next false true e f =
    let all = kept ++ piece in
    let n = number_at all 0 in
    let short = takes_split kept piece h f (nat_le (4 + n) (length kept)) refl in
    let inner = and_right (nat_le 4 (length all)) (is_length n && nat_le (4 + n) (length all)) f in
    let long = leb-true (4 + n) (length all) (and_right (is_length n) (nat_le (4 + n) (length all)) inner) in
    let both = length-append kept piece in
    let taken = (4 + n) - length kept in
    let sum : length kept + taken ≡ 4 + n = omega arith in
    let left : drop taken piece ≡ behind_first all = sym (drop-append-add kept piece taken) ∙ ap (λ m. drop m all) sum in
    let size = length-drop taken piece in
    let rest = next (drop taken piece) (omega arith) in
    ap (told_before (whole (first_body all)) []) (rest ∙ ap (λ x. feeding_of (messages x)) left) ∙ ap feeding_of (sym (message_first all f))

within_tells : (n : ℕ) (kept piece : List ℕ) → length piece < n → has_message kept ≡ false → Tells n kept piece
within_tells zero kept piece l h = absurd (omega arith)
within_tells (suc most) kept piece l h =
    turn_tells most kept piece l h (λ left s. within_tells most [] left s refl) (has_bad_length (kept ++ piece)) (has_message (kept ++ piece)) refl refl

-- Pieces

or_more : (a b c : Bool) → (a || (b || c)) ≡ ((a || b) || c)
or_more true b c = refl
or_more false b c = refl

before_more : (f g h : Feeding) → fed_before f (fed_before g h) ≡ fed_before (fed_before f g) h
before_more f g h =
    ap (λ l. record { bodies = l; kept = h.kept; is_bad = f.is_bad || (g.is_bad || h.is_bad) }) (sym (append_assoc f.bodies g.bodies h.bodies))
    ∙ ap (λ b. record { bodies = (f.bodies ++ g.bodies) ++ h.bodies; kept = h.kept; is_bad = b }) (or_more f.is_bad g.is_bad h.is_bad)

-- the four bytes of a bad length are as good as all that stands there
same_split : (rest further : List ℕ) (b : Bool) → has_bad_length rest ≡ b → feeding_of (messages (cond b (take 4 rest) rest ++ further)) ≡ feeding_of (messages (rest ++ further))
same_split rest further true e =
    let s = stays_bad rest further e in
    none_feeding (take 4 rest ++ further) true (bad_has_none (take 4 rest ++ further) s.four_longer) s.four_longer
    ∙ (ap (λ l. record { bodies = []; kept = l; is_bad = true }) (s.same_four ∙ sym s.same) ∙ sym (none_feeding (rest ++ further) true (bad_has_none (rest ++ further) s.longer) s.longer))
same_split rest further false e = refl

-- a bad length stays
bad_split_later : (rest further : List ℕ) (b : Bool) → has_bad_length rest ≡ b → (b || has_bad_length (messages (rest ++ further)).rest) ≡ has_bad_length (messages (rest ++ further)).rest
bad_split_later rest further true e =
    let s = stays_bad rest further e in
    sym (ap (λ m. has_bad_length m.rest) (none_alone (rest ++ further) (bad_has_none (rest ++ further) s.longer)) ∙ s.longer)
bad_split_later rest further false e = refl

joined : (m : Messages) (further : List ℕ) → fed_before (feeding_of m) (feeding_of (messages (m.rest ++ further))) ≡ feeding_of (gone_on m further)
joined m further =
    let later = messages (m.rest ++ further) in
    ap (λ b. record { bodies = m.bodies ++ later.bodies; kept = kept_of later.rest; is_bad = b }) (bad_split_later m.rest further (has_bad_length m.rest) refl)

or_none : (b : Bool) → (b || false) ≡ b
or_none true = refl
or_none false = refl

pieces_from : (m : Messages) (pieces : List (List ℕ)) → has_message m.rest ≡ false → fed_before (feeding_of m) (fed_pieces (kept_of m.rest) pieces) ≡ feeding_of (gone_on m (flat_map (λ piece. piece) pieces))
pieces_from m [] h =
    let none : messages (m.rest ++ []) ≡ only_rest m.rest = ap messages (append-nil m.rest) ∙ none_alone m.rest h in
    ap (λ b. record { bodies = m.bodies ++ []; kept = kept_of m.rest; is_bad = b }) (or_none (has_bad_length m.rest)) ∙ ap (λ later. feeding_of (record { bodies = m.bodies ++ later.bodies; rest = later.rest })) (sym none)
pieces_from m (piece ∷ pieces) h =
    let kept = kept_of m.rest in
    let next = messages (kept ++ piece) in
    let others = flat_map (λ piece. piece) pieces in
    let told : fed_whole kept piece ≡ feeding_of next = within_tells (1 + length piece) kept piece (omega arith) (kept_has_none m.rest h) in
    let rest = pieces_from next pieces (rest_within (length (kept ++ piece)) (kept ++ piece) (omega arith)) in
    let all : feeding_of (gone_on next others) ≡ feeding_of (messages (m.rest ++ (piece ++ others))) =
    ap feeding_of (sym (messages_continue (kept ++ piece) others))
    ∙ (ap (λ l. feeding_of (messages l)) (append_assoc kept piece others) ∙ same_split m.rest (piece ++ others) (has_bad_length m.rest) refl) in
    ap (λ g. fed_before (feeding_of m) (fed_before g (fed_pieces g.kept pieces))) told
    ∙ (ap (fed_before (feeding_of m)) (rest ∙ all) ∙ joined m (piece ++ others))

pub pieces_tell_messages : PiecesTellMessages
pieces_tell_messages pieces = pieces_from (only_rest []) pieces refl

-- A length out of range stays

stays_split : (kept piece further : List ℕ) (bad there : Bool) → has_bad_length (kept ++ piece) ≡ bad → let f = fed_by kept piece bad there in f.told ≡ bad_length → fed f.kept further ≡ record { taken = 0; kept = f.kept; told = bad_length }
stays_split kept piece further true there e t =
    let all = kept ++ piece in
    let four = take 4 all in
    let s = stays_bad all further e in
    let size = length-take 4 all in
    let long = leb-true 4 (length all) (and_left (nat_le 4 (length all)) (not (is_length (number_at all 0))) e) in
    let none : 4 - length four ≡ 0 = omega arith in
    ap (λ b. fed_by four further b (has_message (four ++ further))) s.four_longer
    ∙ (ap (λ l. record { taken = 4 - length four; kept = l; told = bad_length }) s.same_four ∙ ap (λ n. record { taken = n; kept = four; told = bad_length }) none)
stays_split kept piece further false true e t = absurd (cc)
stays_split kept piece further false false e t = absurd (cc)

pub bad_length_stays : BadLengthStays
bad_length_stays kept piece further t =
    stays_split kept piece further (has_bad_length (kept ++ piece)) (has_message (kept ++ piece)) refl t

-- The messages are all of the bytes

bytes_taken : (n : ℕ) (bytes : List ℕ) → ((i : ℕ) → get_or bytes i 0 < 256) → (i : ℕ) → get_or (take n bytes) i 0 < 256
bytes_taken zero bytes h i = omega arith
bytes_taken (suc n) [] h i = omega arith
bytes_taken (suc n) (b ∷ bytes) h zero = h 0
bytes_taken (suc n) (b ∷ bytes) h (suc i) = bytes_taken n bytes (λ j. h (suc j)) i

bytes_left : (n : ℕ) (bytes : List ℕ) → ((i : ℕ) → get_or bytes i 0 < 256) → (i : ℕ) → get_or (drop n bytes) i 0 < 256
bytes_left zero bytes h i = h i
bytes_left (suc n) [] h i = omega arith
bytes_left (suc n) (b ∷ bytes) h i = bytes_left n bytes (λ j. h (suc j)) i

-- the first message, and what is behind it
record FirstIsFramed (bytes : List ℕ) : Type 0 where
  pub all : framed (first_body bytes) ++ behind_first bytes ≡ bytes
  pub long : is_length (length (first_body bytes)) ≡ true

first_is_framed : (bytes : List ℕ) → ((i : ℕ) → get_or bytes i 0 < 256) → has_message bytes ≡ true → FirstIsFramed bytes
first_is_framed bytes h e =
    let n = number_at bytes 0 in
    let four = leb-true 4 (length bytes) (and_left (nat_le 4 (length bytes)) (is_length n && nat_le (4 + n) (length bytes)) e) in
    let inner = and_right (nat_le 4 (length bytes)) (is_length n && nat_le (4 + n) (length bytes)) e in
    let long = leb-true (4 + n) (length bytes) (and_right (is_length n) (nat_le (4 + n) (length bytes)) inner) in
    let rest = length-drop 4 bytes in
    let head = take 4 bytes in
    let body = first_body bytes in
    let size : length body ≡ n = length-take-le n (drop 4 bytes) (omega arith) in
    let width : length head ≡ 4 = length-take-le 4 bytes four in
    let number : number_bytes (length body) ≡ head = ap number_bytes size ∙ be_bytes_4 head n width (bytes_taken 4 bytes h) refl in
    let behind : behind_first bytes ≡ drop n (drop 4 bytes) = ap (λ l. drop (4 + n) l) (sym (take-append-drop 4 bytes)) ∙ (ap (λ k. drop (k + n) (head ++ drop 4 bytes)) (sym width) ∙ drop-append-add head (drop 4 bytes) n) in
    record {
      all = ap (λ l. (l ++ body) ++ behind_first bytes) number ∙ (append_assoc head body (behind_first bytes) ∙ (ap (λ l. head ++ (body ++ l)) behind ∙ (ap (λ l. head ++ l) (take-append-drop n (drop 4 bytes)) ∙ take-append-drop 4 bytes)));
      long = ap is_length size ∙ and_left (is_length n) (nat_le (4 + n) (length bytes)) inner;
    }

framed_split :
    (n : ℕ) (bytes : List ℕ) → ((i : ℕ) → get_or bytes i 0 < 256)
    → (has_message bytes ≡ true → AreTheMessages (behind_first bytes) (messages_within n (behind_first bytes))) → (b : Bool) → has_message bytes ≡ b
    → AreTheMessages bytes (cond b (with_body (first_body bytes) (messages_within n (behind_first bytes))) (only_rest bytes))
framed_split n bytes h next true e =
    let m = messages_within n (behind_first bytes) in
    let f = first_is_framed bytes h e in
    let rest = next e in
    record {
      all = append_assoc (framed (first_body bytes)) (flat_map framed m.bodies) m.rest ∙ (ap (λ l. framed (first_body bytes) ++ l) rest.all ∙ f.all);
      lengths = and_both (is_length (length (first_body bytes))) (list_all (λ body. is_length (length body)) m.bodies) f.long rest.lengths;
      ended = rest.ended;
    }
framed_split n bytes h next false e = record { all = refl; lengths = refl; ended = e }

framed_within : (n : ℕ) (bytes : List ℕ) → length bytes ≤ n → ((i : ℕ) → get_or bytes i 0 < 256) → AreTheMessages bytes (messages_within n bytes)
framed_within zero [] l h = record { all = refl; lengths = refl; ended = refl }
framed_within zero (b ∷ bytes) l h = absurd (omega arith)
framed_within (suc n) bytes l h =
    framed_split n bytes h (λ e. framed_within n (behind_first bytes) (shorter bytes n l) (bytes_left (4 + number_at bytes 0) bytes h)) (has_message bytes) refl

pub messages_are_framed : MessagesAreFramed
messages_are_framed bytes h = framed_within (length bytes) bytes (omega arith) h
