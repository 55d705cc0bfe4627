-- Printed lines have no line feed but at their end, and numbers have digits alone.
use Rattle.std.proofs.Common.{◌≡◌, ℕ, zero, suc, ◌+◌, ◌/◌, ◌%◌, ◌<◌, ◌≤◌, ◌^◌, Bool, true, false, ◌&&◌, ◌==◌, nat_lt, nat_le, cond, List, [], ◌∷◌, ◌++◌, length, get_or, take, drop, codes, decimal, refl, sym, ◌∙◌, ap, arith, append_assoc}
use Rattle.std.specs.List.{list_all}
use Rattle.std.specs.Fmt.{digit_glyph, digits_onto, digits}
use Rattle.std.proofs.lemmas.Bool.{ne_eqb, leb-true}
use Rattle.std.proofs.lemmas.Fmt.{decimal_is_IsNumeral}
use Rattle.std.specs.Str.Parse.{digits_value}
use Rattle.hex.specs.Hex.{encode_with, lower_digits}
use Rattle.vc_base.specs.declared.Errno.{Errno}
use Rattle.vc_base.specs.declared.Errno.TheVariants as errnos
use Rattle.vc_base.specs.declared.Fourcc.{Fourcc}
use Rattle.vc_base.specs.declared.Call.{Call}
use Rattle.vc_base.specs.declared.Reply.{Reply}
use Rattle.vc_base.specs.declared.Reply.TheVariants as replies
use Rattle.vc_base.specs.Errnos.{errno_name}
use Rattle.vc_script.specs.declared.verb.Verb.{Verb}
use Rattle.vc_script.specs.declared.verb.Verb.TheVariants as verbs
use Rattle.vc_script.specs.Fields.{printable}
use Rattle.vc_script.specs.Verb.{verb_name}
use Rattle.vc_script.specs.Texts.{call_verb, takes_capture, fourcc_text, flag_text, payload_text, bit_text, answer_words, spaced, reply_text, claim_text, finish_text}
use Rattle.vc_script.specs.OneLine.{stays_on_line, is_digit, IsLineOf}

-- Tests of every byte

both : (b c : Bool) → b ≡ true → c ≡ true → (b && c) ≡ true
both true true p q = refl
both true false p q = cc
both false c p q = cc

and_parts : (b c : Bool) → (b && c) ≡ true → (b ≡ true) × (c ≡ true)
and_parts true c h = (refl, h)
and_parts false c h = cc

all_append : {X : Type 0} (p : X → Bool) (xs ys : List X) → list_all p xs ≡ true → list_all p ys ≡ true → list_all p (xs ++ ys) ≡ true
all_append p [] ys e f = f
all_append p (x ∷ xs) ys e f = one_more (p x) (list_all p xs) (list_all p (xs ++ ys)) e (all_append p xs ys)
  where
    one_more : (b all more : Bool) → (b && all) ≡ true → (all ≡ true → list_all p ys ≡ true → more ≡ true) → (b && more) ≡ true
    one_more true all more e h = h e f
    one_more false all more e h = cc

all_if : (p : ℕ → Bool) (b : Bool) (xs ys : List ℕ) → list_all p xs ≡ true → list_all p ys ≡ true → list_all p (cond b xs ys) ≡ true
all_if p true xs ys e f = e
all_if p false xs ys e f = f

-- a place of a text whose bytes all pass, or 0 past its end
all_at : (p : ℕ → Bool) (xs : List ℕ) (i : ℕ) → p 0 ≡ true → list_all p xs ≡ true → p (get_or xs i 0) ≡ true
all_at p [] i e h = e
all_at p (x ∷ xs) zero e h = (and_parts (p x) (list_all p xs) h).0
all_at p (x ∷ xs) (suc i) e h = all_at p xs i e (and_parts (p x) (list_all p xs) h).1

-- Digits in a base are letters and digits

glyph_high : (d : ℕ) → 48 ≤ digit_glyph false d
glyph_high d = either (nat_lt d 10)
  where
    either : (b : Bool) → 48 ≤ cond b (48 + d) (87 + d)
    either true = omega arith
    either false = omega arith

module _ (p : ℕ → Bool) (high : (b : ℕ) → 48 ≤ b → p b ≡ true) where
  onto_all : (k base n : ℕ) (acc : List ℕ) → list_all p acc ≡ true → list_all p (digits_onto k base false n acc) ≡ true
  onto_all zero base n acc e = e
  onto_all (suc k) base n acc e =
      let glyph = digit_glyph false (n % base) in
      let more : list_all p (glyph ∷ acc) ≡ true = both (p glyph) (list_all p acc) (high glyph (glyph_high (n % base))) e in
      all_if p (n / base == 0) (glyph ∷ acc) (digits_onto k base false (n / base) (glyph ∷ acc)) more (onto_all k base (n / base) (glyph ∷ acc) more)

  digits_all : (base n : ℕ) → list_all p (digits base false n) ≡ true
  unfolding digits
  digits_all base n = onto_all 64 base n [] refl

onto_some : (k base n : ℕ) (acc : List ℕ) → 0 < length acc → 0 < length (digits_onto k base false n acc)
onto_some zero base n acc e = e
onto_some (suc k) base n acc e = if_some (n / base == 0) (digits_onto k base false (n / base) (digit_glyph false (n % base) ∷ acc)) (onto_some k base (n / base) (digit_glyph false (n % base) ∷ acc) (omega arith))
  where
    if_some : (b : Bool) (ys : List ℕ) → 0 < length ys → 0 < length (cond b (digit_glyph false (n % base) ∷ acc) ys)
    if_some true ys h = omega arith
    if_some false ys h = h

first_digit : (k base n : ℕ) → 0 < length (digits_onto (suc k) base false n [])
first_digit k base n = if_some (n / base == 0) (digits_onto k base false (n / base) (digit_glyph false (n % base) ∷ [])) (onto_some k base (n / base) (digit_glyph false (n % base) ∷ []) (omega arith))
  where
    if_some : (b : Bool) (ys : List ℕ) → 0 < length ys → 0 < length (cond b (digit_glyph false (n % base) ∷ []) ys)
    if_some true ys h = omega arith
    if_some false ys h = h

pub number_is_word : (n : ℕ) → decimal n ≡ [] → ⊥
unfolding digits
number_is_word n e = let some : 0 < length (digits_onto 64 10 false n []) = first_digit 63 10 n in omega (arith, some, ap length e)

pub numbers_differ : (n m : ℕ) → n < 2 ^ 64 → m < 2 ^ 64 → decimal n ≡ decimal m → n ≡ m
numbers_differ n m h k e = sym (decimal_is_IsNumeral n h).1 ∙ ap (λ z. digits_value 10 z) e ∙ (decimal_is_IsNumeral m k).1

stays_high : (b : ℕ) → 48 ≤ b → stays_on_line b ≡ true
stays_high b h = rw (ne_eqb b 10 (λ e. omega arith)) refl

digit_high : (b : ℕ) → 48 ≤ b → is_digit b ≡ true
digit_high b h = rw (ne_eqb b 10 (λ e. omega arith), ne_eqb b 32 (λ e. omega arith), ne_eqb b 45 (λ e. omega arith)) refl

pub number_is_digits : (n : ℕ) → list_all is_digit (decimal n) ≡ true
number_is_digits n = digits_all is_digit digit_high 10 n

-- The words of an answer

abbrev Stays : List ℕ → Type 0
Stays w = list_all stays_on_line w ≡ true

number_stays : (n : ℕ) → Stays (decimal n)
number_stays n = digits_all stays_on_line stays_high 10 n

flags_stay : (n : ℕ) → Stays (flag_text n)
flags_stay n = digits_all stays_on_line stays_high 16 n

hex_stays : (bytes : List ℕ) → Stays (encode_with lower_digits bytes)
unfolding encode_with
hex_stays [] = refl
hex_stays (b ∷ rest) =
    let high : stays_on_line (get_or lower_digits (b / 16) 0) ≡ true = all_at stays_on_line lower_digits (b / 16) refl refl in
    let low : stays_on_line (get_or lower_digits (b % 16) 0) ≡ true = all_at stays_on_line lower_digits (b % 16) refl refl in
    both (stays_on_line (get_or lower_digits (b / 16) 0))
    (stays_on_line (get_or lower_digits (b % 16) 0) && list_all stays_on_line (encode_with lower_digits rest)) high
    (both (stays_on_line (get_or lower_digits (b % 16) 0)) (list_all stays_on_line (encode_with lower_digits rest)) low (hex_stays rest))

payload_stays : (from_capture : Bool) (used : ℕ) (payload : List ℕ) → Stays (payload_text from_capture used payload)
payload_stays false used payload = refl
payload_stays true used payload = all_if stays_on_line (nat_lt 0 used) (encode_with lower_digits (take used payload)) (codes "-") (hex_stays (take used payload)) refl

bit_stays : (b : Bool) → Stays (bit_text b)
bit_stays true = refl
bit_stays false = refl

errno_stays : (e : Errno) → Stays (errno_name e)
errno_stays errnos.NoEnt = refl
errno_stays errnos.Again = refl
errno_stays errnos.NoMem = refl
errno_stays errnos.Busy = refl
errno_stays errnos.Inval = refl
errno_stays errnos.NoTty = refl
errno_stays errnos.Pipe = refl

printable_stays : (bytes : List ℕ) → list_all printable bytes ≡ true → Stays bytes
printable_stays [] e = refl
printable_stays (b ∷ bytes) e =
    let parts = and_parts (printable b) (list_all printable bytes) e in
    both (stays_on_line b) (list_all stays_on_line bytes) (rw (ne_eqb b 10 (λ t. let low = leb-true 33 b (and_parts (nat_le 33 b) (nat_le b 126) parts.0).0 in omega (arith, low))) refl) (printable_stays bytes parts.1)

fourcc_stays : (f : Fourcc) → Stays (fourcc_text f)
fourcc_stays f = either (list_all printable f.0) (printable_stays f.0)
  where
    either : (b : Bool) → (b ≡ true → Stays f.0) → Stays (cond b f.0 (codes "????"))
    either true h = h refl
    either false h = refl

verb_stays : (v : Verb) → Stays (verb_name v)
verb_stays verbs.Open = refl
verb_stays verbs.Close = refl
verb_stays verbs.EnumFormat = refl
verb_stays verbs.GetFormat = refl
verb_stays verbs.TryFormat = refl
verb_stays verbs.SetFormat = refl
verb_stays verbs.Request = refl
verb_stays verbs.Create = refl
verb_stays verbs.Query = refl
verb_stays verbs.Queue = refl
verb_stays verbs.Dequeue = refl
verb_stays verbs.DequeueWait = refl
verb_stays verbs.On = refl
verb_stays verbs.Off = refl
verb_stays verbs.Subscribe = refl
verb_stays verbs.Unsubscribe = refl
verb_stays verbs.Event = refl
verb_stays verbs.EventWait = refl
verb_stays verbs.DecoderCommand = refl
verb_stays verbs.EncoderCommand = refl
verb_stays verbs.GetControl = refl
verb_stays verbs.SetControl = refl
verb_stays verbs.Poll = refl

abbrev AllStay : List (List ℕ) → Type 0
AllStay [] = Unit {0}
AllStay (w ∷ ws) = Stays w × AllStay ws

spaced_stays : (ws : List (List ℕ)) → AllStay ws → Stays (spaced ws)
spaced_stays [] e = refl
spaced_stays (w ∷ ws) e = all_append stays_on_line w (spaced ws) e.0 (spaced_stays ws e.1)

answer_stays : (call : Call) (reply : Reply) (payload : List ℕ) → AllStay (answer_words call reply payload)
answer_stays call replies.Done payload = (refl, tt)
answer_stays call (replies.Desc fourcc) payload = (refl, (fourcc_stays fourcc, tt))
answer_stays call (replies.Fmt f) payload = (refl, (fourcc_stays f.fourcc, (number_stays f.width, (number_stays f.height, (number_stays f.size, tt)))))
answer_stays call (replies.Count count) payload = (refl, (number_stays count, tt))
answer_stays call (replies.Created index count) payload = (refl, (number_stays index, (number_stays count, tt)))
answer_stays call (replies.Info index size flags) payload = (refl, (number_stays index, (number_stays size, (flags_stay flags, tt))))
answer_stays call (replies.Taken index used flags seq stamp) payload = (refl, (number_stays index, (number_stays used, (flags_stay flags, (number_stays seq, (number_stays stamp.0, (payload_stays (takes_capture call) used payload, tt)))))))
answer_stays call (replies.Happened event seq changes pending) payload = (refl, (number_stays event, (number_stays seq, (number_stays changes, (number_stays pending, tt)))))
answer_stays call (replies.Value value) payload = (refl, (number_stays value, tt))
answer_stays call (replies.Ready read write urgent) payload = (refl, (bit_stays read, (bit_stays write, (bit_stays urgent, tt))))
answer_stays call (replies.Refused errno) payload = (errno_stays errno, tt)
answer_stays call replies.Blocked payload = (refl, tt)

-- Lines

pub reply_is_line : (slot : ℕ) (call : Call) (reply : Reply) (payload : List ℕ) → IsLineOf slot (reply_text slot call reply payload)
unfolding reply_text
reply_is_line slot call reply payload =
    let verb = verb_name (call_verb call) in
    let words = spaced (answer_words call reply payload) in (
      verb ++ words,
      append_assoc (decimal slot) (32 ∷ (verb ++ words)) (10 ∷ []),
      all_append stays_on_line verb words (verb_stays (call_verb call)) (spaced_stays (answer_words call reply payload) (answer_stays call reply payload)),
    )

pub claim_is_line : (slot : ℕ) → IsLineOf slot (claim_text slot)
claim_is_line slot = (codes "claim", refl, refl)

pub finish_is_line : (slot : ℕ) (word : List ℕ) → list_all stays_on_line word ≡ true → IsLineOf slot (finish_text slot word)
finish_is_line slot word e = (codes "finish " ++ word, refl, e)

-- Want of memory

same_front : (xs ys zs : List ℕ) → xs ++ ys ≡ xs ++ zs → ys ≡ zs
same_front [] ys zs e = e
same_front (x ∷ xs) ys zs e = same_front xs ys zs (ap (drop 1) e)

want_of_errno : (errno : Errno) → spaced (errno_name errno ∷ []) ++ 10 ∷ [] ≡ codes " ENOMEM\n" → replies.Refused errno ≡ replies.Refused errnos.NoMem
want_of_errno errnos.NoEnt e = let d : ◌≡◌ {A = ℕ} 69 77 = ap (λ z. get_or z 4 0) e in absurd (omega (arith, d))
want_of_errno errnos.Again e = let d : ◌≡◌ {A = ℕ} 65 78 = ap (λ z. get_or z 2 0) e in absurd (omega (arith, d))
want_of_errno errnos.NoMem e = refl
want_of_errno errnos.Busy e = let d : ◌≡◌ {A = ℕ} 66 78 = ap (λ z. get_or z 2 0) e in absurd (omega (arith, d))
want_of_errno errnos.Inval e = let d : ◌≡◌ {A = ℕ} 73 78 = ap (λ z. get_or z 2 0) e in absurd (omega (arith, d))
want_of_errno errnos.NoTty e = let d : ◌≡◌ {A = ℕ} 84 77 = ap (λ z. get_or z 4 0) e in absurd (omega (arith, d))
want_of_errno errnos.Pipe e = let d : ◌≡◌ {A = ℕ} 80 78 = ap (λ z. get_or z 2 0) e in absurd (omega (arith, d))

want_of_words : (call : Call) (reply : Reply) (payload : List ℕ) → spaced (answer_words call reply payload) ++ 10 ∷ [] ≡ codes " ENOMEM\n" → reply ≡ replies.Refused errnos.NoMem
want_of_words call replies.Done payload e = let d : ◌≡◌ {A = ℕ} 111 69 = ap (λ z. get_or z 1 0) e in absurd (omega (arith, d))
want_of_words call (replies.Desc fourcc) payload e = let d : ◌≡◌ {A = ℕ} 111 69 = ap (λ z. get_or z 1 0) e in absurd (omega (arith, d))
want_of_words call (replies.Fmt f) payload e = let d : ◌≡◌ {A = ℕ} 111 69 = ap (λ z. get_or z 1 0) e in absurd (omega (arith, d))
want_of_words call (replies.Count count) payload e = let d : ◌≡◌ {A = ℕ} 111 69 = ap (λ z. get_or z 1 0) e in absurd (omega (arith, d))
want_of_words call (replies.Created index count) payload e = let d : ◌≡◌ {A = ℕ} 111 69 = ap (λ z. get_or z 1 0) e in absurd (omega (arith, d))
want_of_words call (replies.Info index size flags) payload e = let d : ◌≡◌ {A = ℕ} 111 69 = ap (λ z. get_or z 1 0) e in absurd (omega (arith, d))
want_of_words call (replies.Taken index used flags seq stamp) payload e = let d : ◌≡◌ {A = ℕ} 111 69 = ap (λ z. get_or z 1 0) e in absurd (omega (arith, d))
want_of_words call (replies.Happened event seq changes pending) payload e = let d : ◌≡◌ {A = ℕ} 111 69 = ap (λ z. get_or z 1 0) e in absurd (omega (arith, d))
want_of_words call (replies.Value value) payload e = let d : ◌≡◌ {A = ℕ} 111 69 = ap (λ z. get_or z 1 0) e in absurd (omega (arith, d))
want_of_words call (replies.Ready read write urgent) payload e = let d : ◌≡◌ {A = ℕ} 111 69 = ap (λ z. get_or z 1 0) e in absurd (omega (arith, d))
want_of_words call (replies.Refused errno) payload e = want_of_errno errno e
want_of_words call replies.Blocked payload e = let d : ◌≡◌ {A = ℕ} 98 69 = ap (λ z. get_or z 1 0) e in absurd (omega (arith, d))

-- behind the slot and the verb
answer_behind : (slot : ℕ) (verb more : List ℕ) → ((decimal slot ++ (32 ∷ (verb ++ more))) ++ 10 ∷ []) ≡ (decimal slot ++ (32 ∷ verb)) ++ (more ++ 10 ∷ [])
answer_behind slot verb more =
    ap (λ z. z ++ 10 ∷ []) (sym (append_assoc (decimal slot) (32 ∷ verb) more)) ∙ append_assoc (decimal slot ++ (32 ∷ verb)) more (10 ∷ [])

pub want_told : (slot : ℕ) (call : Call) (reply : Reply) (payload other : List ℕ) → reply_text slot call reply payload ≡ reply_text slot call (replies.Refused errnos.NoMem) other → reply ≡ replies.Refused errnos.NoMem
unfolding reply_text
want_told slot call reply payload other e =
    let verb = verb_name (call_verb call) in
    want_of_words call reply payload
    (same_front (decimal slot ++ (32 ∷ verb)) (spaced (answer_words call reply payload) ++ 10 ∷ []) (codes " ENOMEM\n")
    (sym (answer_behind slot verb (spaced (answer_words call reply payload))) ∙ e ∙ answer_behind slot verb (codes " ENOMEM")))
