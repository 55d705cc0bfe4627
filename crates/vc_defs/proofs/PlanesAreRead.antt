-- The blocks of a coded plane are read from bytes exactly where entries stand for them. A head tells the mode and the
-- repeats, and the words behind it the values; what is read is an entry's block so often, and what an entry stands
-- for is read so.
use Rattle.std.proofs.Common.{◌≡◌, ◌∙◌, sym, ap, refl, subst, ℕ, suc, zero, ◌+◌, ◌*◌, ◌-◌, ◌/◌, ◌%◌, ◌<◌, ◌≤◌, inl, inr, List, [], ◌∷◌, ◌++◌, length, replicate, arith, append_assoc, length-append}
use Rattle.std.specs.Prelude.{ℤ, Bool, true, false, ◌&&◌, ◌||◌, not, nat_eq, nat_lt}
use Rattle.std.specs.List.{All}
use Rattle.std.specs.declared.option.Option.{Option}
use Rattle.std.specs.declared.option.Option.TheVariants.{Some, None}
use Rattle.std.proofs.lemmas.Option.{none-some}
use Rattle.std.proofs.lemmas.Bool.{and_parts, and_from, cond-true}
use Rattle.std.proofs.lemmas.Bool.Decides.{nat_tests}
use Rattle.std.proofs.lemmas.List.{length-replicate}
use Rattle.std.proofs.lemmas.List.Elements.{All-head, All-tail, All-nil, All-cons, All-append}
use Rattle.vc_defs.specs.Words.{Words, word_bytes, words_bytes, word_of, values_from, in_scan_order, from_scan_order}
use Rattle.vc_defs.specs.Planes.{Block, Entry, head_of, head_word, entry_bytes, entries_bytes, IsEntryOf, StandFor, Allowed, IsCodedPlane, inter_of, repeats_of, is_head, blocks_behind, after_head, blocks_from}
use Rattle.vc_defs.specs.Laws.{AreBytes}
use Rattle.vc_defs.proofs.ScanVisitsEachPlace.{in_from_scan_order, from_in_scan_order, length-in_scan_order, length-from_scan_order}
use Rattle.vc_defs.proofs.BlocksAreRead.{chosen, some_same, front_of, read_front, word_back}

pub all_behind : {A : Type 0} (P : A → Type 0) (xs ys : List A) → All P (xs ++ ys) → All P ys
all_behind P [] ys h = h
all_behind P (x ∷ xs) ys h = all_behind P xs ys (All-tail P x (xs ++ ys) h)

pub all_before : {A : Type 0} (P : A → Type 0) (xs ys : List A) → All P (xs ++ ys) → All P xs
all_before P [] ys h = All-nil P
all_before P (x ∷ xs) ys h = All-cons P x xs (All-head P x (xs ++ ys) h) (all_before P xs ys (All-tail P x (xs ++ ys) h))

all_alike : {A : Type 0} (P : A → Type 0) (n : ℕ) (x : A) → P x → All P (replicate n x)
all_alike P zero x p = All-nil P
all_alike P (suc n) x p = All-cons P x (replicate n x) p (all_alike P n x p)

-- The entries at the front of bytes stand for the blocks, and the rest stands behind them.
abbrev pub AreFront : Bool → ℕ → List ℕ → List ℕ → List Block → Type 0
AreFront inter count bytes rest blocks = (first : List ℕ) × ((bytes ≡ first ++ rest) × IsCodedPlane first inter count blocks)

blocks_behind_some : (first : List Block) (o : Option (List Block × List ℕ)) (r : List Block × List ℕ) → blocks_behind first o ≡ Some r → (q : List Block × List ℕ) × ((o ≡ Some q) × (r.0 ≡ first ++ q.0) × (r.1 ≡ q.1))
blocks_behind_some first None r e = absurd (none-some r e)
blocks_behind_some first (Some q) r e =
    let same : (first ++ q.0, q.1) ≡ r = some_same (first ++ q.0, q.1) r e in
    (q, (refl, ap (λ (p : List Block × List ℕ). p.0) (sym same), ap (λ (p : List Block × List ℕ). p.1) (sym same)))

abbrev block_with : ℕ → List ℤ → Block
block_with w values = record { inter = inter_of w; values = from_scan_order values }

-- what a head and values that gave blocks were
abbrev Went : Bool → ℕ → ℕ → Option (List ℤ × List ℕ) → (ℕ → List ℕ → Option (List Block × List ℕ)) → List Block → List ℕ → Type 0
Went inter left w values read blocks rest =
    (v : List ℤ × List ℕ) × ((values ≡ Some v) × (is_head inter left w ≡ true)
    × ((q : List Block) × ((read (left - (repeats_of w + 1)) v.1 ≡ Some (q, rest)) × (blocks ≡ replicate (repeats_of w + 1) (block_with w v.0) ++ q))))

went :
    (inter : Bool) (left w : ℕ) (values : Option (List ℤ × List ℕ)) (read : ℕ → List ℕ → Option (List Block × List ℕ)) (blocks : List Block) (rest : List ℕ)
    → after_head inter left w values read ≡ Some (blocks, rest) → Went inter left w values read blocks rest
went inter left w None read blocks rest e = absurd (none-some (blocks, rest) e)
went inter left w (Some v) read blocks rest e =
    elim (chosen (is_head inter left w) (blocks_behind (replicate (repeats_of w + 1) (block_with w v.0)) (read (left - (repeats_of w + 1)) v.1)) None (Some (blocks, rest)) e) [
      | inl p ↦
          let b = blocks_behind_some (replicate (repeats_of w + 1) (block_with w v.0)) (read (left - (repeats_of w + 1)) v.1) (blocks, rest) p.1 in
          (v, (refl, p.0, (b.0.0, (b.1.0 ∙ ap (λ t. Some (b.0.0, t)) (sym b.1.2), b.1.1))))
      | inr p ↦ absurd (none-some (blocks, rest) p.1)
    ]

-- what the test of a head says
head_says : (inter : Bool) (left w : ℕ) → is_head inter left w ≡ true → (w ≡ head_of (inter_of w) (repeats_of w)) × (repeats_of w < left) × (inter_of w ≡ true → inter ≡ true)
head_says inter left w e =
    let both = and_parts (nat_eq w (head_of (inter_of w) (repeats_of w)) && nat_lt (repeats_of w) left) (inter || not (inter_of w)) e in
    let two = and_parts (nat_eq w (head_of (inter_of w) (repeats_of w))) (nat_lt (repeats_of w) left) both.0 in
    let is : nat_eq w (head_of (inter_of w) (repeats_of w)) ≡ true = two.0 in
    let less : nat_lt (repeats_of w) left ≡ true = two.1 in
    (grind (arith, nat_tests), grind (arith, nat_tests), only inter (inter_of w) both.1)
  where
    only : (a b : Bool) → (a || not b) ≡ true → b ≡ true → a ≡ true
    only true b e p = refl
    only false true e p = e
    only false false e p = p

none_read : (inter : Bool) (bytes rest : List ℕ) (blocks : List Block) → blocks_from 0 inter 0 bytes ≡ Some (blocks, rest) → AreFront inter 0 bytes rest blocks
none_read inter bytes rest blocks e =
    let same : ([], bytes) ≡ (blocks, rest) = some_same ([], bytes) (blocks, rest) e in
    let none : blocks ≡ [] = ap (λ (p : List Block × List ℕ). p.0) (sym same) in (
      [],
      (
        ap (λ (p : List Block × List ℕ). p.1) same,
        record {
          entries = [];
          spelled = refl;
          standing = none;
          complete = ap length none;
          allowed = subst (λ (bs : List Block). Allowed inter bs) (sym none) (All-nil (λ (b : Block). b.inter ≡ true → inter ≡ true));
        },
      ),
    )

-- What is read is stood for by entries.
pub blocks_of : (turns : ℕ) (inter : Bool) (left : ℕ) (bytes rest : List ℕ) (blocks : List Block) → AreBytes bytes → blocks_from turns inter left bytes ≡ Some (blocks, rest) → AreFront inter left bytes rest blocks
blocks_of zero inter zero bytes rest blocks ok e = none_read inter bytes rest blocks e
blocks_of (suc turns) inter zero bytes rest blocks ok e = none_read inter bytes rest blocks e
blocks_of zero inter (suc left) bytes rest blocks ok e = absurd (none-some (blocks, rest) e)
blocks_of (suc turns) inter (suc left) [] rest blocks ok e = absurd (none-some (blocks, rest) e)
blocks_of (suc turns) inter (suc left) (b ∷ []) rest blocks ok e = absurd (none-some (blocks, rest) e)
blocks_of (suc turns) inter (suc left) (high ∷ low ∷ bytes) rest blocks ok e =
    let p = went inter (suc left) (word_of high low) (values_from 64 bytes) (λ n rest. blocks_from turns inter n rest) blocks rest e in
    let says = head_says inter (suc left) (word_of high low) p.1.1 in
    let later = All-tail (λ b. b < 256) high (low ∷ bytes) ok in
    let hh : high < 256 = All-head (λ b. b < 256) high (low ∷ bytes) ok in
    let hl : low < 256 = All-head (λ b. b < 256) low bytes later in
    let back : word_bytes (word_of high low) ≡ high ∷ low ∷ [] = word_back high low hh hl in
    let ok' : AreBytes bytes = All-tail (λ b. b < 256) low bytes later in
    let f = front_of 64 bytes p.0.1 p.0.0 ok' p.1.0 in
    let ok'' : AreBytes p.0.1 = all_behind (λ b. b < 256) (words_bytes f.0) p.0.1 (subst (λ (t : List ℕ). AreBytes t) f.1.0 ok') in
    let inner = blocks_of turns inter (suc left - (repeats_of (word_of high low) + 1)) p.0.1 rest p.1.2.0 ok'' p.1.2.1.0 in
    let b : Block = block_with (word_of high low) p.0.0 in
    let e : Entry = record { inter = inter_of (word_of high low); repeats = repeats_of (word_of high low); words = f.0 } in
    let front : high ∷ low ∷ (words_bytes f.0 ++ inner.0) ≡ entry_bytes e ++ inner.0 =
    ap (λ t. t ++ (words_bytes f.0 ++ inner.0)) (sym back ∙ ap (λ v. word_bytes v) says.0) ∙ sym (append_assoc (word_bytes (head_word e)) (words_bytes f.0) inner.0) in
    let ones : length (replicate (repeats_of (word_of high low) + 1) b) ≡ repeats_of (word_of high low) + 1 = length-replicate (repeats_of (word_of high low) + 1) b in
    let many : length p.1.2.0 ≡ suc left - (repeats_of (word_of high low) + 1) = inner.1.1.complete in
    let fits : repeats_of (word_of high low) < 4096 = omega arith in
    let words : Words f.0 (in_scan_order (from_scan_order p.0.0)) = subst (λ (t : List ℤ). Words f.0 t) (sym (in_from_scan_order p.0.0 f.1.1)) f.1.2 in (
      high ∷ low ∷ (words_bytes f.0 ++ inner.0),
      (
        ap (λ t. high ∷ low ∷ t) (f.1.0 ∙ ap (λ t. words_bytes f.0 ++ t) inner.1.0 ∙ sym (append_assoc (words_bytes f.0) inner.0 rest)),
        record {
          entries = e ∷ inner.1.1.entries;
          spelled = front ∙ ap (λ t. entry_bytes e ++ t) inner.1.1.spelled;
          standing = (b, (p.1.2.0, ((fits, refl, length-from_scan_order p.0.0, words), p.1.2.1.1, inner.1.1.standing)));
          complete = ap length p.1.2.1.1 ∙ length-append (replicate (repeats_of (word_of high low) + 1) b) p.1.2.0 ∙ omega (arith, ones, many, says.1);
          allowed = subst (λ (bs : List Block). Allowed inter bs) (sym p.1.2.1.1)
              (All-append (λ (b : Block). b.inter ≡ true → inter ≡ true) (replicate (repeats_of (word_of high low) + 1) b) p.1.2.0
              (all_alike (λ (b : Block). b.inter ≡ true → inter ≡ true) (repeats_of (word_of high low) + 1) b says.2) inner.1.1.allowed);
        },
      ),
    )

blocks_of_none : (turns : ℕ) (inter : Bool) (rest : List ℕ) → blocks_from turns inter 0 rest ≡ Some ([], rest)
blocks_of_none zero inter rest = refl
blocks_of_none (suc turns) inter rest = refl

word_there : (w : ℕ) → w < 65536 → word_of (w / 256 % 256) (w % 256) ≡ w
word_there w h = omega arith

inter_there : (b : Bool) (r : ℕ) → r < 4096 → inter_of (head_of b r) ≡ b
inter_there true r h = grind (arith, nat_tests)
inter_there false r h = grind (arith, nat_tests)

repeats_there : (b : Bool) (r : ℕ) → r < 4096 → repeats_of (head_of b r) ≡ r
repeats_there true r h = let e : (32768 + 2 * r) / 2 % 4096 ≡ r = omega arith in e
repeats_there false r h = let e : (0 + 2 * r) / 2 % 4096 ≡ r = omega arith in e

head_small : (b : Bool) (r : ℕ) → r < 4096 → head_of b r < 65536
head_small true r h = omega arith
head_small false r h = omega arith

same_number : (n : ℕ) → nat_eq n n ≡ true
same_number n = grind (arith, nat_tests)

allowed_head : (inter b : Bool) → (b ≡ true → inter ≡ true) → (inter || not b) ≡ true
allowed_head true b h = refl
allowed_head false true h = h refl
allowed_head false false h = refl

is_head_there : (inter : Bool) (left : ℕ) (b : Bool) (r : ℕ) → r < 4096 → r < left → (b ≡ true → inter ≡ true) → is_head inter left (head_of b r) ≡ true
is_head_there inter left b r h less may =
    let i : inter_of (head_of b r) ≡ b = inter_there b r h in
    let n : repeats_of (head_of b r) ≡ r = repeats_there b r h in
    and_from (nat_eq (head_of b r) (head_of (inter_of (head_of b r)) (repeats_of (head_of b r))) && nat_lt (repeats_of (head_of b r)) left) (inter || not (inter_of (head_of b r)))
    (and_from (nat_eq (head_of b r) (head_of (inter_of (head_of b r)) (repeats_of (head_of b r)))) (nat_lt (repeats_of (head_of b r)) left)
    (ap (λ c. nat_eq (head_of b r) (head_of c (repeats_of (head_of b r)))) i ∙ ap (λ n. nat_eq (head_of b r) (head_of b n)) n ∙ same_number (head_of b r))
    (ap (λ n. nat_lt n left) n ∙ grind (arith, nat_tests)))
    (ap (λ c. inter || not c) i ∙ allowed_head inter b may)

-- an entry and what stands behind it are read as a block, so often, and what is read there
entry_back : (turns : ℕ) (inter : Bool) (left : ℕ) (e : Entry) (b : Block) (others : List Block) (later rest : List ℕ) → left ≡ e.repeats + 1 + length others → IsEntryOf e b → (b.inter ≡ true → inter ≡ true) →
    blocks_from turns inter (length others) later ≡ Some (others, rest) → blocks_from (suc turns) inter left (entry_bytes e ++ later) ≡ Some (replicate (e.repeats + 1) b ++ others, rest)
entry_back turns inter zero e b others later rest is entry may inner = absurd (omega arith)
entry_back turns inter (suc left) e b others later rest is entry may inner =
    let w : head_word e < 65536 = head_small e.inter e.repeats entry.0 in
    let less : e.repeats < suc left = omega arith in
    let fewer : suc left - (e.repeats + 1) ≡ length others = omega arith in
    let values : values_from 64 (words_bytes e.words ++ later) ≡ Some (in_scan_order b.values, later) =
    ap (λ n. values_from n (words_bytes e.words ++ later)) (sym (length-in_scan_order b.values)) ∙ read_front e.words later (in_scan_order b.values) entry.3 in
    let head : is_head inter (suc left) (head_word e) ≡ true = is_head_there inter (suc left) e.inter e.repeats entry.0 less (λ h. may (entry.1 ∙ h)) in
    let block : block_with (head_word e) (in_scan_order b.values) ≡ b =
    ap (λ i. record { inter = i; values = from_scan_order (in_scan_order b.values) }) (inter_there e.inter e.repeats entry.0 ∙ sym entry.1)
    ∙ ap (λ vs. record { inter = b.inter; values = vs }) (from_in_scan_order b.values entry.2) in
    let n : repeats_of (head_word e) ≡ e.repeats = repeats_there e.inter e.repeats entry.0 in
    ap (λ t. blocks_from (suc turns) inter (suc left) t) (append_assoc (word_bytes (head_word e)) (words_bytes e.words) later)
    ∙ ap (λ v. after_head inter (suc left) v (values_from 64 (words_bytes e.words ++ later)) (λ n rest. blocks_from turns inter n rest)) (word_there (head_word e) w)
    ∙ ap (λ o. after_head inter (suc left) (head_word e) o (λ n rest. blocks_from turns inter n rest)) values
    ∙ cond-true (is_head inter (suc left) (head_word e))
    (blocks_behind (replicate (repeats_of (head_word e) + 1) (block_with (head_word e) (in_scan_order b.values))) (blocks_from turns inter (suc left - (repeats_of (head_word e) + 1)) later))
    None head
    ∙ ap (λ n. blocks_behind (replicate (n + 1) (block_with (head_word e) (in_scan_order b.values))) (blocks_from turns inter (suc left - (n + 1)) later)) n
    ∙ ap (λ c. blocks_behind (replicate (e.repeats + 1) c) (blocks_from turns inter (suc left - (e.repeats + 1)) later)) block
    ∙ ap (λ n. blocks_behind (replicate (e.repeats + 1) b) (blocks_from turns inter n later)) fewer
    ∙ ap (λ o. blocks_behind (replicate (e.repeats + 1) b) o) inner

first_allowed : (inter : Bool) (n : ℕ) (b : Block) (others : List Block) → Allowed inter (replicate (n + 1) b ++ others) → b.inter ≡ true → inter ≡ true
first_allowed inter n b others h =
    let e : n + 1 ≡ suc n = omega arith in
    All-head (λ (b : Block). b.inter ≡ true → inter ≡ true) b (replicate n b ++ others) (subst (λ (k : ℕ). Allowed inter (replicate k b ++ others)) e h)

-- What entries stand for is read.
read_blocks :
    (turns : ℕ) (inter : Bool) (es : List Entry) (blocks : List Block) (rest : List ℕ) → length blocks ≤ turns → StandFor es blocks
    → Allowed inter blocks → blocks_from turns inter (length blocks) (entries_bytes es ++ rest) ≡ Some (blocks, rest)
read_blocks turns inter [] blocks rest enough standing may =
    subst (λ (bs : List Block). blocks_from turns inter (length bs) rest ≡ Some (bs, rest)) (sym standing) (blocks_of_none turns inter rest)
read_blocks zero inter (e ∷ es) blocks rest enough standing may =
    let long : length blocks ≡ e.repeats + 1 + length standing.1.0 =
    ap length standing.1.1.1 ∙ length-append (replicate (e.repeats + 1) standing.0) standing.1.0 ∙ ap (λ n. n + length standing.1.0) (length-replicate (e.repeats + 1) standing.0) in
    absurd (omega arith)
read_blocks (suc turns) inter (e ∷ es) blocks rest enough standing may =
    let long : length blocks ≡ e.repeats + 1 + length standing.1.0 =
    ap length standing.1.1.1 ∙ length-append (replicate (e.repeats + 1) standing.0) standing.1.0 ∙ ap (λ n. n + length standing.1.0) (length-replicate (e.repeats + 1) standing.0) in
    let all : Allowed inter (replicate (e.repeats + 1) standing.0 ++ standing.1.0) = subst (λ (bs : List Block). Allowed inter bs) standing.1.1.1 may in
    let may' : Allowed inter standing.1.0 = all_behind (λ (b : Block). b.inter ≡ true → inter ≡ true) (replicate (e.repeats + 1) standing.0) standing.1.0 all in
    let may'' : standing.0.inter ≡ true → inter ≡ true = first_allowed inter e.repeats standing.0 standing.1.0 all in
    let inner : blocks_from turns inter (length standing.1.0) (entries_bytes es ++ rest) ≡ Some (standing.1.0, rest) = read_blocks turns inter es standing.1.0 rest (omega arith) standing.1.1.2 may' in
    ap (λ t. blocks_from (suc turns) inter (length blocks) t) (append_assoc (entry_bytes e) (entries_bytes es) rest)
    ∙ entry_back turns inter (length blocks) e standing.0 standing.1.0 (entries_bytes es ++ rest) rest long standing.1.1.0 may'' inner
    ∙ ap (λ bs. Some (bs, rest)) (sym standing.1.1.1)

pub read_coded : (inter : Bool) (count : ℕ) (bytes rest : List ℕ) (blocks : List Block) → AreFront inter count bytes rest blocks → blocks_from count inter count bytes ≡ Some (blocks, rest)
read_coded inter count bytes rest blocks f =
    let p = f.1.1 in
    let enough : length blocks ≤ count = omega (arith, p.complete) in
    ap (λ t. blocks_from count inter count t) (f.1.0 ∙ ap (λ t. t ++ rest) p.spelled)
    ∙ ap (λ n. blocks_from count inter n (entries_bytes p.entries ++ rest)) (sym p.complete)
    ∙ read_blocks count inter p.entries blocks rest enough p.standing p.allowed
