-- The order of the options does not matter.
use Rattle.std.proofs.Common.{◌≡◌, refl, sym, ◌∙◌, ap, subst, ℕ, Bool, true, false, ◌&&◌, not, cond, List, [], ◌∷◌, ◌++◌, Option, Some, None, is_some}
use Rattle.std.specs.Bool.{Decides}
use Rattle.std.specs.Str.{bytes_eq}
use Rattle.std.proofs.lemmas.Slice.Eq.{bytes_eq-Decides}
use Rattle.vc_base.specs.declared.Fourcc.{Fourcc}
use Rattle.vc_script.specs.Optional.{◌>>=◌}
use Rattle.vc_words.specs.declared.options.Name.{Name}
use Rattle.vc_words.specs.declared.options.Name.TheVariants as names
use Rattle.vc_words.specs.declared.options.NumberOption.{NumberOption}
use Rattle.vc_words.specs.Options.{name_text, is_known, value_of, is_single, are_options, number_in, number_for}
use Rattle.vc_words.specs.Formats.{width_option, height_option, fourcc_in, sized_format, format_for}
use Rattle.vc_words.specs.Commands.{slots_option, gop_option, iqp_option, pqp_option, workers_option, made_pictures_option, shared_pictures_option}
use Rattle.vc_words.specs.Commands.{number_option, contexts_option, rates_for, script_options, encode_options, decode_options, make_options, share_options}
use Rattle.vc_words.specs.Commands.{transcode_options, audit_options, wire_options, command_of}
use Rattle.vc_defs.specs.Raw.{yu12}
use Rattle.vc_words.specs.Laws.{Pair, words_of}

-- Tests

agree : {P Q : Type 0} (x y : Bool) → Decides x P → Decides y Q → (P → Q) → (Q → P) → x ≡ y
agree true true p q f g = refl
agree true false p q f g = sym (q.1 (f (p.0 refl)))
agree false true p q f g = p.1 (g (q.0 refl))
agree false false p q f g = refl

same_flipped : (a b : List ℕ) → bytes_eq a b ≡ bytes_eq b a
same_flipped a b = agree (bytes_eq a b) (bytes_eq b a) (bytes_eq-Decides a b) (bytes_eq-Decides b a) sym sym

-- two words that are a third are one
same_both : (a b c : List ℕ) → bytes_eq a c ≡ true → bytes_eq b c ≡ true → bytes_eq b a ≡ true
same_both a b c x y = (bytes_eq-Decides b a).1 ((bytes_eq-Decides b c).0 y ∙ sym ((bytes_eq-Decides a c).0 x))

not_both : (b : Bool) → b ≡ true → b ≡ false → ⊥
not_both b x y = cc

and_swapped : (x y r : Bool) → (x && (y && r)) ≡ (y && (x && r))
and_swapped true y r = refl
and_swapped false true r = refl
and_swapped false false r = refl

and_never : (x : Bool) → (x && false) ≡ false
and_never true = refl
and_never false = refl

first_of_both : (x y : Bool) → (x && y) ≡ true → x ≡ true
first_of_both true y e = refl
first_of_both false y e = e

second_of_both : (x y : Bool) → (x && y) ≡ true → y ≡ true
second_of_both true y e = e
second_of_both false y e = absurd (cc)

-- Two neighbours

value_swapped : (x y : Bool) (v w : List ℕ) (rest : Option (List ℕ)) → (x ≡ true → y ≡ true → ⊥) → cond x (Some v) (cond y (Some w) rest) ≡ cond y (Some w) (cond x (Some v) rest)
value_swapped true true v w rest differ = absurd (differ refl refl)
value_swapped true false v w rest differ = refl
value_swapped false y v w rest differ = refl

some_swapped : (x y : Bool) (v w : List ℕ) (rest : Option (List ℕ)) → is_some (cond x (Some v) (cond y (Some w) rest)) ≡ is_some (cond y (Some w) (cond x (Some v) rest))
some_swapped true true v w rest = refl
some_swapped true false v w rest = refl
some_swapped false y v w rest = refl

singles_swapped : (e k l : Bool) (v w : List ℕ) (s t : Option (List ℕ)) (r : Bool) →
    ((k && not (is_some (cond e (Some w) s))) && ((l && not (is_some t)) && r)) ≡ ((l && not (is_some (cond e (Some v) t))) && ((k && not (is_some s)) && r))
singles_swapped false k l v w s t r = and_swapped (k && not (is_some s)) (l && not (is_some t)) r
singles_swapped true k l v w s t r =
    ap (λ z. z && ((l && not (is_some t)) && r)) (and_never k) ∙ sym (ap (λ z. z && ((k && not (is_some s)) && r)) (and_never l))

single_differs : (e k : Bool) (w : List ℕ) (s : Option (List ℕ)) → (k && not (is_some (cond e (Some w) s))) ≡ true → e ≡ false
single_differs true true w s h = absurd (cc)
single_differs true false w s h = absurd (cc)
single_differs false k w s h = refl

-- Two neighbours behind others

abbrev before : List Pair → Pair → Pair → List Pair → List (List ℕ)
before front one two back = words_of (front ++ one ∷ two ∷ back)

some_behind : (n : List ℕ) (front back : List Pair) (one two : Pair) → is_some (value_of n (before front one two back)) ≡ is_some (value_of n (before front two one back))
some_behind n [] back one two = some_swapped (bytes_eq one.name n) (bytes_eq two.name n) one.value two.value (value_of n (words_of back))
some_behind n (p ∷ front) back one two = here (bytes_eq p.name n) (some_behind n front back one two)
  where
    here :
        (x : Bool) → is_some (value_of n (before front one two back)) ≡ is_some (value_of n (before front two one back))
        → is_some (cond x (Some p.value) (value_of n (before front one two back))) ≡ is_some (cond x (Some p.value) (value_of n (before front two one back)))
    here true e = refl
    here false e = e

value_behind : (n : List ℕ) (front back : List Pair) (one two : Pair) → bytes_eq two.name one.name ≡ false → value_of n (before front one two back) ≡ value_of n (before front two one back)
value_behind n [] back one two differ =
    value_swapped (bytes_eq one.name n) (bytes_eq two.name n) one.value two.value (value_of n (words_of back)) (λ x y. not_both (bytes_eq two.name one.name) (same_both one.name two.name n x y) differ)
value_behind n (p ∷ front) back one two differ = ap (λ z. cond (bytes_eq p.name n) (Some p.value) z) (value_behind n front back one two differ)

options_behind : (known : List Name) (front back : List Pair) (one two : Pair) → are_options known (before front one two back) ≡ are_options known (before front two one back)
options_behind known [] back one two =
    singles_swapped (bytes_eq two.name one.name) (is_known known one.name) (is_known known two.name) one.value two.value (value_of one.name (words_of back)) (value_of two.name (words_of back)) (are_options known (words_of back))
    ∙ ap (λ e. (is_known known two.name && not (is_some (cond e (Some one.value) (value_of two.name (words_of back))))) && (is_single known one.name (words_of back) && are_options known (words_of back))) (same_flipped two.name one.name)
options_behind known (p ∷ front) back one two =
    ap (λ z. (is_known known p.name && not z) && are_options known (before front one two back)) (some_behind p.name front back one two)
    ∙ ap (λ z. is_single known p.name (before front two one back) && z) (options_behind known front back one two)

names_differ : (known : List Name) (front back : List Pair) (one two : Pair) → are_options known (before front one two back) ≡ true → bytes_eq two.name one.name ≡ false
names_differ known [] back one two h =
    single_differs (bytes_eq two.name one.name) (is_known known one.name) two.value (value_of one.name (words_of back))
    (first_of_both (is_single known one.name (two.name ∷ two.value ∷ words_of back)) (is_single known two.name (words_of back) && are_options known (words_of back)) h)
names_differ known (p ∷ front) back one two h =
    names_differ known front back one two (second_of_both (is_single known p.name (before front one two back)) (are_options known (before front one two back)) h)

-- Words that give each name the same

record AreAlike (these others : List (List ℕ)) : Type 0 where
  options : (known : List Name) → are_options known these ≡ are_options known others
  values : (known : List Name) → are_options known these ≡ true → (n : List ℕ) → value_of n these ≡ value_of n others

alike : (front back : List Pair) (one two : Pair) → AreAlike (before front one two back) (before front two one back)
alike front back one two = record {
  options = λ known. options_behind known front back one two;
  values = λ known h n. value_behind n front back one two (names_differ known front back one two h);
}

abbrev SameValues : List (List ℕ) → List (List ℕ) → Type 0
SameValues these others = (n : List ℕ) → value_of n these ≡ value_of n others

then_same : {A B : Type 0} (o p : Option A) (f g : A → Option B) → o ≡ p → ((x : A) → f x ≡ g x) → (o >>= f) ≡ (p >>= g)
then_same {A} {B} o p f g e h = subst (λ z. (o >>= f) ≡ (z >>= g)) e (here o)
  where
    here : (z : Option A) → (z >>= f) ≡ (z >>= g)
    here None = refl
    here (Some x) = h x

where_named : {A : Type 0} (x y : Bool) (o p : Option A) → x ≡ y → (x ≡ true → o ≡ p) → cond x o None ≡ cond y p None
where_named true true o p e h = h refl
where_named true false o p e h = absurd (cc)
where_named false true o p e h = absurd (cc)
where_named false false o p e h = refl

number_same : (option : NumberOption) (these others : List (List ℕ)) → SameValues these others → number_for option these ≡ number_for option others
number_same option these others same = ap (number_in option) (same (name_text option.name))

sized_same : (fourcc : Fourcc) (these others : List (List ℕ)) → SameValues these others → sized_format fourcc these ≡ sized_format fourcc others
sized_same fourcc these others same =
    then_same _ _ _ _ (number_same width_option these others same) (λ width.
    then_same _ _ _ _ (number_same height_option these others same) (λ height. refl))

format_same : (these others : List (List ℕ)) → SameValues these others → format_for these ≡ format_for others
format_same these others same =
    then_same _ _ _ _ (ap fourcc_in (same (name_text names.Format))) (λ fourcc. sized_same fourcc these others same)

rates_same : (these others : List (List ℕ)) → SameValues these others → rates_for these ≡ rates_for others
rates_same these others same =
    then_same _ _ _ _ (number_same gop_option these others same) (λ gop.
    then_same _ _ _ _ (number_same iqp_option these others same) (λ iqp.
    then_same _ _ _ _ (number_same pqp_option these others same) (λ pqp. refl)))

script_same : (these others : List (List ℕ)) → AreAlike these others → script_options these ≡ script_options others
script_same these others alike =
    where_named _ _ _ _ (alike.options (names.Slots ∷ [])) (λ h.
    let same = alike.values (names.Slots ∷ []) h in
    then_same _ _ _ _ (number_same slots_option these others same) (λ slots. refl))

encode_same : (these others : List (List ℕ)) → AreAlike these others → encode_options these ≡ encode_options others
encode_same these others alike =
    let known : List Name = names.Format ∷ names.Width ∷ names.Height ∷ names.Gop ∷ names.Iqp ∷ names.Pqp ∷ names.Workers ∷ [] in
    where_named _ _ _ _ (alike.options known) (λ h.
    let same = alike.values known h in
    then_same _ _ _ _ (format_same these others same) (λ format.
    then_same _ _ _ _ (rates_same these others same) (λ rates.
    then_same _ _ _ _ (number_same workers_option these others same) (λ workers. refl))))

decode_same : (these others : List (List ℕ)) → AreAlike these others → decode_options these ≡ decode_options others
decode_same these others alike =
    where_named _ _ _ _ (alike.options (names.Workers ∷ [])) (λ h.
    let same = alike.values (names.Workers ∷ []) h in
    then_same _ _ _ _ (number_same workers_option these others same) (λ workers. refl))

make_same : (these others : List (List ℕ)) → AreAlike these others → make_options these ≡ make_options others
make_same these others alike =
    let known : List Name = names.Format ∷ names.Width ∷ names.Height ∷ names.Pictures ∷ names.Number ∷ [] in
    where_named _ _ _ _ (alike.options known) (λ h.
    let same = alike.values known h in
    then_same _ _ _ _ (format_same these others same) (λ format.
    then_same _ _ _ _ (number_same made_pictures_option these others same) (λ pictures.
    then_same _ _ _ _ (number_same number_option these others same) (λ number. refl))))

share_same : (these others : List (List ℕ)) → AreAlike these others → share_options these ≡ share_options others
share_same these others alike =
    let known : List Name = names.Contexts ∷ names.Pictures ∷ names.Width ∷ names.Height ∷ names.Number ∷ names.Workers ∷ [] in
    where_named _ _ _ _ (alike.options known) (λ h.
    let same = alike.values known h in
    then_same _ _ _ _ (number_same contexts_option these others same) (λ contexts.
    then_same _ _ _ _ (sized_same yu12 these others same) (λ format.
    then_same _ _ _ _ (number_same shared_pictures_option these others same) (λ pictures.
    then_same _ _ _ _ (number_same number_option these others same) (λ number.
    then_same _ _ _ _ (number_same workers_option these others same) (λ workers. refl))))))

transcode_same : (these others : List (List ℕ)) → AreAlike these others → transcode_options these ≡ transcode_options others
transcode_same these others alike =
    let known : List Name = names.Gop ∷ names.Iqp ∷ names.Pqp ∷ names.Workers ∷ [] in
    where_named _ _ _ _ (alike.options known) (λ h.
    let same = alike.values known h in
    then_same _ _ _ _ (rates_same these others same) (λ rates.
    then_same _ _ _ _ (number_same workers_option these others same) (λ workers. refl)))

audit_same : (these others : List (List ℕ)) → AreAlike these others → audit_options these ≡ audit_options others
audit_same these others alike =
    where_named _ _ _ _ (alike.options (names.Slots ∷ [])) (λ h.
    let same = alike.values (names.Slots ∷ []) h in
    then_same _ _ _ _ (number_same slots_option these others same) (λ slots. refl))

wire_same : (these others : List (List ℕ)) → AreAlike these others → wire_options these ≡ wire_options others
wire_same these others alike =
    where_named _ _ _ _ (alike.options (names.Slots ∷ [])) (λ h.
    let same = alike.values (names.Slots ∷ []) h in
    then_same _ _ _ _ (number_same slots_option these others same) (λ slots. refl))

pub order_is_free : (command : List ℕ) (front back : List Pair) (one two : Pair) → command_of (command ∷ words_of (front ++ one ∷ two ∷ back)) ≡ command_of (command ∷ words_of (front ++ two ∷ one ∷ back))
unfolding command_of
order_is_free command front back one two =
    let these : List (List ℕ) = before front one two back in
    let others : List (List ℕ) = before front two one back in
    let like : AreAlike these others = alike front back one two in
    rw (
      script_same these others like,
      encode_same these others like,
      decode_same these others like,
      make_same these others like,
      share_same these others like,
      transcode_same these others like,
      audit_same these others like,
      wire_same these others like,
    )
    refl
