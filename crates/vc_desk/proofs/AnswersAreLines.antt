-- The answers of calls are lines of their slots: each begins with its slot's number and ends with its only line feed.
use Rattle.std.proofs.Common.{ℕ, ◌≡◌, ◌==◌, Bool, true, false, not, ◌&&◌, ◌||◌, List, [], ◌∷◌, ◌++◌, decimal, refl, sym, ap, ◌∙◌, append_assoc}
use Rattle.std.specs.Prelude.{codes}
use Rattle.std.specs.List.{list_all}
use Rattle.vc_base.specs.declared.Call.{Call}
use Rattle.vc_base.specs.declared.Reply.{Reply}
use Rattle.vc_model.specs.Script.{has_feed, begins_with, IsLineText}
use Rattle.vc_script.specs.declared.verb.Verb.{Verb}
use Rattle.vc_script.specs.declared.verb.Verb.TheVariants as verbs
use Rattle.vc_script.specs.Verb.{verb_name}
use Rattle.vc_script.specs.Texts.{reply_text, spaced, call_verb, answer_words}
use Rattle.vc_script.specs.OneLine.{stays_on_line}
use Rattle.vc_script.proofs.OneLine.{reply_is_line}

no_finish : (v : Verb) (rest : List ℕ) → begins_with (codes "finish ") (verb_name v ++ rest) ≡ false
no_finish verbs.Open rest = refl
no_finish verbs.Close rest = refl
no_finish verbs.EnumFormat rest = refl
no_finish verbs.GetFormat rest = refl
no_finish verbs.TryFormat rest = refl
no_finish verbs.SetFormat rest = refl
no_finish verbs.Request rest = refl
no_finish verbs.Create rest = refl
no_finish verbs.Query rest = refl
no_finish verbs.Queue rest = refl
no_finish verbs.Dequeue rest = refl
no_finish verbs.DequeueWait rest = refl
no_finish verbs.On rest = refl
no_finish verbs.Off rest = refl
no_finish verbs.Subscribe rest = refl
no_finish verbs.Unsubscribe rest = refl
no_finish verbs.Event rest = refl
no_finish verbs.EventWait rest = refl
no_finish verbs.DecoderCommand rest = refl
no_finish verbs.EncoderCommand rest = refl
no_finish verbs.GetControl rest = refl
no_finish verbs.SetControl rest = refl
no_finish verbs.Poll rest = refl

no_feed : (bytes : List ℕ) → list_all stays_on_line bytes ≡ true → has_feed bytes ≡ false
no_feed [] h = refl
no_feed (b ∷ bytes) h = split (b == 10) (list_all stays_on_line bytes) (no_feed bytes) h
  where
    split : (t s : Bool) → (s ≡ true → has_feed bytes ≡ false) → (not t && s) ≡ true → (t || has_feed bytes) ≡ false
    split true s f e = absurd (cc)
    split false s f e = f e

behind : (xs ys zs : List ℕ) → xs ++ ys ≡ xs ++ zs → ys ≡ zs
behind [] ys zs e = e
behind (x ∷ xs) ys zs e = let h : xs ++ ys ≡ xs ++ zs = cc in behind xs ys zs h

whole_text : (k : ℕ) (request : Call) (reply : Reply) (handed : List ℕ) → reply_text k request reply handed ≡ decimal k ++ (32 ∷ (verb_name (call_verb request) ++ (spaced (answer_words request reply handed) ++ 10 ∷ [])))
unfolding reply_text
whole_text k request reply handed =
    append_assoc (decimal k) (spaced (verb_name (call_verb request) ∷ answer_words request reply handed)) (10 ∷ [])
    ∙ ap (λ t. decimal k ++ (32 ∷ t)) (append_assoc (verb_name (call_verb request)) (spaced (answer_words request reply handed)) (10 ∷ []))

pub line_texts : IsLineText reply_text
line_texts k request reply handed few known =
    let l = reply_is_line k request reply handed in
    let rest = spaced (answer_words request reply handed) ++ 10 ∷ [] in
    let e : 32 ∷ (l.0 ++ 10 ∷ []) ≡ 32 ∷ (verb_name (call_verb request) ++ rest) = behind (decimal k) _ _ (sym l.1 ∙ whole_text k request reply handed) in
    let words : l.0 ++ 10 ∷ [] ≡ verb_name (call_verb request) ++ rest = cc in
    record {
      words = l.0;
      same = l.1;
      one_line = no_feed l.0 l.2;
      is_call = ap (begins_with (codes "finish ")) words ∙ no_finish (call_verb request) rest;
    }
