-- The line that the replay of an audit finds is the first wrong one of the report. From every state there is a right
-- output; as long as a line of the script has the text that the replay reads, the right output goes on with that
-- text, and where the text differs no right output has it.
use Rattle.std.proofs.Common.{None, ◌<◌, Option, ℕ, zero, suc, ◌≡◌, ◌≤◌, ◌+◌, ◌-◌, nat_lt, Bool, true, false, cond, Some, List, [], ◌∷◌, ◌++◌, length, drop, refl, sym, ap, ◌∙◌, subst, arith}
use Rattle.std.specs.Prelude.{bytes_eq}
use Rattle.std.proofs.Math.Seq.{drop-append_seam}
use Rattle.std.proofs.lemmas.List.{append_cancel_left}
use Rattle.std.proofs.lemmas.Bool.{false≢true, ltb-true, ltb-false}
use Rattle.std.proofs.lemmas.Slice.Eq.{bytes_eq-Decides}
use Rattle.vc_model.specs.Coder.{Coder}
use Rattle.vc_model.specs.Devices.{DeviceState, new_device, device_after}
use Rattle.vc_model.specs.Script.{ReplyText, Asked, AreAsked, line_events, line_text, lines_printed, first_lines, printed_by, split_lines, IsLineText, PrintsLines}
use Rattle.vc_base.specs.Limits.{most_slots}
use Rattle.vc_model.specs.Audit.{IsFirstWrong, same_lines, wrong_from, first_wrong_line, ReplayFindsFirst}
use Rattle.vc_model.proofs.FirstLinesAgree.{first_first, first_swap, first_after, agree_first, agree_whole, agree_few}
use Rattle.vc_model.proofs.EachSlotPrintsItsOwn.{Comes, comes_after}
use Rattle.vc_model.proofs.LinesArePrinted.{line_cut, lines_are_printed, right_from, found_from}
use Rattle.vc_model.proofs.PrintedLinesAreReadBack.{line_again, line_alone}

-- what holds of the texts, the device and the script
record Fits (t : ReplyText) (coder : Coder) (n : ℕ) (d : DeviceState) : Type 0 where
  pub text : IsLineText t
  pub few : n ≤ most_slots
  pub comes : Comes coder n d

-- a right output from the state on, which begins with the same lines as the report
record Goes (t : ReplyText) (coder : Coder) (d : DeviceState) (lines : List Asked) (report : List ℕ) (m : ℕ) : Type 0 where
  pub right : List ℕ
  pub is_right : PrintsLines t coder d lines right
  pub begins : first_lines right m ≡ first_lines report m

-- so many lines are those of a right output, and one more is not
record IsFirst (t : ReplyText) (coder : Coder) (d : DeviceState) (lines : List Asked) (report : List ℕ) (at line : ℕ) : Type 0 where
  pub more : ℕ
  pub same : line ≡ at + more
  pub wrong : Goes t coder d lines report (suc more) → ⊥
  pub least : (m : ℕ) → m ≤ more → Goes t coder d lines report m

-- the text that a line of the script has where it is read by this text
abbrev wanted_for : ReplyText → Coder → DeviceState → Asked → List ℕ → List ℕ
wanted_for t coder d asked text = line_text t coder d asked (line_events t d asked text)

-- the device behind that line
abbrev behind : ReplyText → Coder → DeviceState → Asked → List ℕ → DeviceState
behind t coder d asked text = device_after coder d (line_events t d asked text)

fits_behind : (t : ReplyText) (coder : Coder) (n : ℕ) (d : DeviceState) (asked : Asked) (text : List ℕ) → Fits t coder n d → Fits t coder n (behind t coder d asked text)
fits_behind t coder n d asked text f =
    record { text = f.text; few = f.few; comes = comes_after coder n d (line_events t d asked text) f.comes }

-- a text of the line and a right output behind it are a right output
one_more :
    (t : ReplyText) (coder : Coder) (d : DeviceState) (asked : Asked) (rest : List Asked) (text more : List ℕ)
    → first_lines (text ++ more) (lines_printed d asked) ≡ text → text ≡ wanted_for t coder d asked text
    → PrintsLines t coder (behind t coder d asked text) rest more → PrintsLines t coder d (asked ∷ rest) (text ++ more)
one_more t coder d asked rest text more e h p =
    let q = subst (PrintsLines t coder (behind t coder d asked text) rest) (sym (drop-append_seam text more)) p in
    subst (λ x. (x ≡ wanted_for t coder d asked x) × PrintsLines t coder (behind t coder d asked x) rest (drop (length x) (text ++ more))) (sym e) (h, q)

-- From every state there is a right output.
some_right : (t : ReplyText) (coder : Coder) (n : ℕ) (d : DeviceState) (lines : List Asked) → Fits t coder n d → AreAsked n lines → (right : List ℕ) × PrintsLines t coder d lines right
some_right t coder n d [] f a = ([], refl)
some_right t coder n d (asked ∷ rest) f a =
    let text = wanted_for t coder d asked [] in
    let next = some_right t coder n (behind t coder d asked text) rest (fits_behind t coder n d asked text f) a.1 in
    let cut = line_cut t coder n d asked [] next.0 f.text f.few a.0 f.comes in
    (text ++ next.0, one_more t coder d asked rest text next.0 cut (sym (line_again t coder n d asked [] f.few a.0 f.comes)) next.1)

-- The end of the script

at_end : (t : ReplyText) (coder : Coder) (d : DeviceState) (report : List ℕ) (at line : ℕ) → wrong_from t coder d [] report at ≡ Some line → IsFirst t coder d [] report at line
at_end t coder d [] at line e = absurd (cc)
at_end t coder d (x ∷ report) at line e =
    let p : at ≡ line = cc in
    record { more = 0; same = omega arith; wrong = λ g. no_more g.right g.is_right g.begins; least = λ m h. nothing m h }
  where
    no_more : (right : List ℕ) → right ≡ [] → first_lines right 1 ≡ first_lines (x ∷ report) 1 → ⊥
    no_more [] r b = absurd (cc)
    no_more (y ∷ right) r b = absurd (cc)

    nothing : (m : ℕ) → m ≤ 0 → Goes t coder d [] (x ∷ report) m
    nothing zero h = record { right = []; is_right = refl; begins = refl }
    nothing (suc m) h = absurd (omega arith)

-- A line whose text is right

-- the lines behind it in another right output
rest_goes :
    (t : ReplyText) (coder : Coder) (d : DeviceState) (asked : Asked) (rest : List Asked) (report : List ℕ) (m : ℕ)
    → let k = lines_printed d asked in
    let text = printed_by d asked report in Goes t coder d (asked ∷ rest) report (suc (k + m)) → Goes t coder (behind t coder d asked text) rest (drop (length text) report) (suc m)
rest_goes t coder d asked rest report m g =
    let k = lines_printed d asked in
    let text = printed_by d asked report in
    let own = printed_by d asked g.right in
    let h : k ≤ suc (k + m) = omega arith in
    let s : suc (k + m) ≡ k + suc m = omega arith in
    let same : own ≡ text = sym (first_first g.right (suc (k + m)) k h) ∙ (ap (λ x. first_lines x k) g.begins ∙ first_first report (suc (k + m)) k h) in
    let p : PrintsLines t coder (behind t coder d asked text) rest (drop (length text) g.right) = subst (λ x. PrintsLines t coder (behind t coder d asked x) rest (drop (length x) g.right)) same g.is_right.1 in
    let q : text ++ first_lines (drop (length text) g.right) (suc m) ≡ text ++ first_lines (drop (length text) report) (suc m) =
    ap (λ x. x ++ first_lines (drop (length x) g.right) (suc m)) (sym same) ∙ (sym (first_after g.right (suc (k + m)) k (suc m) s) ∙ (g.begins ∙ first_after report (suc (k + m)) k (suc m) s)) in
    record { right = drop (length text) g.right; is_right = p; begins = append_cancel_left text _ _ q }

-- and a right output behind it makes one of all lines
goes_before :
    (t : ReplyText) (coder : Coder) (n : ℕ) (d : DeviceState) (asked : Asked) (rest : List Asked) (report : List ℕ) (m : ℕ) → Fits t coder n d
    → AreAsked n (asked ∷ rest)
    → let k = lines_printed d asked in
    let text = printed_by d asked report in
    text ≡ wanted_for t coder d asked text → Goes t coder (behind t coder d asked text) rest (drop (length text) report) (m - k) → Goes t coder d (asked ∷ rest) report m
goes_before t coder n d asked rest report m f a e g =
    let k = lines_printed d asked in
    let text = printed_by d asked report in
    let all = text ++ g.right in
    let cut : first_lines all k ≡ text = ap (λ x. first_lines (x ++ g.right) k) e ∙ (line_cut t coder n d asked text g.right f.text f.few a.0 f.comes ∙ sym e) in
    let h : m ≤ k + (m - k) = omega arith in
    let left : first_lines all (k + (m - k)) ≡ text ++ first_lines g.right (m - k) =
    first_after all (k + (m - k)) k (m - k) refl ∙ (ap (λ x. x ++ first_lines (drop (length x) all) (m - k)) cut ∙ ap (λ x. text ++ first_lines x (m - k)) (drop-append_seam text g.right)) in
    let long : first_lines all (k + (m - k)) ≡ first_lines report (k + (m - k)) = left ∙ (ap (λ x. text ++ x) g.begins ∙ sym (first_after report (k + (m - k)) k (m - k) refl)) in
    record {
      right = all;
      is_right = one_more t coder d asked rest text g.right cut e g.is_right;
      begins = sym (first_first all (k + (m - k)) m h) ∙ (ap (λ x. first_lines x m) long ∙ first_first report (k + (m - k)) m h);
    }

first_behind :
    (t : ReplyText) (coder : Coder) (n : ℕ) (d : DeviceState) (asked : Asked) (rest : List Asked) (report : List ℕ) (at line : ℕ) → Fits t coder n d
    → AreAsked n (asked ∷ rest)
    → let k = lines_printed d asked in
    let text = printed_by d asked report in
    text ≡ wanted_for t coder d asked text → IsFirst t coder (behind t coder d asked text) rest (drop (length text) report) (at + k) line → IsFirst t coder d (asked ∷ rest) report at line
first_behind t coder n d asked rest report at line f a e i =
    let k = lines_printed d asked in
    let s = i.same in
    record {
      more = k + i.more;
      same = omega arith;
      wrong = λ g. i.wrong (rest_goes t coder d asked rest report i.more g);
      least = λ m h. goes_before t coder n d asked rest report m f a e (i.least (m - k) (omega arith));
    }

-- A line whose text is wrong

wrong_here :
    (t : ReplyText) (coder : Coder) (n : ℕ) (d : DeviceState) (asked : Asked) (rest : List Asked) (report : List ℕ) → Fits t coder n d
    → AreAsked n (asked ∷ rest)
    → let text = printed_by d asked report in
    let wanted = wanted_for t coder d asked text in bytes_eq text wanted ≡ false → Goes t coder d (asked ∷ rest) report (suc (same_lines (split_lines text) (split_lines wanted))) → ⊥
wrong_here t coder n d asked rest report f a e g =
    let k = lines_printed d asked in
    let text = printed_by d asked report in
    let wanted = wanted_for t coder d asked text in
    let own = printed_by d asked g.right in
    let s = same_lines (split_lines text) (split_lines wanted) in
    let front : first_lines own (suc s) ≡ first_lines text (suc s) = first_swap g.right k (suc s) ∙ (ap (λ x. first_lines x k) g.begins ∙ first_swap report (suc s) k) in
    let h : k ≤ k = omega arith in
    let alone = line_alone t coder n d asked own text s f.few a.0 f.comes (sym (first_first g.right k k h)) (sym (first_first report k k h)) front in
    let same : text ≡ wanted = agree_whole text wanted (sym front ∙ (ap (λ x. first_lines x (suc s)) g.is_right.0 ∙ alone)) in
    false≢true (sym e ∙ (bytes_eq-Decides text wanted).1 same)

least_here :
    (t : ReplyText) (coder : Coder) (n : ℕ) (d : DeviceState) (asked : Asked) (rest : List Asked) (report : List ℕ) (m : ℕ) → Fits t coder n d
    → AreAsked n (asked ∷ rest)
    → let text = printed_by d asked report in let wanted = wanted_for t coder d asked text in m ≤ same_lines (split_lines text) (split_lines wanted) → Goes t coder d (asked ∷ rest) report m
least_here t coder n d asked rest report m f a h =
    let k = lines_printed d asked in
    let text = printed_by d asked report in
    let wanted = wanted_for t coder d asked text in
    let s = same_lines (split_lines text) (split_lines wanted) in
    let next = some_right t coder n (behind t coder d asked wanted) rest (fits_behind t coder n d asked wanted f) a.1 in
    let all = wanted ++ next.0 in
    let cut : first_lines all k ≡ wanted = line_cut t coder n d asked text next.0 f.text f.few a.0 f.comes in
    let few = agree_few report wanted k in
    let l : m ≤ k = omega arith in
    let of_right : first_lines all m ≡ first_lines wanted m = sym (first_first all k m l) ∙ ap (λ x. first_lines x m) cut in
    let agree : first_lines wanted m ≡ first_lines text m = sym (first_first wanted s m h) ∙ (ap (λ x. first_lines x m) (sym (agree_first text wanted)) ∙ first_first text s m h) in
    record {
      right = all;
      is_right = one_more t coder d asked rest wanted next.0 cut (sym (line_again t coder n d asked text f.few a.0 f.comes)) next.1;
      begins = of_right ∙ (agree ∙ first_first report k m l);
    }

first_here :
    (t : ReplyText) (coder : Coder) (n : ℕ) (d : DeviceState) (asked : Asked) (rest : List Asked) (report : List ℕ) (at line : ℕ) → Fits t coder n d
    → AreAsked n (asked ∷ rest)
    → let text = printed_by d asked report in
    let wanted = wanted_for t coder d asked text in bytes_eq text wanted ≡ false → at + same_lines (split_lines text) (split_lines wanted) ≡ line → IsFirst t coder d (asked ∷ rest) report at line
first_here t coder n d asked rest report at line f a e p =
    record {
      more = same_lines (split_lines (printed_by d asked report)) (split_lines (wanted_for t coder d asked (printed_by d asked report)));
      same = sym p;
      wrong = λ g. wrong_here t coder n d asked rest report f a e g;
      least = λ m h. least_here t coder n d asked rest report m f a h;
    }

-- Whole scripts

first_split :
    (t : ReplyText) (coder : Coder) (n : ℕ) (d : DeviceState) (asked : Asked) (rest : List Asked) (report : List ℕ) (at line : ℕ) → Fits t coder n d
    → AreAsked n (asked ∷ rest)
    → let text = printed_by d asked report in
    let wanted = wanted_for t coder d asked text in
    (wrong_from t coder (behind t coder d asked text) rest (drop (length text) report) (at + lines_printed d asked) ≡ Some line
    → IsFirst t coder (behind t coder d asked text) rest (drop (length text) report) (at + lines_printed d asked) line)
    → (b : Bool) → bytes_eq text wanted ≡ b
    → cond b (wrong_from t coder (behind t coder d asked text) rest (drop (length text) report) (at + lines_printed d asked)) (Some (at + same_lines (split_lines text) (split_lines wanted)))
    ≡ Some line
    → IsFirst t coder d (asked ∷ rest) report at line
first_split t coder n d asked rest report at line f a h true e p =
    let text = printed_by d asked report in
    first_behind t coder n d asked rest report at line f a ((bytes_eq-Decides text (wanted_for t coder d asked text)).0 e) (h p)
first_split t coder n d asked rest report at line f a h false e p =
    first_here t coder n d asked rest report at line f a e (some_same _ line p)
  where
    some_same : (x y : ℕ) → Some x ≡ Some y → x ≡ y
    some_same x y q = cc

first_from :
    (t : ReplyText) (coder : Coder) (n : ℕ) (d : DeviceState) (lines : List Asked) (report : List ℕ) (at line : ℕ) → Fits t coder n d
    → AreAsked n lines → wrong_from t coder d lines report at ≡ Some line → IsFirst t coder d lines report at line
first_from t coder n d [] report at line f a p = at_end t coder d report at line p
first_from t coder n d (asked ∷ rest) report at line f a p =
    let text = printed_by d asked report in
    first_split t coder n d asked rest report at line f a
    (first_from t coder n (behind t coder d asked text) rest (drop (length text) report) (at + lines_printed d asked) line (fits_behind t coder n d asked text f) a.1)
    (bytes_eq text (wanted_for t coder d asked text)) refl p

is_first_wrong :
    (t : ReplyText) (coder : Coder) (n : ℕ) (lines : List Asked) (report : List ℕ) (line : ℕ) → IsLineText t → n ≤ most_slots → AreAsked n lines
    → first_wrong_line t coder n lines report ≡ Some line → IsFirstWrong t coder n lines report line
is_first_wrong t coder n lines report line l few a p =
    let d = new_device n in
    let f : Fits t coder n d = record { text = l; few = few; comes = record { past = []; same = refl } } in
    let i = first_from t coder n d lines report 1 line f a p in
    let s = i.same in
    let next : line ≡ suc i.more = omega arith in
    record {
      wrong = λ b. i.wrong (record { right = b.right; is_right = lines_are_printed t coder n lines b.right l few a b.is_right; begins = ap (first_lines b.right) (sym next) ∙ (b.begins ∙ ap (first_lines report) next) });
      least = λ m h. let g = i.least m (omega arith) in record { right = g.right; is_right = right_from t coder d lines g.right 1 (found_from t coder d lines g.right 1 g.is_right); begins = g.begins };
    }

-- there is one first wrong line, and none of a right report
only_one : {A : Type 0} → (t : ReplyText) (coder : Coder) (n : ℕ) (lines : List Asked) (report : List ℕ) (line other : ℕ) → IsFirstWrong t coder n lines report line → IsFirstWrong t coder n lines report other → line < other → A
only_one t coder n lines report line other f g h = absurd (f.wrong (g.least line h))

same_line :
    (t : ReplyText) (coder : Coder) (n : ℕ) (lines : List Asked) (report : List ℕ) (line other : ℕ) → IsFirstWrong t coder n lines report line
    → IsFirstWrong t coder n lines report other → (b d : Bool) → nat_lt line other ≡ b → nat_lt other line ≡ d → other ≡ line
same_line t coder n lines report line other f g true d e k =
    only_one t coder n lines report line other f g (ltb-true line other e)
same_line t coder n lines report line other f g false true e k =
    only_one t coder n lines report other line g f (ltb-true other line k)
same_line t coder n lines report line other f g false false e k =
    let x = ltb-false line other e in let y = ltb-false other line k in omega arith

found_line :
    (t : ReplyText) (coder : Coder) (n : ℕ) (lines : List Asked) (report : List ℕ) (line : ℕ) → IsLineText t → n ≤ most_slots → AreAsked n lines
    → IsFirstWrong t coder n lines report line → (o : Option ℕ) → first_wrong_line t coder n lines report ≡ o
    → first_wrong_line t coder n lines report ≡ Some line
found_line t coder n lines report line l few a f None e =
    absurd (f.wrong (record { right = report; is_right = right_from t coder (new_device n) lines report 1 e; begins = refl }))
found_line t coder n lines report line l few a f (Some other) e =
    e ∙ ap (λ k. Some k) (same_line t coder n lines report line other f (is_first_wrong t coder n lines report other l few a e) (nat_lt line other) (nat_lt other line) refl refl)

pub replay_finds_first : ReplayFindsFirst
replay_finds_first t coder n lines report line l few a =
    record {
      first = λ p. is_first_wrong t coder n lines report line l few a p;
      found = λ f. found_line t coder n lines report line l few a f (first_wrong_line t coder n lines report) refl;
    }
