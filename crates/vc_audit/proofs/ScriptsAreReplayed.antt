-- Lines replayed one after another: the verdict on the whole is the verdict on what is left of the script and of the report, for the
-- device after the lines so far. So the first line that differs is the one that the replay of the whole finds, which is the first
-- wrong one; and a line is the first bad one of the script where it is the first bad one of what is left.
use Rattle.std.proofs.Common.{ℕ, ◌≡◌, ◌<◌, ◌≤◌, ◌+◌, Bool, true, false, cond, is_none, Option, Some, None, List, [], ◌∷◌, ◌++◌, length, drop, refl, sym, ap, ◌∙◌, subst, inl, inr, arith}
use Rattle.std.specs.Prelude.{bytes_eq}
use Rattle.std.specs.Option.{option_map}
use Rattle.std.specs.Str.Lines.{lines}
use Rattle.vc_base.specs.Buffers.{is_empty}
use Rattle.vc_base.specs.Counts.{Rose}
use Rattle.vc_base.specs.Device.{DeviceEvent}
use Rattle.vc_base.specs.Limits.{most_slots}
use Rattle.vc_model.specs.Coder.{the_coder}
use Rattle.vc_model.specs.Devices.{DeviceState, new_device, job_of, device_step, device_after}
use Rattle.vc_model.specs.Script.{Asked, AsksNothing, AsksCall, AsksClaim, AsksFinish, AsksRun, AreAsked, split_lines, lines_printed, printed_by}
use Rattle.vc_model.specs.Audit.{IsRight, IsFirstWrong, same_lines, wrong_from, first_wrong_line}
use Rattle.vc_model.proofs.LinesArePrinted.{replay_finds_right}
use Rattle.vc_model.proofs.ReplayFindsFirst.{replay_finds_first}
use Rattle.vc_model.proofs.FirstLinesAgree.{agree_few}
use Rattle.vc_script.specs.declared.line.Line.{Line}
use Rattle.vc_script.specs.Lines.{line_of}
use Rattle.vc_script.specs.Texts.{reply_text}
use Rattle.vc_desk.specs.declared.desk.Desk.{Desk}
use Rattle.vc_desk.specs.Asking.{asked_of, asks_line, asks_lines, with_rest}
use Rattle.vc_desk.specs.Desks.{after, IsDesk}
use Rattle.vc_desk.proofs.LinesCanBeAsked.{asked_line}
use Rattle.vc_desk.proofs.AnswersAreLines.{line_texts}
use Rattle.vc_audit.specs.declared.pieces.LineEnd.{LineEnd}
use Rattle.vc_audit.specs.declared.pieces.LineEnd.TheVariants.{Same, Wrong, Fault}
use Rattle.vc_audit.specs.declared.verdict.Verdict.TheVariants.{Yes, No}
use Rattle.vc_audit.specs.declared.verdict.AuditFault.{AuditFault}
use Rattle.vc_audit.specs.declared.verdict.AuditFault.TheVariants.{BadLine, EngineFault, NoMemory}
use Rattle.vc_audit.proofs.PiecesOfReports.{few_bytes}
use Rattle.vc_audit.specs.Replays.{replayed_events, wanted_text, Replayed}
use Rattle.vc_audit.specs.Verdicts.{first_bad, first_bad_line, Judged, Unjudged, LineRead, LineUnread, BadFrom, verdict_at_end}

-- bytes of which none is left
pub empty_of : (xs : List ℕ) → length xs ≡ 0 → xs ≡ []
empty_of [] e = refl
empty_of (x ∷ xs) e = absurd (omega (arith, e))

-- Lines of a script

-- lines of which none is bad ask for something
pub all_asked : (slots : ℕ) (ls : List (List ℕ)) (at : ℕ) → first_bad slots ls at ≡ None → (asked : List Asked) × (asks_lines slots ls ≡ Some asked)
all_asked slots [] at e = ([], refl)
all_asked slots (line ∷ rest) at e = one (λ h. all_asked slots rest (at + 1) h) (asks_line slots line) refl e
  where
    more : (a : Asked) → asks_line slots line ≡ Some a → (x : (asked : List Asked) × (asks_lines slots rest ≡ Some asked)) → (asked : List Asked) × (asks_lines slots (line ∷ rest) ≡ Some asked)
    more a f x = (a ∷ x.0, ap (λ o. with_rest o (asks_lines slots rest)) f ∙ ap (with_rest (Some a)) x.1)

    one : (first_bad slots rest (at + 1) ≡ None → (asked : List Asked) × (asks_lines slots rest ≡ Some asked)) → (o : Option Asked) → asks_line slots line ≡ o → cond (is_none o) (Some at) (first_bad slots rest (at + 1)) ≡ None → (asked : List Asked) × (asks_lines slots (line ∷ rest) ≡ Some asked)
    one k None f h = absurd (cc)
    one k (Some a) f h = more a f (k h)

-- the first lines can be asked for
pub are_asked : (slots : ℕ) (ls : List (List ℕ)) (asked : List Asked) → asks_lines slots ls ≡ Some asked → AreAsked slots asked
are_asked slots [] asked e = let z : [] ≡ asked = cc in subst (AreAsked slots) z tt
are_asked slots (line ∷ rest) asked e = one (λ more g. are_asked slots rest more g) (line_of slots line) (asks_lines slots rest) refl refl e
  where
    one : ((more : List Asked) → asks_lines slots rest ≡ Some more → AreAsked slots more) → (o : Option (Option Line)) (os : Option (List Asked)) → line_of slots line ≡ o → asks_lines slots rest ≡ os → with_rest (option_map asked_of o) os ≡ Some asked → AreAsked slots asked
    one k None os f g h = absurd (cc)
    one k (Some l) None f g h = absurd (cc)
    one k (Some l) (Some more) f g h =
        let z : asked_of l ∷ more ≡ asked = cc in subst (AreAsked slots) z (asked_line slots line l f, k more g)

bad_here : (slots : ℕ) (line : List ℕ) (rest : List (List ℕ)) (at : ℕ) → line_of slots line ≡ None → first_bad slots (line ∷ rest) at ≡ Some at
bad_here slots line rest at e = ap (λ o. cond (is_none (option_map asked_of o)) (Some at) (first_bad slots rest (at + 1))) e

good_here : (slots : ℕ) (line : List ℕ) (rest : List (List ℕ)) (at : ℕ) (asked : Option Line) → line_of slots line ≡ Some asked → first_bad slots (line ∷ rest) at ≡ first_bad slots rest (at + 1)
good_here slots line rest at asked e = ap (λ o. cond (is_none (option_map asked_of o)) (Some at) (first_bad slots rest (at + 1))) e

-- so many lines were read, and none of them is bad
pub record ReadTo (slots : ℕ) (all left : List (List ℕ)) (first number : ℕ) : Type 0 where
  pub same : first_bad slots all first ≡ first_bad slots left (number + 1)

pub read_one :
    (slots : ℕ) (all left more : List (List ℕ)) (line : List ℕ) (first number : ℕ) (asked : Option Line) → ReadTo slots all left first number
    → left ≡ line ∷ more → LineRead slots line asked → ReadTo slots all more first (number + 1)
read_one slots all left more line first number asked r e f =
    record { same = r.same ∙ (ap (λ ls. first_bad slots ls (number + 1)) e ∙ good_here slots line more (number + 1) asked f) }

pub unread_is :
    (slots : ℕ) (all left more : List (List ℕ)) (line : List ℕ) (first number : ℕ) (fault : AuditFault) → ReadTo slots all left first number
    → left ≡ line ∷ more → LineUnread slots line (number + 1) fault → BadFrom slots all first fault
unread_is slots all left more line first number (BadLine bad) r e f =
    r.same ∙ (ap (λ ls. first_bad slots ls (number + 1)) e ∙ (bad_here slots line more (number + 1) f.0 ∙ ap Some (sym f.1)))
unread_is slots all left more line first number EngineFault r e f = absurd f
unread_is slots all left more line first number NoMemory r e f = tt

pub bad_of : (slots : ℕ) (script : List ℕ) (faults faults' : ℕ) (fault : AuditFault) → BadFrom slots (lines script) 1 fault → Unjudged slots script faults faults' fault
bad_of slots script faults faults' (BadLine bad) f = f
bad_of slots script faults faults' EngineFault f = absurd f
bad_of slots script faults faults' NoMemory f = tt

pub bad_after : (slots : ℕ) (all left : List (List ℕ)) (first number : ℕ) (fault : AuditFault) → ReadTo slots all left first number → BadFrom slots left (number + 1) fault → BadFrom slots all first fault
bad_after slots all left first number (BadLine bad) r f = r.same ∙ f
bad_after slots all left first number EngineFault r f = absurd f
bad_after slots all left first number NoMemory r f = tt

-- The replay so far

-- What is left decides: whatever the lines that are left ask for, the replay of the whole finds what the replay of the rest
-- finds on the rest of the report.
pub record Remains (slots : ℕ) (all ls : List (List ℕ)) (report left : List ℕ) (at : ℕ) (history : List DeviceEvent) : Type 0 where
  pub rest_decides :
      (more : List Asked) → asks_lines slots ls ≡ Some more
      → (asked : List Asked) × (asks_lines slots all ≡ Some asked)
      × (first_wrong_line reply_text the_coder slots asked report ≡ wrong_from reply_text the_coder (after slots history) more left at)

pub record Along (slots : ℕ) (script rest report left : List ℕ) (number at steps : ℕ) (desk : Desk) : Type 0 where
  pub history : List DeviceEvent
  pub desk_is : IsDesk slots history desk
  pub remains : Remains slots (lines script) (lines rest) report left at history
  pub read_to : ReadTo slots (lines script) (lines rest) 1 number
  pub within : number + length rest ≤ length script
  pub few : at ≤ 1 + (number + number)
  pub counted : steps ≤ number + number

pub not_begun : (slots : ℕ) (script report : List ℕ) (desk : Desk) → IsDesk slots [] desk → desk.core.steps ≡ 0 → Along slots script script report report 0 1 desk.core.steps desk
not_begun slots script report desk at e =
    record {
      history = [];
      desk_is = at;
      remains = record { rest_decides = λ more f. (more, f, refl) };
      read_to = record { same = refl };
      within = omega arith;
      few = omega arith;
      counted = omega (arith, e);
    }

after_more : (slots : ℕ) (history events : List DeviceEvent) → after slots (history ++ events) ≡ device_after the_coder (after slots history) events
after_more slots history events = over (new_device slots) history
  where
    over : (d : DeviceState) (h : List DeviceEvent) → device_after the_coder d (h ++ events) ≡ device_after the_coder (device_after the_coder d h) events
    over d [] = refl
    over d (e ∷ h) = over (device_step the_coder d e).device h

-- the parts of a line that was as wanted, or not
same_parts : (text wanted : List ℕ) (count many some : ℕ) (b : Bool) → bytes_eq text wanted ≡ b → Same many some ≡ cond b (Same (length text) count) (Wrong (same_lines (split_lines text) (split_lines wanted))) → (bytes_eq text wanted ≡ true) × (many ≡ length text) × (some ≡ count)
same_parts text wanted count many some true e f = (e, cc, cc)
same_parts text wanted count many some false e f = absurd (cc)

wrong_parts : (text wanted : List ℕ) (count some : ℕ) (b : Bool) → bytes_eq text wanted ≡ b → Wrong some ≡ cond b (Same (length text) count) (Wrong (same_lines (split_lines text) (split_lines wanted))) → (bytes_eq text wanted ≡ false) × (some ≡ same_lines (split_lines text) (split_lines wanted))
wrong_parts text wanted count some true e f = absurd (cc)
wrong_parts text wanted count some false e f = (e, cc)

fault_parts : (text wanted : List ℕ) (count : ℕ) (b : Bool) → Fault ≡ cond b (Same (length text) count) (Wrong (same_lines (split_lines text) (split_lines wanted))) → ⊥
fault_parts text wanted count true f = cc
fault_parts text wanted count false f = cc

-- one line more of the replay, in the definition
pub line_same :
    (d : DeviceState) (asked : Asked) (more : List Asked) (left : List ℕ) (at : ℕ)
    → bytes_eq (printed_by d asked left) (wanted_text d asked left) ≡ true
    → wrong_from reply_text the_coder d (asked ∷ more) left at
    ≡ wrong_from reply_text the_coder (device_after the_coder d (replayed_events d asked left)) more (drop (length (printed_by d asked left)) left) (at + lines_printed d asked)
line_same d asked more left at e =
    ap (λ b.
    cond b
    (wrong_from reply_text the_coder (device_after the_coder d (replayed_events d asked left)) more (drop (length (printed_by d asked left)) left) (at + lines_printed d asked))
    (Some (at + same_lines (split_lines (printed_by d asked left)) (split_lines (wanted_text d asked left))))) e

pub line_wrong :
    (d : DeviceState) (asked : Asked) (more : List Asked) (left : List ℕ) (at : ℕ)
    → bytes_eq (printed_by d asked left) (wanted_text d asked left) ≡ false
    → wrong_from reply_text the_coder d (asked ∷ more) left at ≡ Some (at + same_lines (split_lines (printed_by d asked left)) (split_lines (wanted_text d asked left)))
line_wrong d asked more left at e =
    ap (λ b.
    cond b
    (wrong_from reply_text the_coder (device_after the_coder d (replayed_events d asked left)) more (drop (length (printed_by d asked left)) left) (at + lines_printed d asked))
    (Some (at + same_lines (split_lines (printed_by d asked left)) (split_lines (wanted_text d asked left))))) e

asks_first : (slots : ℕ) (ls rest : List (List ℕ)) (line : List ℕ) (asked : Option Line) (more : List Asked) → ls ≡ line ∷ rest → line_of slots line ≡ Some asked → asks_lines slots rest ≡ Some more → asks_lines slots ls ≡ Some (asked_of asked ∷ more)
asks_first slots ls rest line asked more e f g =
    ap (asks_lines slots) e ∙ (ap (λ o. with_rest (option_map asked_of o) (asks_lines slots rest)) f ∙ ap (with_rest (Some (asked_of asked))) g)

printed_few : (d : DeviceState) (asked : Asked) → lines_printed d asked ≤ 2
printed_few d asked = few asked
  where
    both : (a b : Bool) → cond a (cond b 1 2) 1 ≤ 2
    both true true = omega arith
    both true false = omega arith
    both false b = omega arith

    few : (a : Asked) → lines_printed d a ≤ 2
    few AsksNothing = omega arith
    few (AsksCall slot request bytes) = omega arith
    few (AsksClaim worker) = omega arith
    few (AsksFinish worker) = omega arith
    few (AsksRun worker) = both (is_none (job_of d worker)) (is_empty d.waiting)

pub along_more :
    (slots : ℕ) (script rest next report left : List ℕ) (line : List ℕ) (number at many some steps steps' faults' now : ℕ) (desk desk' : Desk) (asked : Option Line)
    → (along : Along slots script rest report left number at steps desk) → lines rest ≡ line ∷ lines next → length next < length rest
    → line_of slots line ≡ Some asked → Replayed slots along.history (asked_of asked) left faults' now desk' (Same many some)
    → steps' ≤ steps + 2 → Along slots script next report (drop many left) (number + 1) (at + some) steps' desk'
along_more slots script rest next report left line number at many some steps steps' faults' now desk desk' asked along e shorter f (inr r) l =
    absurd (no_fault r.0)
  where
    no_fault : Same many some ≡ Fault → ⊥
    no_fault p = cc
along_more slots script rest next report left line number at many some steps steps' faults' now desk desk' asked along e shorter f (inl made) l =
    let d = after slots along.history in
    let a = asked_of asked in
    let parts = same_parts (printed_by d a left) (wanted_text d a left) (lines_printed d a) many some (bytes_eq (printed_by d a left) (wanted_text d a left)) refl made.ends in
    record {
      history = along.history ++ replayed_events d a left;
      desk_is = made.at;
      remains = record {
        rest_decides =
            λ more g.
            let x = along.remains.rest_decides (a ∷ more) (asks_first slots (lines rest) (lines next) line asked more e f g) in (
              x.0,
              x.1,
              x.2
                  ∙ (line_same d a more left at parts.0
                  ∙ (ap (λ s. wrong_from reply_text the_coder s more (drop (length (printed_by d a left)) left) (at + lines_printed d a)) (sym (after_more slots along.history (replayed_events d a left)))
                  ∙ (ap (λ m. wrong_from reply_text the_coder (after slots (along.history ++ replayed_events d a left)) more (drop m left) (at + lines_printed d a)) (sym parts.1)
                  ∙ ap (λ m. wrong_from reply_text the_coder (after slots (along.history ++ replayed_events d a left)) more (drop many left) (at + m)) (sym parts.2)))),
            );
      };
      read_to = read_one slots (lines script) (lines rest) (lines next) line 1 number asked along.read_to e f;
      within = omega (arith, along.within, shorter);
      few = omega (arith, along.few, parts.2, printed_few d a);
      counted = omega (arith, along.counted, l);
    }

-- Verdicts

not_right : (slots : ℕ) (asked : List Asked) (report : List ℕ) (line : ℕ) → IsFirstWrong reply_text the_coder slots asked report line → IsRight reply_text the_coder slots asked report → ⊥
not_right slots asked report line first right = first.wrong (record { right = report; is_right = right; begins = refl })

judged_no :
    (slots : ℕ) (script report : List ℕ) (asked : List Asked) (line : ℕ) → slots ≤ most_slots → asks_lines slots (lines script) ≡ Some asked
    → first_wrong_line reply_text the_coder slots asked report ≡ Some line → Judged slots script report (No line)
judged_no slots script report asked line few e f =
    let first = (replay_finds_first reply_text the_coder slots asked report line line_texts few (are_asked slots (lines script) asked e)).first f in
    record { asked = asked; asks = e; is_verdict = (not_right slots asked report line first, first) }

judged_yes :
    (slots : ℕ) (script report : List ℕ) (asked : List Asked) → asks_lines slots (lines script) ≡ Some asked
    → first_wrong_line reply_text the_coder slots asked report ≡ None → Judged slots script report Yes
judged_yes slots script report asked e f =
    record { asked = asked; asks = e; is_verdict = (replay_finds_right reply_text the_coder slots asked report).right f }

pub wrong_judged :
    (slots : ℕ) (script rest next report left : List ℕ) (line : List ℕ) (number at some steps faults' now : ℕ) (desk desk' : Desk) (asked : Option Line)
    → slots ≤ most_slots → (along : Along slots script rest report left number at steps desk) → lines rest ≡ line ∷ lines next
    → line_of slots line ≡ Some asked → Replayed slots along.history (asked_of asked) left faults' now desk' (Wrong some)
    → first_bad slots (lines next) (number + 1 + 1) ≡ None → Judged slots script report (No (at + some))
wrong_judged slots script rest next report left line number at some steps faults' now desk desk' asked few along e f (inr r) g =
    absurd (no_fault r.0)
  where
    no_fault : Wrong some ≡ Fault → ⊥
    no_fault p = cc
wrong_judged slots script rest next report left line number at some steps faults' now desk desk' asked few along e f (inl made) g =
    let d = after slots along.history in
    let a = asked_of asked in
    let parts = wrong_parts (printed_by d a left) (wanted_text d a left) (lines_printed d a) some (bytes_eq (printed_by d a left) (wanted_text d a left)) refl made.ends in
    let more = all_asked slots (lines next) (number + 1 + 1) g in
    let x = along.remains.rest_decides (a ∷ more.0) (asks_first slots (lines rest) (lines next) line asked more.0 e f more.1) in
    judged_no slots script report x.0 (at + some) few x.1 (x.2 ∙ (line_wrong d a more.0 left at parts.0 ∙ ap (λ m. Some (at + m)) (sym parts.1)))

pub wrong_few :
    (slots : ℕ) (history : List DeviceEvent) (asked : Asked) (left : List ℕ) (faults faults' : ℕ) (desk : Desk) (end : LineEnd) (some : ℕ) → end ≡ Wrong some
    → Replayed slots history asked left faults faults' desk end → some ≤ 2
wrong_few slots history asked left faults faults' desk end some e r = few r
  where
    few : Replayed slots history asked left faults faults' desk end → some ≤ 2
    few (inr x) = absurd (no_fault (sym e ∙ x.0))
      where
        no_fault : Wrong some ≡ Fault → ⊥
        no_fault p = cc
    few (inl made) =
        let d = after slots history in
        let parts = wrong_parts (printed_by d asked left) (wanted_text d asked left) (lines_printed d asked) some (bytes_eq (printed_by d asked left) (wanted_text d asked left)) refl (sym e ∙ made.ends) in
        let l = agree_few left (wanted_text d asked left) (lines_printed d asked) in
        omega (arith, parts.1, l, printed_few d asked)

pub fault_unjudged :
    (slots : ℕ) (script rest next report left : List ℕ) (line : List ℕ) (number at steps faults faults' now : ℕ) (desk desk' : Desk) (asked : Option Line)
    → (along : Along slots script rest report left number at steps desk) → lines rest ≡ line ∷ lines next → line_of slots line ≡ Some asked
    → Replayed slots along.history (asked_of asked) left faults' now desk' Fault → first_bad slots (lines next) (number + 1 + 1) ≡ None
    → faults ≤ faults' → Unjudged slots script faults now EngineFault
fault_unjudged slots script rest next report left line number at steps faults faults' now desk desk' asked along e f (inl made) g l =
    let d = after slots along.history in
    let a = asked_of asked in
    absurd (fault_parts (printed_by d a left) (wanted_text d a left) (lines_printed d a) (bytes_eq (printed_by d a left) (wanted_text d a left)) made.ends)
fault_unjudged slots script rest next report left line number at steps faults faults' now desk desk' asked along e f (inr r) g l =
    (good, rose r.1)
  where
    good : first_bad_line slots script ≡ None
    good = (read_one slots (lines script) (lines rest) (lines next) line 1 number asked along.read_to e f).same ∙ g

    rose : Rose faults' now → Rose faults now
    rose (inl lower) = inl (omega (arith, l, lower))
    rose (inr top) = inr top

pub end_judged :
    (slots : ℕ) (script rest report left : List ℕ) (number at steps : ℕ) (desk : Desk) → slots ≤ most_slots
    → Along slots script rest report left number at steps desk → rest ≡ [] → Judged slots script report (verdict_at_end left at)
end_judged slots script rest report left number at steps desk few along e =
    let x = along.remains.rest_decides [] (ap (λ r. asks_lines slots (lines r)) e) in
    at_end (is_empty left) refl x.0 x.1 x.2
  where
    at_end :
        (b : Bool) → is_empty left ≡ b → (asked : List Asked) → asks_lines slots (lines script) ≡ Some asked
        → first_wrong_line reply_text the_coder slots asked report ≡ wrong_from reply_text the_coder (after slots along.history) [] left at
        → Judged slots script report (verdict_at_end left at)
    at_end true f asked g h =
        subst (Judged slots script report) (sym (ap (λ b. cond b Yes (No at)) f)) (judged_yes slots script report asked g (h ∙ ap (λ b. cond b None (Some at)) f))
    at_end false f asked g h =
        subst (Judged slots script report) (sym (ap (λ b. cond b Yes (No at)) f)) (judged_no slots script report asked at few g (h ∙ ap (λ b. cond b None (Some at)) f))

pub same_few :
    (slots : ℕ) (history : List DeviceEvent) (asked : Asked) (left : List ℕ) (faults faults' many some : ℕ) (desk : Desk)
    → Replayed slots history asked left faults faults' desk (Same many some) → (many ≤ length left) × (some ≤ 2)
same_few slots history asked left faults faults' many some desk (inr x) = absurd (no_fault x.0)
  where
    no_fault : Same many some ≡ Fault → ⊥
    no_fault p = cc
same_few slots history asked left faults faults' many some desk (inl made) =
    let d = after slots history in
    let parts = same_parts (printed_by d asked left) (wanted_text d asked left) (lines_printed d asked) many some (bytes_eq (printed_by d asked left) (wanted_text d asked left)) refl made.ends in
    let within = few_bytes left (lines_printed d asked) in
    (omega (arith, parts.1, within), omega (arith, parts.2, printed_few d asked))
