-- How the command that serves messages ends, from how serving them ended: after an engine's fault the engine counts one more, and
-- whole messages end well, but for a fault outside or want of memory.
use Rattle.std.proofs.Common.{◌≡◌, ◌≢◌, ℕ, ◌<◌, ◌≤◌, ◌⊎◌, inl, inr, nat_le, not, List, [], ◌∷◌, ◌++◌, length, get_or, set, Option, Some, None, IfSome, true, refl, sym, ◌∙◌, ap, subst, arith, length-append}
use Rattle.std.specs.Int.{from_be_bytes, w32}
use Rattle.std.proofs.lemmas.Bool.{le-leb, leb-true}
use Rattle.std.proofs.lemmas.List.{take-append-le}
use Rattle.std.specs.Io.KnownBytes.{Appends, Consumes, IsAtEnd}
use Rattle.vc_base.specs.Counts.{Rose}
use Rattle.vc_crew.specs.Counts.{EngineCounts, counts_of}
use Rattle.vc_model.specs.Messages.{messages, has_bad_length, is_length, number_at}
use Rattle.vc_model.proofs.PartsOfTests.{and_left, and_right, and_both}
use Rattle.vc_model.proofs.MessagesContinue.{messages_continue}
use Rattle.vc_wire.proofs.MessagesEnd.{none_alone, bad_has_none}
use Rattle.vc_top.specs.declared.status.Status.{Status}
use Rattle.vc_top.specs.declared.status.Status.TheVariants.{Fine, Usage, ReadFault, WriteFault, BadLine, Damaged, ShortRaw, EngineFault, TooLong, NotARun, NoMemory, BadMessage}
use Rattle.vc_words.specs.declared.command.Command.{Command}
use Rattle.vc_words.specs.declared.command.Command.TheVariants.{Wire}
use Rattle.vc_words.specs.declared.command.WireOptions.{WireOptions}
use Rattle.vc_top.specs.Commands.{WireDoes, Does}
use Rattle.vc_top.specs.Engines.{OneRose}
use Rattle.vc_top.specs.Runs.{Run, seen}
use Rattle.vc_top.specs.Wires.{wire_status, WireEndsAs, WireEnds, AreGoodMessages}
use Rattle.vc_top.proofs.ScriptsEnd.{whole, rose_some}
use Rattle.vc_wire.specs.declared.ends.WireEnd.{WireEnd}
use Rattle.vc_wire.specs.declared.ends.WireEnd.TheVariants as ends
use Rattle.vc_wire.specs.Ends.{EndsAs, HasReadBad, HasReadTooLong, most_input, standing}

-- The wire's end is told by its status.
pub told_end :
    (slots : ℕ) (had left old new : Option (List ℕ)) (before now : EngineCounts) (end : WireEnd)
    → EndsAs slots had left (standing old before.runs before.faults) (standing new now.runs now.faults) end
    → IfSome had (λ input. WireEnds slots input left old new before now (wire_status end))
told_end slots None left old new before now end e = tt
told_end slots (Some input) left old new before now ends.Whole e = e
told_end slots (Some input) left old new before now (ends.BadMessage at) e = e
told_end slots (Some input) left old new before now ends.ReadFault e = e
told_end slots (Some input) left old new before now ends.WriteFault e = e
told_end slots (Some input) left old new before now ends.EngineFault e = e
told_end slots (Some input) left old new before now ends.TooLong e = e
told_end slots (Some input) left old new before now ends.NoMemory e = e

-- After an engine's fault the engine counts one more.
pub engine_cause :
    (slots : ℕ) (had left old new : Option (List ℕ)) (before now : EngineCounts) (end : WireEnd)
    → EndsAs slots had left (standing old before.runs before.faults) (standing new now.runs now.faults) end
    → wire_status end ≡ EngineFault → Rose before.faults now.faults
engine_cause slots had left old new before now ends.EngineFault (bytes, read, all) is =
    rose_some _ before.faults now.faults all.failed all.counted.failed
engine_cause slots had left old new before now ends.Whole e is = absurd (cc)
engine_cause slots had left old new before now (ends.BadMessage at) e is = absurd (cc)
engine_cause slots had left old new before now ends.ReadFault e is = absurd (cc)
engine_cause slots had left old new before now ends.WriteFault e is = absurd (cc)
engine_cause slots had left old new before now ends.TooLong e is = absurd (cc)
engine_cause slots had left old new before now ends.NoMemory e is = absurd (cc)

-- Of few bytes not too many are read.
not_long : (input : List ℕ) (left : Option (List ℕ)) (bytes : List ℕ) → length input < most_input → HasReadTooLong (Some input) left bytes → ⊥
not_long input None bytes few e = e.read
not_long input (Some rest) bytes few e = omega (arith, few, e.long, ap length e.read, length-append bytes rest)

-- A length out of range stays where more comes behind it, and then no message is there and all is rest.
bad_goes_on : (bytes further : List ℕ) → has_bad_length bytes ≡ true → has_bad_length (bytes ++ further) ≡ true
bad_goes_on bytes further e =
    let n = number_at bytes 0 in
    let all = bytes ++ further in
    let long : 4 ≤ length bytes = leb-true 4 (length bytes) (and_left (nat_le 4 (length bytes)) (not (is_length n)) e) in
    let same : number_at all 0 ≡ n = ap (λ x. from_be_bytes w32 x) (take-append-le 4 bytes further long) in
    and_both (nat_le 4 (length all)) (not (is_length (number_at all 0)))
    (le-leb 4 (length all) (omega (arith, long, length-append bytes further)))
    (ap (λ m. not (is_length m)) same ∙ and_right (nat_le 4 (length bytes)) (not (is_length n)) e)

rest_of_bad : (bytes : List ℕ) → has_bad_length bytes ≡ true → (messages bytes).rest ≡ bytes
rest_of_bad bytes e = ap (λ m. m.rest) (none_alone bytes (bad_has_none bytes e))

-- Bytes whose messages leave no rest have no bad length behind those that were read.
no_bad_length :
    (input rest bytes : List ℕ) → (messages input).rest ≡ [] → input ≡ bytes ++ rest → has_bad_length (messages bytes).rest ≡ true → ⊥
no_bad_length input rest bytes none is bad =
    let kept = (messages bytes).rest in
    let left : (messages input).rest ≡ kept ++ rest =
    ap (λ z. (messages z).rest) is ∙ (ap (λ m. m.rest) (messages_continue bytes rest) ∙ rest_of_bad (kept ++ rest) (bad_goes_on kept rest bad)) in
    let long : 4 ≤ length kept = leb-true 4 (length kept) (and_left (nat_le 4 (length kept)) (not (is_length (number_at kept 0))) bad) in
    omega (arith, long, length-append kept rest, ap length (sym left ∙ none))

none_is_bad : (input : List ℕ) (left : Option (List ℕ)) (bytes : List ℕ) (at : ℕ) → (messages input).rest ≡ [] → HasReadBad (Some input) left bytes at → ⊥
none_is_bad input None bytes at none e = e.read.read
none_is_bad input (Some rest) bytes at none e = by_cause e.bad
  where
    by_cause : (has_bad_length (messages bytes).rest ≡ true) ⊎ (IsAtEnd (Some rest) × ((messages bytes).rest ≢ [])) → ⊥
    by_cause (inl bad) = no_bad_length input rest bytes none e.read.read bad
    by_cause (inr (end, some)) =
        some (subst (λ z. (messages z).rest ≡ []) (whole input bytes (Some rest) e.read.read end) none)

complete_end :
    (slots : ℕ) (input : List ℕ) (left old new : Option (List ℕ)) (before now : EngineCounts) (end : WireEnd) (r0 r1 s0 s1 : ℕ)
    → WireEndsAs slots input left old new before now end → (wire_status end ≡ ReadFault → Rose r0 r1) → (wire_status end ≡ WriteFault → Rose s0 s1)
    → (wire_status end ≡ EngineFault → Rose before.faults now.faults) → AreGoodMessages input → (Rose r0 r1 → ⊥) → (Rose s0 s1 → ⊥)
    → (Rose before.faults now.faults → ⊥) → (wire_status end ≡ Fine) ⊎ (wire_status end ≡ NoMemory)
complete_end slots input left old new before now ends.Whole r0 r1 s0 s1 e a b c good x y z = inl refl
complete_end slots input left old new before now ends.NoMemory r0 r1 s0 s1 e a b c good x y z = inr refl
complete_end slots input left old new before now ends.ReadFault r0 r1 s0 s1 e a b c good x y z = absurd (x (a refl))
complete_end slots input left old new before now ends.WriteFault r0 r1 s0 s1 e a b c good x y z = absurd (y (b refl))
complete_end slots input left old new before now ends.EngineFault r0 r1 s0 s1 e a b c good x y z = absurd (z (c refl))
complete_end slots input left old new before now ends.TooLong r0 r1 s0 s1 (bytes, read, front) a b c good x y z =
    absurd (not_long input left bytes good.few read)
complete_end slots input left old new before now (ends.BadMessage at) r0 r1 s0 s1 (bytes, read, all) a b c good x y z =
    absurd (none_is_bad input left bytes at good.no_rest read)

pub wire_does :
    (slots : ℕ) (had left old new : Option (List ℕ)) (r0 r1 s0 s1 : ℕ) (before now : EngineCounts) (end : WireEnd)
    → EndsAs slots had left (standing old before.runs before.faults) (standing new now.runs now.faults) end
    → (wire_status end ≡ ReadFault → Rose r0 r1) → (wire_status end ≡ WriteFault → Rose s0 s1)
    → WireDoes slots (record { before = seen had r0 old s0 (before ∷ []); after = seen left r1 new s1 (now ∷ []); status = wire_status end })
wire_does slots had left old new r0 r1 s0 s1 before now end e a b =
    let cause = engine_cause slots had left old new before now end e in
    record { ends = told_end slots had left old new before now end e; engine_fault = λ f. inl (cause f); completes = completes had e cause }
  where
    completes :
        (had : Option (List ℕ)) → EndsAs slots had left (standing old before.runs before.faults) (standing new now.runs now.faults) end
        → (wire_status end ≡ EngineFault → Rose before.faults now.faults)
        → IfSome had (λ input. AreGoodMessages input → (Rose r0 r1 → ⊥) → (Rose s0 s1 → ⊥) → (OneRose (before.faults ∷ []) (now.faults ∷ []) → ⊥) → (wire_status end ≡ Fine) ⊎ (wire_status end ≡ NoMemory))
    completes None e cause = tt
    completes (Some input) e cause = λ good x y z.
        complete_end slots input left old new before now end r0 r1 s0 s1 e a b cause good x y (λ f. z (inl f))

-- The status of a read's fault is the wire's, and so of a write's.
pub read_status : (end : WireEnd) → wire_status end ≡ ReadFault → end ≡ ends.ReadFault
read_status ends.ReadFault e = refl
read_status ends.Whole e = absurd (cc)
read_status (ends.BadMessage at) e = absurd (cc)
read_status ends.WriteFault e = absurd (cc)
read_status ends.EngineFault e = absurd (cc)
read_status ends.TooLong e = absurd (cc)
read_status ends.NoMemory e = absurd (cc)

pub write_status : (end : WireEnd) → wire_status end ≡ WriteFault → end ≡ ends.WriteFault
write_status ends.WriteFault e = refl
write_status ends.Whole e = absurd (cc)
write_status (ends.BadMessage at) e = absurd (cc)
write_status ends.ReadFault e = absurd (cc)
write_status ends.EngineFault e = absurd (cc)
write_status ends.TooLong e = absurd (cc)
write_status ends.NoMemory e = absurd (cc)

pub no_usage : (end : WireEnd) → wire_status end ≢ Usage
no_usage ends.Whole = λ e. cc
no_usage (ends.BadMessage at) = λ e. cc
no_usage ends.ReadFault = λ e. cc
no_usage ends.WriteFault = λ e. cc
no_usage ends.EngineFault = λ e. cc
no_usage ends.TooLong = λ e. cc
no_usage ends.NoMemory = λ e. cc

-- The engine of the wire is the first of the list.
pub wire_on_first :
    {A : Type 0} (run_count fault_count : A → ℕ) (slots : ℕ) (left left' old new : Option (List ℕ)) (r r' s s' : ℕ) (e e' : A) (es : List A) (status : Status)
    → 0 < length es → e ≡ get_or es 0 e
    → WireDoes slots (record { before = seen left r old s (counts_of run_count fault_count (e ∷ [])); after = seen left' r' new s' (counts_of run_count fault_count (e' ∷ [])); status = status })
    → WireDoes slots (record { before = seen left r old s (counts_of run_count fault_count es); after = seen left' r' new s' (counts_of run_count fault_count (set es 0 e')); status = status })
wire_on_first run_count fault_count slots left left' old new r r' s s' e e' [] status some first d = absurd (omega (arith, some))
wire_on_first run_count fault_count slots left left' old new r r' s s' e e' (x ∷ xs) status some first d =
    let on : WireDoes slots (record { before = seen left r old s (counts_of run_count fault_count (x ∷ [])); after = seen left' r' new s' (counts_of run_count fault_count (e' ∷ [])); status = status }) =
    subst (λ z. WireDoes slots (record { before = seen left r old s (counts_of run_count fault_count (z ∷ [])); after = seen left' r' new s' (counts_of run_count fault_count (e' ∷ [])); status = status })) first d in
    record { ends = on.ends; engine_fault = on.engine_fault; completes = on.completes }

-- Words that ask for the wire.
pub wire_asked : (asked : Option Command) (run : Run) (options : WireOptions) → asked ≡ Some (Wire options) → WireDoes options.slots run → Does asked run
wire_asked asked run options asks does = subst (λ (o : Option Command). Does o run) (sym asks) does
