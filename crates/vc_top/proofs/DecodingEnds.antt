-- How a decoding ends, from what its flow did and what the engines counted: its record has each promise of the flow's, told by the
-- status. Out of memory before the flow began, nothing was written.
use Rattle.std.proofs.Common.{◌≡◌, ℕ, ◌≤◌, ◌⊎◌, inl, inr, Bool, true, false, List, [], Option, Some, None, IfSome, refl, sym, ◌∙◌, subst, arith, map, take}
use Rattle.std.proofs.KnownBytes.{Appends-nil}
use Rattle.std.proofs.lemmas.Bool.{false≢true}
use Rattle.std.specs.Io.KnownBytes.{Appends}
use Rattle.vc_base.specs.Counts.{Rose}
use Rattle.vc_crew.specs.Counts.{EngineCounts, HaveRun, HaveFailed}
use Rattle.vc_crew.specs.Rising.{RoseTogether}
use Rattle.vc_defs.specs.Outputs.{decode_output, result_count}
use Rattle.vc_io.specs.Written.{AppendsFront}
use Rattle.vc_model.specs.Solo.{SoloEvent}
use Rattle.vc_port.specs.Payloads.{good_finishes, faulty_finishes}
use Rattle.vc_flow.specs.declared.ends.FlowEnd.{FlowEnd}
use Rattle.vc_flow.specs.declared.ends.FlowEnd.TheVariants.{Whole, Damaged, ShortRaw, ReadFault, WriteFault, EngineFault, TooLong, NoMemory}
use Rattle.vc_decode_flow.specs.Endings.{IsWritten, IsFrontWritten}
use Rattle.vc_words.specs.declared.command.DecodeOptions.{DecodeOptions}
use Rattle.vc_top.specs.declared.status.Status.{Status}
use Rattle.vc_top.specs.declared.status.Status.TheVariants as statuses
use Rattle.vc_top.specs.Decodes.{AllDecoded, DecodeEnds, IsGoodStream}
use Rattle.vc_top.specs.Commands.{DecodeDoes}
use Rattle.vc_top.specs.Engines.{OneRose}
use Rattle.vc_top.specs.Flows.{HasDecoded, status_of_flow}
use Rattle.vc_top.specs.Runs.{seen}
use Rattle.vc_top.proofs.FlowEnds.{front_of, one_rose, end_whole, end_damaged, end_read, end_write, end_engine, AreCauses, long_is_long}

-- What was written

front_written : (input : List ℕ) (old new : Option (List ℕ)) (events : List SoloEvent) → IsFrontWritten (Some input) old new [] events → AppendsFront old new (decode_output input)
front_written input old new events w =
    front_of old new w.bytes w.output.0 (decode_output input) w.output.1 w.wrote

all_written : (input : List ℕ) (damaged : Bool) (left old new : Option (List ℕ)) (events : List SoloEvent) → IsWritten damaged (Some input) left old new [] events → AllDecoded input damaged left old new
all_written input damaged left old new events w =
    record { read = w.end; damage = w.damage; written = subst (Appends old new) w.output w.wrote }

-- The input is known

ends_at :
    (input : List ℕ) (end : FlowEnd) (left old new : Option (List ℕ)) (r r' s s' : ℕ) (events : List SoloEvent)
    → HasDecoded end (record { left = Some input; faults = r }) (record { left = left; faults = r' }) (record { written = old; faults = s }) (record { written = new; faults = s' }) [] events
    → DecodeEnds input left old new (status_of_flow end)
ends_at input Whole left old new r r' s s' events h =
    all_written input false left old new events (h.whole refl)
ends_at input Damaged left old new r r' s s' events h =
    all_written input true left old new events (h.damaged refl)
ends_at input ShortRaw left old new r r' s s' events h = absurd (h.no_raw refl)
ends_at input ReadFault left old new r r' s s' events h = front_written input old new events h.front
ends_at input WriteFault left old new r r' s s' events h = front_written input old new events h.front
ends_at input EngineFault left old new r r' s s' events h = front_written input old new events h.front
ends_at input TooLong left old new r r' s s' events h =
    (h.long refl, front_written input old new events h.front)
ends_at input NoMemory left old new r r' s s' events h = front_written input old new events h.front

pub decode_ends :
    (end : FlowEnd) (had left old new : Option (List ℕ)) (r r' s s' : ℕ) (events : List SoloEvent)
    → HasDecoded end (record { left = had; faults = r }) (record { left = left; faults = r' }) (record { written = old; faults = s }) (record { written = new; faults = s' }) [] events
    → IfSome had (λ input. DecodeEnds input left old new (status_of_flow end))
decode_ends end None left old new r r' s s' events h = tt
decode_ends end (Some input) left old new r r' s s' events h =
    ends_at input end left old new r r' s s' events h

-- nothing was read or written
pub none_decoded : (had left old : Option (List ℕ)) → IfSome had (λ input. DecodeEnds input left old old statuses.NoMemory)
none_decoded None left old = tt
none_decoded (Some input) left old = (0, omega arith, Appends-nil old)

-- The counts of the engines

rose_with :
    (damaged : Bool) (input : List ℕ) (left old new : Option (List ℕ)) (events : List SoloEvent) (runs runs' : List ℕ)
    → IsWritten damaged (Some input) left old new [] events → RoseTogether (good_finishes events) runs runs'
    → RoseTogether (result_count input) runs runs'
rose_with damaged input left old new events runs runs' w rose =
    let few : result_count input ≤ good_finishes events = omega (arith, w.finishes) in
    record { shares = rose.shares; enough = omega (arith, few, rose.enough); shared = rose.shared }

pub runs_rose :
    (end : FlowEnd) (had left old new : Option (List ℕ)) (r r' s s' : ℕ) (events : List SoloEvent) (runs runs' : List ℕ)
    → HasDecoded end (record { left = had; faults = r }) (record { left = left; faults = r' }) (record { written = old; faults = s }) (record { written = new; faults = s' }) [] events
    → RoseTogether (good_finishes events) runs runs' → (status_of_flow end ≡ statuses.Fine) ⊎ (status_of_flow end ≡ statuses.Damaged)
    → IfSome had (λ input. RoseTogether (result_count input) runs runs')
runs_rose end None left old new r r' s s' events runs runs' h rose through = tt
runs_rose end (Some input) left old new r r' s s' events runs runs' h rose (inl fine) =
    rose_with false input left old new events runs runs' (h.whole (end_whole end fine)) rose
runs_rose end (Some input) left old new r r' s s' events runs runs' h rose (inr damaged) =
    rose_with true input left old new events runs runs' (h.damaged (end_damaged end damaged)) rose

-- Causes

pub decode_causes :
    (end : FlowEnd) (had left old new : Option (List ℕ)) (r r' s s' : ℕ) (events : List SoloEvent) (faults faults' : List ℕ)
    → HasDecoded end (record { left = had; faults = r }) (record { left = left; faults = r' }) (record { written = old; faults = s }) (record { written = new; faults = s' }) [] events
    → RoseTogether (faulty_finishes events) faults faults' → AreCauses (status_of_flow end) r r' s s' faults faults'
decode_causes end had left old new r r' s s' events faults faults' h rose =
    record {
      read = λ e. h.read (end_read end e);
      write = λ e. h.write (end_write end e);
      engine = λ e. one_rose (faulty_finishes events) faults faults' (h.engine (end_engine end e)) rose;
    }

-- Completeness

complete_at :
    (input : List ℕ) (left old new : Option (List ℕ)) (status : Status) (r r' s s' : ℕ) (faults faults' : List ℕ)
    → DecodeEnds input left old new status → AreCauses status r r' s s' faults faults' → IsGoodStream input → (Rose r r' → ⊥) → (Rose s s' → ⊥)
    → (OneRose faults faults' → ⊥) → (status ≡ statuses.Fine) ⊎ (status ≡ statuses.NoMemory)
complete_at input left old new statuses.Fine r r' s s' faults faults' e c good x y z = inl refl
complete_at input left old new statuses.NoMemory r r' s s' faults faults' e c good x y z = inr refl
complete_at input left old new statuses.Damaged r r' s s' faults faults' e c good x y z =
    absurd (false≢true (sym good.sound ∙ e.damage))
complete_at input left old new statuses.ReadFault r r' s s' faults faults' e c good x y z =
    absurd (x (c.read refl))
complete_at input left old new statuses.WriteFault r r' s s' faults faults' e c good x y z =
    absurd (y (c.write refl))
complete_at input left old new statuses.EngineFault r r' s s' faults faults' e c good x y z =
    absurd (z (c.engine refl))
complete_at input left old new statuses.TooLong r r' s s' faults faults' e c good x y z =
    absurd (long_is_long input left e.0 good.short)
complete_at input left old new statuses.Usage r r' s s' faults faults' e c good x y z = absurd e
complete_at input left old new statuses.ShortRaw r r' s s' faults faults' e c good x y z = absurd e
complete_at input left old new (statuses.NotARun n) r r' s s' faults faults' e c good x y z = absurd e
complete_at input left old new (statuses.BadMessage n) r r' s s' faults faults' e c good x y z = absurd e
complete_at input left old new (statuses.BadLine n) r r' s s' faults faults' e c good x y z = absurd e

decode_completes :
    (had left old new : Option (List ℕ)) (status : Status) (r r' s s' : ℕ) (faults faults' : List ℕ)
    → IfSome had (λ input. DecodeEnds input left old new status) → AreCauses status r r' s s' faults faults'
    → IfSome had (λ input. IsGoodStream input → (Rose r r' → ⊥) → (Rose s s' → ⊥) → (OneRose faults faults' → ⊥) → (status ≡ statuses.Fine) ⊎ (status ≡ statuses.NoMemory))
decode_completes None left old new status r r' s s' faults faults' e c = tt
decode_completes (Some input) left old new status r r' s s' faults faults' e c = λ good x y z.
    complete_at input left old new status r r' s s' faults faults' e c good x y z

-- The record of the command

pub decode_does :
    (options : DecodeOptions) (end : FlowEnd) (had left old new : Option (List ℕ)) (r r' s s' : ℕ) (events : List SoloEvent) (before after : List EngineCounts)
    → HasDecoded end (record { left = had; faults = r }) (record { left = left; faults = r' }) (record { written = old; faults = s }) (record { written = new; faults = s' }) [] events
    → HaveRun (good_finishes events) (take options.workers before) (take options.workers after)
    → HaveFailed (faulty_finishes events) (take options.workers before) (take options.workers after)
    → DecodeDoes options (record { before = seen had r old s before; after = seen left r' new s' after; status = status_of_flow end })
decode_does options end had left old new r r' s s' events before after h ran failed =
    let runs = map (λ (e : EngineCounts). e.runs) (take options.workers before) in
    let runs' = map (λ (e : EngineCounts). e.runs) (take options.workers after) in
    let faults = map (λ (e : EngineCounts). e.faults) (take options.workers before) in
    let faults' = map (λ (e : EngineCounts). e.faults) (take options.workers after) in
    let ends = decode_ends end had left old new r r' s s' events h in
    let causes = decode_causes end had left old new r r' s s' events faults faults' h failed in
    record {
      ends = ends;
      runs = λ fine. runs_rose end had left old new r r' s s' events runs runs' h ran fine;
      engine_fault = causes.engine;
      completes = decode_completes had left old new (status_of_flow end) r r' s s' faults faults' ends causes;
    }

-- Out of memory before the flow began, nothing was written.
pub decode_refused : (options : DecodeOptions) (had left old new : Option (List ℕ)) (r r' s s' : ℕ) (before after : List EngineCounts) →
    new ≡ old → DecodeDoes options (record {
      before = seen had r old s before;
      after = seen left r' new s' after;
      status = statuses.NoMemory;
    })
decode_refused options had left old new r r' s s' before after same =
    record {
      ends = subst (λ z. IfSome had (λ input. DecodeEnds input left old z statuses.NoMemory)) (sym same) (none_decoded had left old);
      runs = λ fine. absurd (not_through fine);
      engine_fault = λ e. absurd (cc);
      completes = any_memory had;
    }
  where
    any_memory :
        (had : Option (List ℕ))
        → IfSome had (λ input.
        IsGoodStream input → (Rose r r' → ⊥) → (Rose s s' → ⊥)
        → (OneRose (map (λ (e : EngineCounts). e.faults) (take options.workers before)) (map (λ (e : EngineCounts). e.faults) (take options.workers after)) → ⊥)
        → (statuses.NoMemory ≡ statuses.Fine) ⊎ (statuses.NoMemory ≡ statuses.NoMemory))
    any_memory None = tt
    any_memory (Some input) = λ good x y z. inr refl

    not_through : (statuses.NoMemory ≡ statuses.Fine) ⊎ (statuses.NoMemory ≡ statuses.Damaged) → ⊥
    not_through (inl e) = cc
    not_through (inr e) = cc
