-- One turn of a run's loop goes on with the rest of the source or ends the run as the definition does. A feed tells
-- one find; either it gives no result and a run stands again behind it, or its result is the run's.
use Rattle.std.proofs.Common.{◌≡◌, ◌∙◌, sym, ap, refl, subst, ℕ, ◌+◌, ◌-◌, ◌<◌, ◌≤◌, List, [], ◌∷◌, length, take, drop, arith, length-drop}
use Rattle.std.specs.Prelude.{Bool, true, false, not, cond}
use Rattle.std.specs.declared.option.Option.{Option}
use Rattle.std.specs.declared.option.Option.TheVariants.{Some, None}
use Rattle.std.proofs.lemmas.Option.{none-some}
use Rattle.std.proofs.lemmas.List.{take_all}
use Rattle.vc_base.specs.declared.Stamp.{Stamp}
use Rattle.vc_base.specs.declared.Fourcc.{Fourcc}
use Rattle.vc_defs.specs.declared.Geometry.{Geometry}
use Rattle.vc_defs.specs.Places.{Frame}
use Rattle.vc_defs.specs.Finds.{Find, Head, Ended, KeptBytes, FedStep, fed}
use Rattle.vc_defs.specs.Decoder.{GivenResult, BetweenFrames, ReferenceState, outcome_of, outcome_of_result, step_outcome, geometry_after_kind, geometry_after, decode, is_change}
use Rattle.vc_defs.specs.Decoder.{is_passed_over, picture_planes, given_by, given_at_end, given_by_find, FrameResult, ResultKind, Picture, Damaged, Changed, DecodedStep}
use Rattle.vc_defs.specs.Raw.{grey}
use Rattle.vc_defs.proofs.BlocksAreRead.{some_same}
use Rattle.vc_work.specs.References.{CodecReference}
use Rattle.vc_resync.specs.declared.feeding.Found.{Found}
use Rattle.vc_resync.specs.Assembling.{AssemblyState, found_of, frame_of, assembly_after, IsLegalAnswer}
use Rattle.vc_resync.specs.Decoding.{RunEnd}
use Rattle.vc_frame.proofs.FrameOverAnArea.{legal_parts}
use Rattle.vc_stream_run.specs.declared.decoded.Decoded.{Decoded}
use Rattle.vc_stream_run.specs.declared.decoded.Decoded.TheVariants.{Spent}
use Rattle.vc_stream_run.specs.Running.{decoder_of, answer_of, geometry_behind, IsInStep, IsLegalChange}
use Rattle.vc_stream_run.specs.Steps.{RunPoint, present_of, ended_by, ended_at, HasPresent, EndsPresent, probed_by, probed_at}
use Rattle.vc_stream_run.proofs.FedFramesHaveTheGeometry.{At, at_next, ahead, comes_closer, ends_present, found_present}
use Rattle.vc_stream_run.proofs.RunsComeToTheNextResult.{Going, going_next, Comes, end_outcome, comes_none, comes_one, change_of, just_one, Finished, finishes}

-- A feed of the rest of a source answered so.
pub record IsFed (limit : ℕ) (stamp : Stamp) (source : List ℕ) (taken : ℕ) (kept : KeptBytes) (count : ℕ) (found : Found) (new : AssemblyState) : Type 0 where
  pub step : FedStep
  pub is : step ≡ fed kept limit (drop taken source) stamp
  pub moved : count ≡ step.moved
  pub found_is : found ≡ found_of step.told
  pub told_is : new.told ≡ frame_of step.told step.stamp
  pub kept_is : new.kept ≡ step.kept
  pub inside : taken + step.moved ≤ length source

-- the rest of a source, as the code cuts it off
abbrev pub rest_of : List ℕ → ℕ → List ℕ
rest_of source taken = take (length source - taken) (drop taken source)

pub is_fed : (limit : ℕ) (stamp : Stamp) (source : List ℕ) (taken : ℕ) (old new : AssemblyState) (count : ℕ) (found : Found) → old.limit ≡ limit → taken ≤ length source → count ≡ (fed old.kept old.limit (rest_of source taken) stamp).moved →
    found ≡ found_of (fed old.kept old.limit (rest_of source taken) stamp).told →
    new ≡ assembly_after old (fed old.kept old.limit (rest_of source taken) stamp) → count ≤ length (rest_of source taken) → IsFed limit stamp source taken old.kept count found new
is_fed limit stamp source taken old new count found same inside moved answers after most =
    let rest : rest_of source taken ≡ drop taken source = take_all (length source - taken) (drop taken source) (omega (arith, length-drop taken source)) in
    record {
      step = fed old.kept old.limit (rest_of source taken) stamp;
      is = ap (λ n. fed old.kept n (rest_of source taken) stamp) same ∙ ap (λ t. fed old.kept limit t stamp) rest;
      moved = moved;
      found_is = answers;
      told_is = ap (λ (a : AssemblyState). a.told) after;
      kept_is = ap (λ (a : AssemblyState). a.kept) after;
      inside = omega (arith, moved, most, ap length rest, length-drop taken source, inside);
    }

-- what it tells of an I frame's end is of the present geometry
pub fed_present : (limit : ℕ) (geometry : Option Geometry) (stamp : Stamp) (source : List ℕ) (taken : ℕ) (kept : KeptBytes) (count : ℕ) (found : Found) (new : AssemblyState) → At limit geometry kept → IsFed limit stamp source taken kept count found new → EndsPresent geometry found
fed_present limit geometry stamp source taken kept count found new a f = found_present limit geometry kept (drop taken source) stamp found a (f.found_is ∙ ap (λ (s : FedStep). found_of s.told) f.is)

-- Section: a decoder's run.

-- what the answer of the assembly comes to
abbrev pub Points : Fourcc → Option Geometry → CodecReference → List ℕ → Found → AssemblyState → Option Decoded → CodecReference → List ℕ → Type 0
Points fourcc geometry r dest found new answer after shown = (told : Option Find) (first : Stamp) → found ≡ found_of told → new.told ≡ frame_of told first → record { answer = answer; reference = after; dest = shown } ≡ ended_at fourcc first geometry r dest told

pub decode_finishes : (limit : ℕ) (fourcc : Fourcc) (geometry : Option Geometry) (r now : CodecReference) (first : KeptBytes) (source : List ℕ) (stamp : Stamp) (dest there : List ℕ) (taken : ℕ) (kept : KeptBytes) (count : ℕ) (found : Found) (new : AssemblyState)
    (answer : Option Decoded) (is : Decoded) (after : CodecReference) (shown : List ℕ) →
    IsInStep limit geometry r.state.reference first → Going limit stamp (present_of geometry r.state.reference) first source taken kept → now ≡ r → there ≡ dest → IsFed limit stamp source taken kept count found new → Points fourcc geometry now there found new answer after shown → answer ≡ Some is →
    Finished limit fourcc geometry r first source stamp dest (taken + count) is after shown new.kept
decode_finishes limit fourcc geometry r now first source stamp dest there taken kept count found new answer is after shown i g er ed f points some =
    let p : record { answer = Some is; reference = after; dest = shown } ≡ ended_at fourcc f.step.stamp geometry r dest f.step.told =
    ap (λ (o : Option Decoded). let x : RunPoint = record { answer = o; reference = after; dest = shown } in x) (sym some)
    ∙ points f.step.told f.step.stamp f.found_is f.told_is
    ∙ ap (λ (c : CodecReference). ended_at fourcc f.step.stamp geometry c there f.step.told) er
    ∙ ap (λ d. ended_at fourcc f.step.stamp geometry r d f.step.told) ed in
    subst (λ (n : ℕ). Finished limit fourcc geometry r first source stamp dest (taken + n) is after shown new.kept) (sym f.moved)
    (subst (λ (k : KeptBytes). Finished limit fourcc geometry r first source stamp dest (taken + f.step.moved) is after shown k) (sym f.kept_is)
    (finishes limit fourcc geometry r first source stamp dest taken kept f.step is after shown i g f.is f.inside p))

-- a turn that doesn't end the run
pub record GoesOn (limit : ℕ) (stamp : Stamp) (now : BetweenFrames) (first : KeptBytes) (source : List ℕ) (taken : ℕ) (kept : KeptBytes) (count : ℕ) (then : KeptBytes) : Type 0 where
  pub inside : taken + count ≤ length source
  pub point : At limit now.geometry then
  pub going : Going limit stamp now first source (taken + count) then
  pub closer : ahead then.tail (length source - (taken + count)) < ahead kept.tail (length source - taken)

-- a find that gives nothing
goes_on_by : (limit : ℕ) (stamp : Stamp) (now : BetweenFrames) (first : KeptBytes) (source : List ℕ) (taken : ℕ) (kept : KeptBytes) (count : ℕ) (found : Found) (new : AssemblyState) (find : Find) → Going limit stamp now first source taken kept → At limit now.geometry kept →
    (f : IsFed limit stamp source taken kept count found new) → f.step.told ≡ Some find → given_by_find find now ≡ [] →
    GoesOn limit stamp now first source taken kept count new.kept
goes_on_by limit stamp now first source taken kept count found new find g a f some e =
    subst (λ (n : ℕ). GoesOn limit stamp now first source taken kept n new.kept) (sym f.moved)
    (subst (λ (k : KeptBytes). GoesOn limit stamp now first source taken kept f.step.moved k) (sym f.kept_is) turn)
  where
    told : (fed kept limit (drop taken source) stamp).told ≡ Some find
    told = ap (λ (s : FedStep). s.told) (sym f.is) ∙ some

    closer : ahead (fed kept limit (drop taken source) stamp).kept.tail (length (drop taken source) - (fed kept limit (drop taken source) stamp).moved) < ahead kept.tail (length (drop taken source))
    closer = comes_closer limit now.geometry kept (drop taken source) stamp find a told

    here : ahead f.step.kept.tail (length (drop taken source) - f.step.moved) < ahead kept.tail (length (drop taken source))
    here = subst (λ (s : FedStep). ahead s.kept.tail (length (drop taken source) - s.moved) < ahead kept.tail (length (drop taken source))) (sym f.is) closer

    turn : GoesOn limit stamp now first source taken kept f.step.moved f.step.kept
    turn = record {
      inside = f.inside;
      point = subst (λ (s : FedStep). At limit now.geometry s.kept) (sym f.is) (at_next limit now kept (drop taken source) stamp find a told e);
      going = going_next limit stamp now first source taken kept find f.step f.is g some e f.inside;
      closer = omega (arith, here, length-drop taken source, g.inside, f.inside);
    }

pub record DecodeGoesOn (limit : ℕ) (stamp : Stamp) (geometry : Option Geometry) (r : CodecReference) (dest : List ℕ) (first : KeptBytes) (source : List ℕ) (taken : ℕ) (kept : KeptBytes) (count : ℕ) (after : CodecReference) (shown : List ℕ) (then : KeptBytes) : Type 0 where
  pub reference : after ≡ r
  pub dest_is : shown ≡ dest
  pub turn : GoesOn limit stamp (present_of geometry r.state.reference) first source taken kept count then

pub decode_goes_on : (limit : ℕ) (fourcc : Fourcc) (geometry : Option Geometry) (r now : CodecReference) (first : KeptBytes) (source : List ℕ) (stamp : Stamp) (dest there : List ℕ) (taken : ℕ) (kept : KeptBytes) (count : ℕ) (found : Found) (new : AssemblyState)
    (answer : Option Decoded) (after : CodecReference) (shown : List ℕ) →
    At limit geometry kept → Going limit stamp (present_of geometry r.state.reference) first source taken kept → now ≡ r → there ≡ dest → IsFed limit stamp source taken kept count found new → Points fourcc geometry now there found new answer after shown → answer ≡ None →
    DecodeGoesOn limit stamp geometry r dest first source taken kept count after shown new.kept
decode_goes_on limit fourcc geometry r now first source stamp dest there taken kept count found new answer after shown a g er ed f points none = by_told f.step.told refl p
  where
    p : record { answer = None; reference = after; dest = shown } ≡ ended_at fourcc f.step.stamp geometry r dest f.step.told
    p =
        ap (λ (o : Option Decoded). let x : RunPoint = record { answer = o; reference = after; dest = shown } in x) (sym none)
        ∙ points f.step.told f.step.stamp f.found_is f.told_is
        ∙ ap (λ (c : CodecReference). ended_at fourcc f.step.stamp geometry c there f.step.told) er
        ∙ ap (λ d. ended_at fourcc f.step.stamp geometry r d f.step.told) ed

    by_given : (find : Find) (xs : List GivenResult) → f.step.told ≡ Some find → given_by_find find (present_of geometry r.state.reference) ≡ xs → record { answer = None; reference = after; dest = shown } ≡ ended_by fourcc f.step.stamp r dest xs →
        DecodeGoesOn limit stamp geometry r dest first source taken kept count after shown new.kept
    by_given find [] some e q = record {
      reference = ap (λ (y : RunPoint). y.reference) q;
      dest_is = ap (λ (y : RunPoint). y.dest) q;
      turn = goes_on_by limit stamp (present_of geometry r.state.reference) first source taken kept count found new find g a f some e;
    }
    by_given find (x ∷ later) some e q = absurd (none-some (answer_of (outcome_of fourcc x.result.kind f.step.stamp)) (ap (λ (y : RunPoint). y.answer) q))

    by_told : (o : Option Find) → f.step.told ≡ o → record { answer = None; reference = after; dest = shown } ≡ ended_at fourcc f.step.stamp geometry r dest o →
        DecodeGoesOn limit stamp geometry r dest first source taken kept count after shown new.kept
    by_told None e q = absurd (none-some Spent (ap (λ (y : RunPoint). y.answer) q))
    by_told (Some find) e q = by_given find (given_by_find find (present_of geometry r.state.reference)) e refl q

-- Section: a probe.

abbrev unknown : BetweenFrames
unknown = present_of None None

-- without a reference an I frame's header alone gives something, and leaves no reference
leaves_none : (find : Find) (x : GivenResult) (later : List GivenResult) → ((f : Frame) → find ≡ Ended f → HasPresent None f.header) → given_by_find find unknown ≡ x ∷ later → x.present.reference ≡ None
leaves_none (Head position h) x later ends e = by_test (is_change h None) e
  where
    by_test : (b : Bool) → cond b (change_of position h.geometry ∷ []) [] ≡ x ∷ later → x.present.reference ≡ None
    by_test true e = let is : change_of position h.geometry ≡ x = cc in ap (λ (y : GivenResult). y.present.reference) (sym is)
    by_test false e = absurd cc
leaves_none (Ended f) x later ends e = by_key f.header.key refl e
  where
    by_key : (b : Bool) → f.header.key ≡ b → cond (not b) [] (given_at_end f unknown ∷ []) ≡ x ∷ later → x.present.reference ≡ None
    by_key true k e = let no : None ≡ Some f.header.geometry = ends f refl k in absurd (none-some f.header.geometry no)
    by_key false k e = absurd cc

-- what a probe is to answer, and to leave behind
pub record Probed (limit : ℕ) (first : KeptBytes) (source : List ℕ) (stamp : Stamp) (count : ℕ) (answer : Decoded) (kept : KeptBytes) : Type 0 where
  pub consumed : count ≡ (decode (decoder_of None first) None limit source stamp).moved
  pub answers : (fourcc : Fourcc) → answer ≡ answer_of (step_outcome fourcc (decode (decoder_of None first) None limit source stamp))
  pub state : decoder_of None kept ≡ (decode (decoder_of None first) None limit source stamp).state
  pub in_step : IsInStep limit (geometry_after (decode (decoder_of None first) None limit source stamp).given None) None kept

abbrev pub Probes : Found → Option Decoded → Type 0
Probes found answer = (told : Option Find) (fourcc : Fourcc) (first : Stamp) → found ≡ found_of told → answer ≡ probed_at fourcc first told

pub probe_finishes : (limit : ℕ) (first : KeptBytes) (source : List ℕ) (stamp : Stamp) (taken : ℕ) (kept : KeptBytes) (count : ℕ) (found : Found) (new : AssemblyState) (answer : Option Decoded) (is : Decoded) →
    IsInStep limit None None first → At limit None kept → Going limit stamp (present_of None None) first source taken kept → IsFed limit stamp source taken kept count found new → Probes found answer → answer ≡ Some is →
    Probed limit first source stamp (taken + count) is new.kept
probe_finishes limit first source stamp taken kept count found new answer is i a g f probes some =
    subst (λ (n : ℕ). Probed limit first source stamp (taken + n) is new.kept) (sym f.moved)
    (subst (λ (k : KeptBytes). Probed limit first source stamp (taken + f.step.moved) is k) (sym f.kept_is) (by_told f.step.told refl))
  where
    p : (fourcc : Fourcc) (o : Option Find) → f.step.told ≡ o → Some is ≡ probed_at fourcc f.step.stamp o
    p fourcc o e = sym some ∙ probes f.step.told fourcc f.step.stamp f.found_is ∙ ap (λ t. probed_at fourcc f.step.stamp t) e

    by_run : (run : RunEnd) → ((fourcc : Fourcc) → Comes limit fourcc None None first source stamp run) → run.moved ≡ taken + f.step.moved → run.kept ≡ f.step.kept → ((fourcc : Fourcc) → is ≡ answer_of (end_outcome fourcc run.kind run.stamp)) → run.present.reference ≡ None →
        Probed limit first source stamp (taken + f.step.moved) is f.step.kept
    by_run run c moved keeps answers none = record {
      consumed = sym moved ∙ sym (c grey).moved;
      answers = λ fourcc. answers fourcc ∙ ap answer_of (sym (c fourcc).outcome);
      state = ap (λ (r : Option ReferenceState). decoder_of r f.step.kept) (sym none) ∙ ap (λ k. decoder_of run.present.reference k) (sym keeps) ∙ sym (c grey).state;
      in_step = subst (λ (k : KeptBytes). IsInStep limit (geometry_after (decode (decoder_of None first) None limit source stamp).given None) None k) keeps
          (subst (λ (r : Option ReferenceState). IsInStep limit (geometry_after (decode (decoder_of None first) None limit source stamp).given None) r run.kept) none (c grey).in_step);
    }

    by_given : (find : Find) (xs : List GivenResult) → f.step.told ≡ Some find → given_by_find find unknown ≡ xs → ((fourcc : Fourcc) → Some is ≡ probed_by fourcc f.step.stamp xs) → Probed limit first source stamp (taken + f.step.moved) is f.step.kept
    by_given find [] some e q = absurd (none-some is (sym (q grey)))
    by_given find (x ∷ later) some e q =
        let one : given_by_find find unknown ≡ x ∷ [] = e ∙ ap (λ t. x ∷ t) (just_one find unknown x later e) in
        let told : (fed kept limit (drop taken source) stamp).told ≡ Some find = ap (λ (s : FedStep). s.told) (sym f.is) ∙ some in
        by_run (record { kind = Some x.result.kind; stamp = f.step.stamp; moved = taken + f.step.moved; kept = f.step.kept; present = x.present })
        (λ fourcc. comes_one limit fourcc None None first source stamp taken kept f.step find x i g f.is some one f.inside) refl refl
        (λ fourcc. some_same is (answer_of (outcome_of fourcc x.result.kind f.step.stamp)) (q fourcc))
        (leaves_none find x later (λ h eh. ends_present limit None kept (drop taken source) stamp h a (told ∙ ap (λ y. Some y) eh)) e)

    by_told : (o : Option Find) → f.step.told ≡ o → Probed limit first source stamp (taken + f.step.moved) is f.step.kept
    by_told None e =
        by_run (record { kind = None; stamp = stamp; moved = taken + f.step.moved; kept = f.step.kept; present = unknown })
        (λ fourcc. comes_none limit fourcc None None first source stamp taken kept f.step i g f.is e f.inside) refl refl
        (λ fourcc. some_same is Spent (p fourcc None e)) refl
    by_told (Some find) e = by_given find (given_by_find find unknown) e refl (λ fourcc. p fourcc (Some find) e)

pub probe_goes_on : (limit : ℕ) (first : KeptBytes) (source : List ℕ) (stamp : Stamp) (taken : ℕ) (kept : KeptBytes) (count : ℕ) (found : Found) (new : AssemblyState) (answer : Option Decoded) →
    At limit None kept → Going limit stamp (present_of None None) first source taken kept → IsFed limit stamp source taken kept count found new → Probes found answer → answer ≡ None →
    GoesOn limit stamp (present_of None None) first source taken kept count new.kept
probe_goes_on limit first source stamp taken kept count found new answer a g f probes none = by_told f.step.told refl
  where
    p : (o : Option Find) → f.step.told ≡ o → None ≡ probed_at grey f.step.stamp o
    p o e = sym none ∙ probes f.step.told grey f.step.stamp f.found_is ∙ ap (λ t. probed_at grey f.step.stamp t) e

    by_given : (find : Find) (xs : List GivenResult) → f.step.told ≡ Some find → given_by_find find unknown ≡ xs → None ≡ probed_by grey f.step.stamp xs → GoesOn limit stamp unknown first source taken kept count new.kept
    by_given find [] some e q = goes_on_by limit stamp unknown first source taken kept count found new find g a f some e
    by_given find (x ∷ later) some e q = absurd (none-some (answer_of (outcome_of grey x.result.kind f.step.stamp)) q)

    by_told : (o : Option Find) → f.step.told ≡ o → GoesOn limit stamp unknown first source taken kept count new.kept
    by_told None e = absurd (none-some Spent (p None e))
    by_told (Some find) e = by_given find (given_by_find find unknown) e refl (p (Some find) e)

-- Section: the geometry behind a run.

pub behind_is : (fourcc : Fourcc) (step : DecodedStep) (answer : Decoded) (present : Option Geometry) → answer ≡ answer_of (step_outcome fourcc step) → geometry_after step.given present ≡ geometry_behind answer present
behind_is fourcc step answer present e = by_given step.given ∙ ap (λ (d : Decoded). geometry_behind d present) (sym e)
  where
    by_kind : (kind : ResultKind) → geometry_after_kind kind present ≡ geometry_behind (answer_of (outcome_of fourcc kind step.stamp)) present
    by_kind (Picture geometry key planes) = refl
    by_kind Damaged = refl
    by_kind (Changed geometry) = refl

    by_given : (given : Option FrameResult) → geometry_after given present ≡ geometry_behind (answer_of (outcome_of_result fourcc given step.stamp)) present
    by_given None = refl
    by_given (Some r) = by_kind r.kind

pub step_behind : (limit limit' : ℕ) (fourcc : Fourcc) (step : DecodedStep) (answer : Decoded) (present : Option Geometry) (reference : Option ReferenceState) (kept : KeptBytes) → limit' ≡ limit → answer ≡ answer_of (step_outcome fourcc step) →
    IsInStep limit (geometry_after step.given present) reference kept → IsInStep limit' (geometry_behind answer present) reference kept
step_behind limit limit' fourcc step answer present reference kept same e i =
    subst (λ (n : ℕ). IsInStep n (geometry_behind answer present) reference kept) (sym same)
    (subst (λ (g : Option Geometry). IsInStep limit g reference kept) (behind_is fourcc step answer present e) i)

-- Section: a change is of a legal geometry.

gives_legal : (limit : ℕ) (find : Find) (now : BetweenFrames) (x : GivenResult) (later : List GivenResult) (fourcc : Fourcc) (stamp : Stamp) → IsLegalAnswer limit (found_of (Some find)) → given_by_find find now ≡ x ∷ later → IsLegalChange (answer_of (outcome_of fourcc x.result.kind stamp))
gives_legal limit (Head position h) now x later fourcc stamp legal e = by_test (is_change h now.geometry) e
  where
    by_test : (b : Bool) → cond b (change_of position h.geometry ∷ []) [] ≡ x ∷ later → IsLegalChange (answer_of (outcome_of fourcc x.result.kind stamp))
    by_test true e =
        let is : change_of position h.geometry ≡ x = cc in
        subst (λ (y : GivenResult). IsLegalChange (answer_of (outcome_of fourcc y.result.kind stamp))) is (legal_parts limit h legal.0).0
    by_test false e = absurd cc
gives_legal limit (Ended f) now x later fourcc stamp legal e = by_test (is_passed_over f.header now.reference) e
  where
    by_planes : (o : Option (List (List ℕ))) → IsLegalChange (answer_of (outcome_of fourcc (given_by f now o).result.kind stamp))
    by_planes None = tt
    by_planes (Some planes) = tt

    by_test : (b : Bool) → cond b [] (given_at_end f now ∷ []) ≡ x ∷ later → IsLegalChange (answer_of (outcome_of fourcc x.result.kind stamp))
    by_test true e = absurd cc
    by_test false e =
        let is : given_at_end f now ≡ x = cc in
        subst (λ (y : GivenResult). IsLegalChange (answer_of (outcome_of fourcc y.result.kind stamp))) is (by_planes (picture_planes f now))

-- what ends a decoder's run
pub decode_is_legal : (limit : ℕ) (fourcc : Fourcc) (geometry : Option Geometry) (stamp : Stamp) (source : List ℕ) (taken : ℕ) (kept : KeptBytes) (count : ℕ) (now : CodecReference) (there : List ℕ) (found : Found) (new : AssemblyState) (answer : Option Decoded) (is : Decoded)
    (after : CodecReference) (shown : List ℕ) →
    IsLegalAnswer limit found → IsFed limit stamp source taken kept count found new → Points fourcc geometry now there found new answer after shown → answer ≡ Some is → IsLegalChange is
decode_is_legal limit fourcc geometry stamp source taken kept count now there found new answer is after shown legal f points some =
    by_told f.step.told (subst (λ (x : Found). IsLegalAnswer limit x) f.found_is legal) (points f.step.told f.step.stamp f.found_is f.told_is)
  where
    by_given : (find : Find) (xs : List GivenResult) → IsLegalAnswer limit (found_of (Some find)) → given_by_find find (present_of geometry now.state.reference) ≡ xs → record { answer = answer; reference = after; dest = shown } ≡ ended_by fourcc f.step.stamp now there xs → IsLegalChange is
    by_given find [] l e p = absurd (none-some is (sym (ap (λ (y : RunPoint). y.answer) p) ∙ some))
    by_given find (x ∷ later) l e p =
        subst (λ (d : Decoded). IsLegalChange d) (some_same (answer_of (outcome_of fourcc x.result.kind f.step.stamp)) is (sym (ap (λ (y : RunPoint). y.answer) p) ∙ some))
        (gives_legal limit find (present_of geometry now.state.reference) x later fourcc f.step.stamp l e)

    by_told : (o : Option Find) → IsLegalAnswer limit (found_of o) → record { answer = answer; reference = after; dest = shown } ≡ ended_at fourcc f.step.stamp geometry now there o → IsLegalChange is
    by_told None l p = subst (λ (d : Decoded). IsLegalChange d) (some_same Spent is (sym (ap (λ (y : RunPoint). y.answer) p) ∙ some)) tt
    by_told (Some find) l p = by_given find (given_by_find find (present_of geometry now.state.reference)) l refl p

-- what ends a probe
pub probe_is_legal : (limit : ℕ) (stamp : Stamp) (source : List ℕ) (taken : ℕ) (kept : KeptBytes) (count : ℕ) (found : Found) (new : AssemblyState) (answer : Option Decoded) (is : Decoded) →
    IsLegalAnswer limit found → IsFed limit stamp source taken kept count found new → Probes found answer → answer ≡ Some is → IsLegalChange is
probe_is_legal limit stamp source taken kept count found new answer is legal f probes some =
    by_told f.step.told (subst (λ (x : Found). IsLegalAnswer limit x) f.found_is legal) (probes f.step.told grey f.step.stamp f.found_is)
  where
    by_given : (find : Find) (xs : List GivenResult) → IsLegalAnswer limit (found_of (Some find)) → given_by_find find unknown ≡ xs → answer ≡ probed_by grey f.step.stamp xs → IsLegalChange is
    by_given find [] l e p = absurd (none-some is (sym p ∙ some))
    by_given find (x ∷ later) l e p =
        subst (λ (d : Decoded). IsLegalChange d) (some_same (answer_of (outcome_of grey x.result.kind f.step.stamp)) is (sym p ∙ some))
        (gives_legal limit find unknown x later grey f.step.stamp l e)

    by_told : (o : Option Find) → IsLegalAnswer limit (found_of o) → answer ≡ probed_at grey f.step.stamp o → IsLegalChange is
    by_told None l p = subst (λ (d : Decoded). IsLegalChange d) (some_same Spent is (sym p ∙ some)) tt
    by_told (Some find) l p = by_given find (given_by_find find unknown) l refl p
