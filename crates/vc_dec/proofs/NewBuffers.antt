-- ReqBufs of a decoder answers as the definitions do, with memory or without it. New OUTPUT buffers let codec and
-- geometry begin anew; new CAPTURE buffers bring a reference that takes the picture over.
use Rattle.std.proofs.Common.{ℕ, ◌≡◌, ◌≤◌, ◌<◌, Bool, true, false, Option, Some, None, Ok, [], ◌∷◌, ◌++◌, refl, sym, ap, ◌∙◌, subst, arith, List}
use Rattle.std.specs.Prelude.{min, nat_lt, is_none}
use Rattle.std.proofs.lemmas.Bool.{false≢true, ltb-false}
use Rattle.vc_base.specs.declared.Side.TheVariants.{Out, Cap}
use Rattle.vc_base.specs.declared.Errno.TheVariants.{Busy}
use Rattle.vc_base.specs.declared.Call.TheVariants.{ReqBufs}
use Rattle.vc_base.specs.declared.Reply.TheVariants.{Count}
use Rattle.vc_base.specs.Buffers.{QueueState, buffer_count, refuse_if, reqbufs_refusal, reqbufs_after, Buffer}
use Rattle.vc_base.specs.Events.{EventState}
use Rattle.vc_defs.specs.declared.Geometry.{Geometry}
use Rattle.vc_defs.specs.Decoder.{DecoderState, fresh_decoder}
use Rattle.vc_model.specs.Formats.{FormatPair}
use Rattle.vc_model.specs.Context.{Context, settle}
use Rattle.vc_model.specs.Answer.{context_answer, reqbufs_answer}
use Rattle.vc_geom.specs.Pairs.{pair_of}
use Rattle.vc_pair.specs.Pairs.{PairState, pair_settled, is_due}
use Rattle.vc_pair.specs.Rows.{JobsAgree}
use Rattle.vc_queue.specs.Growing.{AnswersWithMemory}
use Rattle.vc_work.specs.References.{CodecReference}
use Rattle.vc_resync.specs.Assembling.{AssemblyState}
use Rattle.vc_context.specs.Contexts.{IsKept, IsStep, Gives, GivesWithMemory}
use Rattle.vc_dec.specs.declared.Dest.{Dest}
use Rattle.vc_dec.specs.declared.InJob.{InJob}
use Rattle.vc_dec.specs.declared.Decoder.TheInside.{Inside}
use Rattle.vc_m2m.specs.Settling.{events_settled}
use Rattle.vc_dec.specs.Decoders.{CodecParts, decoder_state, job_mark, IsDecoder, IsPlaced, IsSupplied, AreServed, lent_room, serves, KnowsItsJob, IsDestOf, IsLentOut}
use Rattle.vc_dec.specs.Parts.{begun, limit_of, new_assembly, new_reference, CanTakeOver, replaced_by}
use Rattle.vc_dec.proofs.QueuesThroughCalls.{no_change}
use Rattle.vc_dec.proofs.ReachedStaysReached.{out_rests, cap_rests}
use Rattle.vc_dec.proofs.KeptThroughCalls.{CountsBoth, settle_at, same_jobs, agree_here, place, settled_so, begun_so, knows_so, steps, begins_anew, supplied_cases, blank_so, due_so}
use Rattle.vc_dec.proofs.BuffersAreMade.{made, no_step, unless_none, gives_found, requested_counts, requested_some, requested_lengths, serves_back, serves_one, has_room}

-- a queue without a refusal does not stream
pub at_rest : (q : QueueState) → reqbufs_refusal q ≡ None → q.streams ≡ false
at_rest q e = rest_cases q.streams e
  where
    rest_cases : (b : Bool) → refuse_if b Busy None ≡ None → b ≡ false
    rest_cases true h = absurd (cc)
    rest_cases false h = refl

none_marked : (j : Option InJob) → is_none (job_mark j) ≡ true → j ≡ None
none_marked None e = refl
none_marked (Some x) e = absurd (false≢true e)

supplied_if : (j : Option InJob) (size : ℕ) (out : QueueState) (limit : Option ℕ) → (0 < buffer_count out → limit ≡ Some size) → IsSupplied size out limit j
supplied_if None size out limit h = h
supplied_if (Some x) size out limit h = tt

limit_there : (b : Bool) (size : ℕ) → b ≡ true → limit_of (new_assembly b size) ≡ Some size
limit_there true size e = refl
limit_there false size e = absurd (false≢true e)

not_zero : (n : ℕ) (b : Bool) → nat_lt 0 n ≡ b → 0 < n → b ≡ true
not_zero n true e h = refl
not_zero n false e h = let m : n ≤ 0 = ltb-false 0 n e in absurd (omega arith)

-- the references after one, where there is one, took the picture over
abbrev rooms_after : Option CodecReference → List ℕ → List ℕ
rooms_after None rooms = rooms
rooms_after (Some r) rooms = r.size ∷ []

abbrev present_after : Option CodecReference → Bool → Bool
present_after None present = present
present_after (Some r) present = true

replaced_is : (r : Option CodecReference) (parts : CodecParts) → replaced_by r parts ≡ record parts { rooms = rooms_after r parts.rooms; present = present_after r parts.present }
replaced_is None parts = refl
replaced_is (Some r) parts = refl

-- while no CAPTURE buffer is in the job, the job has no reference
lent_at_rest : (j : Option InJob) (present : Bool) (p : PairState) → p.cap.job ≡ [] → KnowsItsJob p j → IsLentOut present j
lent_at_rest None present p e k = tt
lent_at_rest (Some x) present p e k = by_dest x.dest (subst (IsDestOf x.dest) e k.1)
  where
    by_dest : (o : Option Dest) → IsDestOf o [] → elim o as (λ _. Type 0) [ None ↦ Unit {0} | Some dest ↦ present ≡ false ]
    by_dest None h = tt
    by_dest (Some dest) h = absurd (cc)

-- on OUTPUT

sources_at :
    (f : FormatPair) (g : Option Geometry) (p : PairState) (events : EventState) (state : DecoderState) (count : ℕ) → reqbufs_refusal p.out ≡ None
    → let q : PairState = record p { out = reqbufs_after p.out count f.out.size } in
    reqbufs_answer (decoder_state f g p events state None) Out count true ≡ record { slot = Some (settle (decoder_state f None q events fresh_decoder None)); reply = Count (min count 32); bytes = [] }
sources_at f g p events state count e =
    unless_none (decoder_state f g p events state None) (reqbufs_refusal p.out) _ e

module _ (d : Inside) (c : Context) (view : decoder_state (pair_of d.m2m.formats) d.geometry d.m2m.pair d.m2m.events d.codec.state d.job ≡ c) (inv : IsDecoder (pair_of d.m2m.formats) d.geometry d.m2m.pair d.m2m.events d.codec d.job) where
  abbrev before : Context
  before = decoder_state (pair_of d.m2m.formats) d.geometry d.m2m.pair d.m2m.events d.codec.state d.job

  module _ (count told : ℕ) (mid new : PairState) (es : EventState) (codec : CodecParts) (assembly : Option AssemblyState)
      (free : reqbufs_refusal d.m2m.pair.out ≡ None)
      (a : AnswersWithMemory (reqbufs_refusal d.m2m.pair.out) (min count 32) (reqbufs_after d.m2m.pair.out count d.m2m.formats.out.size) (Ok told) d.m2m.pair.out mid.out)
      (rest : mid ≡ record d.m2m.pair { out = mid.out }) (ea : assembly ≡ new_assembly (nat_lt 0 count) d.m2m.formats.out.size)
      (ec : codec ≡ begun (limit_of assembly) d.codec) (en : new ≡ pair_settled mid) (ee : es ≡ events_settled mid d.m2m.events) where
    abbrev q : PairState
    q = record d.m2m.pair { out = reqbufs_after d.m2m.pair.out count d.m2m.formats.out.size }

    abbrev then : Context
    then = decoder_state (pair_of d.m2m.formats) None new es codec.state d.job

    rests : (is_none (job_mark d.job) ≡ true) × (d.m2m.pair.out.job ≡ [])
    rests = out_rests before inv.placed (at_rest d.m2m.pair.out free)

    idle : d.job ≡ None
    idle = none_marked d.job rests.0

    is_mid : mid ≡ q
    is_mid =
        rest ∙ ap (λ (x : QueueState). record d.m2m.pair { out = x }) (made (reqbufs_refusal d.m2m.pair.out) (min count 32) told (reqbufs_after d.m2m.pair.out count d.m2m.formats.out.size) d.m2m.pair.out mid.out a free).1

    is_told : told ≡ min count 32
    is_told =
        (made (reqbufs_refusal d.m2m.pair.out) (min count 32) told (reqbufs_after d.m2m.pair.out count d.m2m.formats.out.size) d.m2m.pair.out mid.out a free).0

    is_settled : new ≡ pair_settled q
    is_settled = en ∙ ap pair_settled is_mid

    is_noted : es ≡ events_settled q d.m2m.events
    is_noted = ee ∙ ap (λ (x : PairState). events_settled x d.m2m.events) is_mid

    counts : CountsBoth d.m2m.pair q
    counts =
        record {
          out = requested_counts d.m2m.pair.out count d.m2m.formats.out.size rests.1;
          cap = no_change d.m2m.pair.cap;
          filled = λ h. refl;
          due = λ h. absurd (false≢true (subst (λ (bs : List Buffer). is_due bs d.m2m.pair.mark ≡ true) rests.1 h));
        }

    agree : JobsAgree (decoder_state (pair_of d.m2m.formats) None q d.m2m.events fresh_decoder d.job)
    agree =
        same_jobs (pair_of d.m2m.formats) d.geometry d.codec.state d.job d.m2m.pair q d.m2m.events (sym rests.1) refl (agree_here (pair_of d.m2m.formats) d.geometry d.m2m.pair d.m2m.events d.codec d.job inv)

    sources_here : Gives (reqbufs_answer before Out count true) (Count told) then
    sources_here =
        let f : FormatPair = pair_of d.m2m.formats in
        let answer :
        reqbufs_answer before Out count true ≡ record { slot = Some (settle (decoder_state f None q d.m2m.events fresh_decoder d.job)); reply = Count (min count 32); bytes = [] } =
        subst (λ (x : Option InJob).
        reqbufs_answer (decoder_state f d.geometry d.m2m.pair d.m2m.events d.codec.state x) Out count true
        ≡ record { slot = Some (settle (decoder_state f None q d.m2m.events fresh_decoder x)); reply = Count (min count 32); bytes = [] })
        (sym idle) (sources_at f d.geometry d.m2m.pair d.m2m.events d.codec.state count free) in
        let done : settle (decoder_state f None q d.m2m.events fresh_decoder d.job) ≡ decoder_state f None (pair_settled q) (events_settled q d.m2m.events) fresh_decoder d.job = settle_at f None fresh_decoder d.job q d.m2m.events agree in
        rw (is_settled, is_noted, ec, is_told, answer) (record { reply = refl; context = ap Some done })

    sources_placed : IsPlaced then
    unfolding context_answer
    sources_placed =
        place (pair_of d.m2m.formats) d.geometry d.m2m.pair d.m2m.events d.codec d.job inv (ReqBufs Out count) [] true (Count told) then sources_here

    pub sources_gives : GivesWithMemory (reqbufs_answer c Out count) (Count told) then
    sources_gives =
        gives_found (reqbufs_answer c Out count) (Count told) then (subst (λ (x : Context). Gives (reqbufs_answer x Out count true) (Count told) then) view sources_here)

    pub sources_steps : IsKept c → IsStep c then
    sources_steps k =
        subst (λ (x : Context). IsStep x then) view
        (steps (pair_of d.m2m.formats) d.geometry d.m2m.pair d.m2m.events d.codec d.job inv q new es counts is_settled is_noted
        (pair_of d.m2m.formats) None codec.state sources_placed (subst IsKept (sym view) k))

    supplied_new : 0 < buffer_count new.out → limit_of assembly ≡ Some d.m2m.formats.out.size
    supplied_new h =
        let s = settled_so (pair_of d.m2m.formats) d.geometry d.m2m.pair d.m2m.events d.codec d.job inv q new es counts is_settled is_noted in
        let some : 0 < buffer_count q.out = subst (λ (x : QueueState). 0 < buffer_count x) s.out h in
        ap limit_of ea ∙ limit_there (nat_lt 0 count) d.m2m.formats.out.size (not_zero count (nat_lt 0 count) refl (requested_some d.m2m.pair.out count d.m2m.formats.out.size some))

    pub sources_keeps : IsDecoder (pair_of d.m2m.formats) None new es codec d.job
    sources_keeps =
        let s = settled_so (pair_of d.m2m.formats) d.geometry d.m2m.pair d.m2m.events d.codec d.job inv q new es counts is_settled is_noted in
        let b = begun_so (pair_of d.m2m.formats) d.geometry d.m2m.pair d.m2m.events d.codec d.job inv q new es counts is_settled is_noted in
        let placed : IsPlaced (decoder_state (pair_of d.m2m.formats) None new es fresh_decoder d.job) = subst (λ (x : CodecParts). IsPlaced (decoder_state (pair_of d.m2m.formats) None new es x.state d.job)) ec sources_placed in
        rw ec (record {
          stands = inv.stands;
          sized = tt;
          placed = placed;
          picture = tt;
          fresh = λ _. refl;
          stream = begins_anew d.m2m.formats.out.size None d.job;
          begun = b.ready;
          untouched = b.held;
          knows = knows_so (pair_of d.m2m.formats) d.geometry d.m2m.pair d.m2m.events d.codec d.job inv q new es counts is_settled is_noted (pair_of d.m2m.formats) None codec.state sources_placed;
          supplied = supplied_if d.job d.m2m.formats.out.size new.out (limit_of assembly) supplied_new;
          served = s.lengths _ inv.served;
          blank = blank_so (pair_of d.m2m.formats) d.geometry d.m2m.pair d.m2m.events d.codec d.job inv q new es counts is_settled is_noted;
          lent = inv.lent;
          due = due_so (pair_of d.m2m.formats) d.geometry d.m2m.pair d.m2m.events d.codec d.job inv q new es counts is_settled is_noted;
        })

  -- on CAPTURE

  module _ (count told : ℕ) (mid new : PairState) (es : EventState) (codec : CodecParts) (reference : Option CodecReference)
      (free : reqbufs_refusal d.m2m.pair.cap ≡ None)
      (a : AnswersWithMemory (reqbufs_refusal d.m2m.pair.cap) (min count 32) (reqbufs_after d.m2m.pair.cap count d.m2m.formats.cap.size) (Ok told) d.m2m.pair.cap mid.cap)
      (rest : mid ≡ record d.m2m.pair { cap = mid.cap }) (er : reference ≡ new_reference (nat_lt 0 count) d.m2m.formats.cap.size)
      (eq : codec ≡ replaced_by reference d.codec) (en : new ≡ pair_settled mid) (ee : es ≡ events_settled mid d.m2m.events) where
    ec : codec ≡ record d.codec { rooms = rooms_after reference d.codec.rooms; present = present_after reference d.codec.present }
    ec = eq ∙ replaced_is reference d.codec

    abbrev to : PairState
    to = record d.m2m.pair { cap = reqbufs_after d.m2m.pair.cap count d.m2m.formats.cap.size }

    abbrev later : Context
    later = decoder_state (pair_of d.m2m.formats) d.geometry new es codec.state d.job

    cap_rest : d.m2m.pair.cap.job ≡ []
    cap_rest = cap_rests before inv.placed (at_rest d.m2m.pair.cap free)

    to_mid : mid ≡ to
    to_mid =
        rest ∙ ap (λ (x : QueueState). record d.m2m.pair { cap = x }) (made (reqbufs_refusal d.m2m.pair.cap) (min count 32) told (reqbufs_after d.m2m.pair.cap count d.m2m.formats.cap.size) d.m2m.pair.cap mid.cap a free).1

    to_told : told ≡ min count 32
    to_told =
        (made (reqbufs_refusal d.m2m.pair.cap) (min count 32) told (reqbufs_after d.m2m.pair.cap count d.m2m.formats.cap.size) d.m2m.pair.cap mid.cap a free).0

    to_settled : new ≡ pair_settled to
    to_settled = en ∙ ap pair_settled to_mid

    to_noted : es ≡ events_settled to d.m2m.events
    to_noted = ee ∙ ap (λ (x : PairState). events_settled x d.m2m.events) to_mid

    to_counts : CountsBoth d.m2m.pair to
    to_counts =
        record { out = no_change d.m2m.pair.out; cap = requested_counts d.m2m.pair.cap count d.m2m.formats.cap.size cap_rest; filled = λ h. h; due = λ h. h }

    to_agree : JobsAgree (decoder_state (pair_of d.m2m.formats) d.geometry to d.m2m.events d.codec.state d.job)
    to_agree =
        same_jobs (pair_of d.m2m.formats) d.geometry d.codec.state d.job d.m2m.pair to d.m2m.events refl (sym cap_rest) (agree_here (pair_of d.m2m.formats) d.geometry d.m2m.pair d.m2m.events d.codec d.job inv)

    dests_here : Gives (reqbufs_answer before Cap count true) (Count told) later
    dests_here =
        let f : FormatPair = pair_of d.m2m.formats in
        let answer :
        reqbufs_answer before Cap count true ≡ record { slot = Some (settle (decoder_state f d.geometry to d.m2m.events d.codec.state d.job)); reply = Count (min count 32); bytes = [] } =
        unless_none before (reqbufs_refusal d.m2m.pair.cap) _ free in
        let done :
        settle (decoder_state f d.geometry to d.m2m.events d.codec.state d.job) ≡ decoder_state f d.geometry (pair_settled to) (events_settled to d.m2m.events) d.codec.state d.job =
        settle_at f d.geometry d.codec.state d.job to d.m2m.events to_agree in
        rw (to_settled, to_noted, ec, to_told, answer) (record { reply = refl; context = ap Some done })

    dests_placed : IsPlaced later
    unfolding context_answer
    dests_placed =
        place (pair_of d.m2m.formats) d.geometry d.m2m.pair d.m2m.events d.codec d.job inv (ReqBufs Cap count) [] true (Count told) later dests_here

    pub dests_gives : GivesWithMemory (reqbufs_answer c Cap count) (Count told) later
    dests_gives =
        gives_found (reqbufs_answer c Cap count) (Count told) later (subst (λ (x : Context). Gives (reqbufs_answer x Cap count true) (Count told) later) view dests_here)

    pub dests_steps : IsKept c → IsStep c later
    dests_steps k =
        subst (λ (x : Context). IsStep x later) view
        (steps (pair_of d.m2m.formats) d.geometry d.m2m.pair d.m2m.events d.codec d.job inv to new es to_counts to_settled to_noted
        (pair_of d.m2m.formats) d.geometry codec.state dests_placed (subst IsKept (sym view) k))

    served_by : (b : Bool) → nat_lt 0 count ≡ b → 0 < count → serves (lent_room d.job ++ rooms_after (new_reference b d.m2m.formats.cap.size) d.codec.rooms) d.m2m.formats.cap.size ≡ true
    served_by true e h =
        serves_back (lent_room d.job) (d.m2m.formats.cap.size ∷ []) d.m2m.formats.cap.size (serves_one d.m2m.formats.cap.size)
    served_by false e h = absurd (false≢true (not_zero count false e h))

    served_new : AreServed (lent_room d.job ++ rooms_after reference d.codec.rooms) to.cap
    served_new =
        requested_lengths _ d.m2m.pair.cap count d.m2m.formats.cap.size
        (λ (h : 0 < count). subst (λ (r : Option CodecReference). serves (lent_room d.job ++ rooms_after r d.codec.rooms) d.m2m.formats.cap.size ≡ true) (sym er) (served_by (nat_lt 0 count) refl h))

    pub dests_keeps : IsDecoder (pair_of d.m2m.formats) d.geometry new es codec d.job
    dests_keeps =
        let s = settled_so (pair_of d.m2m.formats) d.geometry d.m2m.pair d.m2m.events d.codec d.job inv to new es to_counts to_settled to_noted in
        let b = begun_so (pair_of d.m2m.formats) d.geometry d.m2m.pair d.m2m.events d.codec d.job inv to new es to_counts to_settled to_noted in
        let placed : IsPlaced (decoder_state (pair_of d.m2m.formats) d.geometry new es d.codec.state d.job) = subst (λ (x : CodecParts). IsPlaced (decoder_state (pair_of d.m2m.formats) d.geometry new es x.state d.job)) ec dests_placed in
        rw ec (record {
          stands = inv.stands;
          sized = inv.sized;
          placed = placed;
          picture = inv.picture;
          fresh = λ z. inv.fresh (subst (λ (x : QueueState). buffer_count x ≡ 0) s.out z);
          stream = inv.stream;
          begun = b.ready;
          untouched = b.held;
          knows = knows_so (pair_of d.m2m.formats) d.geometry d.m2m.pair d.m2m.events d.codec d.job inv to new es to_counts to_settled to_noted (pair_of d.m2m.formats) d.geometry codec.state dests_placed;
          supplied = supplied_cases d.job d.m2m.formats.out.size d.m2m.pair.out new.out d.codec.limit (λ h. subst (λ (x : QueueState). 0 < buffer_count x) s.out h) inv.supplied;
          served = s.lengths _ served_new;
          blank = blank_so (pair_of d.m2m.formats) d.geometry d.m2m.pair d.m2m.events d.codec d.job inv to new es to_counts to_settled to_noted;
          lent = lent_at_rest d.job (present_after reference d.codec.present) d.m2m.pair cap_rest inv.knows;
          due = due_so (pair_of d.m2m.formats) d.geometry d.m2m.pair d.m2m.events d.codec d.job inv to new es to_counts to_settled to_noted;
        })

  take_over : (b : Bool) → CanTakeOver d.codec.state.reference (new_reference b d.m2m.formats.cap.size)
  take_over true =
      (refl, has_room (pair_of d.m2m.formats) d.geometry d.codec.state.reference inv.stands inv.sized inv.picture)
  take_over false = tt

  pub can_take_over : (count : ℕ) (reference : Option CodecReference) → reference ≡ new_reference (nat_lt 0 count) d.m2m.formats.cap.size → CanTakeOver d.codec.state.reference reference
  can_take_over count reference e = rw e (take_over (nat_lt 0 count))

  -- memory that isn't found

  pub same_keeps : (mid : PairState) → mid ≡ d.m2m.pair → IsDecoder (pair_of d.m2m.formats) d.geometry mid d.m2m.events d.codec d.job
  same_keeps mid e = rw e inv

  pub same_steps : (mid : PairState) (state : DecoderState) → mid ≡ d.m2m.pair → state ≡ d.codec.state → IsKept c → IsStep c (decoder_state (pair_of d.m2m.formats) d.geometry mid d.m2m.events state d.job)
  same_steps mid state e es k = rw (e, es) (subst (λ (x : Context). IsStep x before) view (no_step before (subst IsKept (sym view) k)))
