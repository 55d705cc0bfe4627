-- A claim of a probe takes the front of OUTPUT alone, while the geometry is unknown. The job has the data that the
-- definitions give it.
use Rattle.std.proofs.Common.{◌≡◌, ◌<◌, Option, Some, None, List, [], ◌∷◌, ◌++◌, true, false, map, length, refl, sym, ap, ◌∙◌, subst, arith}
use Rattle.vc_base.specs.Buffers.{Buffer, QueueState, is_empty, buffer_count, lend_after, without_bytes, without_job_bytes}
use Rattle.vc_base.specs.Events.{EventState}
use Rattle.vc_defs.specs.declared.Geometry.{Geometry}
use Rattle.vc_defs.specs.Decoder.{ReferenceState, DecoderState, kept_bytes}
use Rattle.vc_defs.specs.Finds.{nothing_kept}
use Rattle.vc_model.specs.Coder.{decoder}
use Rattle.vc_model.specs.Formats.{FormatPair}
use Rattle.vc_model.specs.Context.{Context, probe}
use Rattle.vc_model.specs.Core.{claimed_in}
use Rattle.vc_model.specs.Runs.{JobData, is_claimable, after_claim, claim_front, running_of, job_data}
use Rattle.vc_model.specs.Sound.{HasCodec as HasCodecOfKind}
use Rattle.vc_model.specs.Standing.{without_job, job_in}
use Rattle.vc_base.specs.declared.Kind.TheVariants.{Dec}
use Rattle.vc_pair.specs.Pairs.{PairState}
use Rattle.vc_queue.specs.declared.queue.Lent.{Lent}
use Rattle.vc_queue.specs.Lending.{IsLentFrom}
use Rattle.vc_queue.proofs.Keeping.{fits_lent}
use Rattle.vc_resync.specs.Assembling.{AssemblyState}
use Rattle.vc_work.specs.declared.work.Work.{Work}
use Rattle.vc_work.specs.Streams.{decoder_of, kept_of, IsInStep}
use Rattle.vc_context.specs.Contexts.{IsKept}
use Rattle.vc_context.specs.Works.{IsWork, IsWorkWith, RunsIn, RunsInWith}
use Rattle.vc_context.proofs.QueuesCountUp.{lent_out}
use Rattle.vc_dec.specs.declared.InJob.{InJob}
use Rattle.vc_dec.specs.Decoders.{CodecParts, decoder_state, IsPlaced, IsPictureOf, AreServed, AreUntouched, lent_room, IsDecoder}
use Rattle.vc_dec.specs.Parts.{limit_of}
use Rattle.vc_dec.specs.Works.{IsProbeOf, CanProbe}
use Rattle.vc_dec.proofs.ReachedStaysReached.{claim_placed}
use Rattle.vc_dec.proofs.ClaimsInCommon.{IsClaim, stays_lent, front_filled, front_begun, lent_source, lent_job, lent_index, lent_some, lent_begun, lent_held}
use Rattle.vc_dec.proofs.ClaimsInCommon.{stream_there, kept_here, idle, source_front, no_dest, ordered, codec_here, free_after, claim_step, claim_holds}
use Rattle.vc_dec.proofs.ClaimsInCommon.{claim_due, assembly_limit_is, in_step}

-- the codec without its assembly
abbrev pub without_assembly : CodecParts → CodecParts
without_assembly parts =
    record parts { state = decoder_of parts.state.reference nothing_kept; limit = None }

-- a queue without a buffer in the job
same_queue : (q : QueueState) → q.job ≡ [] → without_job_bytes q ≡ q
same_queue q e = ap (λ (j : List Buffer). record q { job = j }) (ap (map without_bytes) e ∙ sym e)

-- where the geometry is not known there is no picture
no_picture : (r : Option ReferenceState) → IsPictureOf None r → r ≡ None
no_picture None h = refl
no_picture (Some r) h = absurd (cc)

module _ (formats : FormatPair) (p : PairState) (events : EventState) (parts : CodecParts) (job : Option InJob) (c : Context)
    (view : decoder_state formats None p events parts.state job ≡ c) (inv : IsDecoder formats None p events parts job) (kept : IsKept c)
    (can : is_claimable (Some c) ≡ true) where
  abbrev here : Context
  here = decoder_state formats None p events parts.state job

  -- the pair with the front OUTPUT buffer in the job
  abbrev lent_pair : PairState
  lent_pair = record p { out = without_job_bytes (lend_after p.out) }

  some : is_empty p.out.ready ≡ false
  some = (source_front formats None p events parts job c view inv kept can).some

  rest : p.cap.job ≡ []
  rest = no_dest formats None p events parts job c view inv kept can

  -- the context after the claim, with the data of its job
  abbrev claimed_context : Context
  claimed_context = record here { out = lend_after p.out; running = Some (running_of here probe) }

  abbrev claimed : JobData
  claimed = job_data claimed_context (running_of here probe)

  front_is : (bs : List Buffer) → is_empty bs ≡ false → claim_front here probe bs ≡ claimed_context
  front_is [] e = absurd (cc)
  front_is (b ∷ more) e = refl

  after_is : after_claim here ≡ claimed_context
  unfolding after_claim
  after_is = front_is p.out.ready some

  claimed_is : claimed_in (Some c) ≡ Some claimed
  claimed_is = rw (← view) (ap (λ (x : Context). job_in (Some x)) after_is)

  after : (state : DecoderState) (taken : InJob) → decoder_state formats None lent_pair events state (Some taken) ≡ without_job (after_claim c)
  after state taken =
      rw (← view) (ap (λ (x : QueueState). decoder_state formats None (record lent_pair { cap = x }) events state (Some taken)) (sym (same_queue p.cap rest)) ∙ sym (ap without_job after_is))

  placed : (state : DecoderState) (taken : InJob) → IsPlaced (decoder_state formats None lent_pair events state (Some taken))
  placed state taken =
      subst IsPlaced (ap (λ (x : Context). without_job (after_claim x)) view ∙ sym (after state taken))
      (claim_placed here (ordered formats None p events parts job c view inv kept can) (ap (λ (x : Context). is_claimable (Some x)) view ∙ can))

  codec_is : claimed.codec ≡ decoder parts.state
  codec_is = codec_here formats None p events parts job c view inv kept can

  runs : (state : DecoderState) (taken : InJob) → RunsInWith (decoder_state formats None lent_pair events state (Some taken)) (claimed_in (Some c))
  runs state taken =
      let r : RunsIn (decoder_state formats None lent_pair events state (Some taken)) claimed = record {
        running = refl;
        source = lent_job p.out p.out.ready some;
        dest = rest ∙ ap (map without_bytes) (sym rest);
        dests = ap length rest;
        codec = subst (HasCodecOfKind Dec) (sym codec_is) tt;
        run = record { sort = refl; same_geometry = refl; limit = refl; format = λ h. refl };
      } in
      rw claimed_is r

  no_reference : parts.state.reference ≡ None
  no_reference = no_picture parts.state.reference inv.picture

  served_idle : AreServed parts.rooms p.cap
  served_idle =
      subst (λ (j : Option InJob). AreServed (lent_room j ++ parts.rooms) p.cap) (idle formats None p events parts job c view inv kept can) inv.served

  module _ (source : Lent) (lent : IsLentFrom p.out.ready source) where
    abbrev taken : InJob
    taken = record { source = source.index; dest = None }

    keeps : IsDecoder formats None lent_pair events (without_assembly parts) (Some taken)
    keeps =
        let n : 0 < buffer_count lent_pair.out = lent_some p.out p.out.ready some in
        record {
          stands = inv.stands;
          sized = tt;
          placed = placed (without_assembly parts).state taken;
          picture = inv.picture;
          fresh = λ (z : buffer_count lent_pair.out ≡ 0). absurd (omega arith);
          stream = tt;
          begun = lent_begun p.out p.out.ready refl inv.begun;
          untouched = subst AreUntouched (sym (lent_held p.out p.out.ready)) inv.untouched;
          blank = inv.blank;
          knows = (lent_index p.out p.out.ready source some lent, rest);
          supplied = tt;
          served = served_idle;
          lent = tt;
          due = claim_due formats None p events parts job c view inv kept can;
        }

    claim_at : IsClaim formats None lent_pair events (without_assembly parts) taken c
    claim_at =
        record {
          after = after (without_assembly parts).state taken;
          step = claim_step formats None p events parts job c view inv kept can lent_pair (without_assembly parts).state taken (lent_out p.out) (stays_lent p.cap);
          free = free_after formats None p events parts job c view inv kept can lent_pair (without_assembly parts).state taken;
          runs = runs (without_assembly parts).state taken;
          holds = claim_holds formats None p events parts job c view inv kept can lent_pair (without_assembly parts).state taken (λ hold f. fits_lent p.out hold f) (λ hold f. f);
          keeps = keeps;
        }

    module _ (assembly : Option AssemblyState) (ea : limit_of assembly ≡ parts.limit) (ek : kept_of assembly ≡ kept_bytes parts.state) where
      bodies : limit_of assembly ≡ Some formats.out.size
      bodies = assembly_limit_is formats None p events parts job c view inv kept can assembly ea

      can_at : CanProbe source assembly formats.out.size
      can_at =
          let f = front_filled p.out.ready source some (kept_here formats None p events parts job c view inv kept can).filled lent in
          record {
            piece = record { filled = omega (arith, f, source.payload.ok.0); begun = front_begun p.out.ready source some inv.begun lent };
            stream =
                stream_there formats.out.size None None assembly (kept_bytes parts.state) bodies ek
                (subst (λ (r : Option ReferenceState). IsInStep formats.out.size None r (kept_bytes parts.state)) no_reference (in_step formats None p events parts job c view inv kept can));
          }

      state_is : parts.state ≡ decoder_of None (kept_of assembly)
      state_is =
          ap (λ (r : Option ReferenceState). decoder_of r (kept_bytes parts.state)) no_reference ∙ ap (decoder_of None) (sym ek)

      given_at : IsProbeOf claimed source assembly formats.cap formats.out.size
      given_at =
          record {
            sort = refl;
            parts = record { codec = codec_is ∙ ap decoder state_is; source = lent_source p.out p.out.ready source some lent; format = refl; limit = refl; bodies = bodies; rates = refl };
            dest = rest;
            geometry = refl;
          }

      work_at : (work : Work) → ((j : JobData) → IsProbeOf j source assembly formats.cap formats.out.size → IsWork j work) → IsWorkWith (claimed_in (Some c)) work
      work_at work h = rw claimed_is (h claimed given_at)

-- where the geometry is not known

pub probe_claims :
    (formats : FormatPair) (g : Option Geometry) (p : PairState) (events : EventState) (parts : CodecParts) (job : Option InJob) (c : Context)
    → g ≡ None → decoder_state formats g p events parts.state job ≡ c → IsDecoder formats g p events parts job → IsKept c
    → is_claimable (Some c) ≡ true → (source : Lent) (new : PairState) (left : CodecParts)
    → new ≡ record p { out = without_job_bytes (lend_after p.out) } → left ≡ without_assembly parts → IsLentFrom p.out.ready source
    → IsClaim formats g new events left (record { source = source.index; dest = None }) c
probe_claims formats None p events parts job c e view inv kept can source new left en el lent =
    rw (en, el) (claim_at formats p events parts job c view inv kept can source lent)
probe_claims formats (Some g) p events parts job c e view inv kept can source new left en el lent = absurd (cc)

pub probe_can :
    (formats : FormatPair) (g : Option Geometry) (p : PairState) (events : EventState) (parts : CodecParts) (job : Option InJob) (c : Context)
    → g ≡ None → decoder_state formats g p events parts.state job ≡ c → IsDecoder formats g p events parts job → IsKept c
    → is_claimable (Some c) ≡ true → (source : Lent) (assembly : Option AssemblyState) → IsLentFrom p.out.ready source
    → limit_of assembly ≡ parts.limit → kept_of assembly ≡ kept_bytes parts.state → CanProbe source assembly formats.out.size
probe_can formats None p events parts job c e view inv kept can source assembly lent ea ek =
    can_at formats p events parts job c view inv kept can source lent assembly ea ek
probe_can formats (Some g) p events parts job c e view inv kept can source assembly lent ea ek = absurd (cc)

pub probe_work :
    (formats : FormatPair) (g : Option Geometry) (p : PairState) (events : EventState) (parts : CodecParts) (job : Option InJob) (c : Context)
    → g ≡ None → decoder_state formats g p events parts.state job ≡ c → IsDecoder formats g p events parts job → IsKept c
    → is_claimable (Some c) ≡ true → (source : Lent) (assembly : Option AssemblyState) → IsLentFrom p.out.ready source
    → limit_of assembly ≡ parts.limit → kept_of assembly ≡ kept_bytes parts.state → (work : Work)
    → ((j : JobData) → IsProbeOf j source assembly formats.cap formats.out.size → IsWork j work) → IsWorkWith (claimed_in (Some c)) work
probe_work formats None p events parts job c e view inv kept can source assembly lent ea ek work h =
    work_at formats p events parts job c view inv kept can source lent assembly ea ek work h
probe_work formats (Some g) p events parts job c e view inv kept can source assembly lent ea ek work h = absurd (cc)
