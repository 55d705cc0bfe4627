-- A claim of a decode run takes the front buffers of both queues and the reference for the length of the CAPTURE
-- buffer. There is one, since each length of a buffer is served.
use Rattle.std.proofs.Common.{ℕ, ◌≡◌, ◌<◌, ◌≤◌, leb, Option, Some, None, List, [], ◌∷◌, ◌++◌, true, false, length, refl, sym, ap, ◌∙◌, subst, arith, leb-true}
use Rattle.std.specs.Prelude.{vec_len}
use Rattle.std.specs.List.Sorted.{IsPermutation}
use Rattle.vc_base.specs.declared.Format.{Format}
use Rattle.vc_base.specs.declared.Kind.TheVariants.{Dec}
use Rattle.vc_base.specs.Buffers.{Buffer, QueueState, is_empty, buffer_count, lend_after, lend_front, without_job_bytes}
use Rattle.vc_base.specs.Events.{EventState}
use Rattle.vc_defs.specs.declared.Geometry.{Geometry}
use Rattle.vc_defs.specs.Decoder.{ReferenceState, DecoderState, kept_bytes}
use Rattle.vc_defs.specs.Finds.{nothing_kept}
use Rattle.vc_model.specs.Coder.{decoder}
use Rattle.vc_model.specs.Formats.{FormatPair}
use Rattle.vc_model.specs.Context.{Context, decode}
use Rattle.vc_model.specs.Core.{claimed_in}
use Rattle.vc_model.specs.Runs.{JobData, is_claimable, after_claim, claim_front, running_of, job_data}
use Rattle.vc_model.specs.Sound.{HasCodec as HasCodecOfKind, IsFormatOf, AreLong, stops_by_change}
use Rattle.vc_model.specs.Standing.{without_job, job_in}
use Rattle.vc_pair.specs.Pairs.{PairState}
use Rattle.vc_queue.specs.declared.queue.Lent.{Lent}
use Rattle.vc_queue.specs.Lending.{IsLentFrom}
use Rattle.vc_queue.proofs.Keeping.{fits_lent}
use Rattle.vc_resync.specs.Assembling.{AssemblyState}
use Rattle.vc_work.specs.declared.work.Work.{Work}
use Rattle.vc_work.specs.References.{CodecReference, HasRoomFor}
use Rattle.vc_work.specs.Streams.{decoder_of, kept_of, picture_of, IsInStep}
use Rattle.vc_defs.specs.Raw.{geometry_of}
use Rattle.vc_work.specs.Runs.{HasArea}
use Rattle.vc_context.specs.Contexts.{IsKept}
use Rattle.vc_context.specs.Works.{IsDest, IsAsLong, IsWork, IsWorkWith, RunsIn, RunsInWith}
use Rattle.vc_context.proofs.QueuesCountUp.{lent_out}
use Rattle.vc_dec.specs.declared.Dest.{Dest}
use Rattle.vc_dec.specs.declared.InJob.{InJob}
use Rattle.vc_dec.specs.Decoders.{CodecParts, decoder_state, IsPlaced, IsPictureOf, AreServed, AreUntouched, lent_room, serves, IsDecoder}
use Rattle.vc_dec.specs.Parts.{limit_of, room_of}
use Rattle.vc_dec.specs.Works.{IsRunOver, CanDecode}
use Rattle.vc_dec.proofs.ReachedStaysReached.{claim_placed}
use Rattle.vc_dec.proofs.BuffersAreMade.{has_room, lengths_more}
use Rattle.vc_dec.proofs.ReferencesChangePlaces.{same_serve}
use Rattle.vc_dec.proofs.ClaimsInCommon.{IsClaim, HasFront, front_filled, front_begun, front_length, lent_source, lent_job, lent_index, lent_size, lent_some}
use Rattle.vc_dec.proofs.ClaimsInCommon.{lent_begun, lent_held, lent_blank, lent_lengths, stream_there, kept_here, idle, claim_phase, source_front, dest_front}
use Rattle.vc_dec.proofs.ClaimsInCommon.{ordered, codec_here, free_after, claim_step, claim_holds, claim_due, assembly_limit_is, in_step}

-- What the codec lends to a run, and what is left of it: the reference for a destination of the length first, and then the
-- assembly.
pub record IsLending (parts mid left : CodecParts) (reference : Option CodecReference) (assembly : Option AssemblyState) (n : ℕ) : Type 0 where
  pub long : room_of reference ≡ n ∷ []
  pub picture : picture_of reference ≡ parts.state.reference
  pub rooms : IsPermutation parts.rooms (n ∷ mid.rooms)
  pub between : mid ≡ record { state = record parts.state { reference = None }; limit = parts.limit; rooms = mid.rooms; present = false }
  pub kept : kept_of assembly ≡ kept_bytes mid.state
  pub limit : limit_of assembly ≡ mid.limit
  pub after : left ≡ record mid { state = decoder_of mid.state.reference nothing_kept; limit = None }

-- the number of bytes of a payload
pub payload_length : (lent : Lent) (n : ℕ) → n ≡ vec_len lent.payload → n ≡ length lent.payload.items
payload_length lent n e = omega (arith, e, lent.payload.ok.0)

lent_dest : (q : QueueState) (bs : List Buffer) (lent : Lent) → is_empty bs ≡ false → IsLentFrom bs lent → IsDest (lend_front q bs).job (Some lent.payload.items)
lent_dest q [] lent e l = absurd (cc)
lent_dest q (b ∷ rest) lent e l = l.size

-- a run takes one destination
one_dest : (q : QueueState) (bs : List Buffer) → is_empty bs ≡ false → length (lend_front q bs).job ≡ 1
one_dest q [] e = absurd (cc)
one_dest q (b ∷ rest) e = refl

as_long : (q : QueueState) (bs : List Buffer) (lent : Lent) (n : ℕ) (r : Option CodecReference) → is_empty bs ≡ false → IsLentFrom bs lent → n ≡ length lent.payload.items → room_of r ≡ n ∷ [] → IsAsLong (lend_front q bs).job r
as_long q [] lent n r e l en er = absurd (cc)
as_long q (b ∷ rest) lent n None e l en er = absurd (cc)
as_long q (b ∷ rest) lent n (Some x) e l en er =
    let same : x.size ≡ n = cc in same ∙ (en ∙ l.size)

area_there : (r : Option CodecReference) (n least : ℕ) → room_of r ≡ n ∷ [] → least ≤ n → HasArea least r
area_there None n least e h = absurd (cc)
area_there (Some x) n least e h = let same : x.size ≡ n = cc in omega (arith, same, h)

more_room : (picture : Option ReferenceState) (a b : ℕ) → HasRoomFor picture a → a ≤ b → HasRoomFor picture b
more_room None a b h l = tt
more_room (Some r) a b h l = omega (arith, h, l)

-- the geometry is that of the raw format
same_geometry : (g : Geometry) (format : Format) → IsFormatOf g format → g ≡ geometry_of format
same_geometry g format f =
    ap (λ w. let x : Geometry = record { width = w; height = g.height; layout = g.layout } in x) (sym f.0)
    ∙ (ap (λ h. let x : Geometry = record { width = format.width; height = h; layout = g.layout } in x) (sym f.1)
    ∙ ap (λ l. let x : Geometry = record { width = format.width; height = format.height; layout = l } in x) (sym f.2))

module _ (formats : FormatPair) (g : Geometry) (p : PairState) (events : EventState) (parts : CodecParts) (job : Option InJob) (c : Context)
    (view : decoder_state formats (Some g) p events parts.state job ≡ c) (inv : IsDecoder formats (Some g) p events parts job) (kept : IsKept c)
    (can : is_claimable (Some c) ≡ true) where
  abbrev here : Context
  here = decoder_state formats (Some g) p events parts.state job

  -- the pair with both front buffers in the job
  abbrev lent_pair : PairState
  lent_pair =
      record p { out = without_job_bytes (lend_after p.out); cap = without_job_bytes (lend_after p.cap) }

  some : is_empty p.out.ready ≡ false
  some = (source_front formats (Some g) p events parts job c view inv kept can).some

  front : HasFront p.cap
  front = dest_front formats (Some g) p events parts job c view inv kept can (λ (e : Some g ≡ None). cc)

  -- the context after the claim, with the data of its job
  abbrev claimed_context : Context
  claimed_context =
      record here { out = lend_after p.out; cap = lend_after p.cap; running = Some (running_of here decode) }

  abbrev claimed : JobData
  claimed = job_data claimed_context (running_of here decode)

  front_is : (bs : List Buffer) → is_empty bs ≡ false → claim_front here decode bs ≡ claimed_context
  front_is [] e = absurd (cc)
  front_is (b ∷ more) e = refl

  after_is : after_claim here ≡ claimed_context
  unfolding after_claim
  after_is = front_is p.out.ready some

  claimed_is : claimed_in (Some c) ≡ Some claimed
  claimed_is = rw (← view) (ap (λ (x : Context). job_in (Some x)) after_is)

  after : (state : DecoderState) (taken : InJob) → decoder_state formats (Some g) lent_pair events state (Some taken) ≡ without_job (after_claim c)
  after state taken = rw (← view) (sym (ap without_job after_is))

  placed : (state : DecoderState) (taken : InJob) → IsPlaced (decoder_state formats (Some g) lent_pair events state (Some taken))
  placed state taken =
      subst IsPlaced (ap (λ (x : Context). without_job (after_claim x)) view ∙ sym (after state taken))
      (claim_placed here (ordered formats (Some g) p events parts job c view inv kept can) (ap (λ (x : Context). is_claimable (Some x)) view ∙ can))

  codec_is : claimed.codec ≡ decoder parts.state
  codec_is = codec_here formats (Some g) p events parts job c view inv kept can

  runs : (state : DecoderState) (taken : InJob) → RunsInWith (decoder_state formats (Some g) lent_pair events state (Some taken)) (claimed_in (Some c))
  runs state taken =
      let r : RunsIn (decoder_state formats (Some g) lent_pair events state (Some taken)) claimed = record {
        running = refl;
        source = lent_job p.out p.out.ready some;
        dest = refl;
        dests = one_dest p.cap p.cap.ready front.some;
        codec = subst (HasCodecOfKind Dec) (sym codec_is) tt;
        run = record { sort = refl; same_geometry = refl; limit = refl; format = λ h. refl };
      } in
      rw claimed_is r

  served_idle : AreServed parts.rooms p.cap
  served_idle =
      subst (λ (j : Option InJob). AreServed (lent_room j ++ parts.rooms) p.cap) (idle formats (Some g) p events parts job c view inv kept can) inv.served

  long_dests : AreLong formats.cap.size p.cap.ready
  long_dests =
      (ordered formats (Some g) p events parts job c view inv kept can).firm.long.ready front.streams (ap stops_by_change (claim_phase formats (Some g) p events parts job c view inv kept can))

  module _ (source dest : Lent) (n : ℕ) (lent : IsLentFrom p.out.ready source) (to : IsLentFrom p.cap.ready dest) (en : n ≡ length dest.payload.items) where
    abbrev taken : InJob
    taken =
        let d : Dest = record { index = dest.index; length = n } in record { source = source.index; dest = Some d }

    served_at : serves parts.rooms n ≡ true
    served_at =
        ap (serves parts.rooms) en ∙ front_length (serves parts.rooms) p.cap.ready dest front.some served_idle.ready to

    long_at : formats.cap.size ≤ n
    long_at =
        let l : formats.cap.size ≤ length dest.payload.items = leb-true formats.cap.size (length dest.payload.items) (front_length (leb formats.cap.size) p.cap.ready dest front.some long_dests to) in
        omega (arith, l, en)

    room_at : HasRoomFor parts.state.reference n
    room_at =
        more_room parts.state.reference formats.cap.size n (has_room formats (Some g) parts.state.reference inv.stands inv.sized inv.picture) long_at

    module _ (mid left : CodecParts) (reference : Option CodecReference) (assembly : Option AssemblyState) (lends : IsLending parts mid left reference assembly n) where
      left_reference : left.state.reference ≡ None
      left_reference =
          ap (λ (x : CodecParts). x.state.reference) lends.after ∙ ap (λ (x : CodecParts). x.state.reference) lends.between

      served_left : AreServed (n ∷ left.rooms) lent_pair.cap
      served_left =
          let rooms : mid.rooms ≡ left.rooms = sym (ap (λ (x : CodecParts). x.rooms) lends.after) in
          let all : AreServed (n ∷ mid.rooms) p.cap = lengths_more (serves parts.rooms) (serves (n ∷ mid.rooms)) (λ z h. same_serve z parts.rooms (n ∷ mid.rooms) lends.rooms h) p.cap served_idle in
          subst (λ (rs : List ℕ). AreServed (n ∷ rs) lent_pair.cap) rooms (lent_lengths (serves (n ∷ mid.rooms)) p.cap p.cap.ready refl front.some all)

      keeps : IsDecoder formats (Some g) lent_pair events left (Some taken)
      keeps =
          let some_left : 0 < buffer_count lent_pair.out = lent_some p.out p.out.ready some in
          record {
            stands = inv.stands;
            sized = inv.sized;
            placed = placed left.state taken;
            picture = subst (IsPictureOf (Some g)) (sym left_reference) tt;
            fresh = λ (z : buffer_count lent_pair.out ≡ 0). absurd (omega arith);
            stream = tt;
            begun = lent_begun p.out p.out.ready refl inv.begun;
            untouched = subst AreUntouched (sym (lent_held p.out p.out.ready)) inv.untouched;
            blank = lent_blank p.cap p.cap.ready refl front.some inv.blank;
            knows = (lent_index p.out p.out.ready source some lent, (lent_index p.cap p.cap.ready dest front.some to, lent_size p.cap p.cap.ready dest n front.some to en));
            supplied = tt;
            served = served_left;
            lent = ap (λ (x : CodecParts). x.present) lends.after ∙ ap (λ (x : CodecParts). x.present) lends.between;
            due = claim_due formats (Some g) p events parts job c view inv kept can;
          }

      claim_at : IsClaim formats (Some g) lent_pair events left taken c
      claim_at =
          record {
            after = after left.state taken;
            step = claim_step formats (Some g) p events parts job c view inv kept can lent_pair left.state taken (lent_out p.out) (lent_out p.cap);
            free = free_after formats (Some g) p events parts job c view inv kept can lent_pair left.state taken;
            runs = runs left.state taken;
            holds = claim_holds formats (Some g) p events parts job c view inv kept can lent_pair left.state taken (λ hold f. fits_lent p.out hold f) (λ hold f. fits_lent p.cap hold f);
            keeps = keeps;
          }

      bodies : limit_of assembly ≡ Some formats.out.size
      bodies =
          assembly_limit_is formats (Some g) p events parts job c view inv kept can assembly (lends.limit ∙ ap (λ (x : CodecParts). x.limit) lends.between)

      kept_is : kept_of assembly ≡ kept_bytes parts.state
      kept_is = lends.kept ∙ ap (λ (x : CodecParts). kept_bytes x.state) lends.between

      can_at : CanDecode source dest reference assembly (Some g) formats.cap formats.out.size
      can_at =
          let f = front_filled p.out.ready source some (kept_here formats (Some g) p events parts job c view inv kept can).filled lent in
          record {
            piece = record { filled = omega (arith, f, source.payload.ok.0); begun = front_begun p.out.ready source some inv.begun lent };
            raw = inv.stands.0;
            same = ap Some (same_geometry g formats.cap inv.sized);
            room = omega (arith, long_at, en);
            area = area_there reference n formats.cap.size lends.long long_at;
            stream =
                stream_there formats.out.size (Some g) (picture_of reference) assembly (kept_bytes parts.state) bodies kept_is
                (subst (λ (r : Option ReferenceState). IsInStep formats.out.size (Some g) r (kept_bytes parts.state)) (sym lends.picture)
                (in_step formats (Some g) p events parts job c view inv kept can));
          }

      state_is : parts.state ≡ decoder_of (picture_of reference) (kept_of assembly)
      state_is =
          ap (λ (r : Option ReferenceState). decoder_of r (kept_bytes parts.state)) (sym lends.picture) ∙ ap (decoder_of (picture_of reference)) (sym kept_is)

      given_at : IsRunOver claimed source dest reference assembly (Some g) formats.cap formats.out.size
      given_at =
          record {
            sort = refl;
            parts = record { codec = codec_is ∙ ap decoder state_is; source = lent_source p.out p.out.ready source some lent; format = refl; limit = refl; bodies = bodies; rates = refl };
            dest = lent_dest p.cap p.cap.ready dest front.some to;
            long = as_long p.cap p.cap.ready dest n reference front.some to en lends.long;
            geometry = refl;
          }

      work_at : (work : Work) → ((j : JobData) → IsRunOver j source dest reference assembly (Some g) formats.cap formats.out.size → IsWork j work) → IsWorkWith (claimed_in (Some c)) work
      work_at work h = rw claimed_is (h claimed given_at)

-- where the geometry is known

pub run_served :
    (formats : FormatPair) (g : Option Geometry) (p : PairState) (events : EventState) (parts : CodecParts) (job : Option InJob) (c : Context)
    → (g ≡ None → ⊥) → decoder_state formats g p events parts.state job ≡ c → IsDecoder formats g p events parts job → IsKept c
    → is_claimable (Some c) ≡ true → (source dest : Lent) (n : ℕ) → IsLentFrom p.out.ready source → IsLentFrom p.cap.ready dest
    → n ≡ length dest.payload.items → serves parts.rooms n ≡ true
run_served formats None p events parts job c known view inv kept can source dest n lent to en = absurd (known refl)
run_served formats (Some x) p events parts job c known view inv kept can source dest n lent to en =
    served_at formats x p events parts job c view inv kept can source dest n lent to en

pub run_room :
    (formats : FormatPair) (g : Option Geometry) (p : PairState) (events : EventState) (parts : CodecParts) (job : Option InJob) (c : Context)
    → (g ≡ None → ⊥) → decoder_state formats g p events parts.state job ≡ c → IsDecoder formats g p events parts job → IsKept c
    → is_claimable (Some c) ≡ true → (source dest : Lent) (n : ℕ) → IsLentFrom p.out.ready source → IsLentFrom p.cap.ready dest
    → n ≡ length dest.payload.items → HasRoomFor parts.state.reference n
run_room formats None p events parts job c known view inv kept can source dest n lent to en = absurd (known refl)
run_room formats (Some x) p events parts job c known view inv kept can source dest n lent to en =
    room_at formats x p events parts job c view inv kept can source dest n lent to en

pub run_can :
    (formats : FormatPair) (g : Option Geometry) (p : PairState) (events : EventState) (parts : CodecParts) (job : Option InJob) (c : Context)
    → (g ≡ None → ⊥) → decoder_state formats g p events parts.state job ≡ c → IsDecoder formats g p events parts job → IsKept c
    → is_claimable (Some c) ≡ true → (source dest : Lent) (n : ℕ) → IsLentFrom p.out.ready source → IsLentFrom p.cap.ready dest
    → n ≡ length dest.payload.items → (mid left : CodecParts) (reference : Option CodecReference) (assembly : Option AssemblyState)
    → IsLending parts mid left reference assembly n → CanDecode source dest reference assembly g formats.cap formats.out.size
run_can formats None p events parts job c known view inv kept can source dest n lent to en mid left reference assembly lends = absurd (known refl)
run_can formats (Some x) p events parts job c known view inv kept can source dest n lent to en mid left reference assembly lends =
    can_at formats x p events parts job c view inv kept can source dest n lent to en mid left reference assembly lends

pub run_claims :
    (formats : FormatPair) (g : Option Geometry) (p : PairState) (events : EventState) (parts : CodecParts) (job : Option InJob) (c : Context)
    → (g ≡ None → ⊥) → decoder_state formats g p events parts.state job ≡ c → IsDecoder formats g p events parts job → IsKept c
    → is_claimable (Some c) ≡ true → (source dest : Lent) (n : ℕ) → IsLentFrom p.out.ready source → IsLentFrom p.cap.ready dest
    → n ≡ length dest.payload.items → (mid left : CodecParts) (reference : Option CodecReference) (assembly : Option AssemblyState)
    → IsLending parts mid left reference assembly n → (new : PairState)
    → new ≡ record p { out = without_job_bytes (lend_after p.out); cap = without_job_bytes (lend_after p.cap) }
    → let d : Dest = record { index = dest.index; length = n } in IsClaim formats g new events left (record { source = source.index; dest = Some d }) c
run_claims formats None p events parts job c known view inv kept can source dest n lent to en mid left reference assembly lends new e = absurd (known refl)
run_claims formats (Some x) p events parts job c known view inv kept can source dest n lent to en mid left reference assembly lends new e =
    rw e (claim_at formats x p events parts job c view inv kept can source dest n lent to en mid left reference assembly lends)

pub run_work :
    (formats : FormatPair) (g : Option Geometry) (p : PairState) (events : EventState) (parts : CodecParts) (job : Option InJob) (c : Context)
    → (g ≡ None → ⊥) → decoder_state formats g p events parts.state job ≡ c → IsDecoder formats g p events parts job → IsKept c
    → is_claimable (Some c) ≡ true → (source dest : Lent) (n : ℕ) → IsLentFrom p.out.ready source → IsLentFrom p.cap.ready dest
    → n ≡ length dest.payload.items → (mid left : CodecParts) (reference : Option CodecReference) (assembly : Option AssemblyState)
    → IsLending parts mid left reference assembly n → (work : Work)
    → ((j : JobData) → IsRunOver j source dest reference assembly g formats.cap formats.out.size → IsWork j work)
    → IsWorkWith (claimed_in (Some c)) work
run_work formats None p events parts job c known view inv kept can source dest n lent to en mid left reference assembly lends work h = absurd (known refl)
run_work formats (Some x) p events parts job c known view inv kept can source dest n lent to en mid left reference assembly lends work h =
    work_at formats x p events parts job c view inv kept can source dest n lent to en mid left reference assembly lends work h
