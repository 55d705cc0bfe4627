-- What the tests of this crate bring back of a job, in the place of an engine: a frame of eight bytes, or a fault.
-- Each is a result that a run of the job can have.
use Rattle.std.proofs.Common.{ℕ, ◌≡◌, ◌≤◌, ◌<◌, ◌+◌, Bool, Option, Some, None, Ok, Err, List, length, take, refl, sym, ap, ◌∙◌, subst, arith, length-take}
use Rattle.vc_base.specs.declared.Kind.{Kind}
use Rattle.vc_base.specs.declared.Kind.TheVariants.{Enc}
use Rattle.vc_base.specs.declared.Format.{Format}
use Rattle.vc_defs.specs.Encoder.{EncodedFrame}
use Rattle.vc_model.specs.Coder.{CodecState, no_codec, encoder, decoder}
use Rattle.vc_model.specs.Context.{Context, RunSort, copy, encode, decode, probe}
use Rattle.vc_model.specs.Runs.{JobData, encoded, sort_of}
use Rattle.vc_work.specs.declared.work.Work.{Work}
use Rattle.vc_work.specs.declared.work.Sort.{Sort}
use Rattle.vc_work.specs.declared.work.Sort.TheVariants as sort
use Rattle.vc_work.specs.declared.engine.Outcome.TheVariants.{Encoded}
use Rattle.vc_work.specs.declared.engine.EngineFault.{EngineFault}
use Rattle.vc_work.specs.References.{CodecReference}
use Rattle.vc_defs.specs.Raw.{geometry_of}
use Rattle.vc_work.specs.Runs.{Fits, HasAll, HasPicture, HasReference, HasDest, HasGeometry, dest_bytes, coder_state}
use Rattle.vc_context.specs.Works.{IsSort, IsCodec, IsSourceBack, HasState, HasRoomFor, HasAreas, HasFront, IsBackOf, IsWork, IsWorkWith, RunsInWith}
use Rattle.vc_context.specs.Contexts.{IsCounted, HasRoom}

-- what is brought back of an untouched source
source_back : (j : JobData) (work : Work) → IsWork j work → IsSourceBack j.source work.source
source_back j work w = record { used = w.source.used; stamp = w.source.stamp; size = w.source.size }

-- the engine gave up
pub fault_back : (c : Context) (o : Option JobData) (work : Work) (fault : EngineFault) → IsWorkWith o work → Fits work → RunsInWith c o → IsBackOf c work (Err fault)
fault_back c None work fault w f r = absurd w
fault_back c (Some j) work fault w f r =
    record {
      back = record { job = j; result = None };
      runs = r;
      is_back = record { source = source_back j work w; dest = w.dest; areas = w.areas; came_to = tt };
    }

encodes : (run : RunSort) (s : Sort) → run ≡ encode → IsSort run s → s ≡ sort.Encode
encodes copy s e h = cc
encodes encode sort.Copy e h = absurd h
encodes encode sort.Encode e h = refl
encodes encode sort.Probe e h = absurd h
encodes encode sort.Decode e h = absurd h
encodes decode s e h = cc
encodes probe s e h = cc

-- eight bytes of what stands in the destination
first_eight : (least : ℕ) (o : Option (List ℕ)) → 44 + least ≤ 44 + least → HasDest (44 + least) o → (bytes : List ℕ) × (length bytes ≡ 8) × HasFront bytes o
first_eight least None e h = absurd h
first_eight least (Some payload) e h =
    let n : length (take 8 payload) ≡ 8 = omega (arith, length-take 8 payload) in
    (take 8 payload, n, ap (λ (k : ℕ). take k payload) n)

state_in : (reference : Option CodecReference) (format : Format) → HasReference format reference → HasState (coder_state reference) reference × HasGeometry (geometry_of format) (coder_state reference).reference
state_in None format h = absurd h
state_in (Some r) format h = (refl, h.1)

-- eight bytes are taken for a frame
pub frame_back : (c : Context) (o : Option JobData) (work : Work) (key : Bool) → c.kind ≡ Enc → IsWorkWith o work → Fits work → RunsInWith c o → IsBackOf c work (Ok (Encoded 8 key))
frame_back c None work key e w f r = absurd w
frame_back c (Some j) work key e w f r =
    let run : j.sort ≡ encode = r.run.sort ∙ ap (λ (kind : Kind). sort_of kind c.geometry) e in
    let all : HasPicture work = subst (λ (s : Sort). HasAll s work) (encodes j.sort work.sort run w.sort) f.all in
    let front = first_eight _ (dest_bytes work) (omega arith) all.dest in
    let s = state_in work.reference work.format all.reference in
    let frame : EncodedFrame = record { bytes = front.0; key = key; state = coder_state work.reference } in
    record {
      back = record { job = j; result = Some (encoded frame) };
      runs = r;
      is_back = record {
        source = source_back j work w;
        dest = w.dest;
        areas = w.areas;
        came_to = (
          run,
          record {
            bytes = record { told = sym front.1; front = front.2; source_bytes = w.source.bytes };
            told_key = refl;
            state = s.0;
            picture = subst (λ (g : Format). HasGeometry (geometry_of g) (coder_state work.reference).reference) w.format s.1;
          },
        );
      };
    }

-- what counted up to a number below a thousand can count on
pub has_room : (n : ℕ) (c : Context) → n < 1000 → IsCounted (n + 1) c → HasRoom c
has_room n c few h =
    record { out_queued = omega (arith, h.out_queued); cap_queued = omega (arith, h.cap_queued); out_done = omega (arith, h.out_done); cap_done = omega (arith, h.cap_done); raised = omega (arith, h.raised) }

pub one_more : (n : ℕ) (c : Context) → IsCounted (n + 1 + 1) c → IsCounted (n + 2) c
one_more n c h =
    record { out_queued = omega (arith, h.out_queued); cap_queued = omega (arith, h.cap_queued); out_done = omega (arith, h.out_done); cap_done = omega (arith, h.cap_done); raised = omega (arith, h.raised) }

pub also_two : (n : ℕ) (c : Context) → IsCounted (n + 1) c → IsCounted (n + 2) c
also_two n c h =
    record { out_queued = omega (arith, h.out_queued); cap_queued = omega (arith, h.cap_queued); out_done = omega (arith, h.out_done); cap_done = omega (arith, h.cap_done); raised = omega (arith, h.raised) }
