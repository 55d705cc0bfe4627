-- A segment from its begin to its end. A picture that is pushed is one more in flight, and a frame that is taken one less; when
-- none is in flight all frames were taken, and they are those that the sequential encoder writes for the pictures.
use Rattle.std.proofs.Common.{ℕ, ◌≡◌, ◌≤◌, ◌+◌, List, [], ◌∷◌, ◌++◌, Option, None, refl, sym, ap, ◌∙◌, subst, arith, length-append}
use Rattle.std.specs.Io.KnownBytes.{Appends}
use Rattle.std.proofs.KnownBytes.{Appends-nil}
use Rattle.vc_base.specs.declared.Format.{Format}
use Rattle.vc_defs.specs.Encoder.{RunRates, fresh_encoder, encoded}
use Rattle.vc_model.specs.Solo.{SoloEvent}
use Rattle.vc_queue.specs.Holds.{HoldState}
use Rattle.vc_port.specs.Payloads.{slot_after, bytes_out, good_finishes}
use Rattle.vc_flow.specs.Calls.{QueuesSource}
use Rattle.vc_flow.proofs.CallsHandOut.{first_stays}
use Rattle.vc_encode_flow.specs.Frames.{frames_from, joined}
use Rattle.vc_encode_flow.specs.Flows.{flow_of, with_picture, IsFlow, HasFlow}
use Rattle.vc_encode_flow.specs.Steps.{StopsEarly, HasTaken}
use Rattle.vc_encode_flow.proofs.AllFramesAreTaken.{all_taken}
use Rattle.vc_encode_flow.proofs.FramesGoOn.{frames_are_encoded}
use Rattle.vc_encode_flow.proofs.SourcesGoOn.{picture_queued}
use Rattle.vc_encode_flow.proofs.StoppingWritesAPrefix.{stopped_at}
use Rattle.vc_chain.specs.Segments.{coded, segment_of, IsCoding, IsCoded, IsCut}

coded_is : (format : Format) (rates : RunRates) (pictures : List (List ℕ)) → joined (frames_from fresh_encoder format rates pictures) ≡ coded format rates pictures
unfolding encoded
coded_is format rates pictures = frames_are_encoded fresh_encoder format rates pictures

pub begun : (start events : List SoloEvent) (format : Format) (rates : RunRates) (written : Option (List ℕ)) → IsFlow start (flow_of format rates) events → IsCoding start format rates [] 0 written written events
begun start events format rates written w =
    record { frames = []; count = refl; at = record { flow = w; wrote = Appends-nil written } }

-- a frame was taken and written
pub one_less : (start : List SoloEvent) (format : Format) (rates : RunRates) (pictures : List (List ℕ)) (flight less : ℕ)
    (first before after : Option (List ℕ)) (old new : List SoloEvent) → less + 1 ≡ flight →
    (w : IsCoding start format rates pictures flight first before old) →
    HasTaken start (segment_of format rates pictures w.frames) 1 first after new → IsCoding start format rates pictures less first after new
one_less start format rates pictures flight less first before after old new e w h =
    let count = w.count in
    let number = h.number in
    record { frames = w.frames ++ h.frames; count = omega (arith, e, count, number, length-append w.frames h.frames); at = h.at }

-- an event or a call that keeps the flow
pub still : (start : List SoloEvent) (format : Format) (rates : RunRates) (pictures : List (List ℕ)) (flight : ℕ) (first written : Option (List ℕ))
    (old new : List SoloEvent) → (w : IsCoding start format rates pictures flight first written old) →
    IsFlow start (segment_of format rates pictures w.frames) new → IsCoding start format rates pictures flight first written new
still start format rates pictures flight first written old new w flow =
    record { frames = w.frames; count = w.count; at = record { flow = flow; wrote = w.at.wrote } }

-- a picture was queued
pub one_more : (start : List SoloEvent) (format : Format) (rates : RunRates) (pictures : List (List ℕ)) (flight : ℕ) (first written : Option (List ℕ))
    (old new : List SoloEvent) (index : ℕ) (picture : List ℕ) (after : HoldState) →
    IsCoding start format rates pictures flight first written old → QueuesSource old index picture new after →
    IsCoding start format rates (pictures ++ picture ∷ []) (flight + 1) first written new
one_more start format rates pictures flight first written old new index picture after w q =
    let count = w.count in
    record {
      frames = w.frames;
      count = omega (arith, count, length-append pictures (picture ∷ []));
      at = record { flow = picture_queued start (segment_of format rates pictures w.frames) old new index picture after q w.at.flow; wrote = w.at.wrote };
    }

pub flow_more : (old new : List SoloEvent) (index : ℕ) (picture : List ℕ) (after : HoldState) → QueuesSource old index picture new after → HasFlow old → HasFlow new
flow_more old new index picture after q w =
    record { start = w.start; so_far = with_picture w.so_far picture; flow = picture_queued w.start w.so_far old new index picture after q w.flow }

-- a step failed
pub cut : (start : List SoloEvent) (format : Format) (rates : RunRates) (pictures frames : List (List ℕ)) (first written : Option (List ℕ))
    (events : List SoloEvent) → StopsEarly start (segment_of format rates pictures frames) first written events →
    IsCut start format rates pictures first written events
cut start format rates pictures frames first written events s =
    record { bytes = s.bytes; wrote = s.wrote; handed = s.handed; others = s.others; frames = sym (coded_is format rates pictures) ∙ s.frames }

-- a step failed that wrote nothing and hands out nothing
pub cut_here : (start : List SoloEvent) (format : Format) (rates : RunRates) (pictures : List (List ℕ)) (flight : ℕ) (first written : Option (List ℕ))
    (old new : List SoloEvent) → IsCoding start format rates pictures flight first written old → bytes_out new ≡ bytes_out old →
    IsCut start format rates pictures first written new
cut_here start format rates pictures flight first written old new w e =
    cut start format rates pictures w.frames first written new (stopped_at start (segment_of format rates pictures w.frames) first written old new w.at (λ bytes. first_stays start bytes old new e))

-- all frames in flight were taken and written, and the slot was closed
pub coded_all : (start : List SoloEvent) (format : Format) (rates : RunRates) (pictures : List (List ℕ)) (flight : ℕ)
    (first before after : Option (List ℕ)) (old mid new : List SoloEvent) →
    (w : IsCoding start format rates pictures flight first before old) →
    HasTaken start (segment_of format rates pictures w.frames) flight first after mid → slot_after new ≡ None →
    bytes_out new ≡ bytes_out mid → good_finishes mid ≤ good_finishes new → IsCoded start format rates pictures first after new
coded_all start format rates pictures flight first before after old mid new w h closed bytes finishes =
    let count = w.count in
    let number = h.number in
    let frames = w.frames ++ h.frames in
    let all = all_taken start (segment_of format rates pictures frames) mid (omega (arith, count, number, length-append w.frames h.frames)) h.at.flow in
    let same : joined frames ≡ coded format rates pictures = all.frames ∙ coded_is format rates pictures in
    let enough = all.finishes in
    record {
      closed = closed;
      wrote = subst (Appends first after) same h.at.wrote;
      handed = bytes ∙ (h.at.flow.handed ∙ ap (λ (l : List ℕ). bytes_out start ++ l) same);
      finishes = omega (arith, enough, finishes);
    }
