-- Where a flow is after a step, and how a step that fails leaves it: with a prefix of the frames written. What was written
-- is what was handed out, up to a part of the last frame, and the frames that were handed out are the first ones of the
-- pictures that were queued.
use Rattle.std.proofs.Common.{ℕ, ◌≡◌, ◌+◌, List, [], ◌∷◌, ◌++◌, take, drop, Option, Some, None, refl, sym, ap, ◌∙◌, subst, arith, append_assoc, length-append, inl, inr}
use Rattle.std.specs.Prelude.{Result, Ok, Err, OnOk, OnErr, IfErr, IsErrOf}
use Rattle.std.specs.Io.KnownBytes.{Appends}
use Rattle.std.proofs.KnownBytes.{Appends-trans}
use Rattle.std.proofs.lemmas.List.{append-nil, take-append-drop}
use Rattle.std.proofs.lemmas.Grind.{flat_map-append}
use Rattle.vc_defs.specs.Encoder.{fresh_encoder}
use Rattle.vc_io.specs.Written.{AppendsFront}
use Rattle.vc_model.specs.Context.{Context}
use Rattle.vc_model.specs.Solo.{SoloEvent}
use Rattle.vc_port.specs.Payloads.{bytes_out, good_finishes, faulty_finishes}
use Rattle.vc_encode_flow.specs.Frames.{frames_from, joined}
use Rattle.vc_encode_flow.specs.Flows.{FlowSoFar, frames_for, state_for, payloads, IsUnderWay, IsFlow}
use Rattle.vc_flow.specs.Calls.{HandedFirst}
use Rattle.vc_encode_flow.specs.Steps.{IsAt, StopsEarly, HasTaken, with_frames}
use Rattle.vc_flow.specs.declared.ends.Stop.{Stop}
use Rattle.vc_flow.specs.declared.ends.Stop.TheVariants.{EngineFault, NoMemory}
use Rattle.vc_encode_flow.proofs.FramesGoOn.{frames_append}

pub joined_append : (xs ys : List (List ℕ)) → joined (xs ++ ys) ≡ joined xs ++ joined ys
joined_append xs ys = flat_map-append (λ (piece : List ℕ). piece) xs ys

-- the frames of the first pictures are the first frames
front_frames : (f : FlowSoFar) (coded others taken done : List (List ℕ)) → f.queued ≡ coded ++ others → taken ++ done ≡ frames_for f coded → (more : List ℕ) × (joined (frames_for f f.queued) ≡ joined taken ++ more)
front_frames f coded others taken done q e =
    let later = frames_from (state_for f coded) f.format f.rates others in (
      joined done ++ joined later,
      ap (λ (l : List (List ℕ)). joined (frames_for f l)) q
          ∙ (ap joined (frames_append fresh_encoder f.format f.rates coded others)
          ∙ (joined_append (frames_for f coded) later ∙ (ap (λ (l : List (List ℕ)). joined l ++ joined later) (sym e)
          ∙ (ap (λ (l : List ℕ). l ++ joined later) (joined_append taken done) ∙ append_assoc (joined taken) (joined done) (joined later))))),
    )

front_under_way : (f : FlowSoFar) (c : Context) (g h l m : ℕ) → IsUnderWay f c g h l m → (more : List ℕ) × (joined (frames_for f f.queued) ≡ joined f.taken ++ more)
front_under_way f c g h l m (inl x) = front_frames f x.coded _ f.taken (payloads c.cap.done) x.waiting x.frames
front_under_way f c g h l m (inr x) = front_frames f x.coded (x.lost ∷ x.others) f.taken (payloads x.front) x.queued x.frames

-- the frames that were handed out are the first ones of the pictures that were queued
pub front_of_flow : (start : List SoloEvent) (f : FlowSoFar) (events : List SoloEvent) → IsFlow start f events → (more : List ℕ) × (joined (frames_for f f.queued) ≡ joined f.taken ++ more)
front_of_flow start f events w =
    front_under_way f w.context (good_finishes start) (good_finishes events) (faulty_finishes start) (faulty_finishes events) w.under_way

-- what was handed out since the start
pub handed_of_flow : (start : List SoloEvent) (f : FlowSoFar) (events : List SoloEvent) → IsFlow start f events → HandedFirst start (joined f.taken) events
handed_of_flow start f events w =
    ([], w.handed ∙ ap (λ (l : List ℕ). bytes_out start ++ l) (sym (append-nil (joined f.taken))))

-- a call failed, and nothing was written since
pub stopped_at : (start : List SoloEvent) (f : FlowSoFar) (first written : Option (List ℕ)) (old new : List SoloEvent) → IsAt start f first written old → ((bytes : List ℕ) → HandedFirst start bytes old → HandedFirst start bytes new) → StopsEarly start f first written new
stopped_at start f first written old new a h =
    let front = front_of_flow start f old a.flow in
    record { bytes = joined f.taken; wrote = a.wrote; handed = h (joined f.taken) (handed_of_flow start f old a.flow); others = front.0; frames = front.1 }

pub joined_more : (xs : List (List ℕ)) (x : List ℕ) → joined (xs ++ x ∷ []) ≡ joined xs ++ x
joined_more xs x = joined_append xs (x ∷ []) ∙ ap (λ (l : List ℕ). joined xs ++ l) (append-nil x)

-- a frame was taken and written
pub wrote_frame : (start : List SoloEvent) (f : FlowSoFar) (first written later : Option (List ℕ)) (frame : List ℕ) → Appends first written (joined f.taken) → Appends written later frame → Appends first later (joined (f.taken ++ frame ∷ []))
wrote_frame start f first written later frame a b =
    subst (Appends first later) (sym (joined_more f.taken frame)) (Appends-trans first written later (joined f.taken) frame a b)

-- a frame was taken and its front written
pub wrote_front : (start : List SoloEvent) (f : FlowSoFar) (first written later : Option (List ℕ)) (frame : List ℕ) (events : List SoloEvent) →
    Appends first written (joined f.taken) → IsFlow start (record f { taken = f.taken ++ frame ∷ [] }) events → AppendsFront written later frame →
    StopsEarly start f first later events
wrote_front start f first written later frame events a w p =
    let n = p.0 in
    let g : FlowSoFar = record f { taken = f.taken ++ frame ∷ [] } in
    let bytes = joined f.taken ++ take n frame in
    let all : joined g.taken ≡ bytes ++ drop n frame = joined_more f.taken frame ∙ (ap (λ (l : List ℕ). joined f.taken ++ l) (sym (take-append-drop n frame)) ∙ sym (append_assoc (joined f.taken) (take n frame) (drop n frame))) in
    let front = front_of_flow start g events w in
    record {
      bytes = bytes;
      wrote = Appends-trans first written later (joined f.taken) (take n frame) a p.2;
      handed = (drop n frame, w.handed ∙ ap (λ (l : List ℕ). bytes_out start ++ l) all);
      others = drop n frame ++ front.0;
      frames = front.1 ∙ (ap (λ (l : List ℕ). l ++ front.0) all ∙ append_assoc bytes (drop n frame) front.0);
    }

-- the same after frames were taken and written
pub stopped_later : (start : List SoloEvent) (f : FlowSoFar) (frames : List (List ℕ)) (first written : Option (List ℕ)) (old new : List SoloEvent) →
    IsAt start (with_frames f frames) first written old → ((bytes : List ℕ) → HandedFirst start bytes old → HandedFirst start bytes new) →
    StopsEarly start f first written new
stopped_later start f frames first written old new a h =
    let s = stopped_at start (with_frames f frames) first written old new a h in
    record { bytes = s.bytes; wrote = s.wrote; handed = s.handed; others = s.others; frames = s.frames }

-- Frames, one after another

pub none_taken : (start : List SoloEvent) (f : FlowSoFar) (first written : Option (List ℕ)) (events : List SoloEvent) → IsAt start f first written events → HasTaken start f 0 first written events
none_taken start f first written events a =
    let same : f ≡ with_frames f [] = ap (λ (l : List (List ℕ)). record f { taken = l }) (sym (append-nil f.taken)) in
    record { frames = []; number = refl; at = subst (λ (z : FlowSoFar). IsAt start z first written events) same a }

pub more_taken : (start : List SoloEvent) (f : FlowSoFar) (count : ℕ) (first written later : Option (List ℕ)) (old new : List SoloEvent) → (h : HasTaken start f count first written old) → HasTaken start (with_frames f h.frames) 1 first later new → HasTaken start f (count + 1) first later new
more_taken start f count first written later old new h n =
    let number = h.number in
    let one = n.number in
    let same : with_frames (with_frames f h.frames) n.frames ≡ with_frames f (h.frames ++ n.frames) = ap (λ (l : List (List ℕ)). record f { taken = l }) (append_assoc f.taken h.frames n.frames) in
    record { frames = h.frames ++ n.frames; number = omega (arith, length-append h.frames n.frames, number, one); at = subst (λ (z : FlowSoFar). IsAt start z first later new) same n.at }

-- stopping after frames were taken is stopping of the flow
pub stopped_after : (start : List SoloEvent) (f : FlowSoFar) (frames : List (List ℕ)) (first written : Option (List ℕ)) (events : List SoloEvent) → StopsEarly start (with_frames f frames) first written events → StopsEarly start f first written events
stopped_after start f frames first written events s =
    record { bytes = s.bytes; wrote = s.wrote; handed = s.handed; others = s.others; frames = s.frames }

-- which error a result has
pub err_is : {T E : Type 0} (a b : E) → IsErrOf {T = T} {E = E} (Err a) b → a ≡ b
err_is a b e = cc
