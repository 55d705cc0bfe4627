-- Taking and writing what the slot of a flow has. A round takes a picture or nothing, and writes it where no job failed
-- before; so what is written is a prefix of the output, and behind the LAST buffer the slot has stopped.
use Rattle.std.proofs.Common.{ℕ, ◌≡◌, ◌≢◌, get_or, ◌||◌, ◌++◌, List, [], length, take, drop, sym, ap, ◌∙◌, subst, refl, append_assoc, append-nil, Option, Some, None, Bool, true, false}
use Rattle.std.specs.Prelude.{Result, Ok, Err, OnOk, IfOk, IfErr, IfSome, IsErrOf}
use Rattle.std.specs.Io.KnownBytes.{Appends}
use Rattle.std.proofs.KnownBytes.{Appends-nil, Appends-trans}
use Rattle.std.proofs.lemmas.Bool.{false≢true}
use Rattle.std.proofs.lemmas.List.{take-append-drop}
use mathlib.Core.List.{IsPrefix}
use Rattle.vc_defs.specs.Outputs.{decode_output}
use Rattle.vc_io.specs.Written.{AppendsFront}
use Rattle.vc_model.specs.Solo.{SoloEvent}
use Rattle.vc_queue.specs.Holds.{HoldState, held_payload}
use Rattle.vc_port.specs.Payloads.{bytes_out}
use Rattle.vc_flow.specs.Calls.{HandedFirst}
use Rattle.vc_stream_laws.specs.Streams.{StreamSoFar, KnownStop, not_known, some_stop, IsStream, IsUnspoilt}
use Rattle.vc_stream_laws.proofs.HandedOutIsAPrefix.{front_is_handed_out}
use Rattle.vc_base.specs.declared.Side.TheVariants.{Cap}
use Rattle.vc_flow.specs.Buffers.{IsThere, HasBytes}
use Rattle.vc_decode_flow.specs.declared.taking.Taken.{Taken}
use Rattle.vc_decode_flow.specs.declared.rounds.Round.{Round}
use Rattle.vc_flow.specs.declared.ends.Stop.{Stop}
use Rattle.vc_flow.specs.declared.ends.Stop.TheVariants.{ReadFault, TooLong, EngineFault}
use Rattle.vc_decode_flow.specs.Steps.{KeepsCaptures, known_after, with_picture, IsTaken, IsNotTaken, HasTaken, IsFrontFor, IsAt, StopsEarly, IsToWrite, HasWritten, stream_of, IsGoing, HasStopped}
use Rattle.vc_decode_flow.proofs.CallsKeepAStream.{or_false, stream_of_unspoilt}
use Rattle.vc_flow.proofs.CallsHandOut.{first_stays}
use Rattle.vc_decode_flow.proofs.PrefixesOfLists.{prefix_self, prefix_both, prefix_taken}

-- what was handed out, however the slot goes on
pub handed_first : (start : List SoloEvent) (f : StreamSoFar) (first written : Option (List ℕ)) (events : List SoloEvent) → IsAt start f first written events → HandedFirst start f.handed events
handed_first start f first written events a =
    ([], a.handed ∙ ap (λ (l : List ℕ). bytes_out start ++ l) (sym (append-nil f.handed)))

-- a step failed, and nothing was written since
pub stopped_at : (start : List SoloEvent) (f : StreamSoFar) (first written : Option (List ℕ)) (old new : List SoloEvent) → IsAt start f first written old → ((bytes : List ℕ) → HandedFirst start bytes old → HandedFirst start bytes new) → StopsEarly start f.queued first written new
stopped_at start f first written old new a h =
    record { bytes = f.handed; wrote = a.wrote; handed = h f.handed (handed_first start f first written old a); front = a.front }

-- the slot goes on, and nothing was taken
pub at_later : (start : List SoloEvent) (f : StreamSoFar) (first written : Option (List ℕ)) (old new : List SoloEvent) → IsAt start f first written old → IsStream start f new → bytes_out new ≡ bytes_out old → IsAt start f first written new
at_later start f first written old new a w e =
    record { stream = w; handed = e ∙ a.handed; wrote = a.wrote; front = a.front }

pub still_going : (start : List SoloEvent) (queued : List ℕ) (damaged ends : Bool) (first written : Option (List ℕ)) (old new : List SoloEvent) →
    (g : IsGoing start queued damaged ends not_known first written old) → IsStream start (stream_of queued g.handed damaged ends not_known) new →
    bytes_out new ≡ bytes_out old → IsGoing start queued (damaged || false) ends not_known first written new
still_going start queued damaged ends first written old new g w e =
    subst (λ (b : Bool). IsGoing start queued b ends not_known first written new) (sym (or_false damaged)) (record { handed = g.handed; at = at_later start (stream_of queued g.handed damaged ends not_known) first written old new g.at w e })

-- a stream that nothing failed in, all of which was written
pub at_unspoilt : (start : List SoloEvent) (f : StreamSoFar) (first written : Option (List ℕ)) (events : List SoloEvent) → IsUnspoilt start f events → Appends first written f.handed → IsAt start f first written events
at_unspoilt start f first written events u a =
    record {
      stream = stream_of_unspoilt start f events u;
      handed = (front_is_handed_out start events f f.queued u (prefix_self f.queued)).handed;
      wrote = a;
      front = λ input p. (front_is_handed_out start events f input u p).front;
    }

-- the stream that a round came to
pub record Took (start : List SoloEvent) (f : StreamSoFar) (events : List SoloEvent) : Type 0 where
  pub after : StreamSoFar
  pub stream : IsStream start after events

pub took : (start : List SoloEvent) (f : StreamSoFar) (o : Option Taken) (hold : HoldState) (old new : List SoloEvent) → HasTaken start f o hold old new → Took start f new
took start f None hold old new h = record { after = f; stream = h.stream }
took start f (Some t) hold old new h =
    record { after = with_picture f t h.picture; stream = h.stream }

-- A picture was written

pub wrote_picture : (start : List SoloEvent) (f : StreamSoFar) (t : Taken) (picture : List ℕ) (first written later : Option (List ℕ))
    (events : List SoloEvent) → Appends first written f.handed → IsUnspoilt start (with_picture f t picture) events → Appends written later picture →
    IsAt start (with_picture f t picture) first later events
wrote_picture start f t picture first written later events a u b =
    at_unspoilt start (with_picture f t picture) first later events u (Appends-trans first written later f.handed picture a b)

-- or a prefix of it
pub wrote_front : (start : List SoloEvent) (f : StreamSoFar) (t : Taken) (picture : List ℕ) (first written later : Option (List ℕ))
    (events : List SoloEvent) → Appends first written f.handed → IsUnspoilt start (with_picture f t picture) events →
    AppendsFront written later picture → StopsEarly start f.queued first later events
wrote_front start f t picture first written later events a u b =
    let n = b.0 in
    let g = with_picture f t picture in
    let all : f.handed ++ picture ≡ (f.handed ++ take n picture) ++ drop n picture = ap (λ (l : List ℕ). f.handed ++ l) (sym (take-append-drop n picture)) ∙ sym (append_assoc f.handed (take n picture) (drop n picture)) in
    record {
      bytes = f.handed ++ take n picture;
      wrote = Appends-trans first written later f.handed (take n picture) a b.2;
      handed = (drop n picture, (front_is_handed_out start events g g.queued u (prefix_self g.queued)).handed ∙ ap (λ (l : List ℕ). bytes_out start ++ l) all);
      front = λ input p. prefix_both (f.handed ++ take n picture) (f.handed ++ picture) (decode_output input) (prefix_taken f.handed picture n) (front_is_handed_out start events g input u p).front;
    }

-- it was the last one before a stop
pub stops_here : (start : List SoloEvent) (queued handed : List ℕ) (damaged ends : Bool) (t : Taken) (picture : List ℕ)
    (first written : Option (List ℕ)) (events : List SoloEvent) → t.last ≡ true →
    IsUnspoilt start (with_picture (stream_of queued handed damaged ends not_known) t picture) events →
    IsAt start (with_picture (stream_of queued handed damaged ends not_known) t picture) first written events →
    HasStopped start queued (damaged || t.damaged) ends first written events
stops_here start queued handed damaged ends t picture first written events e u a =
    let known : known_after t.last not_known ≡ some_stop = ap (λ (b : Bool). known_after b not_known) e in
    record {
      handed = handed ++ picture;
      at = subst (λ (k : KnownStop). IsAt start (stream_of queued (handed ++ picture) (damaged || t.damaged) ends k) first written events) known a;
      unspoilt = subst (λ (k : KnownStop). IsUnspoilt start (stream_of queued (handed ++ picture) (damaged || t.damaged) ends k) events) known u;
    }

-- or it was not, and its buffer was queued again
pub goes_here : (start : List SoloEvent) (queued handed : List ℕ) (damaged ends : Bool) (t : Taken) (picture : List ℕ)
    (first written : Option (List ℕ)) (events : List SoloEvent) → t.last ≡ false →
    IsAt start (with_picture (stream_of queued handed damaged ends not_known) t picture) first written events →
    IsGoing start queued (damaged || t.damaged) ends not_known first written events
goes_here start queued handed damaged ends t picture first written events e a =
    let known : known_after t.last not_known ≡ not_known = ap (λ (b : Bool). known_after b not_known) e in
    record {
      handed = handed ++ picture;
      at = subst (λ (k : KnownStop). IsAt start (stream_of queued (handed ++ picture) (damaged || t.damaged) ends k) first written events) known a;
    }

-- a picture that was taken is to be written
pub to_write : (start : List SoloEvent) (f : StreamSoFar) (t : Taken) (first written payload : Option (List ℕ)) (old new events : List SoloEvent) →
    Appends first written f.handed → (k : IsTaken start f t payload old new) → IsUnspoilt start (with_picture f t k.picture) events →
    IsToWrite start f t first written payload events
to_write start f t first written payload old new events a k u =
    record { picture = k.picture; wrote = a; there = k.there; unspoilt = u }

pub written_last : (start : List SoloEvent) (f : StreamSoFar) (t : Taken) (first written later payload : Option (List ℕ)) (events : List SoloEvent) → (w : IsToWrite start f t first written payload events) → Appends written later w.picture → HasWritten start f t first later events
written_last start f t first written later payload events w b =
    record {
      picture = w.picture;
      at = wrote_picture start f t w.picture first written later events w.wrote w.unspoilt b;
      unspoilt = λ e. w.unspoilt;
    }

pub written_on : (start : List SoloEvent) (f : StreamSoFar) (t : Taken) (first written later payload : Option (List ℕ)) (old new : List SoloEvent) →
    t.last ≡ false → (w : IsToWrite start f t first written payload old) → Appends written later w.picture →
    IsStream start (with_picture f t w.picture) new → bytes_out new ≡ bytes_out old → HasWritten start f t first later new
written_on start f t first written later payload old new e w b s q =
    record {
      picture = w.picture;
      at = at_later start (with_picture f t w.picture) first later old new (wrote_picture start f t w.picture first written later old w.wrote w.unspoilt b) s q;
      unspoilt = λ l. absurd (false≢true (sym e ∙ l));
    }

-- what a round came to

pub round_goes : (start : List SoloEvent) (queued handed : List ℕ) (damaged ends : Bool) (t : Taken) (d l : Bool) (first written : Option (List ℕ))
    (events : List SoloEvent) → d ≡ t.damaged → l ≡ t.last → l ≡ false → HasWritten start (stream_of queued handed damaged ends not_known) t first
    written events → IsGoing start queued (damaged || d) ends not_known first written events
round_goes start queued handed damaged ends t d l first written events p q e h =
    subst (λ (b : Bool). IsGoing start queued (damaged || b) ends not_known first written events) (sym p) (goes_here start queued handed damaged ends t h.picture first written events (sym q ∙ e) h.at)

pub round_stops : (start : List SoloEvent) (queued handed : List ℕ) (damaged ends : Bool) (t : Taken) (d l : Bool) (first written : Option (List ℕ))
    (events : List SoloEvent) → d ≡ t.damaged → l ≡ t.last → l ≡ true → HasWritten start (stream_of queued handed damaged ends not_known) t first
    written events → HasStopped start queued (damaged || d) ends first written events
round_stops start queued handed damaged ends t d l first written events p q e h =
    let last : t.last ≡ true = sym q ∙ e in
    subst (λ (b : Bool). HasStopped start queued (damaged || b) ends first written events) (sym p) (stops_here start queued handed damaged ends t h.picture first written events last (h.unspoilt last) h.at)

-- What a round took

pub taken_some : (start : List SoloEvent) (f : StreamSoFar) (o : Option Taken) (t : Taken) (hold : HoldState) (old new : List SoloEvent) → o ≡ Some t → HasTaken start f o hold old new → IsTaken start f t (held_payload hold Cap t.index) old new
taken_some start f o t hold old new e h =
    subst (λ (z : Option Taken). HasTaken start f z hold old new) e h

pub taken_none : (start : List SoloEvent) (f : StreamSoFar) (o : Option Taken) (hold : HoldState) (old new : List SoloEvent) → o ≡ None → HasTaken start f o hold old new → IsNotTaken start f old new
taken_none start f o hold old new e h =
    subst (λ (z : Option Taken). HasTaken start f z hold old new) e h

pub there_still : (o : Option Taken) (t : Taken) (before after : HoldState) → o ≡ Some t → KeepsCaptures before after → IfSome o (λ (z : Taken). IsThere (held_payload before Cap z.index) z.used) → IsThere (held_payload after Cap t.index) t.used
there_still o t before after e k h =
    let there : IsThere (held_payload before Cap t.index) t.used = subst (λ (z : Option Taken). IfSome z (λ (x : Taken). IsThere (held_payload before Cap x.index) x.used)) e h in
    subst (λ (l : List (Option (List ℕ))). IsThere (get_or l t.index None) t.used) (sym k) there

pub to_write_still : (start : List SoloEvent) (f : StreamSoFar) (t : Taken) (first written : Option (List ℕ)) (before after : HoldState)
    (old new events : List SoloEvent) → Appends first written f.handed → KeepsCaptures before after →
    (k : IsTaken start f t (held_payload before Cap t.index) old new) → IsUnspoilt start (with_picture f t k.picture) events →
    IsToWrite start f t first written (held_payload after Cap t.index) events
to_write_still start f t first written before after old new events a q k u =
    let there : HasBytes (held_payload after Cap t.index) t.used k.picture = subst (λ (l : List (Option (List ℕ))). HasBytes (get_or l t.index None) t.used k.picture) (sym q) k.there in
    record { picture = k.picture; wrote = a; there = there; unspoilt = u }

pub give_goes : (start : List SoloEvent) (queued handed : List ℕ) (damaged ends : Bool) (t : Taken) (first written : Option (List ℕ))
    (events : List SoloEvent) (r : Result Round Stop) → IfOk r (λ (round : Round). (round.damaged ≡ t.damaged) × (round.last ≡ t.last)) →
    OnOk r (HasWritten start (stream_of queued handed damaged ends not_known) t first written events) →
    IfOk r (λ (round : Round). round.last ≡ false → IsGoing start queued (damaged || round.damaged) ends not_known first written events)
give_goes start queued handed damaged ends t first written events (Ok round) q h = λ e.
    round_goes start queued handed damaged ends t round.damaged round.last first written events q.0 q.1 e h
give_goes start queued handed damaged ends t first written events (Err stop) q h = tt

pub give_stops : (start : List SoloEvent) (queued handed : List ℕ) (damaged ends : Bool) (t : Taken) (first written : Option (List ℕ))
    (events : List SoloEvent) (r : Result Round Stop) → IfOk r (λ (round : Round). (round.damaged ≡ t.damaged) × (round.last ≡ t.last)) →
    OnOk r (HasWritten start (stream_of queued handed damaged ends not_known) t first written events) →
    IfOk r (λ (round : Round). round.last ≡ true → HasStopped start queued (damaged || round.damaged) ends first written events)
give_stops start queued handed damaged ends t first written events (Ok round) q h = λ e.
    round_stops start queued handed damaged ends t round.damaged round.last first written events q.0 q.1 e h
give_stops start queued handed damaged ends t first written events (Err stop) q h = tt

pub no_engine : {A : Type 0} → (r : Result Round Stop) → IfErr r (λ (stop : Stop). (stop ≢ ReadFault) × (stop ≢ TooLong) × (stop ≢ EngineFault)) → IsErrOf r EngineFault → A
no_engine (Ok round) n e = absurd (cc)
no_engine (Err stop) n e = absurd (n.2 (cc))

-- all of it was written, and then a step failed
pub stopped_whole : (start : List SoloEvent) (f : StreamSoFar) (t : Taken) (first written later payload : Option (List ℕ))
    (old new : List SoloEvent) → (w : IsToWrite start f t first written payload old) → Appends written later w.picture →
    bytes_out new ≡ bytes_out old → StopsEarly start f.queued first later new
stopped_whole start f t first written later payload old new w b q =
    let g = with_picture f t w.picture in
    let s = stopped_at start g first later old new (wrote_picture start f t w.picture first written later old w.wrote w.unspoilt b) (λ bytes. first_stays start bytes old new q) in
    record { bytes = s.bytes; wrote = s.wrote; handed = s.handed; front = s.front }
