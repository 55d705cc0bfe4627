-- A decoder keeps what it has to when its events or its formats change alone, since its queues are settled. A new
-- format of OUTPUT is set where that has no buffers, and then the codec has begun anew already.
use Rattle.std.proofs.Common.{ℕ, ◌≡◌, ◌≤◌, ◌+◌, Bool, true, false, ◌||◌, Option, Some, None, [], refl, sym, ap, ◌∙◌, subst, arith, ltb-false}
use Rattle.std.specs.Prelude.{is_some, nat_lt}
use Rattle.std.proofs.lemmas.Bool.{false≢true}
use Rattle.vc_base.specs.declared.Kind.TheVariants.{Dec}
use Rattle.vc_base.specs.declared.Side.{Side}
use Rattle.vc_base.specs.declared.Side.TheVariants.{Out, Cap}
use Rattle.vc_base.specs.declared.Errno.{Errno}
use Rattle.vc_base.specs.declared.Errno.TheVariants.{Busy}
use Rattle.vc_base.specs.declared.Format.{Format}
use Rattle.vc_base.specs.declared.Call.TheVariants.{SetFmt}
use Rattle.vc_base.specs.declared.Reply.{Reply}
use Rattle.vc_base.specs.declared.Reply.TheVariants.{Fmt, Refused}
use Rattle.vc_base.specs.Buffers.{refuse_if, buffer_count}
use Rattle.vc_base.specs.Events.{EventState}
use Rattle.vc_defs.specs.declared.Geometry.{Geometry}
use Rattle.vc_defs.specs.Decoder.{DecoderState, fresh_decoder}
use Rattle.vc_model.specs.Formats.{FormatPair, formats_for}
use Rattle.vc_model.specs.Context.{Context, settle, format_of}
use Rattle.vc_model.specs.Answer.{Answer, unless, answered, context_answer, set_answer, set_refusal}
use Rattle.vc_geom.specs.Pairs.{pair_of, CanStand}
use Rattle.vc_context.specs.Contexts.{IsKept, Gives, IsStep}
use Rattle.vc_dec.specs.declared.InJob.{InJob}
use Rattle.vc_dec.specs.declared.Decoder.TheInside.{Inside}
use Rattle.vc_dec.specs.Decoders.{decoder_state, IsDecoder, IsPlaced, IsPictureOf, IsOfStream, IsSupplied, geometry_after}
use Rattle.vc_context.specs.Serving.{Serves}
use Rattle.vc_dec.proofs.KeptThroughCalls.{settle_at, still_at, quiet_here, agree_here, place, begins_anew}
use Rattle.vc_dec.proofs.FormatsHaveTheLayout.{set_sized}

-- a new format is refused while there are buffers

refused_cases : (c : Context) (b : Bool) (effect : Answer) → is_some (refuse_if b Busy None) ≡ true → Gives (unless c (refuse_if b Busy None) effect) (Refused Busy) c
refused_cases c true effect e = record { reply = refl; context = refl }
refused_cases c false effect e = absurd (false≢true e)

refused_gives : (c : Context) (side : Side) (want : Format) → is_some (set_refusal c side) ≡ true → Gives (set_answer c side want) (Refused Busy) c
refused_gives c Out want e = refused_cases c _ _ e
refused_gives c Cap want e = refused_cases c _ _ e

pub set_refused : (c : Context) (side : Side) (want : Format) (reply : Reply) → reply ≡ Refused Busy → is_some (set_refusal c side) ≡ true → IsKept c → Serves (set_answer c side want) reply c c
set_refused c side want reply er e k =
    record {
      gives = rw er (refused_gives c side want e);
      step =
          record {
            kept = k;
            counted =
                λ bound n.
                record {
                  out_queued = omega (arith, n.out_queued);
                  cap_queued = omega (arith, n.cap_queued);
                  out_done = omega (arith, n.out_done);
                  cap_done = omega (arith, n.cap_done);
                  raised = omega (arith, n.raised);
                };
          };
      holds = λ hold f. f;
    }

module _ (d : Inside) (c : Context) (view : decoder_state (pair_of d.m2m.formats) d.geometry d.m2m.pair d.m2m.events d.codec.state d.job ≡ c) (inv : IsDecoder (pair_of d.m2m.formats) d.geometry d.m2m.pair d.m2m.events d.codec d.job) where
  abbrev at : EventState → Context
  at e = decoder_state (pair_of d.m2m.formats) d.geometry d.m2m.pair e d.codec.state d.job

  abbrev before : Context
  before = at d.m2m.events

  -- the queues are settled, whatever the events and the formats are

  still : (f : FormatPair) (g : Option Geometry) (e : EventState) → let x : Context = decoder_state f g d.m2m.pair e d.codec.state d.job in settle x ≡ x
  still f g e =
      settle_at f g d.codec.state d.job d.m2m.pair e (agree_here (pair_of d.m2m.formats) d.geometry d.m2m.pair d.m2m.events d.codec d.job inv)
      ∙ still_at f g d.codec.state d.job d.m2m.pair e (quiet_here (pair_of d.m2m.formats) d.geometry d.m2m.pair d.m2m.events d.codec d.job inv)

  pub event_keeps : (new : EventState) → IsPlaced (at new) → IsDecoder (pair_of d.m2m.formats) d.geometry d.m2m.pair new d.codec d.job
  event_keeps new placed =
      record {
        stands = inv.stands;
        sized = inv.sized;
        placed = placed;
        picture = inv.picture;
        fresh = inv.fresh;
        stream = inv.stream;
        begun = inv.begun;
        untouched = inv.untouched;
        blank = inv.blank;
        knows = inv.knows;
        supplied = inv.supplied;
        served = inv.served;
        lent = inv.lent;
        due = inv.due;
      }

  pub event_steps : (new : EventState) → new.next_seq ≤ d.m2m.events.next_seq + 1 → IsKept before → IsStep before (at new)
  event_steps new n k =
      record {
        kept =
            record {
              out_side = k.out_side;
              cap_side = k.cap_side;
              filled = k.filled;
              job_filled = k.job_filled;
              out_filled = k.out_filled;
              cap_filled = k.cap_filled;
              out_idle = k.out_idle;
              cap_idle = k.cap_idle;
            };
        counted =
            λ bound m.
            let n1 : d.m2m.pair.out.next_ordinal ≤ bound = m.out_queued in
            let n2 : d.m2m.pair.cap.next_ordinal ≤ bound = m.cap_queued in
            let n3 : d.m2m.pair.out.next_seq ≤ bound = m.out_done in
            let n4 : d.m2m.pair.cap.next_seq ≤ bound = m.cap_done in
            let n5 : d.m2m.events.next_seq ≤ bound = m.raised in record { out_queued = omega arith; cap_queued = omega arith; out_done = omega arith; cap_done = omega arith; raised = omega arith };
      }

  -- a new format

  module _ (side : Side) (want : Format) (free : is_some (set_refusal c side) ≡ false) (formats : FormatPair) (geometry : Option Geometry)
      (ef : formats ≡ formats_for Dec side (pair_of d.m2m.formats) want) (eg : geometry ≡ geometry_after side d.geometry) where
    abbrev set : Context
    set = decoder_state formats geometry d.m2m.pair d.m2m.events d.codec.state d.job

    no_refusal : (o : Option Errno) → is_some o ≡ false → o ≡ None
    no_refusal None e = refl
    no_refusal (Some x) e = absurd (false≢true (sym e))

    free_here : set_refusal before side ≡ None
    free_here =
        no_refusal (set_refusal before side) (ap (λ (x : Context). is_some (set_refusal x side)) view ∙ free)

    set_cases :
        (s : Side) (o : Option Errno) → o ≡ None
        → let f : FormatPair = formats_for Dec s (pair_of d.m2m.formats) want in
        let g : Option Geometry = geometry_after s d.geometry in
        let x : Context = decoder_state f g d.m2m.pair d.m2m.events d.codec.state d.job in Gives (unless before o (answered x (Fmt (format_of f s)))) (Fmt (format_of f s)) x
    set_cases s (Some e) h = absurd (cc)
    set_cases s None h =
        record { reply = refl; context = ap Some (still (formats_for Dec s (pair_of d.m2m.formats) want) (geometry_after s d.geometry) d.m2m.events) }

    set_at :
        (s : Side) → set_refusal before s ≡ None
        → let f : FormatPair = formats_for Dec s (pair_of d.m2m.formats) want in
        Gives (set_answer before s want) (Fmt (format_of f s)) (decoder_state f (geometry_after s d.geometry) d.m2m.pair d.m2m.events d.codec.state d.job)
    set_at Out h = set_cases Out (set_refusal before Out) h
    set_at Cap h = set_cases Cap (set_refusal before Cap) h

    set_gives : (reply : Reply) → reply ≡ Fmt (format_of formats side) → Gives (set_answer before side want) reply set
    set_gives reply er = rw (er, ef, eg) (set_at side free_here)

    set_placed : IsPlaced set
    unfolding context_answer
    set_placed =
        place (pair_of d.m2m.formats) d.geometry d.m2m.pair d.m2m.events d.codec d.job inv (SetFmt side want) [] true (Fmt (format_of formats side)) set (set_gives (Fmt (format_of formats side)) refl)

    no_sources : (s : Side) → set_refusal before s ≡ None → s ≡ Out → buffer_count d.m2m.pair.out ≡ 0
    no_sources Out h e = none_there (buffer_count d.m2m.pair.out) (nat_lt 0 (buffer_count d.m2m.pair.cap)) (nat_lt 0 (buffer_count d.m2m.pair.out)) refl h
      where
        none_there : (n : ℕ) (b t : Bool) → nat_lt 0 n ≡ t → refuse_if (t || b) Busy None ≡ None → n ≡ 0
        none_there n b true f g = cc
        none_there n b false f g = let m : n ≤ 0 = ltb-false 0 n f in omega arith
    no_sources Cap h e = absurd (cc)

    picture_cases : (s : Side) → (s ≡ Out → d.codec.state ≡ fresh_decoder) → IsPictureOf (geometry_after s d.geometry) d.codec.state.reference
    picture_cases Out h = subst (λ (x : DecoderState). IsPictureOf None x.reference) (sym (h refl)) tt
    picture_cases Cap h = inv.picture

    stream_at :
        (s : Side) (j : Option InJob) → (s ≡ Out → d.codec.state ≡ fresh_decoder) → IsOfStream d.m2m.formats.out.size d.geometry d.codec.state j
        → IsOfStream (formats_for Dec s (pair_of d.m2m.formats) want).out.size (geometry_after s d.geometry) d.codec.state j
    stream_at Out j f h =
        subst (λ (x : DecoderState). IsOfStream (formats_for Dec Out (pair_of d.m2m.formats) want).out.size None x j) (sym (f refl)) (begins_anew _ None j)
    stream_at Cap j f h = h

    supplied_at :
        (s : Side) (j : Option InJob) → (s ≡ Out → buffer_count d.m2m.pair.out ≡ 0)
        → IsSupplied d.m2m.formats.out.size d.m2m.pair.out d.codec.limit j
        → IsSupplied (formats_for Dec s (pair_of d.m2m.formats) want).out.size d.m2m.pair.out d.codec.limit j
    supplied_at Out None n h = λ some. let z = n refl in absurd (omega arith)
    supplied_at Cap None n h = h
    supplied_at s (Some x) n h = tt

    pub set_keeps : CanStand Dec formats → IsDecoder formats geometry d.m2m.pair d.m2m.events d.codec d.job
    set_keeps stands =
        record {
          stands = stands;
          sized = rw (ef, eg) (set_sized side d.geometry (pair_of d.m2m.formats) want inv.sized);
          placed = set_placed;
          picture = rw eg (picture_cases side (λ e. inv.fresh (no_sources side free_here e)));
          fresh = inv.fresh;
          stream = rw (ef, eg) (stream_at side d.job (λ e. inv.fresh (no_sources side free_here e)) inv.stream);
          begun = inv.begun;
          untouched = inv.untouched;
          blank = inv.blank;
          knows = inv.knows;
          supplied = rw ef (supplied_at side d.job (no_sources side free_here) inv.supplied);
          served = inv.served;
          lent = inv.lent;
          due = inv.due;
        }

    pub set_serves : (reply : Reply) → reply ≡ Fmt (format_of formats side) → IsKept c → Serves (set_answer c side want) reply c set
    set_serves reply er kept =
        let k : IsKept before = subst IsKept (sym view) kept in
        subst (λ (x : Context). Serves (set_answer x side want) reply x set) view (record {
          gives = set_gives reply er;
          step =
              record {
                kept =
                    record {
                      out_side = k.out_side;
                      cap_side = k.cap_side;
                      filled = k.filled;
                      job_filled = k.job_filled;
                      out_filled = k.out_filled;
                      cap_filled = k.cap_filled;
                      out_idle = k.out_idle;
                      cap_idle = k.cap_idle;
                    };
                counted =
                    λ bound m.
                    let n1 : d.m2m.pair.out.next_ordinal ≤ bound = m.out_queued in
                    let n2 : d.m2m.pair.cap.next_ordinal ≤ bound = m.cap_queued in
                    let n3 : d.m2m.pair.out.next_seq ≤ bound = m.out_done in
                    let n4 : d.m2m.pair.cap.next_seq ≤ bound = m.cap_done in
                    let n5 : d.m2m.events.next_seq ≤ bound = m.raised in
                    record { out_queued = omega arith; cap_queued = omega arith; out_done = omega arith; cap_done = omega arith; raised = omega arith };
              };
          holds = λ hold f. record { out = f.out; cap = f.cap };
        })
