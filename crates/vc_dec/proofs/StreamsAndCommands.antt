-- What StreamOn, STOP and START make of the two queues: they set a mark, a phase or that the queue streams, and move
-- no buffer. A mark that is set now is behind every buffer that was queued.
use Rattle.std.proofs.Common.{ℕ, ◌≡◌, Bool, true, false, not, cond, Option, Some, [], refl, arith, ◌≤◌, ◌+◌, lt-ltb, List, ◌∷◌, ◌++◌}
use Rattle.vc_base.specs.declared.Side.{Side}
use Rattle.vc_base.specs.declared.Side.TheVariants.{Out, Cap}
use Rattle.vc_base.specs.declared.Call.TheVariants.{StreamOn}
use Rattle.vc_base.specs.Buffers.{Buffer, streamon_after}
use Rattle.vc_model.specs.Context.{run}
use Rattle.vc_model.specs.Phases.{is_stopped_by_drain}
use Rattle.vc_model.specs.Sound.{CountsUp, CountsUpToNext}
use Rattle.vc_pair.specs.Pairs.{PairState, queue_at, with_queue_at, both_streaming, pair_marked, pair_started, is_due}
use Rattle.vc_dec.proofs.QueuesThroughCalls.{on_calls}
use Rattle.vc_dec.proofs.KeptThroughCalls.{Turns, turns_out, turns_cap, still, IsSourceDue}

pub on_turns : (p : PairState) (side : Side) → Turns p (with_queue_at p side (streamon_after (queue_at p side)))
on_turns p Out = turns_out p (streamon_after p.out) (on_calls p.out) (λ h. h)
on_turns p Cap = turns_cap p (streamon_after p.cap) (on_calls p.cap)

-- STOP and START leave the queues

marked_out : (p q : PairState) (a b : Bool) → q.out ≡ p.out → (cond a p (cond b p q)).out ≡ p.out
marked_out p q true b e = refl
marked_out p q false true e = refl
marked_out p q false false e = e

marked_cap : (p q : PairState) (a b : Bool) → q.cap ≡ p.cap → (cond a p (cond b p q)).cap ≡ p.cap
marked_cap p q true b e = refl
marked_cap p q false true e = refl
marked_cap p q false false e = e

-- every buffer that was queued is before a mark that is set now

job_below : (bs : List Buffer) (rest : List Buffer) (mark : Option ℕ) (first next : ℕ) → CountsUp (bs ++ rest) first next → is_due bs mark ≡ true → is_due bs (Some next) ≡ true
job_below [] rest mark first next c h = h
job_below (b ∷ bs) rest mark first next c h =
    let l = up_to (bs ++ rest) (first + 1) next c.1 in
    let same : b.ordinal ≡ first = c.0 in
    lt-ltb b.ordinal next (omega (arith, l, same))
  where
    up_to : (xs : List Buffer) (from to : ℕ) → CountsUp xs from to → from ≤ to
    up_to [] from to u = omega (arith, u)
    up_to (x ∷ xs) from to u = let l = up_to xs (from + 1) to u.1 in omega (arith, l)

marked_due : (p : PairState) (a b : Bool) → CountsUpToNext p.out → IsSourceDue p → IsSourceDue (cond a p (cond b p (record p { mark = Some p.out.next_ordinal })))
marked_due p true b u h = h
marked_due p false true u h = h
marked_due p false false u h = job_below p.out.job p.out.ready p.mark u.first p.out.next_ordinal u.counts h

started_due : (p : PairState) (a : Bool) → IsSourceDue p → IsSourceDue (cond a p (record p { phase = run }))
started_due p true h = h
started_due p false h = h

pub marked_turns : (p : PairState) → CountsUpToNext p.out → Turns p (pair_marked p)
marked_turns p u =
    still p (pair_marked p) (marked_out p (record p { mark = Some p.out.next_ordinal }) (not (both_streaming p)) (is_stopped_by_drain p.phase) refl)
    (marked_cap p (record p { mark = Some p.out.next_ordinal }) (not (both_streaming p)) (is_stopped_by_drain p.phase) refl)
    (marked_due p (not (both_streaming p)) (is_stopped_by_drain p.phase) u)

pub started_turns : (p : PairState) → Turns p (pair_started p)
started_turns p =
    still p (pair_started p) (marked_out p (record p { phase = run }) (not (both_streaming p)) false refl) (marked_cap p (record p { phase = run }) (not (both_streaming p)) false refl) (started_due p (not (both_streaming p)))
