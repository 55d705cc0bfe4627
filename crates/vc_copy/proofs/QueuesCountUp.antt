-- What a call makes of the queues of a copying context: they stay kept, and their numbers rise by one at most. Each
-- call is one of one queue, and the other one stays.
use Rattle.std.proofs.Common.{ℕ, ◌≡◌, List, Option, None, refl, sym, ◌∙◌, subst, arith}
use Rattle.vc_base.specs.declared.Side.{Side}
use Rattle.vc_base.specs.declared.Errno.{Errno}
use Rattle.vc_base.specs.declared.Stamp.{Stamp}
use Rattle.vc_base.specs.Buffers.{Buffer, QueueState, reqbufs_after, create_after, qbuf_refusal, qbuf_after, with_index, held_refusal, dqbuf_after, streamon_after, streamoff_after}
use Rattle.std.specs.Prelude.{Bool}
use Rattle.vc_model.specs.Context.{Context}
use Rattle.vc_queue.specs.Answers.{after_of}
use Rattle.vc_context.specs.Contexts.{AreFilled, IsKept, IsStep}
use Rattle.vc_context.proofs.QueuesCountUp.{Goes, goes_after, queued_goes, taken_goes, taken_ready, new_goes, more_goes, on_goes, off_goes, queued_filled, filled_after}
use Rattle.vc_copy.specs.Copying.{copier_state}

-- the context after a call on one queue

pub step_out : (size : ℕ) (out cap new : QueueState) (running : Bool) (c : Context) → copier_state size out cap running ≡ c → IsKept c → Goes out new → AreFilled new.ready → IsStep c (copier_state size new cap running)
step_out size out cap new running c view =
    subst (λ (x : Context). IsKept x → Goes out new → AreFilled new.ready → IsStep x (copier_state size new cap running)) view (λ k g f. record {
      kept =
          record {
            out_side = g.side ∙ k.out_side;
            cap_side = k.cap_side;
            filled = f;
            job_filled = g.job k.job_filled;
            out_filled = g.done k.out_filled;
            cap_filled = k.cap_filled;
            out_idle = λ e. g.idle (k.out_idle e);
            cap_idle = k.cap_idle;
          };
      counted =
          λ bound n.
          record {
            out_queued = omega (arith, g.queued, n.out_queued);
            cap_queued = omega (arith, n.cap_queued);
            out_done = omega (arith, g.retired, n.out_done);
            cap_done = omega (arith, n.cap_done);
            raised = omega (arith, n.raised);
          };
    })

pub step_cap : (size : ℕ) (out cap new : QueueState) (running : Bool) (c : Context) → copier_state size out cap running ≡ c → IsKept c → Goes cap new → IsStep c (copier_state size out new running)
step_cap size out cap new running c view =
    subst (λ (x : Context). IsKept x → Goes cap new → IsStep x (copier_state size out new running)) view (λ k g. record {
      kept =
          record {
            out_side = k.out_side;
            cap_side = g.side ∙ k.cap_side;
            filled = k.filled;
            job_filled = k.job_filled;
            out_filled = k.out_filled;
            cap_filled = g.done k.cap_filled;
            out_idle = k.out_idle;
            cap_idle = λ e. g.idle (k.cap_idle e);
          };
      counted =
          λ bound n.
          record {
            out_queued = omega (arith, n.out_queued);
            cap_queued = omega (arith, g.queued, n.cap_queued);
            out_done = omega (arith, n.out_done);
            cap_done = omega (arith, g.retired, n.cap_done);
            raised = omega (arith, n.raised);
          };
    })

-- what a call makes of one queue, by its contract

pub reqbufs_goes : (q : QueueState) (o : Option Errno) (count size : ℕ) (new : QueueState) → new ≡ after_of o q (reqbufs_after q count size) → Goes q new
reqbufs_goes q o count size new e =
    subst (λ (x : QueueState). Goes q x) (sym e) (goes_after o q (reqbufs_after q count size) (new_goes q count size))

pub create_goes : (q : QueueState) (o : Option Errno) (count length : ℕ) (new : QueueState) → new ≡ after_of o q (create_after q count length) → Goes q new
create_goes q o count length new e =
    subst (λ (x : QueueState). Goes q x) (sym e) (goes_after o q (create_after q count length) (more_goes q count length))

pub qbuf_goes : (q : QueueState) (o : Option Errno) (index used : ℕ) (stamp : Stamp) (bytes : List ℕ) (new : QueueState) → new ≡ after_of o q (qbuf_after q index used stamp bytes) → Goes q new
qbuf_goes q o index used stamp bytes new e =
    subst (λ (x : QueueState). Goes q x) (sym e) (goes_after o q (qbuf_after q index used stamp bytes) (queued_goes q index (with_index index q.held) used stamp bytes))

pub dqbuf_goes : (q : QueueState) (o : Option Errno) (new : QueueState) → new ≡ after_of o q (dqbuf_after q) → Goes q new
dqbuf_goes q o new e =
    subst (λ (x : QueueState). Goes q x) (sym e) (goes_after o q (dqbuf_after q) (taken_goes q q.done refl))

pub streamon_goes : (q : QueueState) (o : Option Errno) (new : QueueState) → new ≡ after_of o q (streamon_after q) → Goes q new
streamon_goes q o new e =
    subst (λ (x : QueueState). Goes q x) (sym e) (goes_after o q (streamon_after q) (on_goes q))

pub streamoff_goes : (q new : QueueState) → new ≡ streamoff_after q → Goes q new
streamoff_goes q new e = subst (λ (x : QueueState). Goes q x) (sym e) (off_goes q)

module _ (size : ℕ) (out cap : QueueState) (running : Bool) (c : Context) (view : copier_state size out cap running ≡ c) (k : IsKept c) where
  here : IsKept (copier_state size out cap running)
  here = subst (λ (x : Context). IsKept x) (sym view) k

  pub reqbufs_step : (o : Option Errno) (count : ℕ) (new : QueueState) → new ≡ after_of o out (reqbufs_after out count size) → IsStep c (copier_state size new cap running)
  reqbufs_step o count new e =
      step_out size out cap new running c view k (reqbufs_goes out o count size new e) (rw e (filled_after o out (reqbufs_after out count size) here.filled (λ _. refl)))

  pub create_step : (o : Option Errno) (count length : ℕ) (new : QueueState) → new ≡ after_of o out (create_after out count length) → IsStep c (copier_state size new cap running)
  create_step o count length new e =
      step_out size out cap new running c view k (create_goes out o count length new e) (rw e (filled_after o out (create_after out count length) here.filled (λ _. here.filled)))

  pub qbuf_step : (index used least : ℕ) (stamp : Stamp) (bytes : List ℕ) (new : QueueState) → new ≡ after_of (qbuf_refusal out index used least) out (qbuf_after out index used stamp bytes) → IsStep c (copier_state size new cap running)
  qbuf_step index used least stamp bytes new e =
      let r : QueueState = qbuf_after out index used stamp bytes in
      let f : Option Buffer = with_index index out.held in
      let o : Option Errno = qbuf_refusal out index used least in
      let fine : o ≡ None → AreFilled r.ready = λ h. queued_filled out index f used least stamp bytes here.out_side (subst (λ (s : Side). held_refusal s f used least ≡ None) here.out_side h) here.filled in
      step_out size out cap new running c view k (qbuf_goes out o index used stamp bytes new e) (rw e (filled_after o out r here.filled fine))

  pub dqbuf_step : (o : Option Errno) (new : QueueState) → new ≡ after_of o out (dqbuf_after out) → IsStep c (copier_state size new cap running)
  dqbuf_step o new e =
      step_out size out cap new running c view k (dqbuf_goes out o new e) (rw e (filled_after o out (dqbuf_after out) here.filled (λ _. subst AreFilled (sym (taken_ready out out.done)) here.filled)))

  pub streamon_step : (o : Option Errno) (new : QueueState) → new ≡ after_of o out (streamon_after out) → IsStep c (copier_state size new cap running)
  streamon_step o new e =
      step_out size out cap new running c view k (streamon_goes out o new e) (rw e (filled_after o out (streamon_after out) here.filled (λ _. here.filled)))

  pub streamoff_step : (new : QueueState) → new ≡ streamoff_after out → IsStep c (copier_state size new cap running)
  streamoff_step new e =
      step_out size out cap new running c view k (streamoff_goes out new e) (rw e refl)

  pub cap_step : (new : QueueState) → Goes cap new → IsStep c (copier_state size out new running)
  cap_step new g = step_cap size out cap new running c view k g
