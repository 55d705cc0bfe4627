-- A context that has the parts settles as they do. So a call that does something to the queues and settles leaves the
-- context with the settled parts, and one that is refused leaves them as they were, since they are settled already.
use Rattle.std.proofs.Common.{◌≡◌, Bool, true, false, ◌&&◌, Option, Some, None, Result, refl, sym, ap, ◌∙◌, subst}
use Rattle.std.specs.Prelude.{is_none}
use Rattle.vc_base.specs.declared.Errno.{Errno}
use Rattle.vc_base.specs.declared.Reply.{Reply}
use Rattle.vc_base.specs.Buffers.{is_empty}
use Rattle.vc_base.specs.Events.{EventState}
use Rattle.vc_model.specs.Formats.{FormatPair}
use Rattle.vc_model.specs.Context.{Context, settle}
use Rattle.vc_model.specs.Answer.{unless, answered}
use Rattle.vc_queue.specs.Answers.{answer_of, after_of}
use Rattle.vc_pair.specs.Pairs.{PairState, pair_settled, raises_end, IsSettled}
use Rattle.vc_pair.specs.Rows.{with_pair, ended_if, JobsAgree}
use Rattle.vc_pair.proofs.PairRowsAreContextRows.{same_settled}
use Rattle.vc_pair.proofs.SettlesOnce.{settled_alone, settled_quiet}
use Rattle.vc_context.specs.Contexts.{Gives, told_of}
use Rattle.vc_m2m.specs.Settling.{end_raised, events_settled}

-- the context with these formats, queues and events
abbrev pub with : Context → FormatPair → PairState → EventState → Context
with c f p e =
    record c { formats = f; out = p.out; cap = p.cap; phase = p.phase; mark = p.mark; events = e }

module _ (c : Context) (f : FormatPair) where
  abbrev at : PairState → EventState → Context
  at p e = with c f p e

  pub ended_at : (p q : PairState) (e : EventState) (b : Bool) → ended_if b (with_pair (at p e) q) ≡ at q (end_raised b e)
  ended_at p q e true = refl
  ended_at p q e false = refl

  pub settle_at : (p : PairState) (e : EventState) → JobsAgree (at p e) → settle (at p e) ≡ at (pair_settled p) (events_settled p e)
  settle_at p e j = same_settled (at p e) j ∙ ended_at p (pair_settled p) e (raises_end p)

  pub still_at : (p : PairState) (e : EventState) → IsSettled p → at (pair_settled p) (events_settled p e) ≡ at p e
  still_at p e s =
      ap (λ q. at q (events_settled p e)) (settled_alone p s) ∙ ap (λ b. at p (end_raised b e)) (settled_quiet p s)

  pub same_jobs : (p q : PairState) (e i : EventState) → q.out.job ≡ p.out.job → q.cap.job ≡ p.cap.job → JobsAgree (at p e) → JobsAgree (at q i)
  same_jobs p q e i eo ec j =
      j ∙ (ap (λ l. is_empty l && is_empty p.cap.job) (sym eo) ∙ ap (λ l. is_empty q.out.job && is_empty l) (sym ec))

  called_cases :
      {A : Type 0} (tell : A → Reply) (value : A) (o : Option Errno) (p q : PairState) (e : EventState) → IsSettled p → JobsAgree (at q e)
      → Gives (unless (at p e) o (answered (at q e) (tell value))) (told_of tell (answer_of o value)) (at (pair_settled (after_of o p q)) (events_settled (after_of o p q) e))
  called_cases tell value (Some x) p q e s j = record { reply = refl; context = ap Some (sym (still_at p e s)) }
  called_cases tell value None p q e s j = record { reply = refl; context = ap Some (settle_at q e j) }

  -- the answer of a call that is refused, or does something to the queues and settles
  pub called :
      {A : Type 0} (tell : A → Reply) (value : A) (o : Option Errno) (p q mid : PairState) (e : EventState) (result : Result A Errno) (reply : Reply)
      → IsSettled p → JobsAgree (at q e) → result ≡ answer_of o value → mid ≡ after_of o p q → reply ≡ told_of tell result
      → Gives (unless (at p e) o (answered (at q e) (tell value))) reply (at (pair_settled mid) (events_settled mid e))
  called tell value o p q mid e result reply s j er em et =
      rw (et, er, em) (called_cases tell value o p q e s j)

  noted_cases :
      (o : Option Errno) (p : PairState) (e new : EventState) (reply : Reply) → IsSettled p → JobsAgree (at p new)
      → Gives (unless (at p e) o (answered (at p new) reply)) (told_of {A = Unit {0}} (λ _. reply) (answer_of o tt)) (at p (after_of o e new))
  noted_cases (Some x) p e new reply s j = record { reply = refl; context = refl }
  noted_cases None p e new reply s j = record { reply = refl; context = ap Some (settle_at p new j ∙ still_at p new s) }

  -- the answer of a call that is refused, or does something to the events alone
  pub noted :
      (o : Option Errno) (p : PairState) (e new : EventState) (done : Reply) (result : Result (Unit {0}) Errno) (reply : Reply) → IsSettled p
      → JobsAgree (at p new) → result ≡ answer_of o tt → reply ≡ told_of (λ _. done) result
      → Gives (unless (at p e) o (answered (at p new) done)) reply (at p (after_of o e new))
  noted o p e new done result reply s j er et = rw (et, er) (noted_cases o p e new done s j)
