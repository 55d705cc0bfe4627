-- The rows of a pair are those of a context whose queues, phase and mark they are. Each is shown case by case over
-- the phase.
use Rattle.std.proofs.Common.{◌≡◌, ◌&&◌, Bool, true, false, cond, List, [], ◌∷◌, refl, ap, ◌∙◌, ℕ, ◌+◌, not, Some, None, bit_or, sym}
use Rattle.std.specs.Prelude.{is_none, is_some}
use Rattle.vc_base.specs.declared.Side.TheVariants.{Out, Cap}
use Rattle.vc_base.specs.declared.Stamp.{Stamp}
use Rattle.vc_base.specs.declared.Errno.TheVariants.{Busy, Inval}
use Rattle.vc_base.specs.declared.Reply.TheVariants.{Done}
use Rattle.vc_base.specs.Buffers.{Buffer, is_empty, dqbuf_after, streamoff_after, retire_after, long_enough, refuse_if}
use Rattle.vc_base.specs.Limits.{last_flag}
use Rattle.vc_model.specs.Context.{Context, Cause, drain, change, PhaseState, run, owe, last, stopped, is_run, is_drained, settle, settle_drain, settle_last, give_last, raise_end, sizeimage}
use Rattle.vc_model.specs.Answer.{stop_at_last, after_capture_off, unchanged, refused, answered, start_is_early, mark_after_restart}
use Rattle.vc_model.specs.Phases.{is_stopped_by_drain}
use Rattle.vc_pair.specs.Pairs.{PairState, pair_at_last, pair_settled, owing, given, gives_end, last_given, IsSettled}
use Rattle.vc_pair.specs.Rows.{pair_of, with_pair, ended_if, settled_with, JobsAgree, AnswersWith, SameTaken, SameOff, SameSettled, SameCommands, SameChange, IsRunFlag, no_flag, keyframe, pframe, error, SameRetired, SameDue}
use Rattle.vc_pair.proofs.SettlesOnce.{settled_alone, settled_quiet}

at_last : (c : Context) (phase : PhaseState) (emptied : Bool) → stop_at_last c phase emptied ≡ with_pair c (pair_at_last (pair_of c) phase emptied)
at_last c run emptied = refl
at_last c (owe cause) emptied = refl
at_last c (last drain) true = refl
at_last c (last drain) false = refl
at_last c (last change) true = refl
at_last c (last change) false = refl
at_last c (stopped cause) emptied = refl

pub same_taken : SameTaken
same_taken c Out = refl
same_taken c Cap = at_last (record c { cap = dqbuf_after c.cap }) c.phase (is_empty (dqbuf_after c.cap).done)

-- a choice of the pair
chosen : (c : Context) (b : Bool) (p q : PairState) → cond b (with_pair c p) (with_pair c q) ≡ with_pair c (cond b p q)
chosen c true p q = refl
chosen c false p q = refl

off_cases : (c : Context) (b : Bool) (x y : PairState) → cond b (after_capture_off c.kind (with_pair c x)) (with_pair c y) ≡ cond b (after_capture_off c.kind (with_pair c (cond b x y))) (with_pair c (cond b x y))
off_cases c true x y = refl
off_cases c false x y = refl

pub same_off : (c : Context) → SameOff c
same_off c =
    record {
      output = refl;
      capture = off_cases c c.cap.streams (record (pair_of c) { cap = streamoff_after c.cap; mark = mark_after_restart c.phase c.mark; phase = run }) (record (pair_of c) { cap = streamoff_after c.cap });
    }

pub same_change : SameChange
same_change c = chosen c c.cap.streams (record (pair_of c) { phase = owe change }) (pair_of c)

given_pair : (c : Context) (cause : Cause) (ready : List Buffer) → give_last c cause ready ≡ ended_if (gives_end (record (pair_of c) { cap = record c.cap { ready = ready } }) (owe cause)) (with_pair c (last_given (pair_of c) cause ready))
given_pair c drain [] = refl
given_pair c change [] = refl
given_pair c drain (b ∷ rest) = refl
given_pair c change (b ∷ rest) = refl

last_pair : (c : Context) (phase : PhaseState) → settle_last c phase ≡ ended_if (gives_end (pair_of c) phase) (with_pair c (given (pair_of c) phase))
last_pair c run = refl
last_pair c (owe cause) = given_pair c cause c.cap.ready
last_pair c (last cause) = refl
last_pair c (stopped cause) = refl

drain_pair : (c : Context) → JobsAgree c → settle_drain c ≡ with_pair c (owing (pair_of c))
drain_pair c e =
    chosen c (is_run c.phase && (c.cap.streams && (is_none c.running && is_drained c.out.ready c.mark))) (record (pair_of c) { phase = owe drain }) (pair_of c)
    ∙ ap (λ b. with_pair c (cond (is_run c.phase && (c.cap.streams && (b && is_drained c.out.ready c.mark))) (record (pair_of c) { phase = owe drain }) (pair_of c))) e

pub same_settled : SameSettled
unfolding settle
same_settled c e =
    last_pair (settle_drain c) (settle_drain c).phase
    ∙ ap (λ d. ended_if (gives_end (pair_of d) d.phase) (with_pair d (given (pair_of d) d.phase))) (drain_pair c e)

-- a context that is settled
alone : (c : Context) → IsSettled (pair_of c) → settled_with c (pair_of c) ≡ c
alone c s =
    ap (λ b. ended_if b (with_pair c (pair_settled (pair_of c)))) (settled_quiet (pair_of c) s)
    ∙ ap (λ p. with_pair c p) (settled_alone (pair_of c) s)

stop_cases :
    (c : Context) (p : PairState) (b m s : Bool) → settled_with c (pair_of c) ≡ c → settle (with_pair c p) ≡ settled_with c p
    → AnswersWith (cond (not b) (unchanged c Done) (cond m (refused c Busy) (cond s (unchanged c Done) (answered (with_pair c p) Done)))) c
    (cond (not b) None (refuse_if m Busy None)) (cond (not b) (pair_of c) (cond s (pair_of c) p))
stop_cases c p false m s same new = record { reply = refl; slot = ap Some (sym same) }
stop_cases c p true true s same new = record { reply = refl; slot = ap Some (sym same) }
stop_cases c p true false true same new = record { reply = refl; slot = ap Some (sym same) }
stop_cases c p true false false same new = record { reply = refl; slot = ap Some new }

start_cases :
    (c : Context) (p : PairState) (b early short : Bool) → settled_with c (pair_of c) ≡ c → settle (with_pair c p) ≡ settled_with c p
    → AnswersWith (cond (not b) (unchanged c Done) (cond early (refused c Busy) (cond short (refused c Inval) (answered (with_pair c p) Done)))) c
    (cond (not b) None (refuse_if early Busy (refuse_if short Inval None))) (cond (not b) (pair_of c) p)
start_cases c p false early short same new = record { reply = refl; slot = ap Some (sym same) }
start_cases c p true true short same new = record { reply = refl; slot = ap Some (sym same) }
start_cases c p true false true same new = record { reply = refl; slot = ap Some (sym same) }
start_cases c p true false false same new = record { reply = refl; slot = ap Some new }

pub same_commands : (c : Context) → JobsAgree c → IsSettled (pair_of c) → SameCommands c
same_commands c e s =
    let marked : PairState = record (pair_of c) { mark = Some c.out.next_ordinal } in
    let started : PairState = record (pair_of c) { phase = run } in
    record {
      stop = stop_cases c marked (c.out.streams && c.cap.streams) (is_some c.mark) (is_stopped_by_drain c.phase) (alone c s) (same_settled (with_pair c marked) e);
      start = start_cases c started (c.out.streams && c.cap.streams) (start_is_early c.phase c.mark) (not (long_enough c.cap (sizeimage c Cap))) (alone c s) (same_settled (with_pair c started) e);
    }

-- LAST beside another flag
with_last : (flags : ℕ) → IsRunFlag flags → flags + last_flag ≡ bit_or flags last_flag
with_last flags no_flag = refl
with_last flags keyframe = refl
with_last flags pframe = refl
with_last flags error = refl

retired_cases : (c : Context) (b : Bool) (p q : PairState) → cond b (raise_end drain (with_pair c p)) (with_pair c q) ≡ ended_if b (with_pair c (cond b p q))
retired_cases c true p q = refl
retired_cases c false p q = refl

plain_case : (c : Context) (b : Bool) (p q : PairState) → b ≡ false → with_pair c q ≡ with_pair c (cond b p q)
plain_case c true p q e = absurd cc
plain_case c false p q e = refl

pub same_retired : (c : Context) (b : Buffer) (rest : List Buffer) (used : ℕ) (bytes : List ℕ) (flags : ℕ) (stamp : Stamp) → IsRunFlag flags → SameRetired c b rest used bytes flags stamp
same_retired c b rest used bytes flags stamp f =
    let final : ℕ → PairState = λ g. record (pair_of c) { cap = retire_after c.cap used bytes g stamp; phase = last drain } in
    let plain : PairState = record (pair_of c) { cap = retire_after c.cap used bytes flags stamp } in
    record {
      with_source = retired_cases c (is_drained c.out.ready c.mark) (final (flags + last_flag)) plain
          ∙ ap (λ g. ended_if (is_drained c.out.ready c.mark) (with_pair c (cond (is_drained c.out.ready c.mark) (final g) plain))) (with_last flags f);
      alone = λ e. plain_case c (is_drained c.out.ready c.mark) (final (bit_or flags last_flag)) plain e;
    }

pub same_due : SameDue
same_due [] mark = refl
same_due (b ∷ rest) None = refl
same_due (b ∷ rest) (Some mark) = refl
