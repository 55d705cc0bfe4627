-- A call that is none of those that each kind answers on its own is one that every kind answers alike; and what each of
-- these says of the whole context, where it leaves the parts or asks for the kind.
use Rattle.std.proofs.Common.{ℕ, ◌≡◌, Bool, true, false, cond, Option, Some, None, List, refl, sym, ap, ◌∙◌, subst}
use Rattle.std.specs.Prelude.{not, if◌then◌else◌, ◌==◌}
use Rattle.std.proofs.lemmas.Bool.{false≢true}
use Rattle.vc_base.specs.declared.Kind.{Kind}
use Rattle.vc_base.specs.declared.Side.{Side}
use Rattle.vc_base.specs.declared.Side.TheVariants.{Out, Cap}
use Rattle.vc_base.specs.declared.Errno.{Errno}
use Rattle.vc_base.specs.declared.Errno.TheVariants.{NoTty}
use Rattle.vc_base.specs.declared.Reply.{Reply}
use Rattle.vc_base.specs.declared.Format.{Format}
use Rattle.vc_base.specs.declared.Call.{Call}
use Rattle.vc_base.specs.declared.Call.TheVariants.{Close, DecCmd, EncCmd, SetFmt, ReqBufs, CreateBufs, StreamOff, GetCtrl, SetCtrl}
use Rattle.vc_model.specs.Context.{Context, is_dec, is_enc, run}
use Rattle.vc_model.specs.Answer.{Answer, context_answer, command_answer, refused}
use Rattle.vc_model.specs.Phases.{is_stopped_by_drain}
use Rattle.vc_queue.specs.Answers.{after_of}
use Rattle.vc_queue.specs.Holds.{HoldState}
use Rattle.vc_pair.specs.Pairs.{PairState, FitsBoth, pair_settled, both_streaming, pair_marked, pair_started, stop_refusal, start_refusal}
use Rattle.vc_pair.proofs.SettlingKeepsTheHold.{fits_settled}
use Rattle.vc_context.specs.Contexts.{Gives, is_close}
use Rattle.vc_m2m.specs.declared.M2mContext.{M2mContext}
use Rattle.vc_m2m.specs.Parts.{ArePartsOf, with_parts}
use Rattle.vc_m2m.specs.Calls.{is_common, on_refusal, pair_on, settled_unless, after_command, after_known}

pub left_over :
    (request : Call)
    → is_close request ≡ false
    → ((side : Side) (want : Format) → request ≡ SetFmt side want → ⊥)
    → ((side : Side) (count : ℕ) → request ≡ ReqBufs side count → ⊥)
    → ((side : Side) (count length : ℕ) → request ≡ CreateBufs side count length → ⊥)
    → ((side : Side) → request ≡ StreamOff side → ⊥)
    → ((id : ℕ) → request ≡ GetCtrl id → ⊥)
    → ((id value : ℕ) → request ≡ SetCtrl id value → ⊥)
    → is_common request ≡ true
left_over Close c s r b o g t = absurd (false≢true (sym c))
left_over (SetFmt side want) c s r b o g t = absurd (s side want refl)
left_over (ReqBufs side count) c s r b o g t = absurd (r side count refl)
left_over (CreateBufs side count length) c s r b o g t = absurd (b side count length refl)
left_over (StreamOff side) c s r b o g t = absurd (o side refl)
left_over (GetCtrl id) c s r b o g t = absurd (g id refl)
left_over (SetCtrl id value) c s r b o g t = absurd (t id value refl)
left_over request c s r b o g t = refl

-- the context is as it was where its parts are
pub unmoved : (c : Context) (m : M2mContext) → ArePartsOf c m → (a : Answer) (reply : Reply) → Gives a reply c → Gives a reply (with_parts c m)
unmoved c m h a reply g = subst (λ (x : Context). Gives a reply x) (sym h.parts) g

pub dec_gives :
    (c : Context) (kind : Kind) (cmd : ℕ) (bytes : List ℕ) (known : Bool) (reply : Reply) (after : Context) → c.kind ≡ kind → known ≡ is_dec kind
    → Gives (if known then command_answer c cmd else refused c NoTty) reply after → Gives (context_answer c (DecCmd cmd) bytes true) reply after
unfolding context_answer
dec_gives c kind cmd bytes known reply after ek e g =
    subst (λ (b : Bool). Gives (if b then command_answer c cmd else refused c NoTty) reply after) (e ∙ ap is_dec (sym ek)) g

pub enc_gives :
    (c : Context) (kind : Kind) (cmd : ℕ) (bytes : List ℕ) (known : Bool) (reply : Reply) (after : Context) → c.kind ≡ kind → known ≡ is_enc kind
    → Gives (if known then command_answer c cmd else refused c NoTty) reply after → Gives (context_answer c (EncCmd cmd) bytes true) reply after
unfolding context_answer
enc_gives c kind cmd bytes known reply after ek e g =
    subst (λ (b : Bool). Gives (if b then command_answer c cmd else refused c NoTty) reply after) (e ∙ ap is_enc (sym ek)) g

-- the payloads of the user go on fitting

fits_unless : (o : Option Errno) (p q : PairState) (hold : HoldState) → FitsBoth q hold → FitsBoth p hold → FitsBoth (pair_settled (after_of o p q)) hold
fits_unless (Some e) p q hold g f = fits_settled p hold f
fits_unless None p q hold g f = fits_settled q hold g

pub on_fits : (m : M2mContext) (side : Side) (hold : HoldState) → FitsBoth m.pair hold → FitsBoth (settled_unless (on_refusal m side) m (pair_on m.pair side)).pair hold
on_fits m Out hold f = fits_unless (on_refusal m Out) m.pair (pair_on m.pair Out) hold f f
on_fits m Cap hold f = fits_unless (on_refusal m Cap) m.pair (pair_on m.pair Cap) hold f f

either : (p q : PairState) (a b : Bool) (hold : HoldState) → FitsBoth p hold → FitsBoth q hold → FitsBoth (cond a p (cond b p q)) hold
either p q true b hold f g = f
either p q false true hold f g = f
either p q false false hold f g = g

command_fits :
    (m : M2mContext) (a b : Bool) (hold : HoldState) → FitsBoth m.pair hold
    → FitsBoth (cond a (settled_unless (start_refusal m.pair m.formats.cap.size) m (pair_started m.pair)) (cond b (settled_unless (stop_refusal m.pair) m (pair_marked m.pair)) m)).pair hold
command_fits m true b hold f =
    fits_unless (start_refusal m.pair m.formats.cap.size) m.pair (pair_started m.pair) hold (either m.pair (record m.pair { phase = run }) (not (both_streaming m.pair)) false hold f f) f
command_fits m false true hold f =
    fits_unless (stop_refusal m.pair) m.pair (pair_marked m.pair) hold (either m.pair (record m.pair { mark = Some m.pair.out.next_ordinal }) (not (both_streaming m.pair)) (is_stopped_by_drain m.pair.phase) hold f f) f
command_fits m false false hold f = f

pub known_fits : (known : Bool) (m : M2mContext) (cmd : ℕ) (hold : HoldState) → FitsBoth m.pair hold → FitsBoth (after_known known m cmd).pair hold
known_fits true m cmd hold f = command_fits m (cmd == 0) (cmd == 1) hold f
known_fits false m cmd hold f = f
