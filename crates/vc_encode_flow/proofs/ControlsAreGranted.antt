-- An encoder never refuses a value that is in the range of its control.
use Rattle.std.proofs.Common.{ℕ, ◌≡◌, Some, None, List, [], ◌++◌, sym, ap, ◌∙◌, inl}
use Rattle.std.specs.Prelude.{Option}
use Rattle.vc_base.specs.declared.Kind.{Kind}
use Rattle.vc_base.specs.declared.Call.TheVariants.{SetCtrl}
use Rattle.vc_base.specs.declared.Reply.TheVariants.{Done}
use Rattle.vc_defs.specs.Encoder.{RunRates}
use Rattle.vc_model.specs.Coder.{the_coder}
use Rattle.vc_model.specs.Context.{Slot}
use Rattle.vc_model.specs.Answer.{answer, context_answer, with_control, control_answer}
use Rattle.vc_model.specs.Solo.{SoloEvent, Called, Answered, solo_step}
use Rattle.vc_queue.specs.Holds.{HoldState}
use Rattle.vc_flow.specs.Calls.{IsGranted}
use Rattle.vc_encode_flow.specs.Flows.{HasNewFlow, IsSettable}
use Rattle.vc_encode_flow.proofs.OneEventMore.{jobs_flow}

pub control_granted : (old : List SoloEvent) (before : HoldState) (id value : ℕ) → HasNewFlow old → IsSettable id value → IsGranted old before (SetCtrl id value)
unfolding solo_step answer context_answer
control_granted old before id value w s told new after c =
    let x = jobs_flow w.start w.so_far old c.jobs c.of_jobs w.flow in
    let y = x.context in
    let e : SoloEvent = Called (SetCtrl id value) [] c.found in
    let same : Answered (answer (Some y) (SetCtrl id value) [] c.found).reply (answer (Some y) (SetCtrl id value) [] c.found).bytes ≡ Answered told c.handed = ap (λ (t : Slot). (solo_step the_coder t e).told) (sym x.stands) ∙ c.reply in
    let reply : (answer (Some y) (SetCtrl id value) [] c.found).reply ≡ told = cc in
    let set = s y.rates in
    let is : with_control y.kind y.rates id value ≡ Some set.0 = ap (λ (k : Kind). with_control k y.rates id value) x.encodes.kind ∙ set.1 in
    inl (sym reply ∙ ap (λ (o : Option RunRates). (control_answer y o).reply) is)
