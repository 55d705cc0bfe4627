-- Lines that are carried out one after another print a text of the script: each line prints its own text at the device that those
-- before it left, so the texts joined are one of the whole.
use Rattle.std.proofs.Common.{ℕ, ◌≡◌, List, [], ◌∷◌, ◌++◌, length, drop, refl, sym, ap, ◌∙◌, subst, append_assoc}
use Rattle.std.proofs.lemmas.List.{append-nil}
use Rattle.vc_base.specs.Device.{DeviceEvent}
use Rattle.vc_model.specs.Coder.{Coder, the_coder}
use Rattle.vc_model.specs.Devices.{DeviceState, new_device, device_step, device_after}
use Rattle.vc_model.specs.Script.{Asked, line_events, line_text, lines_printed, first_lines, printed_by, script_events, script_text, Prints, events_of_script}
use Rattle.vc_script.specs.Texts.{reply_text}
use Rattle.vc_desk.specs.Does.{LineDoes}

-- the lines were carried out from one state of the device, with this output and these events
abbrev pub Carried : DeviceState → List Asked → List ℕ → List DeviceEvent → Type 0
Carried d [] output events = (output ≡ []) × (events ≡ [])
Carried d (asked ∷ rest) output events =
    (text : List ℕ) × (mine : List DeviceEvent) × (more : List ℕ) × (others : List DeviceEvent) × LineDoes d asked text mine × Carried (device_after the_coder d mine) rest more others × (output ≡ text ++ more) × (events ≡ mine ++ others)

pub after-both : (coder : Coder) (d : DeviceState) (es fs : List DeviceEvent) → device_after coder d (es ++ fs) ≡ device_after coder (device_after coder d es) fs
after-both coder d [] fs = refl
after-both coder d (e ∷ es) fs = after-both coder (device_step coder d e).device es fs

-- one line more
pub carried_more :
    (d : DeviceState) (ls : List Asked) (asked : Asked) (output text : List ℕ) (events mine : List DeviceEvent) → Carried d ls output events
    → LineDoes (device_after the_coder d events) asked text mine → Carried d (ls ++ asked ∷ []) (output ++ text) (events ++ mine)
carried_more d [] asked output text events mine c l = (
  text,
  mine,
  [],
  [],
  subst (λ es. LineDoes (device_after the_coder d es) asked text mine) c.1 l,
  (refl, refl),
  ap (λ o. o ++ text) c.0 ∙ sym (append-nil text),
  ap (λ es. es ++ mine) c.1 ∙ sym (append-nil mine),
)
carried_more d (first ∷ ls) asked output text events mine c l = (
  c.0,
  c.1,
  c.2 ++ text,
  c.3 ++ mine,
  c.4,
  carried_more (device_after the_coder d c.1) ls asked c.2 text c.3 mine c.5 (subst (λ s. LineDoes s asked text mine) (ap (device_after the_coder d) c.7 ∙ after-both the_coder d c.1 c.3) l),
  ap (λ o. o ++ text) c.6 ∙ append_assoc c.0 c.2 text,
  ap (λ es. es ++ mine) c.7 ∙ append_assoc c.1 c.3 mine,
)

drop_front : (xs ys : List ℕ) → drop (length xs) (xs ++ ys) ≡ ys
drop_front [] ys = refl
drop_front (x ∷ xs) ys = drop_front xs ys

-- what is read off the output of a line
record ReadOff (d : DeviceState) (ls : List Asked) (whole output : List ℕ) (events : List DeviceEvent) : Type 0 where
  pub text : script_text reply_text the_coder d ls whole ≡ output
  pub events_read : script_events reply_text the_coder d ls whole ≡ events

abbrev text_with : DeviceState → Asked → List Asked → List ℕ → List ℕ → List DeviceEvent → List ℕ
text_with d asked rest whole text events =
    line_text reply_text the_coder d asked events ++ script_text reply_text the_coder (device_after the_coder d events) rest (drop (length text) whole)

abbrev events_with : DeviceState → List Asked → List ℕ → List ℕ → List DeviceEvent → List DeviceEvent
events_with d rest whole text events =
    events ++ script_events reply_text the_coder (device_after the_coder d events) rest (drop (length text) whole)

read_off : (d : DeviceState) (ls : List Asked) (output more : List ℕ) (events : List DeviceEvent) → Carried d ls output events → ReadOff d ls (output ++ more) output events
read_off d [] output more events c = record { text = sym c.0; events_read = sym c.1 }
read_off d (asked ∷ rest) output more events c =
    let text = c.0 in
    let mine = c.1 in
    let out = c.2 in
    let others = c.3 in
    let whole = output ++ more in
    let there : whole ≡ text ++ (out ++ more) = ap (λ o. o ++ more) c.6 ∙ append_assoc text out more in
    let cut : printed_by d asked whole ≡ text = ap (λ o. first_lines o (lines_printed d asked)) there ∙ c.4.whole (out ++ more) in
    let left : drop (length text) whole ≡ out ++ more = ap (drop (length text)) there ∙ drop_front text (out ++ more) in
    let after = device_after the_coder d mine in
    let ih = read_off after rest out more others c.5 in
    record {
      text =
          ap (λ t. text_with d asked rest whole t (line_events reply_text d asked t)) cut
          ∙ (ap (text_with d asked rest whole text) c.4.events_read
          ∙ (ap (λ o. line_text reply_text the_coder d asked mine ++ script_text reply_text the_coder after rest o) left
          ∙ (ap (λ o. line_text reply_text the_coder d asked mine ++ o) ih.text ∙ (ap (λ o. o ++ out) (sym c.4.told) ∙ sym c.6))));
      events_read =
          ap (λ t. events_with d rest whole t (line_events reply_text d asked t)) cut
          ∙ (ap (events_with d rest whole text) c.4.events_read ∙ (ap (λ o. mine ++ script_events reply_text the_coder after rest o) left ∙ (ap (λ o. mine ++ o) ih.events_read ∙ sym c.7)));
    }

pub carried_prints : (n : ℕ) (ls : List Asked) (output : List ℕ) (events : List DeviceEvent) → Carried (new_device n) ls output events → Prints reply_text the_coder n ls output
carried_prints n ls output events c =
    sym (subst (λ o. script_text reply_text the_coder (new_device n) ls o ≡ output) (append-nil output) (read_off (new_device n) ls output [] events c).text)

pub carried_events : (n : ℕ) (ls : List Asked) (output : List ℕ) (events : List DeviceEvent) → Carried (new_device n) ls output events → events_of_script reply_text the_coder n ls output ≡ events
carried_events n ls output events c =
    subst (λ o. script_events reply_text the_coder (new_device n) ls o ≡ events) (append-nil output) (read_off (new_device n) ls output [] events c).events_read
