use Rattle.std.proofs.Common.{◌≡◌, ◌∷◌, [], ◌++◌, ap, sym, ◌∙◌, append_assoc}
use Rattle.std.proofs.lemmas.List.{append-nil}
use Rattle.vc_model.specs.Messages.{number_bytes, wide_bytes}
use Rattle.vc_wire.proofs.PiecesAreAppended.{appended}
use Rattle.vc_wire.proofs.replies.put_taken.Goals as goal

pub returns : goal.returns
returns c =
    let old = c.args.out.now.items in
    let one = c.put_three.new.out.items in
    let two = c.put_wide.new.out.items in
    let end = c.put_wide-2.new.out.items in
    let i = number_bytes c.args.index in
    let u = number_bytes c.args.used in
    let f = number_bytes c.args.flags in
    let q = wide_bytes c.args.seq in
    let s = wide_bytes c.args.stamp.0 in
    let all = appended old one end (5 ∷ (i ++ (u ++ f))) (q ++ s) c.in_ok-put_three.ensures (appended one two end q s c.in_ok-put_wide.ensures c.in_ok-put_wide-2.ensures) in
    let ends : q ++ s ≡ q ++ (s ++ []) = ap (λ l. q ++ l) (sym (append-nil s)) in
    let joined : (5 ∷ (i ++ (u ++ f))) ++ (q ++ s) ≡ 5 ∷ (i ++ (u ++ (f ++ (q ++ (s ++ []))))) =
    ap (λ l. 5 ∷ l) (append_assoc i (u ++ f) (q ++ s) ∙ ap (λ l. i ++ l) (append_assoc u f (q ++ s) ∙ ap (λ l. u ++ (f ++ l)) ends)) in
    all ∙ ap (λ l. old ++ l) joined
