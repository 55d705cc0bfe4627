use Rattle.std.proofs.Common.{◌+◌, [], ◌∷◌, codes, sym, ap, ◌∙◌}
use Rattle.vc_wire.proofs.WordsHavePlaces.{past}
use Rattle.vc_wire.proofs.replies.word_byte.Goals as goal

pub returns-in_default : goal.returns-in_default
returns-in_default c =
    let w = c.args.word.now in
    let not = c.in_default in
    let six = past (codes "fault") w [] not.not-fault in
    let five = past (codes "spent") w (codes "fault" ∷ []) not.not-spent ∙ ap (λ n. 1 + n) six in
    let four = past (codes "changed") w (codes "spent" ∷ codes "fault" ∷ []) not.not-changed ∙ ap (λ n. 1 + n) five in
    let three = past (codes "damaged") w (codes "changed" ∷ codes "spent" ∷ codes "fault" ∷ []) not.not-damaged ∙ ap (λ n. 1 + n) four in
    let two = past (codes "picture") w (codes "damaged" ∷ codes "changed" ∷ codes "spent" ∷ codes "fault" ∷ []) not.not-picture ∙ ap (λ n. 1 + n) three in
    let one = past (codes "encoded") w (codes "picture" ∷ codes "damaged" ∷ codes "changed" ∷ codes "spent" ∷ codes "fault" ∷ []) not.not-encoded ∙ ap (λ n. 1 + n) two in
    sym (past (codes "copied") w (codes "encoded" ∷ codes "picture" ∷ codes "damaged" ∷ codes "changed" ∷ codes "spent" ∷ codes "fault" ∷ []) not.not-copied ∙ ap (λ n. 1 + n) one)
