-- Bytes that were appended in two steps were appended as one piece.
use Rattle.std.proofs.Common.{ℕ, ◌≡◌, List, ◌++◌, ap, ◌∙◌, append_assoc}

pub appended : (old mid new a b : List ℕ) → mid ≡ old ++ a → new ≡ mid ++ b → new ≡ old ++ (a ++ b)
appended old mid new a b first second = second ∙ (ap (λ l. l ++ b) first ∙ append_assoc old a b)
