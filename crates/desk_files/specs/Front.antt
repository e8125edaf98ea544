-- The front of an array, as long as a length says, or the whole of it, copied over a buffer.
use Rattle.std.specs.Prelude.{ℕ, ◌≡◌, List, ◌++◌, length, take, drop}
use Rattle.std.proofs.Common.{ap, ◌∙◌, subst}
use Rattle.std.proofs.Math.Seq.{take-length}

pub copied : (out : List ℕ) {held front : List ℕ} → front ≡ held → {n : ℕ} {after : List ℕ} → n ≡ length front
    → after ≡ take (length front) front ++ drop (length front) out → (n ≡ length held) × (after ≡ held ++ drop (length held) out)
copied out {held} {front} e {n} {after} p q =
    subst (λ bs. (n ≡ length bs) × (after ≡ bs ++ drop (length bs) out)) e (p, q ∙ ap (λ l. l ++ drop (length front) out) (take-length front))
