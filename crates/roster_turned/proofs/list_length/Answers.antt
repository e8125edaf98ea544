-- `roster_turned::list_length` meets its contract: the two length bytes together, or the one. Assumes nothing.
use Rattle.std.proofs.Common.{ℕ, ◌+◌, ◌≡◌, sym, ap, ap₂, ◌∙◌, Bool, true, false, List, get_or, rules}
use Rattle.roster_turned.specs.Blocks.{count_at}
use Rattle.roster_turned.proofs.list_length.Goals as goal

module _ (f : List ℕ) (at : ℕ) {ties : Bool} {a : ℕ} (p : a ≡ get_or f at 0) where
  both : ties ≡ true → {b : ℕ} → b ≡ get_or f (at + 1) 0 → a + b ≡ count_at ties f at
  both t q = ap₂ (λ x y. x + y) p q ∙ ap (λ z. count_at z f at) (sym t)

  one : ties ≡ false → a ≡ count_at ties f at
  one t = p ∙ ap (λ z. count_at z f at) (sym t)

pub returns-then-ties : goal.returns-then-ties
returns-then-ties c =
    let a = c.args in
    (both a.file.now a.at c.byte_at-a.ensures c.if-ties.true c.byte_at-b.ensures, search rules)

pub returns : goal.returns
returns c = let a = c.args in (one a.file.now a.at c.byte_at-a.ensures c.if-ties.false, search rules)
