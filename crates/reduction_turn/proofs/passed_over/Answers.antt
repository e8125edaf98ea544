-- The number at v is read anew if it was e or if the quota fell.
use Rattle.std.proofs.Common.{sym, ap, ap₂, ◌∙◌, ◌&&◌, ◌||◌, cond, ℕ, arith, set, length-set, get_or-set_same, get_or-set_other, eqb}
use mathlib.Core.Bool.{and-false}
use Rattle.lists.specs.Test.{by-eq}
use Rattle.arrays.specs.ArrayInstance.{at}
use Rattle.reduction_nodes.specs.Numbers.{seconds_of}
use Rattle.reduction_turn.proofs.passed_over.Goals as goal

pub overflow_cast-e : goal.overflow_cast-e
overflow_cast-e c = let p = c.requires in omega (arith, p.1, p.2.cells.edges)

pub second-requires : goal.second-requires
second-requires c = let p = c.requires in (p.0, p.2, p.3)

pub returns-then-fell-x : goal.returns-then-fell-x
returns-then-fell-x c =
    let a = c.args in
    let p = c.requires in
    let x = a.x.now in
    let v = a.v in
    let y = c.second.result in (
      length-set x v y ∙ p.4,
      λ end L u.
          let new : ℕ → ℕ = seconds_of a.m end a.rank.now a.table.now a.rem.now a.f.now a.q.now in
          by-eq u v
          (λ i t. ap (at (set x v y)) i ∙ get_or-set_same x v y 0 (omega (arith, p.4, p.0)) ∙ c.second.ensures end L ∙ ap new (sym i)
          ∙ sym (ap (λ b. cond b (new u) (at x u)) (ap₂ ◌&&◌ t c.if-fell-x.true)))
          (λ n t. get_or-set_other x v u y 0 n ∙ sym (ap (λ b. cond (b && (a.fell || eqb (at x v) a.e)) (new u) (at x u)) t)),
    )

pub returns-else-fell-x : goal.returns-else-fell-x
returns-else-fell-x c =
    let a = c.args in
    let x = a.x.now in (
      c.requires.4,
      λ end L u.
          let new : ℕ → ℕ = seconds_of a.m end a.rank.now a.table.now a.rem.now a.f.now a.q.now in
          sym (ap (λ b. cond b (new u) (at x u)) (ap (λ b. eqb u a.v && b) c.if-fell-x.false ∙ and-false (eqb u a.v))),
    )
