-- Of the edges before j, c lie at the node.
use Rattle.std.proofs.Common.{◌≡◌, refl, ap, ◌∙◌, Bool, ℕ, suc, ◌+◌, zero-le, arith, eqb}
use Rattle.arrays.specs.ArrayInstance.{at}
use Rattle.arrays.specs.Tally.{byte_bit, byte_one}
use Rattle.lists.specs.Sum.{count, count_≤}
use Rattle.lists.specs.Test.{bit}
use Rattle.rival_tables.proofs.lying.Goals as goal

count_next : (p : ℕ → Bool) (i : ℕ) → count p (i + 1) ≡ bit (p i) + count p i
unfolding count
count_next p i = let e : i + 1 ≡ suc i = omega arith in rw e

pub loop-j-init : goal.loop-j-init
unfolding count
loop-j-init c = (zero-le, refl)

pub overflow_add-c : goal.overflow_add-c
overflow_add-c c =
    let a = c.args in
    omega (
      arith,
      count_≤ (λ j. eqb (at a.nodes.now j) a.v) c.loop-j.j,
      byte_one (eqb (at a.nodes.now c.loop-j.j) a.v),
      c.loop-j.invariant.1,
    )

pub loop-j-preserved : goal.loop-j-preserved
loop-j-preserved c =
    let a = c.args in (
      omega arith,
      omega
          (arith, count_next (λ j. eqb (at a.nodes.now j) a.v) c.loop-j.j, byte_bit (eqb (at a.nodes.now c.loop-j.j) a.v), c.loop-j.invariant.1),
    )

pub returns : goal.returns
returns c =
    let a = c.args in
    let e : c.loop-j.j ≡ a.n = omega arith in
    c.loop-j.invariant.1 ∙ ap (count (λ j. eqb (at a.nodes.now j) a.v)) e
