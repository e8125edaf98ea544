-- `instance::listed_cells` meets its contract: the cells found stand in the array's front. Assumes nothing.
use Rattle.std.proofs.Common.{refl, ◌∙◌, not, ℕ, zero-le, arith, length-set, eqb}
use lib.ListN.{length-replicate}
use Rattle.roster_positions.specs.Tables.{table_size}
use Rattle.arrays.specs.ArrayInstance.{at}
use Rattle.arrays.specs.Tally.{byte_one}
use Rattle.arrays.specs.Kept.{kept_turn}
use Rattle.instance.proofs.Collected.{kept_listed}
use Rattle.instance.proofs.listed_cells.Goals as goal

pub loop-c-init : goal.loop-c-init
loop-c-init c = (zero-le, zero-le, length-replicate {A = ℕ} table_size 0, (refl, refl))

pub overflow_add-m : goal.overflow_add-m
overflow_add-m c = let b = byte_one (not (eqb (at c.args.table.now c.loop-c.c) 0)) in omega arith

pub loop-c-preserved : goal.loop-c-preserved
loop-c-preserved c =
    let a = c.args in
    let b = byte_one (not (eqb (at a.table.now c.loop-c.c) 0)) in (
      omega arith,
      omega arith,
      length-set c.loop-c.cell c.loop-c.m c.loop-c.c
          ∙ c.loop-c.invariant.2,
      kept_turn (λ c. not (eqb (at a.table.now c) 0)) c.loop-c.cell c.loop-c.m c.loop-c.c (omega arith) c.loop-c.invariant.3,
    )

pub returns : goal.returns
returns c =
    let a = c.args in
    kept_listed a.n a.table.now c.loop-c.cell c.loop-c.m c.loop-c.c c.requires (omega arith) c.loop-c.invariant.3
