-- The rows below i are written.
use Rattle.std.proofs.Common.{◌≡◌, ℕ, arith, length, rules}
use lib.ListN.{length-replicate}
use Rattle.rival_tables.specs.Filled.{written_none, written_row, written_all}
use Rattle.rival_arcs.proofs.arcs.Goals as goal

pub links-first-requires : goal.links-first-requires
links-first-requires c =
    let l : length c.args.ps.now ≡ 64 = search rules in
    (omega arith, omega (arith, l), omega arith, c.requires.4)

pub arc_row-row-requires : goal.arc_row-row-requires
arc_row-row-requires c =
    (c.requires.0, c.requires.2, c.requires.3, (c.args.ps.now, c.links-first.ensures.1), c.requires.5 c.loop-i.i (omega arith))

pub put_row-requires : goal.put_row-requires
put_row-requires c =
    (omega (arith, c.loop-i-test.true, c.requires.1), (c.loop-i.invariant c.requires.3.0 c.requires.3.1).whole)

pub loop-i-preserved : goal.loop-i-preserved
loop-i-preserved c st L =
    let r = c.arc_row-row in
    let a = c.args in
    written_row (c.loop-i.invariant st L) r.result c.put_row.new.table (omega (arith, c.loop-i-test.true))
    (r.ensures st a.ps.now L c.links-first.ensures.1) c.put_row.ensures

pub loop-i-init : goal.loop-i-init
loop-i-init c st L = written_none (length-replicate {A = ℕ} 4096 133)

pub returns : goal.returns
returns c st L = written_all (c.loop-i.invariant st L) (omega arith)
