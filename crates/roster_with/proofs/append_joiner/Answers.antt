-- `roster_with::append_joiner` meets its contract: the entries in the shifts behind the first k are left. Assumes nothing.
use Rattle.std.proofs.Common.{ap, zero-le, arith, sym, ap, ◌∙◌}
use Rattle.roster_positions.specs.Rows.{bytes_of}
use Rattle.roster_parts.specs.Growth.{going_starts, going_on, going_past, going_ends}
use Rattle.roster_with.specs.Entering.{marks_in, shifts_at, joiner_in, shift_one, shift_not, shift_none}
use Rattle.roster_with.proofs.append_joiner.Goals as goal

pub loop-k-init : goal.loop-k-init
loop-k-init c =
    let a = c.args in
    (zero-le, going_starts (bytes_of (joiner_in a.joiner (shifts_at (marks_in a.row.now) a.stand))) a.out.now)

pub loop-k-preserved-then-not-asks : goal.loop-k-preserved-then-not-asks
loop-k-preserved-then-not-asks c =
    let a = c.args in
    let e = shift_not (marks_in a.row.now) a.stand c.loop-k.k c.loop-k-test.true
    (sym (c.if-not-asks.true) ∙ c.asks.ensures) in
    (omega arith, going_past (ap (λ ks. bytes_of (joiner_in a.joiner ks)) e) c.loop-k.invariant.1)

pub loop-k-preserved : goal.loop-k-preserved
loop-k-preserved c =
    let a = c.args in
    let e = shift_one (marks_in a.row.now) a.stand c.loop-k.k c.loop-k-test.true
    (sym (c.if-not-asks.false) ∙ c.asks.ensures) in
    (omega arith, going_on (ap (λ ks. bytes_of (joiner_in a.joiner ks)) e) c.loop-k.invariant.1 c.push_entry.ensures)

pub returns : goal.returns
returns c =
    let a = c.args in
    going_ends (ap (λ ks. bytes_of (joiner_in a.joiner ks)) (shift_none (marks_in a.row.now) a.stand c.loop-k.k c.loop-k-test.false))
    c.loop-k.invariant.1
