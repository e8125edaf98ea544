use Rattle.std.proofs.Common.{◌≡◌, ◌≤◌, length}
use Rattle.arrays.specs.Filled.{Made}
use Rattle.rival_tables.specs.Terminals.{terminal_at}
use Rattle.rival_tables.proofs.terminal_row.Given as goal

abbrev pub invariant-loop-j : goal.invariant-loop-j
invariant-loop-j l = (l.j ≤ l.n) × (length l.o ≡ 64) × Made 0 l.o (terminal_at l.starts l.stops l.gs l.gt l.i) l.j
