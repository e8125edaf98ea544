use Rattle.std.proofs.Common.{◌≡◌, ◌≤◌, length}
use Rattle.rival_tables.specs.Terminals.{terminal_at, Part}
use Rattle.rival_tables.proofs.terminals.Given as goal

abbrev pub invariant-loop-i : goal.invariant-loop-i
invariant-loop-i l = (l.i ≤ l.n) × (length l.o ≡ 4096) × Part l.o l.i l.n (terminal_at l.starts l.stops l.gs l.gt)
