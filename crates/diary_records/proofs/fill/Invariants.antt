use Rattle.std.proofs.Common.{◌≡◌, ◌≤◌}
use Rattle.diary_records.proofs.Filled.{filled}
use Rattle.diary_records.proofs.fill.Given as goal

abbrev pub invariant-loop-i : goal.invariant-loop-i
invariant-loop-i l = (l.i ≤ l.n) × (l.diary ≡ filled l.i l.fn.flat l.initial.diary)
