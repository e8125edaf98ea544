use Rattle.std.proofs.Common.{◌-◌, ◌≤◌}
use Rattle.roster_parts.specs.Growth.{Going}
use Rattle.roster_routes.specs.Reordered.{rankings_in_order}
use Rattle.roster_routes.proofs.append_rankings_in_order.Given as goal

abbrev pub invariant-loop-i : goal.invariant-loop-i
invariant-loop-i l =
    (l.i ≤ l.count) × Going (rankings_in_order l.file l.start l.order 0 l.count) (rankings_in_order l.file l.start l.order l.i (l.count - l.i)) l.initial.out l.out
