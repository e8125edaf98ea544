use Rattle.std.proofs.Common.{◌-◌, ◌≤◌}
use Rattle.roster_parts.specs.Growth.{Going}
use Rattle.roster_routes.specs.Reordered.{quotas_in_order}
use Rattle.roster_routes.proofs.append_quotas.Given as goal

abbrev pub invariant-loop-i : goal.invariant-loop-i
invariant-loop-i l =
    (l.i ≤ l.count) × Going (quotas_in_order l.file l.place l.order 0 l.count) (quotas_in_order l.file l.place l.order l.i (l.count - l.i)) l.initial.out l.out
