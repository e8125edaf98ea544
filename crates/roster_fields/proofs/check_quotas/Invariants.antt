use Rattle.std.proofs.Common.{◌+◌, ◌≤◌, ◌≡◌, length, drop}
use Rattle.model.specs.RosterFile.{quota_check}
use Rattle.roster_reading.specs.Check.{refusal_of}
use Rattle.roster_fields.proofs.check_quotas.Given as goal

abbrev pub invariant-loop-i : goal.invariant-loop-i
invariant-loop-i l =
    (l.i ≤ length l.part) × (l.sum ≤ 64) × (refusal_of quota_check (λ so q. so + q) 0 l.part ≡ refusal_of quota_check (λ so q. so + q) l.sum (drop l.i l.part))
