-- `roster_districts::quotas_of_both` meets its contract: the sum of both parts. Assumes nothing.
use Rattle.std.proofs.Common.{◌+◌, arith, ap, ap₂, ◌∙◌}
use Rattle.lists.specs.Sum.{sum}
use Rattle.roster_positions.proofs.Stamping.{short}
use Rattle.roster_districts.proofs.quotas_of_both.Goals as goal

pub quota_sum-a-requires : goal.quota_sum-a-requires
quota_sum-a-requires c = let a = c.args in short a.n 255 c.part.result.now _ c.part.ensures (omega arith)

pub quota_sum-b-requires : goal.quota_sum-b-requires
quota_sum-b-requires c =
    let a = c.args in
    short a.m 255 c.part-2.result.now _ c.part-2.ensures (omega arith)

pub returns : goal.returns
returns c =
    ap₂ ◌+◌ (c.quota_sum-a.ensures.0 ∙ ap (sum (λ q. q)) c.part.ensures)
    (c.quota_sum-b.ensures.0 ∙ ap (sum (λ q. q)) c.part-2.ensures)
