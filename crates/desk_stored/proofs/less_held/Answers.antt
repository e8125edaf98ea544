-- `desk_stored::less_held` meets its contract. Assumes nothing.
use Rattle.std.proofs.Common.{ap, ◌∙◌}
use Rattle.model.specs.RosterFile.{read_roster}
use Rattle.desk_stored.specs.StoringSteps.{carried_on}
use Rattle.desk_stored.proofs.less_held.Goals as goal

pub arrays_of-g-requires : goal.arrays_of-g-requires
arrays_of-g-requires c = let (R, a) = c.requires in (R, ap read_roster c.front.ensures ∙ a)

pub returns : goal.returns
returns c =
    let a = c.args in
    carried_on a.files a.number _ c.front.ensures c.front-plan.ensures
    c.arrays_of-g.ensures c.less.ensures
