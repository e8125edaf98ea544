-- `desk_find::search_changed` meets its contract: the finder on the bytes held, which are known to be a roster's. Assumes nothing.
use Rattle.std.proofs.Common.{refl, ap, ◌∙◌}
use Rattle.model.specs.RosterFile.{read_roster}
use Rattle.desk_find.specs.Outcomes.{sizes}
use Rattle.desk_find.specs.Finding.{done_settled}
use Rattle.desk_find.proofs.search_changed.Goals as goal

pub arrays_of-g-requires : goal.arrays_of-g-requires
arrays_of-g-requires c = let (R, a) = c.requires.0 in (R, ap read_roster c.front.ensures ∙ a)

pub worked-o-requires : goal.worked-o-requires
worked-o-requires c =
    let a = c.args in
    let long = sizes a.room a.left.now a.plan.now a.rival.now c.requires.1 in
    (c.arrays_of-g.ensures.arrays, long.0, long.1, long.2)

pub returns : goal.returns
returns c =
    let a = c.args in
    done_settled a.files a.room a.left.now a.plan.now a.rival.now c.requires c.front.ensures
    c.arrays_of-g.ensures _ _ _ _ refl c.worked-o.ensures
