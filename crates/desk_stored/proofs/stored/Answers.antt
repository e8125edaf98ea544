-- `desk_stored::stored` meets its contract. Assumes nothing.
use Rattle.std.proofs.Common.{◌≡◌, refl, ap, [], take}
use Rattle.model.specs.Edges.{instance_of}
use Rattle.desk_files.specs.Held.{plan_bytes}
use Rattle.desk_stored.specs.StoringSteps.{none_held}
use Rattle.desk_stored.proofs.stored.Goals as goal

pub returns-then-files-eq0 : goal.returns-then-files-eq0
returns-then-files-eq0 c =
    let a = c.args in
    let none : plan_bytes a.files ≡ [] = ap (λ n. take n a.files.plan) c.if-files-eq0.true in
    λ R r. (refl, none_held (instance_of R) a.number _ _ none none, refl)

pub returns : goal.returns
returns c = λ R r. (refl, c.less_held-c.ensures R r, refl)
