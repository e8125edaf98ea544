-- `roster::pairs::three_alike` meets its contract: each of the three comparisons is the model's. Assumes nothing.
use Rattle.std.proofs.Common.{◌+◌, ap₂, false, ◌&&◌, get_or}
use Rattle.roster_reading.specs.Pairs.{same_alike}
use Rattle.roster.proofs.pairs.three_alike.Goals as goal

pub returns : goal.returns
returns c =
    let a = c.args in
    let s = a.surveyors.now in
    let t = a.stands.now in
    ap₂ ◌&&◌ (same_alike (get_or s a.a false) (get_or t a.b false))
    (ap₂ ◌&&◌ (same_alike (get_or s (a.a + 1) false) (get_or t (a.b + 1) false)) (same_alike (get_or s (a.a + 2) false) (get_or t (a.b + 2) false)))
