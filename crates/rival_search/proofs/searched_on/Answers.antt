-- The first levels found something; or both searches decide.
use Rattle.std.proofs.Common.{◌≡◌, sym, ap, ◌∙◌, ⊎_elim, Option, Some, None}
use Rattle.rival_levels.specs.declared.Found.{Found}
use Rattle.rival_search.specs.TwoThresholds.{searched, places_at}
use Rattle.rival_search.proofs.searched_on.Goals as goal

pub returns-in-Some : goal.returns-in-Some
returns-in-Some c =
    let a = c.args in
    ⊎_elim
    (λ (e : c.first_levels.result ≡ None). let q : Some c.in-Some.found ≡ None = sym c.in-Some.is ∙ e in cc)
    (λ e. ap (λ (f : Option Found). searched f (places_at a.arcs.now a.ends.now a.n 1)) (sym c.in-Some.is ∙ e))
    c.first_levels.ensures

pub returns-in-None : goal.returns-in-None
returns-in-None c = c.searched_by_costs.ensures
