-- The search below 0 found something; or it found nothing, and the search below 1 decides.
use Rattle.std.proofs.Common.{sym, ap, ap₂, ◌∙◌, arith, Option}
use Rattle.rival_levels.specs.declared.Found.{Found}
use Rattle.rival_search.specs.TwoThresholds.{searched, places_at}
use Rattle.rival_search.proofs.searched_by_costs.Goals as goal

pub search-requires : goal.search-requires
search-requires c =
    (c.requires.0, omega arith, c.requires.1, c.requires.2, c.requires.3, c.certificate-certificate.ensures)

pub search-requires-2 : goal.search-requires-2
search-requires-2 c =
    (c.requires.0, omega arith, c.requires.1, c.requires.2, c.requires.3, c.certificate-certificate.ensures)

pub returns-in-Some : goal.returns-in-Some
returns-in-Some c =
    let a = c.args in
    ap (λ (f : Option Found). searched f (places_at a.arcs.now a.ends.now a.n 1)) (sym c.in-Some.is ∙ c.search.ensures)

pub returns-in-Some-search : goal.returns-in-Some-search
returns-in-Some-search c =
    let a = c.args in
    ap₂ searched (sym c.in_default.is ∙ c.search.ensures) (sym c.in-Some-search.is ∙ c.search-2.ensures)

pub returns-in-None : goal.returns-in-None
returns-in-None c = ap₂ searched (sym c.in_default.is ∙ c.search.ensures) (sym c.in-None.is ∙ c.search-2.ensures)
