-- Both ends of the edge, each by one walk; the prices are small.
use Rattle.std.proofs.Common.{ap₂, ◌∙◌, ◌+◌, ◌≤◌, min, arith}
use Rattle.arrays.specs.ArrayInstance.{at}
use Rattle.rival_search.specs.SearchView.{but_small, gain_small}
use Rattle.rival_search.proofs.alone_price.Goals.{After-least_rates-b}
use Rattle.rival_search.proofs.alone_price.Goals as goal

pub least_rates-a-requires : goal.least_rates-a-requires
least_rates-a-requires c = let p = c.requires in (p.0, p.3, (c.args.g.now.sv, p.4), p.2 _ p.1)

pub least_rates-b-requires : goal.least_rates-b-requires
least_rates-b-requires c = let p = c.requires in (p.0, p.2, (c.args.g.now.st, p.5), p.3 _ p.1)

-- the rates at both ends are small
small : (c : After-least_rates-b) → (c.least_rates-a.result.apart ≤ 3) × (c.least_rates-a.result.all ≤ 6)
    × (c.least_rates-b.result.all ≤ 6)
small c =
    let a = c.args in
    let s = at a.g.now.sv a.e in
    let t = at a.g.now.st a.e in
    let x = c.least_rates-a.ensures a.g.now.sv c.requires.4 in (
      omega (arith, x.1, but_small a.g.now.m a.g.now.sv a.g.now.st a.g.now.rank_s a.plan.now a.room.now.t s (at a.g.now.rank_s a.e) t),
      omega (arith, x.0, gain_small a.g.now.m a.g.now.sv a.g.now.st a.g.now.rank_s a.plan.now a.room.now.t s (at a.g.now.rank_s a.e)),
      omega (
        arith,
        (c.least_rates-b.ensures a.g.now.st c.requires.5).0,
        gain_small a.g.now.m a.g.now.st a.g.now.sv a.g.now.rank_t a.plan.now a.room.now.s t (at a.g.now.rank_t a.e),
      ),
    )

pub returns : goal.returns
returns c =
    let x = c.least_rates-a.ensures c.args.g.now.sv c.requires.4 in
    let y = c.least_rates-b.ensures c.args.g.now.st c.requires.5 in
    c.min.ensures ∙ ap₂ (λ p q. min (p + 3) q) (c.min-apart.ensures ∙ ap₂ min x.1 y.1) (ap₂ (λ p q. p + q) x.0 y.0)

pub overflow_add-apart : goal.overflow_add-apart
overflow_add-apart c = omega (arith, c.min-apart.ensures, (small (goal.at.overflow_add-apart c).After-least_rates-b).0)

pub overflow_add-a : goal.overflow_add-a
overflow_add-a c = let s = small (goal.at.overflow_add-a c).After-least_rates-b in omega (arith, s.1, s.2)
