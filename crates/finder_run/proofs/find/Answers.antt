-- finder_run::find reduces and hands over to the end of the steps.
use Rattle.finder_run.specs.Finding.{fixed_planned, finds}
use Rattle.finder_run.proofs.find.Goals as goal

pub reduce-reduced-requires : goal.reduce-reduced-requires
reduce-reduced-requires c =
    let L = c.requires.0 in
    (L.edges, (λ e h. L.low_sv e), (λ e h. L.low_st e), L.lawful.at_s.placed, L.lawful.at_t.placed)

pub ended-answer-requires : goal.ended-answer-requires
ended-answer-requires c =
    (c.requires.0, fixed_planned c.args.g c.requires.0 _ _ _ c.reduce-reduced.ensures, c.requires.1, c.requires.2, c.requires.3)

pub returns : goal.returns
returns c =
    finds c.args.g c.requires.0 _ _ _ c.reduce-reduced.ensures _ _ _ _ _ _ _ c.ended-answer.ensures
