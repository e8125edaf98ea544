-- both_pairings writes the pairings of both votes, the surveyors' nodes and behind them the stands'. Assumes nothing.
use Rattle.std.proofs.Common.{arith}
use Rattle.vote_pairings.specs.SidePairings.{plan_faced, asked_at_s, asked_at_t}
use Rattle.vote_pairings.proofs.both_pairings.Goals as goal

pub both_sides_pairings-middle-requires : goal.both_sides_pairings-middle-requires
both_sides_pairings-middle-requires c =
    record {
      asked = asked_at_s c.requires.both_asked;
      n_in_bounds = (omega (arith, c.requires.nt_in_bounds.0), omega (arith, c.requires.nt_in_bounds.1));
    }

pub both_sides_pairings-requires : goal.both_sides_pairings-requires
both_sides_pairings-requires c =
    let u = c.both_sides_pairings-middle in
    record {
      asked = asked_at_t c.requires.both_asked;
      n_in_bounds = (omega (arith, u.ensures.value, c.requires.nt_in_bounds.0), omega (arith, u.ensures.value, c.requires.nt_in_bounds.1));
    }

pub returns : goal.returns
returns c =
    let u = c.both_sides_pairings-middle in
    let w = c.both_sides_pairings in record {
      plan_faced = plan_faced c.args.forward.now u.result (omega (arith, u.ensures.value)) c.requires.nt_in_bounds.0 u.ensures.side_faced w.ensures.side_faced;
      plan_faced_2 = plan_faced c.args.back.now u.result (omega (arith, u.ensures.value)) c.requires.nt_in_bounds.1 u.ensures.side_faced_2 w.ensures.side_faced_2;
    }
