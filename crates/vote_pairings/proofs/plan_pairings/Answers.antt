-- plan_pairings writes the pairings of the surveyors' nodes and behind them those of the stands'. Assumes nothing.
use Rattle.std.proofs.Common.{arith}
use Rattle.vote_pairings.specs.SidePairings.{plan_faced, asked_at_s, asked_at_t}
use Rattle.vote_pairings.proofs.plan_pairings.Goals as goal

pub side_pairings-middle-requires : goal.side_pairings-middle-requires
side_pairings-middle-requires c =
    record {
      asked = asked_at_s c.requires.both_asked;
      n_in_bounds = omega (arith, c.requires.nt_in_bounds);
    }

pub side_pairings-requires : goal.side_pairings-requires
side_pairings-requires c =
    record {
      asked = asked_at_t c.requires.both_asked;
      n_in_bounds = omega (arith, c.side_pairings-middle.ensures.value, c.requires.nt_in_bounds);
    }

pub returns : goal.returns
returns c =
    plan_faced c.args.out.now c.side_pairings-middle.result (omega (arith, c.side_pairings-middle.ensures.value)) c.requires.nt_in_bounds
    c.side_pairings-middle.ensures.side_faced c.side_pairings.ensures.side_faced
