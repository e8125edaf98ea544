-- `verdict::weigh_paired` meets its contract: the verdict, and where there is a rival the pairings of the vote against it. Assumes nothing.
use Rattle.std.proofs.Common.{length}
use Rattle.vote_pairings.specs.RosterPairings.{both_asked, room}
use Rattle.verdict.specs.RivalWritten.{plan_within, none_paired, some_paired}
use Rattle.verdict.proofs.weigh_paired.Goals as goal

pub plan_pairings-requires : goal.plan_pairings-requires
plan_pairings-requires c =
    let w = c.weighed-w in
    let a = c.args in
    let L = c.requires.loaded.0 in
    let p = plan_within a.g L a.plan.now c.requires.loaded.1.0 c.requires.loaded.1.1 in
    let q = w.ensures.rival_for.within c.if-w.true in record {
      both_asked = both_asked a.g L a.plan.now w.result.rival p q c.requires.loaded.2 (w.ensures.rival_for.listed c.if-w.true);
      nt_in_bounds = room a.g L (length a.pairings.now) c.requires.pairing_size_in_bounds;
    }

pub returns-then-w : goal.returns-then-w
returns-then-w c =
    let w = c.weighed-w in
    let a = c.args in
    let g = a.g in
    let p = plan_within g c.requires.loaded.0 a.plan.now c.requires.loaded.1.0 c.requires.loaded.1.1 in
    let q = w.ensures.rival_for.within c.if-w.true in
    let A = both_asked g c.requires.loaded.0 a.plan.now w.result.rival p q c.requires.loaded.2 (w.ensures.rival_for.listed c.if-w.true) in record {
      weighed_for = w.ensures.weighed_for;
      paired_for = λ M S. some_paired g a.plan.now w.result.rival w.result.listed.n w.result.listed.edges w.ensures.rival_for M S c.if-w.true
          a.pairings.now _ (c.plan_pairings.ensures A g.sh g.tied);
    }

pub returns-else-w : goal.returns-else-w
returns-else-w c =
    let w = c.weighed-w in
    let a = c.args in record {
      weighed_for = w.ensures.weighed_for;
      paired_for = λ M S. none_paired a.g a.plan.now w.result.rival w.result.listed.n w.result.listed.edges w.ensures.rival_for M S c.if-w.false
          a.pairings.now;
    }
