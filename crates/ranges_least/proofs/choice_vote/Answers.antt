-- ranges_least::choice_vote answers the vote under the choice, the sum of both sides. Assumes nothing.
use Rattle.std.proofs.Common.{arith, ◌∙◌}
use Rattle.vote_plans.specs.Votable.{light}
use Rattle.vote_plans.proofs.FilledRanks.{both_fits, both_kept}
use Rattle.ranges_least.specs.ChoiceVote.{arrays, vote_is}
use Rattle.ranges_least.proofs.choice_vote.Goals as goal

pub side_sum-v-requires : goal.side_sum-v-requires
side_sum-v-requires c =
    let a = c.args in
    let L = c.requires.loaded.0 in
    let P = c.requires.loaded.1 in
    let Q = c.requires.loaded.2 in
    let R = c.requires.ranked.0 in
    let A = arrays a.g L a.p.now a.q.now P.matching Q.matching a.pn a.qn a.pe.now a.qe.now a.c.ranks P.listed
    Q.listed c.requires.ranked.1 a.c.rank_s a.c.rank_t R.at_s R.at_t in
    record {
      arrays = (A.0, (light a.g L a.p.now P.matching).0, (light a.g L a.q.now Q.matching).0);
      listed = (P.listed, Q.listed);
    }

pub side_sum-w-requires : goal.side_sum-w-requires
side_sum-w-requires c =
    let a = c.args in
    let L = c.requires.loaded.0 in
    let P = c.requires.loaded.1 in
    let Q = c.requires.loaded.2 in
    let R = c.requires.ranked.0 in
    let A = arrays a.g L a.p.now a.q.now P.matching Q.matching a.pn a.qn a.pe.now a.qe.now a.c.ranks P.listed
    Q.listed c.requires.ranked.1 a.c.rank_s a.c.rank_t R.at_s R.at_t in
    record {
      arrays = (A.1, (light a.g L a.p.now P.matching).1, (light a.g L a.q.now Q.matching).1);
      listed = (P.listed, Q.listed);
    }

pub overflow_add-result : goal.overflow_add-result
overflow_add-result c =
    let x = c.side_sum-v in
    let y = c.side_sum-w in
    both_fits x.result y.result (omega (arith, x.ensures.small)) (omega (arith, y.ensures.small))

pub returns : goal.returns
returns c =
    let a = c.args in
    let L = c.requires.loaded.0 in
    let P = c.requires.loaded.1 in
    let Q = c.requires.loaded.2 in
    let R = c.requires.ranked.0 in
    let x = c.side_sum-v in
    let y = c.side_sum-w in
    both_kept x.result y.result (omega (arith, x.ensures.small)) (omega (arith, y.ensures.small))
    ∙ vote_is a.g L a.p.now a.q.now P.matching Q.matching a.pn a.qn a.pe.now a.qe.now a.c.ranks P.listed
    Q.listed c.requires.ranked.1 a.c.rank_s a.c.rank_t R.at_s R.at_t x.ensures y.ensures
