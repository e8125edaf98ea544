-- ranges_least::side_sum: the ranks that each plan has alone at each node, and the sum of the nodes' votes. Assumes nothing.
use Rattle.std.proofs.Common.{◌≤◌, sym, ◌∙◌, subst, w16}
use lib.Signed.{mag}
use borrow.Author.Rules.{sfits_of}
use mir.ValLaws.{to_z-of_z}
use Rattle.vote_plans.specs.Side.{listed_edges, both_ready, side_is}
use Rattle.ranges_least.proofs.side_sum.Goals as goal

pub own_ranks-a-requires : goal.own_ranks-a-requires
own_ranks-a-requires c =
    let a = c.args in
    listed_edges a.m a.n a.end.now a.rank.now c.requires.arrays.0 a.p.now a.pn a.pe.now c.requires.listed.0

pub own_ranks-b-requires : goal.own_ranks-b-requires
own_ranks-b-requires c =
    let a = c.args in
    listed_edges a.m a.n a.end.now a.rank.now c.requires.arrays.0 a.q.now a.qn a.qe.now c.requires.listed.1

pub side_vote-requires : goal.side_vote-requires
side_vote-requires c =
    let a = c.args in
    let x = c.own_ranks-a in
    let y = c.own_ranks-b in (
      c.requires.arrays.0.nodes,
      both_ready a.m a.n a.end.now a.rank.now c.requires.arrays.0 a.p.now a.q.now a.pn a.qn a.pe.now a.qe.now
          c.requires.listed.0 c.requires.listed.1 c.requires.arrays.1 c.requires.arrays.2 x.result y.result x.ensures y.ensures,
    )

pub returns : goal.returns
returns c =
    let a = c.args in
    let x = c.own_ranks-a in
    let y = c.own_ranks-b in
    let v = c.side_vote in
    let kept = to_z-of_z w16 v.result (sfits_of v.type_inv) in
    record {
      is = λ tied quota hp hq. kept ∙ v.ensures.is
          ∙ side_is a.m a.n a.end.now a.rank.now c.requires.arrays.0 a.p.now a.q.now a.pn a.qn a.pe.now a.qe.now
          c.requires.listed.0 c.requires.listed.1 c.requires.arrays.1 c.requires.arrays.2 x.result y.result x.ensures y.ensures tied quota hp hq;
      small = subst (λ z. mag z ≤ 288) (sym kept) v.ensures.small;
    }
