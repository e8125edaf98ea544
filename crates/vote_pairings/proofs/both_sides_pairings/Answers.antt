-- both_sides_pairings writes the pairings of one side for both votes, from ranks that are listed once. Assumes nothing.
use Rattle.std.proofs.Common.{ap, ◌∙◌}
use Rattle.vote_pairings.specs.SideBytes.{written}
use Rattle.vote_pairings.specs.SidePairings.{asked_back, own_edges, other_edges, own_shared, other_shared, node_ready, side_is}
use Rattle.vote_pairings.proofs.both_sides_pairings.Goals as goal

pub side_pairs-requires : goal.side_pairs-requires
side_pairs-requires c =
    let A = c.requires.asked in record {
      n_le_node_limit = (
        A.faced.arrays.nodes,
        node_ready A c.own_ranks-a.result c.own_ranks-b.result c.shared_ranks-shared.result
            c.own_ranks-a.ensures c.own_ranks-b.ensures (own_shared A c.shared_ranks-shared.result c.shared_ranks-shared.ensures),
      );
      n_in_bounds = c.requires.n_in_bounds.0;
    }

pub side_pairs-requires-2 : goal.side_pairs-requires-2
side_pairs-requires-2 c =
    let B = asked_back c.requires.asked in record {
      n_le_node_limit = (
        B.faced.arrays.nodes,
        node_ready B c.own_ranks-b.result c.own_ranks-a.result c.shared_ranks-shared.result c.own_ranks-b.ensures
            c.own_ranks-a.ensures (other_shared B c.shared_ranks-shared.result c.shared_ranks-shared.ensures),
      );
      n_in_bounds = c.requires.n_in_bounds.1;
    }

pub returns : goal.returns
returns c =
    let a = c.args in
    let x = c.side_pairs in
    let y = c.side_pairs-2 in record {
      value = y.ensures.value;
      side_faced = λ A tie. x.ensures.out_after ∙ ap (λ bs. written a.from bs a.forward.now)
          (side_is A c.own_ranks-a.result c.own_ranks-b.result c.shared_ranks-shared.result
          c.own_ranks-a.ensures c.own_ranks-b.ensures
          (own_shared A c.shared_ranks-shared.result c.shared_ranks-shared.ensures) tie);
      side_faced_2 = λ B tie. y.ensures.out_after ∙ ap (λ bs. written a.from bs a.back.now)
          (side_is B c.own_ranks-b.result c.own_ranks-a.result c.shared_ranks-shared.result c.own_ranks-b.ensures
          c.own_ranks-a.ensures
          (other_shared B c.shared_ranks-shared.result c.shared_ranks-shared.ensures) tie);
    }

pub own_ranks-a-requires : goal.own_ranks-a-requires
own_ranks-a-requires c = own_edges c.requires.asked

pub own_ranks-b-requires : goal.own_ranks-b-requires
own_ranks-b-requires c = other_edges c.requires.asked

pub shared_ranks-shared-requires : goal.shared_ranks-shared-requires
shared_ranks-shared-requires c = own_edges c.requires.asked
