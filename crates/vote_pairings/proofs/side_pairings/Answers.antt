-- side_pairings writes the pairings of one side, from the ranks that each plan has alone and those that both have. Assumes nothing.
use Rattle.std.proofs.Common.{ap, ◌∙◌}
use Rattle.vote_pairings.specs.SideBytes.{written}
use Rattle.vote_pairings.specs.SidePairings.{own_edges, other_edges, own_shared, node_ready, side_is}
use Rattle.vote_pairings.proofs.side_pairings.Goals as goal

pub side_pairs-requires : goal.side_pairs-requires
side_pairs-requires c =
    let A = c.requires.asked in record {
      n_le_node_limit = (
        A.faced.arrays.nodes,
        node_ready A c.own_ranks-a.result c.own_ranks-b.result c.shared_ranks-s.result
            c.own_ranks-a.ensures c.own_ranks-b.ensures (own_shared A c.shared_ranks-s.result c.shared_ranks-s.ensures),
      );
      n_in_bounds = c.requires.n_in_bounds;
    }

pub returns : goal.returns
returns c =
    let a = c.args in record {
      value = c.side_pairs.ensures.value;
      side_faced = λ A tie. c.side_pairs.ensures.out_after ∙ ap (λ bs. written a.from bs a.out.now)
          (side_is A c.own_ranks-a.result c.own_ranks-b.result c.shared_ranks-s.result
          c.own_ranks-a.ensures c.own_ranks-b.ensures
          (own_shared A c.shared_ranks-s.result c.shared_ranks-s.ensures) tie);
    }

pub own_ranks-a-requires : goal.own_ranks-a-requires
own_ranks-a-requires c = own_edges c.requires.asked

pub own_ranks-b-requires : goal.own_ranks-b-requires
own_ranks-b-requires c = other_edges c.requires.asked

pub shared_ranks-s-requires : goal.shared_ranks-s-requires
shared_ranks-s-requires c = own_edges c.requires.asked
