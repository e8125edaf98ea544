-- side_pairs writes the pairs of the first n nodes. The loop's invariant: those of the first v are written. Assumes nothing.
use Rattle.std.proofs.Common.{◌+◌, ◌*◌, ◌≤◌, arith, ◌≡◌, sym, ap, ◌∙◌, subst, length, take}
use Rattle.lists.specs.Sum.{sum, up_to}
use Rattle.arrays.specs.ArrayInstance.{at}
use Rattle.theory_votes.specs.Keys.{empty_key, key_bytes}
use Rattle.vote_pairings.specs.SideBytes.{written, side_out}
use Rattle.vote_pairings.proofs.Writing.{writing_first, place_room, writing_next}
use Rattle.vote_pairings.proofs.side_pairs.Goals.{After-slice_known-in-loop-v-1}
use Rattle.vote_pairings.proofs.side_pairs.Goals as goal

pub loop-v-init : goal.loop-v-init
loop-v-init c = let a = c.args in writing_first a.n a.a a.b a.shared a.quota a.out.now a.from

pub node_pairs-pairs-requires : goal.node_pairs-pairs-requires
node_pairs-pairs-requires c =
    let r = c.requires.n_le_node_limit.1 c.loop-v.v (omega arith) in
    (r.first, r.second)

pub put_pairs-requires : goal.put_pairs-requires
put_pairs-requires c =
    let a = c.args in
    let r = c.requires.n_le_node_limit.1 c.loop-v.v (omega arith) in (
      r.places,
      place_room a.n a.a a.b a.shared a.quota a.out.now a.from c.requires.n_le_node_limit.1 c.requires.n_in_bounds c.loop-v.out c.loop-v.place c.loop-v.v
          c.loop-v.invariant
          (omega arith),
      λ i. subst (λ q. at q.keys i ≤ empty_key) (sym c.node_pairs-pairs.ensures) (r.low i),
    )

-- the place behind the node's pairs is in the buffer
behind : (c : After-slice_known-in-loop-v-1) → let l = c in
    l.loop-v.place + 2 * at l.args.quota l.loop-v.v ≤ length l.loop-v.out
behind c =
    let a = c.args in
    place_room a.n a.a a.b a.shared a.quota a.out.now a.from c.requires.n_le_node_limit.1 c.requires.n_in_bounds c.loop-v.out c.loop-v.place c.loop-v.v
    c.loop-v.invariant
    (omega arith)

pub loop-v-preserved : goal.loop-v-preserved
loop-v-preserved c =
    let a = c.args in
    let keys = ap (λ r. written c.loop-v.place (key_bytes (take (at a.quota c.loop-v.v) r.keys)) c.loop-v.out) c.node_pairs-pairs.ensures in
    writing_next a.n a.a a.b a.shared a.quota a.out.now a.from c.requires.n_le_node_limit.1 c.requires.n_in_bounds c.loop-v.out c.loop-v.place c.loop-v.v
    c.loop-v.invariant
    (omega arith) c.put_pairs.new.out (c.put_pairs.ensures ∙ keys)

pub returns : goal.returns
returns c =
    let l = c.loop-v in
    let a = c.args in
    let e : l.v ≡ a.n = omega (arith, l.invariant.low) in record {
      value = l.invariant.behind ∙ ap (λ k. a.from + 2 * sum (at a.quota) (up_to k)) e;
      out_after = l.invariant.are ∙ ap (λ k. written a.from (side_out a.a a.b a.shared a.quota k) a.out.now) e;
    }

pub bounds-a-v : goal.bounds-a-v
bounds-a-v c = omega (arith, c.requires.n_le_node_limit.0)

pub bounds-b-v : goal.bounds-b-v
bounds-b-v c = omega (arith, c.requires.n_le_node_limit.0)

pub bounds-shared-v : goal.bounds-shared-v
bounds-shared-v c = omega (arith, c.requires.n_le_node_limit.0)

pub bounds-quota-v : goal.bounds-quota-v
bounds-quota-v c = omega (arith, c.requires.n_le_node_limit.0)

pub overflow_mul-place : goal.overflow_mul-place
overflow_mul-place c = omega (arith, behind (goal.at.overflow_mul-place c).After-slice_known-in-loop-v-1)

pub overflow_add-place : goal.overflow_add-place
overflow_add-place c = omega (arith, behind (goal.at.overflow_add-place c).After-slice_known-in-loop-v-1)

pub shape_of-out : goal.shape_of-out
shape_of-out c = c.loop-v.invariant.size
