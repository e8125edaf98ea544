-- ranges_least::answered: the choice, the vote under it, and its ranks in front of the buffer. Assumes nothing.
use Rattle.std.proofs.Common.{◌*◌, arith, sym, ◌∙◌, take, length-take, length-take-le, w16}
use mir.ValLaws.{to_z-of_z}
use Rattle.instance.specs.Decoded.{shown_by}
use Rattle.theory_ranges.specs.RangesFile.{taken}
use Rattle.ranges_least.specs.ChoiceVote.{listed_edges}
use Rattle.ranges_least.specs.Asked.{small, asked_answered}
use borrow.Author.Rules.{sfits_of}
use Rattle.ranges_least.proofs.answered.Goals as goal

pub choose-c-requires : goal.choose-c-requires
choose-c-requires c =
    let a = c.args in
    let L = c.requires.loaded.0 in
    let P = c.requires.loaded.1 in
    let Q = c.requires.loaded.2 in record {
      loaded = (
        L,
        c.requires.in_order_law.0,
        listed_edges a.g.m a.p.now a.pn a.pe.now L.edges P.listed,
        listed_edges a.g.m a.q.now a.qn a.qe.now L.edges Q.listed,
      );
      taken = (taken (2 * a.g.m) a.ranges.now (omega (arith, c.requires.in_order_law.1)), c.requires.in_order_law.2);
    }

pub choice_vote-v-requires : goal.choice_vote-v-requires
choice_vote-v-requires c =
    let a = c.args in
    let L = c.requires.loaded.0 in
    let P = c.requires.loaded.1 in
    let Q = c.requires.loaded.2 in
    let w = c.choose-c in record {
      loaded = (L, P, Q);
      ranked = (
        w.ensures.ranked,
        small (shown_by a.g) a.p.now a.q.now a.ranges.now a.out.now c.requires.in_order_law.1 (take a.pn a.pe.now) w.result.ranks
            P.listed.are w.ensures.worst,
      );
    }

pub slice_bounds-ranks-end : goal.slice_bounds-ranks-end
slice_bounds-ranks-end c = omega (
  arith,
  c.choose-c.ensures.size,
  c.requires.loaded.0.edges,
)

pub slice_bounds-copy-end : goal.slice_bounds-copy-end
slice_bounds-copy-end c =
    let w = c.choose-c in
    sym (length-take-le (2 * c.args.g.m) w.result.ranks (omega
    (arith, w.ensures.size, c.requires.loaded.0.edges)))

pub copy-k-requires : goal.copy-k-requires
copy-k-requires c =
    omega (arith, c.requires.loaded.3, c.requires.loaded.0.edges, length-take (2 * c.args.g.m) c.choose-c.result.ranks)

pub returns : goal.returns
returns c =
    let a = c.args in
    let L = c.requires.loaded.0 in
    let P = c.requires.loaded.1 in
    let Q = c.requires.loaded.2 in
    let w = c.choose-c in
    let v = c.choice_vote-v in
    let k = c.copy-k in
    asked_answered (shown_by a.g) a.p.now a.q.now a.ranges.now a.out.now c.requires.in_order_law.1 (take a.pn a.pe.now) w.result.ranks
    P.listed.are w.ensures.worst (omega (arith, w.ensures.size, L.edges)) (to_z-of_z w16 v.result (sfits_of v.type_inv) ∙ v.ensures) k.ensures.0
    k.ensures.1
