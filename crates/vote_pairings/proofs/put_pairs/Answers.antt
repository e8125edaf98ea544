-- put_pairs writes the first n pairs. The loop's invariant: the first i are written. Assumes nothing.
use Rattle.std.proofs.Common.{◌+◌, ◌*◌, ◌/◌, ◌%◌, zero-le, arith, ◌≡◌, refl, sym, ap, ◌∙◌, length, take, set, length-set, rules}
use Rattle.arrays.specs.ArrayInstance.{at}
use Rattle.theory_votes.specs.Keys.{key_bytes}
use Rattle.vote_pairings.specs.SideBytes.{written, written_none}
use Rattle.vote_pairings.proofs.Writing.{pair_next}
use Rattle.vote_pairings.proofs.put_pairs.Goals as goal

pub loop-i-init : goal.loop-i-init
loop-i-init c = (zero-le, sym (written_none c.args.from c.args.out.now), refl)

-- a key is that of two ranks
pub overflow_cast-out : goal.overflow_cast-out
overflow_cast-out c = omega (arith, c.requires.2 c.loop-i.i)

pub loop-i-preserved : goal.loop-i-preserved
loop-i-preserved c =
    let a = c.args in
    let i = c.loop-i.i in
    let many : length a.keys ≡ 8 = search rules in
    let next = pair_next a.out.now a.keys a.from i (omega (arith, c.requires.0)) (omega (arith, c.requires.1)) c.loop-i.out c.loop-i.invariant.1 in
    let size = length-set (set c.loop-i.out (a.from + 2 * i) (at a.keys i / 64)) (a.from + 2 * i + 1) (at a.keys i % 64)
    ∙ length-set c.loop-i.out (a.from + 2 * i) (at a.keys i / 64) ∙ c.loop-i.invariant.2 in
    (omega arith, next, size)

pub bounds-out-place-in-loop-i : goal.bounds-out-place-in-loop-i
bounds-out-place-in-loop-i c =
    let a = c.args in
    omega (arith, length-set c.loop-i.out (a.from + 2 * c.loop-i.i) (at a.keys c.loop-i.i / 64), c.loop-i.invariant.2, c.requires.1)

pub returns : goal.returns
returns c =
    let a = c.args in
    let e : c.loop-i.i ≡ a.n = omega arith in
    c.loop-i.invariant.1 ∙ ap (λ k. written a.from (key_bytes (take k a.keys)) a.out.now) e

pub shape_of-out : goal.shape_of-out
shape_of-out c = c.loop-i.invariant.2
