-- text_lines::put_pairs: so far the lines of the first i pairs stand there.
use Rattle.std.proofs.Common.{arith, refl, ap}
use Rattle.text_lines.specs.Appended.{append_as}
use Rattle.text_lines.specs.Texts.{texts_start, texts_next, texts_end, texts_length}
use Rattle.text_lines.specs.Lines.{line_of, pair_at, pair_line_size, pair_at_length}
use Rattle.text_lines.proofs.put_pairs.Goals as goal

pub put_pair-next-requires : goal.put_pair-next-requires
put_pair-next-requires c =
    let a = c.args in
    let l = c.loop-i in
    omega (arith, l.invariant.1.place, texts_length (pair_at a.pairs.now) pair_line_size (pair_at_length a.pairs.now) l.i)

pub loop-i-preserved : goal.loop-i-preserved
loop-i-preserved c =
    let l = c.loop-i in
    let line = append_as (ap line_of c.get-p.ensures) c.put_pair-next.ensures in
    (omega arith, texts_next (pair_at c.args.pairs.now) (omega (arith, c.requires)) l.invariant.1 line, omega arith)

pub loop-i-init : goal.loop-i-init
loop-i-init c = (omega arith, texts_start (pair_at c.args.pairs.now), refl)

pub returns : goal.returns
returns c =
    texts_end (pair_at c.args.pairs.now) c.loop-i.invariant.0 c.loop-i-test.false c.loop-i.invariant.1
