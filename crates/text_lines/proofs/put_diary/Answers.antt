-- `text_lines::put_diary` meets its contract: so far the lines of the first i records stand there.
use Rattle.std.proofs.Common.{arith, refl}
use Rattle.text_lines.specs.Texts.{texts_start, texts_next, texts_end, texts_length}
use Rattle.text_lines.specs.Lines.{record_at, diary_at, diary_line_size, diary_length}
use Rattle.text_lines.proofs.put_diary.Goals as goal

pub put_record-next-requires : goal.put_record-next-requires
put_record-next-requires c =
    let a = c.args in
    let l = c.loop-i in
    omega (arith, l.invariant.1.place, texts_length (diary_at a.flat.now) diary_line_size (λ j. diary_length (record_at a.flat.now j)) l.i)

pub loop-i-preserved : goal.loop-i-preserved
loop-i-preserved c =
    let l = c.loop-i in
    (omega arith, texts_next (diary_at c.args.flat.now) (omega (arith, c.requires)) l.invariant.1 c.put_record-next.ensures, omega arith)

pub loop-i-init : goal.loop-i-init
loop-i-init c = (omega arith, texts_start (diary_at c.args.flat.now), refl)

pub returns : goal.returns
returns c =
    texts_end (diary_at c.args.flat.now) c.loop-i.invariant.0 c.loop-i-test.false c.loop-i.invariant.1
