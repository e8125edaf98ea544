-- `text_lines::put_field` meets its contract: a number and one byte more. Assumes nothing.
use Rattle.std.proofs.Common.{arith}
use Rattle.text_lines.specs.Appended.{append_then}
use Rattle.text_lines.specs.Digits.{digits_length}
use Rattle.text_lines.proofs.put_field.Goals as goal

pub put_byte-requires : goal.put_byte-requires
put_byte-requires c =
    let d = c.put_digits-next in
    omega (arith, d.ensures.place, digits_length 4 c.args.n)

pub returns : goal.returns
returns c =
    let a = c.args in
    append_then a.out.now a.at (omega arith) c.put_digits-next.ensures
    c.put_byte.ensures
