-- `text_lines::put_counted` meets its contract: a word, the count, the pairs.
use Rattle.std.proofs.Common.{arith}
use Rattle.text_lines.specs.Appended.{append_three}
use Rattle.text_lines.specs.Digits.{field_length}
use Rattle.text_lines.proofs.put_counted.Goals as goal

pub put_pairs-requires : goal.put_pairs-requires
put_pairs-requires c =
    omega (
      arith,
      c.requires,
      c.put_word-next.ensures.place,
      c.put_field-next.ensures.place,
      field_length c.args.n 10,
    )

pub returns : goal.returns
returns c =
    append_three c.args.out.now c.args.at (omega (arith, c.requires)) c.put_word-next.ensures
    c.put_field-next.ensures c.put_pairs.ensures
