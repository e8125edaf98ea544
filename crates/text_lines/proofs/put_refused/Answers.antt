-- `text_lines::put_refused` meets its contract: a word, the number, the group's word.
use Rattle.std.proofs.Common.{arith}
use Rattle.model.specs.Text.{text}
use Rattle.text_lines.specs.Appended.{append_three}
use Rattle.text_lines.specs.Digits.{field_length}
use Rattle.text_lines.proofs.put_refused.Goals as goal

pub put_group-requires : goal.put_group-requires
put_group-requires c =
    omega (
      arith,
      c.requires,
      c.put_word-next.ensures.place,
      c.put_field-next.ensures.place,
      field_length c.args.number 32,
    )

pub returns : goal.returns
unfolding text
returns c =
    append_three c.args.out.now c.args.at (omega (arith, c.requires)) c.put_word-next.ensures
    c.put_field-next.ensures c.put_group.ensures
