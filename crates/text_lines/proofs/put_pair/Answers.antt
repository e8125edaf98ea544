-- `text_lines::put_pair` meets its contract: three numbers.
use Rattle.std.proofs.Common.{◌≤◌, arith, length}
use Rattle.text_lines.specs.Appended.{append_as, append_then}
use Rattle.text_lines.specs.Digits.{field_length}
use Rattle.text_lines.proofs.Fields.{pair_fields}
use Rattle.text_lines.proofs.put_pair.Goals as goal

pub put_field-next-requires-2 : goal.put_field-next-requires-2
put_field-next-requires-2 c =
    let a = c.args in
    omega (arith, c.put_field-next.ensures.place, field_length a.surveyor 32)

pub put_field-requires : goal.put_field-requires
put_field-requires c =
    let a = c.args in
    omega (
      arith,
      c.put_field-next.ensures.place,
      field_length a.surveyor 32,
      c.put_field-next-2.ensures.place,
      field_length a.stand 32,
    )

pub returns : goal.returns
returns c =
    let a = c.args in
    let h : a.at ≤ length a.out.now = omega (arith, c.requires) in
    append_as (pair_fields a.surveyor a.stand a.shift a.end)
    (append_then a.out.now a.at h
    (append_then a.out.now a.at h c.put_field-next.ensures
    c.put_field-next-2.ensures)
    c.put_field.ensures)
