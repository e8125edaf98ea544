-- `text_lines::put_record` meets its contract: a word, a pair and a number.
use Rattle.std.proofs.Common.{◌≤◌, arith, length, length-append}
use Rattle.text_lines.specs.Appended.{append_as, append_then}
use Rattle.text_lines.specs.Lines.{fate_length, pair_length}
use Rattle.text_lines.proofs.Fields.{record_fields}
use Rattle.text_lines.proofs.put_record.Goals as goal

pub put_pair-next-requires : goal.put_pair-next-requires
put_pair-next-requires c =
    omega (
      arith,
      simp length-append at c.put_fate-next.ensures.place,
      fate_length c.args.fate,
    )

pub put_field-requires : goal.put_field-requires
put_field-requires c =
    let a = c.args in
    omega (
      arith,
      simp length-append at c.put_fate-next.ensures.place,
      fate_length a.fate,
      c.put_pair-next.ensures.place,
      pair_length a.surveyor a.stand a.shift 32,
    )

pub returns : goal.returns
returns c =
    let a = c.args in
    let h : a.at ≤ length a.out.now = omega (arith, c.requires) in
    append_as (record_fields (record { fate = a.fate; surveyor = a.surveyor; stand = a.stand; shift = a.shift; rule = a.rule }))
    (append_then a.out.now a.at h
    (append_then a.out.now a.at h c.put_fate-next.ensures
    c.put_pair-next.ensures)
    c.put_field.ensures)
