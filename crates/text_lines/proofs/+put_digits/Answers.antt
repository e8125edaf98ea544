-- `text_lines::put_digits` meets its contract: it calls itself for the digits before the last, with one place fewer. Assumes nothing.
use Rattle.std.proofs.Common.{◌-◌, ◌/◌, ◌<◌, arith, sym, ap, ◌∙◌}
use Rattle.model.specs.Printed.{digits}
use Rattle.text_lines.specs.Appended.{append_as, append_none, append_then}
use Rattle.text_lines.specs.Digits.{digits_none, digits_last, digits_more, digits_length}
use Rattle.text_lines.proofs.+put_digits.Goals as goal

pub returns-then-places-eq0 : goal.returns-then-places-eq0
returns-then-places-eq0 t c =
    let a = c.args in append_as (sym (ap (λ k. digits k a.n) c.if-places-eq0.true ∙ digits_none a.n)) (append_none a.out.now a.at)

pub returns-then-n-lt10 : goal.returns-then-n-lt10
returns-then-n-lt10 t c =
    let a = c.args in
    let h : 0 < a.places = omega arith in
    append_as (sym (digits_last a.places a.n h (omega arith))) c.put_byte.ensures

pub put_byte-requires-2 : goal.put_byte-requires-2
put_byte-requires-2 t c =
    let a = c.args in
    omega (arith, c.put_digits-next.ensures.place, digits_length (a.places - 1) (a.n / 10))

pub returns : goal.returns
returns t c =
    let a = c.args in
    let h : 0 < a.places = omega arith in
    append_as (sym (digits_more a.places a.n h (omega arith)))
    (append_then a.out.now a.at (omega arith) c.put_digits-next.ensures c.put_byte-2.ensures)
