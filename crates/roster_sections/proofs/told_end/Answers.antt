-- `roster_sections::told_end` meets its contract: the count is cut off, or too large, or tells the place. Assumes nothing.
use Rattle.std.proofs.Common.{◌+◌, ◌*◌, ◌≤◌, arith, mul-le-mul_left, refl, ap₂, inl, inr}
use Rattle.model.specs.Limits.{entry_limit, entry_width}
use Rattle.roster_reading.specs.Layout.{width_most}
use Rattle.roster_sections.proofs.told_end.Goals.{After-entry_width-width}
use Rattle.roster_sections.proofs.told_end.Goals as goal

pub returns-then-file-at-lt2 : goal.returns-then-file-at-lt2
returns-then-file-at-lt2 c = inl (refl, omega arith)

pub returns-then-total-gt-ENTRY_LIMIT : goal.returns-then-total-gt-ENTRY_LIMIT
returns-then-total-gt-ENTRY_LIMIT c = inr (refl, omega arith, omega arith)

-- the bytes of all entries are few
few : (p : After-entry_width-width) → p.entry_width-width.result * p.wide-total.result ≤ entry_width * entry_limit
few p =
    let a = p.args in
    let h : p.wide-total.result ≤ entry_limit = p.if-total-gt-ENTRY_LIMIT.false in
    omega (arith, mul-le-mul_left p.entry_width-width.result h, width_most a.shifts)

pub returns : goal.returns
returns c =
    let a = c.args in
    (omega arith, omega arith, ap₂ (λ w t. a.at + 2 + a.heads + w * t) c.entry_width-width.ensures c.wide-total.ensures)

pub overflow_mul-result : goal.overflow_mul-result
overflow_mul-result c = omega (arith, few (goal.at.overflow_mul-result c).After-entry_width-width)

pub overflow_add-result-3 : goal.overflow_add-result-3
overflow_add-result-3 c = omega (arith, few (goal.at.overflow_add-result-3 c).After-entry_width-width)
