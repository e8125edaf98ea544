-- `roster_with::too_long` meets its contract: one of the lists from the j-th on is too long, or none. Assumes nothing.
use Rattle.std.proofs.Common.{◌+◌, ◌-◌, ◌*◌, zero-le, arith, ◌≡◌, sym, ap, ◌∙◌, ◌||◌, ltb, lt-ltb, le-ltb}
use Rattle.model.specs.Limits.{list_limit, entry_width}
use Rattle.roster_positions.proofs.Stamping.{left_all}
use Rattle.roster_with.specs.Entering.{marks_in}
use Rattle.roster_with.specs.WithJoiner.{long_from, long_turn, long_done}
use Rattle.roster_with.proofs.too_long.Goals.{After-shift_count-more}
use Rattle.roster_with.proofs.too_long.Goals as goal

pub loop-j-init : goal.loop-j-init
loop-j-init c =
    let a = c.args in
    (zero-le, omega arith, ap (λ k. long_from (marks_in a.row.now) a.file.now k 1 a.start) (left_all a.n))

-- one list more: it is too long, or the others tell
turn : (t : After-shift_count-more) →
    let l = t in
    let a = l.args in
    let p = t.byte_at-a.result in
    let q = t.byte_at-b.result in
    long_from (marks_in a.row.now) a.file.now a.n 1 a.start
    ≡ ltb list_limit (p + q + t.shift_count-more.result)
    || long_from (marks_in a.row.now) a.file.now (a.n - (l.loop-j.j + 1)) (l.loop-j.j + 1 + 1) (l.loop-j.at + (entry_width * (p + q) + 2))
turn t =
    let a = t.args in
    let p = t.byte_at-a in
    let q = t.byte_at-b in
    t.loop-j.invariant.2
    ∙ long_turn (marks_in a.row.now) a.file.now a.n t.loop-j.j t.loop-j.at t.loop-j-test.true
    p.result q.result t.shift_count-more.result p.ensures q.ensures t.shift_count-more.ensures.0

pub returns-then-a-b : goal.returns-then-a-b
returns-then-a-b c = let e = lt-ltb list_limit _ c.if-a-b.true in sym (turn (goal.at.returns-then-a-b c).After-shift_count-more ∙ simp e)

pub loop-j-preserved : goal.loop-j-preserved
loop-j-preserved c =
    let e = le-ltb list_limit _ c.if-a-b.false in
    (omega arith, omega (arith, c.byte_at-a.type_inv, c.byte_at-b.type_inv), turn (goal.at.loop-j-preserved c).After-shift_count-more ∙ simp e)

pub returns : goal.returns
returns c =
    let a = c.args in
    sym (c.loop-j.invariant.2 ∙ long_done (marks_in a.row.now) a.file.now a.n c.loop-j.j c.loop-j.at c.loop-j-test.false)
