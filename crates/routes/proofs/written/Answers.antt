-- `routes::written` meets its contract: one part behind the other. Assumes nothing.
use Rattle.std.proofs.Common.{◌+◌, ◌≤◌, arith, ◌≡◌, ap, length, length-drop}
use Rattle.routes.specs.Reading.{mid_length, part_is, written_both}
use Rattle.routes.proofs.written.Goals.{After-copy-a}
use Rattle.routes.proofs.written.Goals as goal

pub copy-a-requires : goal.copy-a-requires
copy-a-requires c = omega (arith, c.requires, ap length c.part-front.ensures)

-- both parts fit
room : (k : After-copy-a) → length k.part-front.result.now + length k.args.roster.now
    ≤ length k.args.out.now
room k = omega (
  arith,
  k.requires,
  ap length k.part-front.ensures,
)

-- the buffer is as long as before
same : (k : After-copy-a) → length k.copy-a.new.to ≡ length k.args.out.now
same k =
    mid_length k.part-front.result.now k.args.roster.now k.args.out.now (room k) k.copy-a.result
    k.copy-a.ensures.0 k.copy-a.new.to k.copy-a.ensures.1

pub slice_bounds-copy-count : goal.slice_bounds-copy-count
slice_bounds-copy-count c = omega (arith, room (goal.at.slice_bounds-copy-count c).After-copy-a, same (goal.at.slice_bounds-copy-count c).After-copy-a, c.copy-a.ensures.0)

pub copy-b-requires : goal.copy-b-requires
copy-b-requires c =
    let o = c.args.out.now in
    let part = part_is c.part-front.result.now c.args.roster.now o (room (goal.at.copy-b-requires c).After-copy-a) c.copy-a.result
    c.copy-a.ensures.0 c.copy-a.new.to c.copy-a.ensures.1 in
    omega (arith, ap length part, length-drop c.copy-a.result o, room (goal.at.copy-b-requires c).After-copy-a, c.copy-a.ensures.0)

pub returns : goal.returns
returns c =
    let x = c.part-front in
    written_both x.result.now c.args.roster.now c.args.out.now (room (goal.at.returns c).After-copy-a) c.copy-a.result c.copy-a.ensures.0 c.copy-a.new.to
    c.copy-a.ensures.1 c.args.file.now c.args.k x.ensures c.copy-b.result c.copy-b.ensures.0 c.copy-b.new.to c.copy-b.ensures.1

pub slice_bounds-copy-start : goal.slice_bounds-copy-start
slice_bounds-copy-start c = omega (arith, room (goal.at.slice_bounds-copy-start c).After-copy-a, same (goal.at.slice_bounds-copy-start c).After-copy-a, c.copy-a.ensures.0)
