-- The three tests together.
use Rattle.std.proofs.Common.{ap₂, ◌&&◌}
use Rattle.profile.proofs.one_to_one.Goals as goal

pub returns : goal.returns
returns c = ap₂ ◌&&◌ (ap₂ ◌&&◌ c.each_one-s.ensures c.each_one-t.ensures)
    c.plain_edges-plain.ensures
