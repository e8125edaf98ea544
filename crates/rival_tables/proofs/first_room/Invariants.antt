use Rattle.std.proofs.Common.{◌≡◌, ◌≤◌}
use Rattle.arrays.specs.ArrayInstance.{flag}
use Rattle.lists.specs.Search.{low}
use Rattle.rival_tables.proofs.first_room.Given as goal

abbrev pub invariant-loop-v : goal.invariant-loop-v
invariant-loop-v l = (l.v ≤ 32) × (low (flag l.room) l.v ≡ l.v)
