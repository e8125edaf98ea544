-- The verdict on a plan and its rival as the program computes them, and that they are the model's: the verdict is `verdict_of`, and where
-- it is not strong the rival is a `Rival`. To believe it: the model's Plans and Finder, and what a lawful instance is (theory_instance, Lawful).
-- The program lists the edges of M, at most 64. It fills the table of the arcs and that of the ends, each price in a byte. It looks for an edge
-- with room at both ends, then for an alternating path without an arc, then it makes the layers one from the other, and at each of them looks for a closed
-- walk first and for an alternating path next: all this below 0, as many levels as M has edges, or until a layer adds nothing (Stop); and
-- if nothing is found, all of it below 1. The first hit ends the search. Its walk is read back from one column of the layers, and the
-- rival is M without the edges that go and with those that come.
use Prim.Native.Nat.{ℕ, ◌+◌, ◌*◌}
use Rattle.std.specs.Prelude.{length}
use Rattle.model.specs.Limits.{plan_limit}
use Rattle.model.specs.Instance.{Instance}
use Rattle.model.specs.Plans.{Plan, on, Verdict}
use Rattle.model.specs.PlanFile.{edges_in, plan_of}
use Rattle.theory_verdict.specs.Search.{verdict_by, rival_edges}

-- 133: a byte holds every price in a table
abbrev pub lid : ℕ
lid = 2 * plan_limit + 5

-- how many edges the plan has, and so how many levels are searched
abbrev pub size_of : Instance → Plan → ℕ
size_of G M = length (edges_in G.m (on M))

-- the verdict by the two searches, below 0 and below 1
unfoldable pub computed_verdict : Instance → Plan → Verdict
computed_verdict G M = verdict_by G (on M) lid (size_of G M)

-- if nothing is found, the plan of M's own edges; nothing is asked of it then
unfoldable pub rival_of : Instance → Plan → Plan
rival_of G M = plan_of G.m (rival_edges G (on M) lid (size_of G M))
