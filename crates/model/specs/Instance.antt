-- A roster as votes and rules see it: edges (document 01's pairs) with their two ends, their ranks there and whether they are
-- tied, and the quotas. Edges and nodes are numbers from 0; a set of edges is a test, of which only numbers below m count.
-- Two edges may have the same two ends: votes, plans and rules never ask otherwise (plan files do, PlanFile.antt).
use Rattle.std.specs.Prelude.{ℕ, Bool, false, ◌&&◌, eqb}
use Rattle.lists.specs.Sum.{count}

-- edges, numbered, with their ends, shift and ranks; the surveyors and the stands with their quotas
pub record Instance : Type 0 where
  pub m : ℕ  -- how many edges, surveyors, stands
  pub ns : ℕ
  pub nt : ℕ
  pub sv : ℕ → ℕ  -- an edge's surveyor, its stand
  pub st : ℕ → ℕ
  pub sh : ℕ → ℕ  -- its shift: files tell edges apart by it, votes and rules never look at it
  pub rank_s : ℕ → ℕ  -- its rank at the surveyor, at the stand: the less the better
  pub rank_t : ℕ → ℕ
  pub tied : ℕ → Bool  -- tied at its stand
  pub quota_s : ℕ → ℕ  -- of a surveyor, of a stand
  pub quota_t : ℕ → ℕ

-- one side of it, as one end of the edges sees it: what is said of a node is said once for surveyors and stands
pub record Side : Type 0 where
  pub m : ℕ  -- how many edges
  pub n : ℕ  -- how many nodes
  pub end : ℕ → ℕ  -- an edge's node
  pub rank : ℕ → ℕ  -- its rank there
  pub tie : ℕ → Bool  -- tied there
  pub quota : ℕ → ℕ

-- surveyors rank strictly: "ties on the surveyors' side" are left out
abbrev pub surveyors : Instance → Side
surveyors G = record { m = G.m; n = G.ns; end = G.sv; rank = G.rank_s; tie = λ e. false; quota = G.quota_s }

-- the stands' side, with its ties
abbrev pub stands : Instance → Side
stands G = record { m = G.m; n = G.nt; end = G.st; rank = G.rank_t; tie = G.tied; quota = G.quota_t }

-- how many edges of a set lie at a node
unfoldable pub deg : Side → (ℕ → Bool) → ℕ → ℕ
deg K p v = count (λ e. p e && eqb (K.end e) v) K.m
