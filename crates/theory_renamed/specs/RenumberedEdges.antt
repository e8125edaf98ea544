-- The instance of a renumbered roster is the roster's under other numbers: each edge becomes the one with the new number of its stand, and back;
-- ranks stay. Edges of one surveyor may come in another order.
use Prim.Native.Nat.{ℕ, ◌<◌}
use Rattle.std.specs.Prelude.{◌≡◌, List}
use Rattle.std.proofs.Math.Dec.{T}
use Rattle.model.specs.Instance.{Instance}
use Rattle.model.specs.Roster.{Roster, stand_count, fits}
use Rattle.model.specs.Edges.{instance_of}
use Rattle.model.specs.PlanFile.{name_of, edge_of_pair}
use Rattle.model_files.specs.Routes.{renumbered, way_back, pair_by}
use Rattle.theory_renamed.specs.RouteNumbers.{Names}

-- ---- an edge and the one that it becomes
pub record Becomes (route : List ℕ) (G H : Instance) (e u : ℕ) : Type 0 where
  pub into : u < H.m
  pub name : name_of H u ≡ pair_by route (name_of G e)
  pub rank_s : H.rank_s u ≡ G.rank_s e
  pub rank_t : H.rank_t u ≡ G.rank_t e

module _ (route : List ℕ) (r : Roster) (ok : T (fits r)) (N : Names route (stand_count r)) where
  abbrev R : Roster
  R = renumbered route r

  abbrev G : Instance
  G = instance_of r

  abbrev H : Instance
  H = instance_of R

  -- an edge's number in the renumbered roster
  abbrev pub new_edge : ℕ → ℕ
  new_edge e = edge_of_pair H (pair_by route (name_of G e))

-- ---- and back, by the way back
module _ (route : List ℕ) (r : Roster) (ok : T (fits r)) (N : Names route (stand_count r)) where
  abbrev back : List ℕ
  back = way_back route

  abbrev Q : Roster
  Q = renumbered route r

  abbrev pub old_edge : ℕ → ℕ
  old_edge u = edge_of_pair (instance_of r) (pair_by back (name_of (instance_of Q) u))
