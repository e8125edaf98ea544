-- The edges of a roster come in the order of its surveyors, and a surveyor's list has no tie: so the place of an edge's entry among the surveyors' is
-- the first edge of its surveyor, and its rank, less one.
use Rattle.std.specs.Prelude.{ℕ, ◌+◌, ◌-◌, ◌≤◌, ◌<◌, ◌≡◌, length, T, ltb}
use native.Mathlib.Omega.{arith}
use Rattle.std.proofs.Common.{inl, inr}
use Rattle.lists.specs.Sum.{count}
use Rattle.model.specs.Roster.{Roster, surveyor_count, list_s, fits}
use Rattle.model.specs.Edges.{Edge, edges_of, edge_at, instance_of}
use Rattle.model.specs.Instance.{Instance}
use Rattle.model.specs.Ranges.{place_s}
use Rattle.theory_files.specs.Position.{position_pos}
use Rattle.theory_files.specs.Ascending.{edges_ascend, later, Before}
use Rattle.theory_files.specs.RosterInstance.{lawful}
use Rattle.theory_ranges.specs.Places.{place_in}
use Rattle.theory_ranges.specs.Counted.{lower}
use Rattle.theory_ranges.specs.RosterSums.{entry}
use Rattle.theory_ranges.specs.RosterPlaces.{rank_s_is, place_s_law, whole_s}

-- the edges come by surveyor, ranks count from 1, and an edge's entry stands behind all edges of lower surveyors, at its rank less one
pub record InOrder (G : Instance) : Type 0 where
  pub ascends : (d e : ℕ) → d < e → e < G.m → G.sv d ≤ G.sv e
  pub first : (e : ℕ) → e < G.m → 1 ≤ G.rank_s e
  pub place : (e : ℕ) → e < G.m → place_in G.m G.sv G.rank_s e ≡ count (λ d. ltb (G.sv d) (G.sv e)) G.m + (G.rank_s e - 1)

module _ (r : Roster) (ok : T (fits r)) where
  abbrev at : ℕ → Edge
  at e = edge_at (edges_of r) e

  -- the instance of a roster within the limits is so
  pub in_order_law : InOrder (instance_of r)
  unfolding instance_of count place_s
  in_order_law = record {
    ascends = λ d e l h. go d e (later (edges_of r) (edges_ascend r) d e l h);
    first = λ e h. omega (arith, rank_s_is r ok e h, position_pos (entry (at e).stand (at e).shift) (list_s r (at e).surveyor));
    place = λ e h. omega (
      arith,
      place_s_law r ok e h,
      rank_s_is r ok e h,
      lower (length (edges_of r)) (surveyor_count r) (λ x. (at x).surveyor) (λ x. (at x).rank_s) (list_s r) (λ x. entry (at x).stand (at x).shift) (whole_s r ok)
          (at e).surveyor (omega (arith, (lawful r ok).at_s.inside e h)),
    );
  }
    where
      go : (d e : ℕ) → Before (at d) (at e) → (at d).surveyor ≤ (at e).surveyor
      go d e (inl k) = omega arith
      go d e (inr (s, k)) = omega arith
