-- A loop that goes by the links from one edge of a node to its next: what it knows at each, where edges of other nodes change nothing.
use Rattle.std.specs.Prelude.{ℕ, ◌+◌, ◌≤◌, ◌<◌, ◌≡◌, refl, ◌≢◌, List}
use Rattle.std.proofs.Common.{zero-le, arith}
use Rattle.model.specs.Limits.{node_limit}
use Rattle.arrays.specs.ArrayInstance.{at}
use Rattle.arrays.specs.Linked.{Linked, first_head, first_next, past_others}

-- f is an edge of v or behind all edges, and P holds of it
pub record Visit (m : ℕ) (end : List ℕ) (v : ℕ) (P : ℕ → Type 0) (f : ℕ) : Type 0 where
  pub inside : f ≤ m
  pub here : f < m → at end f ≡ v
  pub holds : P f

-- an edge of another node changes nothing
abbrev pub Passed : (m : ℕ) (end : List ℕ) (v : ℕ) (P : ℕ → Type 0) → Type 0
Passed m end v P = (d : ℕ) → d < m → at end d ≢ v → P d → P (d + 1)

module _ {m : ℕ} {end head next : List ℕ} (L : Linked m end head next) where
  -- a node's first edge is one, or there is none
  pub head_inside : (v : ℕ) → v < node_limit → at head v ≤ m
  head_inside v h = (first_head m end head next L v h).inside

  -- the edge behind an edge is a later one, or there is none
  pub next_onward : (f : ℕ) → f < m → (f < at next f) × (at next f ≤ m)
  next_onward f h = let F = first_next m end head next L (at end f) f h refl in (omega (arith, F.onward (omega arith)), F.inside)

  module _ (v : ℕ) (P : ℕ → Type 0) (others : Passed m end v P) where
    -- the first edge of v
    pub visit_first : v < node_limit → P 0 → Visit m end v P (at head v)
    visit_first h p =
        let F = first_head m end head next L v h in
        record { inside = F.inside; here = F.here; holds = past_others m end 0 v (at head v) P zero-le F others p }

    -- and the one behind an edge of v
    pub visit_next : (f : ℕ) → f < m → at end f ≡ v → P (f + 1) → Visit m end v P (at next f)
    visit_next f h e p =
        let F = first_next m end head next L v f h e in
        record { inside = F.inside; here = F.here; holds = past_others m end (f + 1) v (at next f) P (omega arith) F others p }
