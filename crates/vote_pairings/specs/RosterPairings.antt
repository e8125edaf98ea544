-- The arrays of an accepted roster, and plans within its quotas, are what the pairings ask for; and the bytes of any two plans of an accepted roster
-- fit into a buffer of 256 and are ranks.
use Rattle.std.specs.Prelude.{ℕ, ◌+◌, ◌*◌, ◌≤◌, ◌<◌, Bool, List, length, T}
use Rattle.std.proofs.Common.{arith}
use Rattle.lists.specs.Sum.{◌∈◌, sum, up_to}
use Rattle.model.specs.Limits.{empty_rank, pairing_size}
use Rattle.model.specs.Instance.{deg}
use Rattle.model.specs.Roster.{Roster, fits}
use Rattle.model.specs.Edges.{instance_of}
use Rattle.model.specs.Facing.{pairing_bytes}
use Rattle.theory_instance.specs.Lawful.{Matching}
use Rattle.theory_files.specs.RosterInstance.{lawful}
use Rattle.theory_files.specs.RosterQuotas.{quota_sums, ranks_from_1}
use Rattle.theory_votes.specs.PairingBytes.{pairing_bytes_fit, pairing_bytes_ranks}
use Rattle.arrays.specs.ArrayInstance.{at, flag}
use Rattle.instance.specs.declared.Instance.{Instance}
use Rattle.instance.specs.Decoded.{shown_by}
use Rattle.instance.specs.Loaded.{Loaded}
use Rattle.vote_plans.specs.Votable.{side_arrays}
use Rattle.plan_lookup.specs.PlanEdges.{Listed}
use Rattle.vote_pairings.specs.SidePairings.{Faced, BothAsked}

-- "Each vote's pairings need a buffer of 256 bytes"
module _ (r : Roster) (ok : T (fits r)) (M N : ℕ → Bool) (pM : Matching (instance_of r) M) (pN : Matching (instance_of r) N) where
  pub roster_pairings_fit : length (pairing_bytes (instance_of r) M N) ≤ pairing_size
  roster_pairings_fit = pairing_bytes_fit (instance_of r) M N (lawful r ok) pM pN (quota_sums r ok).0 (quota_sums r ok).1

  pub roster_pairings_ranks : (b : ℕ) → b ∈ pairing_bytes (instance_of r) M N → (0 < b) × (b ≤ empty_rank)
  roster_pairings_ranks = pairing_bytes_ranks (instance_of r) M N (lawful r ok) pM pN (ranks_from_1 r ok)

-- ---- the arrays
module _ (g : Instance) (L : Loaded g) where
  -- on both sides, the arrays of an accepted roster and two plans within its quotas face each other
  pub both_faced : (p q : List Bool) → Matching (shown_by g) (flag p) → Matching (shown_by g) (flag q)
      → Faced g.m g.ns g.sv g.rank_s g.quota_s p q × Faced g.m g.nt g.st g.rank_t g.quota_t p q
  unfolding deg
  both_faced p q pM qM = (
    record { arrays = (side_arrays g L).0; few = λ v. (L.quotas v).0; first = pM.at_s; second = qM.at_s },
    record { arrays = (side_arrays g L).1; few = λ v. (L.quotas v).1; first = pM.at_t; second = qM.at_t },
  )

  -- with the lists of their edges they are what the pairings ask for
  abbrev pub both_asked : (p q : List Bool) {pn qn : ℕ} {pe qe : List ℕ} → Matching (shown_by g) (flag p) → Matching (shown_by g) (flag q)
      → Listed g.m p pn pe → Listed g.m q qn qe
      → BothAsked g.ns g.nt g.sv g.st g.rank_s g.rank_t g.quota_s g.quota_t p pn pe q qn qe
  both_asked p q pM qM P Q = record { m = g.m; at_s = (both_faced p q pM qM).0; at_t = (both_faced p q pM qM).1; own = P; others = Q }

  -- a buffer of 256 bytes has two for each place of all quotas
  pub room : (n : ℕ) → pairing_size ≤ n → 2 * (sum (at g.quota_s) (up_to g.ns) + sum (at g.quota_t) (up_to g.nt)) ≤ n
  room n h = omega (arith, L.places)
