-- The plan of plain offers (W-212), for all quotas one and no ties: it is within the quotas and has no blocking pair, no vote of it is below zero, and
-- a strongly popular plan is that plan. So it is strong exactly when the finder hands back a plan, and then the two are the same.
use Rattle.std.specs.Prelude.{ℕ, ◌≤◌, ◌<◌, ◌≡◌, Bool, not, ◌&&◌, ◌||◌, T, eqb, ltb}
use Rattle.std.proofs.Common.{ap, ap₂}
use Rattle.lists.specs.Sum.{up_to, up_to_<}
use Rattle.lists.specs.Keep.{any_cong}
use Rattle.model.specs.Instance.{Instance, Side, surveyors, stands}
use Rattle.model.specs.Blocking.{yields, blocks, some_blocks}
use Rattle.theory_instance.specs.Lawful.{Same}
use Rattle.theory_instance.specs.Degree.{deg_cong}

-- "all quotas one (..) and no ties"
pub record OneToOne (G : Instance) : Type 0 where
  pub strict : (e : ℕ) → e < G.m → T (not (G.tied e))
  pub quota_s : (v : ℕ) → v < G.ns → G.quota_s v ≡ 1
  pub quota_t : (v : ℕ) → v < G.nt → G.quota_t v ≡ 1
  pub most_s : (v : ℕ) → G.quota_s v ≤ 1
  pub most_t : (v : ℕ) → G.quota_t v ≤ 1

-- the same edges, the same blocking pairs
module _ (K : Side) (M N : ℕ → Bool) (s : (e : ℕ) → e < K.m → M e ≡ N e) where
  pub yields_same : (f : ℕ) → yields K M f ≡ yields K N f
  yields_same f = ap₂ ◌||◌ (ap (λ n. ltb n (K.quota (K.end f))) (deg_cong K M N (K.end f) (λ e l i. s e l)))
      (any_cong (λ d. M d && (eqb (K.end d) (K.end f) && ltb (K.rank f) (K.rank d)))
      (λ d. N d && (eqb (K.end d) (K.end f) && ltb (K.rank f) (K.rank d))) (up_to K.m)
      (λ d m. ap (λ b. b && (eqb (K.end d) (K.end f) && ltb (K.rank f) (K.rank d))) (s d (up_to_< K.m m))))

pub blocks_same : (G : Instance) (M N : ℕ → Bool) → Same G M N → some_blocks G M ≡ some_blocks G N
unfolding some_blocks blocks
blocks_same G M N s = any_cong (blocks G M) (blocks G N) (up_to G.m) (λ e m. ap (λ b. ltb e G.m && b)
    (ap₂ (λ a b. not a && b) (s e (up_to_< G.m m)) (ap₂ ◌&&◌ (yields_same (surveyors G) M N s e) (yields_same (stands G) M N s e))))
