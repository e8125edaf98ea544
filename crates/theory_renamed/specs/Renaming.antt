-- An instance under other numbers of nodes and edges: by Lemma P the votes are the same, plans correspond, and the strongly popular plans are
-- those of before, renamed. The edges may come in another order.
use Rattle.std.specs.Prelude.{ℕ, ◌<◌, ◌≡◌}
use Rattle.model.specs.Instance.{Instance, Side, surveyors, stands}
use Rattle.model.specs.Plans.{Plan, on}
use Rattle.model.specs.PlanFile.{plan_of}
use Rattle.theory_instance.specs.Lawful.{Lawful}
use Rattle.theory_renamed.specs.Numberings.{Numbering}

-- one side: edges by ε, nodes by τ, and the ways back
pub record Moved (K A : Side) (ε δ τ ρ : ℕ → ℕ) : Type 0 where
  pub edges : K.m ≡ A.m
  pub nodes : K.n ≡ A.n
  pub by_edge : Numbering A.m ε δ
  pub by_node : Numbering A.n τ ρ
  pub end : (e : ℕ) → e < A.m → K.end (ε e) ≡ τ (A.end e)
  pub rank : (e : ℕ) → e < A.m → K.rank (ε e) ≡ A.rank e
  pub quota : (v : ℕ) → v < A.n → K.quota (τ v) ≡ A.quota v
  pub inside : (e : ℕ) → e < A.m → A.end e < A.n

-- ---- both sides
module _ (J G : Instance) (ε δ σ σ' τ ρ : ℕ → ℕ) (vS : Moved (surveyors J) (surveyors G) ε δ σ σ') (vT : Moved (stands J) (stands G) ε δ τ ρ)
    (LJ : Lawful J) (LG : Lawful G) where
  -- a plan of the old under the new numbers, and back
  unfoldable pub renamed : Plan → Plan
  renamed M = plan_of J.m (λ u. on M (δ u))
