-- The model's step, by the first of the rules that names a remaining edge, is the one that the rules' numbers choose.
use Prim.Native.Nat.{ℕ, zero, suc, ◌+◌, ◌≤◌, ◌<◌}
use Rattle.std.proofs.Common.{arith, sym, ◌∙◌, subst}
use Rattle.std.proofs.Math.Decide.{dec_lt}
use Rattle.std.specs.Prelude.{◌≡◌, refl, Bool, true, false, not, cond, ◌&&◌, List, ◌∷◌, drop, T}
use Rattle.std.proofs.Math.Path.{ap}
use Rattle.std.proofs.Math.Logic.{by_cases}
use Rattle.std.proofs.Math.Option.{Option, none, some, or_else}
use Rattle.lists.specs.Test.{given, T_true, T_false, and_i, false_t}
use Rattle.lists.specs.Sum.{range, ∈_range}
use Rattle.lists.specs.First.{first, first_none}
use Rattle.model.specs.Instance.{Instance}
use Rattle.model.specs.Reduction.{State, Rule, rules, Step, step_by, first_step, step_from}
use Rattle.theory_reduction.specs.RuleNumbers.{names, rule_of, edge_of, fate_of, step_of}
use Rattle.theory_reduction.specs.Facts.{Quiet}
use Rattle.theory_reduction.specs.Chosen.{quiet_false, Acts, acts, below_edge, all_quiet}

-- the first number that passes, in a range
first_at : {B : Type 0} (p : ℕ → Bool) (make : ℕ → B) (n i e : ℕ) → i ≤ e → e < i + n → p e ≡ true → ((d : ℕ) → d < e → p d ≡ false)
    → first p make (range i n) ≡ some (make e)
unfolding first
first_at p make zero i e h k t l = absurd (omega arith)
first_at p make (suc n) i e h k t l = by_cases (dec_lt i e)
    (λ b. ap (λ x. cond x (some (make i)) (first p make (range (suc i) n))) (l i b) ∙ first_at p make n (suc i) e b (omega arith) t l)
    (λ b. let q : e ≡ i = omega arith in ap (λ x. cond x (some (make i)) (first p make (range (suc i) n))) (ap p (sym q) ∙ t)
    ∙ ap (λ (d : ℕ). some (make d)) (sym q))

module _ (G : Instance) (Z : State) where
  -- ---- one rule
  pass : (R : Rule) (Rs : List Rule) → Quiet G Z R.names → first_step G Z (R ∷ Rs) ≡ first_step G Z Rs
  unfolding first_step step_by or_else
  pass R Rs q = ap (λ (o : Option Step). or_else o (first_step G Z Rs))
      (first_none (λ e. Z.rem e && R.names e) (λ e. record { fate = R.fate; edge = e; rule = R.number })
      (range 0 G.m) (λ e m. false_t (quiet_false (Z.rem e) (R.names e) (q e (given (∈_range G.m 0 m).1 (λ l. omega arith))))))

  hit : (R : Rule) (Rs : List Rule) (e : ℕ) → e < G.m → Z.rem e && R.names e ≡ true → ((d : ℕ) → d < e → Z.rem d && R.names d ≡ false)
      → first_step G Z (R ∷ Rs) ≡ some (record { fate = R.fate; edge = e; rule = R.number })
  unfolding first_step step_by or_else
  hit R Rs e h t l = ap (λ (o : Option Step). or_else o (first_step G Z Rs))
      (first_at (λ e. Z.rem e && R.names e) (λ e. record { fate = R.fate; edge = e; rule = R.number }) G.m 0 e (omega arith) (omega arith) t l)

  -- ---- the rules from a place on: rule suc k stands at place k
  abbrev from : ℕ → Option Step
  from k = first_step G Z (drop k (rules G Z))

  pass_at : (k : ℕ) → k < 7 → Quiet G Z (names G Z (suc k)) → from k ≡ from (suc k)
  unfolding rules names
  pass_at zero h q = pass _ _ q
  pass_at (suc zero) h q = pass _ _ q
  pass_at (suc (suc zero)) h q = pass _ _ q
  pass_at (suc (suc (suc zero))) h q = pass _ _ q
  pass_at (suc (suc (suc (suc zero)))) h q = pass _ _ q
  pass_at (suc (suc (suc (suc (suc zero))))) h q = pass _ _ q
  pass_at (suc (suc (suc (suc (suc (suc zero)))))) h q = pass _ _ q
  pass_at (suc (suc (suc (suc (suc (suc (suc k))))))) h q = absurd (omega arith)

  pass_to : (k : ℕ) → k ≤ 7 → ((j : ℕ) → j < k → Quiet G Z (names G Z (suc j))) → from 0 ≡ from k
  pass_to zero h q = refl
  pass_to (suc k) h q = pass_to k (omega arith) (λ j l. q j (omega arith)) ∙ pass_at k (omega arith) (q k (omega arith))

  abbrev Hit : ℕ → Type 0
  Hit k = (e : ℕ) → e < G.m → Z.rem e && names G Z (suc k) e ≡ true → ((d : ℕ) → d < e → Z.rem d && names G Z (suc k) d ≡ false)
      → from k ≡ some (record { fate = fate_of (suc k); edge = e; rule = suc k })

  hit_at : (k : ℕ) → k < 7 → Hit k
  unfolding rules names fate_of
  hit_at zero h = hit _ _
  hit_at (suc zero) h = hit _ _
  hit_at (suc (suc zero)) h = hit _ _
  hit_at (suc (suc (suc zero))) h = hit _ _
  hit_at (suc (suc (suc (suc zero)))) h = hit _ _
  hit_at (suc (suc (suc (suc (suc zero))))) h = hit _ _
  hit_at (suc (suc (suc (suc (suc (suc zero)))))) h = hit _ _
  hit_at (suc (suc (suc (suc (suc (suc (suc k))))))) h = absurd (omega arith)

  -- ---- the step
  pub step_taken : rule_of G Z < 8 → step_from G Z ≡ some (step_of G Z)
  step_taken h = given (acts G Z h) (λ A. go A (rule_of G Z) refl)
    where
      go : Acts G Z → (r : ℕ) → rule_of G Z ≡ r → step_from G Z ≡ some (step_of G Z)
      go A zero q = absurd (omega (arith, A.range.0))
      go A (suc k) q =
          let e = edge_of G Z in
          let named : T (names G Z (suc k) e) = subst (λ r. T (names G Z r e)) q A.named in
          pass_to k (omega (arith, A.range.1)) (λ j l. A.earlier (suc j) (omega arith))
          ∙ hit_at k (omega (arith, A.range.1)) e A.inside (T_true (and_i (Z.rem e) (names G Z (suc k) e) A.left named))
          (λ d l. T_false (subst (λ r. T (not (Z.rem d && names G Z r d))) q (below_edge G Z d l)))
          ∙ ap (λ (r : ℕ). some (record { fate = fate_of r; edge = e; rule = r })) (sym q)

  pub no_step : 8 ≤ rule_of G Z → step_from G Z ≡ none
  unfolding rules first_step
  no_step h = pass_to 7 (omega arith) (λ j l. all_quiet G Z h (suc j))
