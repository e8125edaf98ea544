-- What holds of every state that steps lead to from the beginning, whatever the instance and without any plan. The model keeps
-- the quotas as the text does, cut before each step and lowered by each fixing; here they get their closed form: after the cut,
-- the stated quota less the fixed edges, but no more than the remaining ones. And what is fixed stays within the stated quotas.
use Rattle.std.specs.Prelude.{ℕ, ◌+◌, ◌-◌, ◌≤◌, ◌<◌, min, ◌≡◌, Bool, true, false, not, ◌&&◌, T, ltb}
use Rattle.std.proofs.Common.{arith}
use Rattle.lists.specs.Test.{bit}
use Rattle.model.specs.Instance.{Instance, Side, surveyors, stands, deg}
use Rattle.model.specs.Reduction.{State, cut, begin}
use Rattle.theory_instance.specs.Degree.{deg_zero}

-- ---- one side
pub record Counted (K : Side) (rem fixed : ℕ → Bool) (q : ℕ → ℕ) : Type 0 where
  pub cut_is : (v : ℕ) → cut K rem q v ≡ min (K.quota v - deg K fixed v) (deg K rem v)
  pub within : (v : ℕ) → deg K fixed v ≤ K.quota v

begin_counted : (K : Side) (rem : ℕ → Bool) → Counted K rem (λ e. false) K.quota
unfolding cut
begin_counted K rem = record {
  cut_is = λ v. omega (arith, deg_zero K (λ e. false) v (λ e l i t. t));
  within = λ v. omega (arith, deg_zero K (λ e. false) v (λ e l i t. t));
}

-- the numbers of a node, before and after a step at an edge that is fixed (b) or struck, and is at the node (c) or not
pub cut_step : (b c : Bool) (quota F F' R R' x : ℕ) → x ≡ min (quota - F) R → R ≡ R' + bit c → F' ≡ F + bit (b && c)
    → min (x - bit (b && c)) R' ≡ min (quota - F') R'
cut_step true true quota F F' R R' x h k g = omega arith
cut_step true false quota F F' R R' x h k g = omega arith
cut_step false true quota F F' R R' x h k g = omega arith
cut_step false false quota F F' R R' x h k g = omega arith

pub within_step : (b c : Bool) (quota F F' R x : ℕ) → x ≡ min (quota - F) R → F ≤ quota → (T b → T c → 0 < x) → F' ≡ F + bit (b && c) → F' ≤ quota
within_step true true quota F F' R x h k r g = omega (arith, r tt tt)
within_step true false quota F F' R x h k r g = omega arith
within_step false c quota F F' R x h k r g = omega arith

-- ---- a state: nothing that is fixed remains, and both sides' counts are right
pub record Sound (G : Instance) (Z : State) : Type 0 where
  pub apart : (e : ℕ) → e < G.m → T (Z.fixed e) → T (not (Z.rem e))
  pub at_s : Counted (surveyors G) Z.rem Z.fixed Z.q_s
  pub at_t : Counted (stands G) Z.rem Z.fixed Z.q_t

pub begin_sound : (G : Instance) → Sound G (begin G)
unfolding begin
begin_sound G = record {
  apart = λ e l t. absurd t;
  at_s = begin_counted (surveyors G) (λ e. ltb e G.m);
  at_t = begin_counted (stands G) (λ e. ltb e G.m);
}
