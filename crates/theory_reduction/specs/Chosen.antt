-- Which rule acts, and on which edge: what `rule_of` and `edge_of` choose, and what holds if no rule acts. A rule that
-- fixes finds a place left at both ends of its edge. No plan comes in.
use Prim.Native.Nat.{ℕ, zero, suc, ◌≤◌, ◌<◌}
use Rattle.std.proofs.Common.{arith}
use Rattle.std.proofs.Math.Decide.{dec_lt}
use Rattle.std.specs.Prelude.{◌≡◌, Bool, true, false, not, ◌&&◌}
use Rattle.std.proofs.Math.Path.{refl}
use Rattle.std.proofs.Math.Logic.{by_cases}
use Rattle.std.proofs.Math.Dec.{T, ltb, ltb→lt, nltb→le, not_T}
use Rattle.lists.specs.Test.{given, and_l, and_r, nand_r, T_false}
use Rattle.lists.specs.Search.{low_is}
use Rattle.model.specs.Instance.{Instance, surveyors, stands}
use Rattle.model.specs.Reduction.{State, cut_s, cut_t, arrow_s, rule1, rule2, rule3, rule4, rule5, rule6, rule7, fixes}
use Rattle.theory_reduction.specs.RuleNumbers.{names, lowest, rule_of, edge_of, fate_of}
use Rattle.theory_instance.specs.Degree.{deg_pos}
use Rattle.theory_reduction.specs.Arrows.{arrow_few}
use Rattle.theory_reduction.specs.Facts.{Quiet, rule1_says, rule2_quiet, rule3_says, rule6_says, rule7_says}

pub quiet_false : (a b : Bool) → (T a → T (not b)) → a && b ≡ false
quiet_false true b h = T_false (h tt)
quiet_false false b h = refl

module _ (G : Instance) (Z : State) where
  -- a rule that names an edge is one of the seven
  pub by_rule : (P : ℕ → Type 0) (e : ℕ) → (T (rule1 G Z e) → P 1) → (T (rule2 G Z e) → P 2) → (T (rule3 G Z e) → P 3) → (T (rule4 G Z e) → P 4)
      → (T (rule5 G Z e) → P 5) → (T (rule6 G Z e) → P 6) → (T (rule7 G Z e) → P 7) → (r : ℕ) → T (names G Z r e) → P r
  unfolding names
  by_rule P e p1 p2 p3 p4 p5 p6 p7 zero t = absurd t
  by_rule P e p1 p2 p3 p4 p5 p6 p7 (suc zero) t = p1 t
  by_rule P e p1 p2 p3 p4 p5 p6 p7 (suc (suc zero)) t = p2 t
  by_rule P e p1 p2 p3 p4 p5 p6 p7 (suc (suc (suc zero))) t = p3 t
  by_rule P e p1 p2 p3 p4 p5 p6 p7 (suc (suc (suc (suc zero)))) t = p4 t
  by_rule P e p1 p2 p3 p4 p5 p6 p7 (suc (suc (suc (suc (suc zero))))) t = p5 t
  by_rule P e p1 p2 p3 p4 p5 p6 p7 (suc (suc (suc (suc (suc (suc zero)))))) t = p6 t
  by_rule P e p1 p2 p3 p4 p5 p6 p7 (suc (suc (suc (suc (suc (suc (suc zero))))))) t = p7 t
  by_rule P e p1 p2 p3 p4 p5 p6 p7 (suc (suc (suc (suc (suc (suc (suc (suc r)))))))) t = absurd t

  names_range : (r e : ℕ) → T (names G Z r e) → (1 ≤ r) × (r ≤ 7)
  names_range r e = by_rule (λ r. (1 ≤ r) × (r ≤ 7)) e (λ t. omega arith) (λ t. omega arith) (λ t. omega arith) (λ t. omega arith) (λ t. omega arith)
      (λ t. omega arith) (λ t. omega arith) r

  none_lowest : (r : ℕ) → T (not (ltb (lowest G Z r) G.m)) → Quiet G Z (names G Z r)
  unfolding lowest
  none_lowest r n e l t = nand_r (Z.rem e) (names G Z r e)
      ((low_is (λ e. Z.rem e && names G Z r e) G.m).1 e (omega (arith, nltb→le (lowest G Z r) G.m n))) t

  earlier_quiet : (k : ℕ) → k < rule_of G Z → Quiet G Z (names G Z k)
  unfolding rule_of
  earlier_quiet k h = none_lowest k ((low_is (λ r. ltb (lowest G Z r) G.m) 8).1 k h)

  -- what holds of the rule and the edge where a rule acts
  pub record Acts : Type 0 where
    pub range : (1 ≤ rule_of G Z) × (rule_of G Z ≤ 7)
    pub inside : edge_of G Z < G.m
    pub left : T (Z.rem (edge_of G Z))
    pub named : T (names G Z (rule_of G Z) (edge_of G Z))
    pub earlier : (k : ℕ) → k < rule_of G Z → Quiet G Z (names G Z k)

  -- a number below 8 is that of a rule that acts
  pub acts : rule_of G Z < 8 → Acts
  unfolding rule_of edge_of lowest
  acts h =
      let l : edge_of G Z < G.m = ltb→lt (edge_of G Z) G.m ((low_is (λ r. ltb (lowest G Z r) G.m) 8).2 h) in
      let t = (low_is (λ e. Z.rem e && names G Z (rule_of G Z) e) G.m).2 l in
      let n = and_r (Z.rem (edge_of G Z)) (names G Z (rule_of G Z) (edge_of G Z)) t in
      record {
        range = names_range (rule_of G Z) (edge_of G Z) n;
        inside = l;
        left = and_l (Z.rem (edge_of G Z)) (names G Z (rule_of G Z) (edge_of G Z)) t;
        named = n;
        earlier = earlier_quiet;
      }

  -- its edge is the lowest
  pub below_edge : (d : ℕ) → d < edge_of G Z → T (not (Z.rem d && names G Z (rule_of G Z) d))
  unfolding edge_of lowest
  below_edge d h = (low_is (λ e. Z.rem e && names G Z (rule_of G Z) e) G.m).1 d h

  -- whether one acts is seen from the edge too
  pub edge_acts : edge_of G Z < G.m → rule_of G Z < 8
  unfolding edge_of lowest
  edge_acts l =
      let t = (low_is (λ e. Z.rem e && names G Z (rule_of G Z) e) G.m).2 l in
      omega (arith, names_range (rule_of G Z) (edge_of G Z) (and_r (Z.rem (edge_of G Z)) (names G Z (rule_of G Z) (edge_of G Z)) t))

  -- where no edge is named, no rule acts
  pub edge_none : G.m ≤ edge_of G Z → 8 ≤ rule_of G Z
  edge_none h = by_cases (dec_lt (rule_of G Z) 8) (λ k. absurd (omega (arith, (acts k).inside))) (λ k. omega arith)

  -- where none acts, none names a remaining edge
  pub all_quiet : 8 ≤ rule_of G Z → (r : ℕ) → Quiet G Z (names G Z r)
  all_quiet h r = by_cases (dec_lt r 8)
      (λ k. earlier_quiet r (omega arith))
      (λ k e l t. not_T (names G Z r e) (λ n. absurd (omega (arith, names_range r e n))))

  -- a rule fixes only where both quotas have a place left: rules 6 and 7 look at one end, silent rule 2 at both
  pub fixes_room : (r e : ℕ) → e < G.m → T (Z.rem e) → T (names G Z r e) → ((k : ℕ) → k < r → Quiet G Z (names G Z k))
      → T (fixes (fate_of r)) → (0 < cut_s G Z (G.sv e)) × (0 < cut_t G Z (G.st e))
  unfolding names fate_of
  fixes_room r e l t n = by_rule (λ r. ((k : ℕ) → k < r → Quiet G Z (names G Z k)) → T (fixes (fate_of r)) → Room) e
      (λ n Q f. given (rule1_says G Z e n)
      (λ (a, b). omega (arith, arrow_few (surveyors G) Z.rem (cut_s G Z) e a, arrow_few (stands G) Z.rem (cut_t G Z) e b)))
      (λ n Q f. absurd f)
      (λ n Q f. given (rule3_says G Z e n)
      (λ (a, h). omega (arith, arrow_few (surveyors G) Z.rem (cut_s G Z) e a, deg_pos (stands G) (arrow_s G Z) (G.st e) e l refl a)))
      (λ n Q f. absurd f)
      (λ n Q f. absurd f)
      (λ n Q f. omega (arith, rule6_says G Z e n, rule2_quiet G Z (Q 2 (omega arith)) e l t))
      (λ n Q f. omega (arith, rule7_says G Z e n, rule2_quiet G Z (Q 2 (omega arith)) e l t))
      r n
    where
      Room : Type 0
      Room = (0 < cut_s G Z (G.sv e)) × (0 < cut_t G Z (G.st e))
