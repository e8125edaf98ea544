-- The End theorem: where no rule names a remaining edge and one remains, no plan that Lemma W holds of goes through the state. For
-- into every remaining edge of the plan leads an arc from another one whose cost is at most the fall of a height, 1 for an edge
-- without an arrow of its surveyor and 0 for one with; going on like that would close a loop of cost at most 0. Rule 5 is not used.
use Rattle.std.specs.Prelude.{ℕ, ◌≤◌, ◌<◌, ◌≡◌, refl, Bool, not, T}
use Rattle.std.proofs.Common.{arith, sym, subst, inl, ⊎_elim, T_not}
use Rattle.std.proofs.Math.Decide.{dec_lt}
use Rattle.std.proofs.Math.Logic.{by_cases}
use Rattle.std.proofs.Math.Dec.{not_T}
use Rattle.lists.specs.Test.{by-test, given, bit, bit_yes, bit_no}
use Rattle.lists.specs.Distinct.{chain}
use Rattle.model.specs.Instance.{Instance, stands, deg}
use Rattle.model.specs.Reduction.{State, cut_t, arrow_s, arrow_t, loose, reserved, rule1, rule2, rule3, rule4, rule6, rule7}
use Rattle.theory_reduction.specs.RuleNumbers.{names}
use Rattle.theory_instance.specs.Degree.{deg_none}
use Rattle.theory_instance.specs.Walk.{up_one, up_yes, up_no, New}
use Rattle.theory_reduction.specs.Facts.{Quiet, arrow_s_rem, arrow_t_rem, arrow_t_strict, loose_says, reserved_rem, reserved_says, rule1_quiet}
use Rattle.theory_reduction.specs.Facts.{rule2_quiet, rule6_quiet, rule7_quiet}
use Rattle.theory_reduction.specs.Reach.{Reach, join, loosen}
use Rattle.theory_reduction.specs.PlanAgainstArrows.{both, fits, room, some_or_room, plan_beyond, beyond_plan, instead_of_plan, spare_beats}
use Rattle.theory_reduction.specs.PlanAgainstArrows.{arrow_out_worse, arrow_blocks, better_arrow}
use Rattle.theory_reduction.specs.AlternatingPath.{hop, no_loop, no_gain}
use Rattle.theory_reduction.proofs.AlternatingPath.{no_both_block}
use Rattle.theory_reduction.specs.Chains.{Sit, AS, AT, Mem, outside_stray}
use Rattle.theory_reduction.proofs.Chains.{no_better_in, way_forth}

module _ {G : Instance} {Z : State} {M : ℕ → Bool} (H : Sit G Z M) where
  abbrev height : ℕ → ℕ
  height x = bit (not (arrow_s G Z x))

  height_0 : (x : ℕ) → T (arrow_s G Z x) → height x ≡ 0
  height_0 x t = bit_no (not (arrow_s G Z x)) (not_T (not (arrow_s G Z x)) (λ n. T_not (arrow_s G Z x) n t))

  -- the plan has a remaining edge: a remaining edge outside it would have room at both ends
  some_left : Quiet G Z (rule2 G Z) → (e : ℕ) → e < G.m → T (Z.rem e) → (x : ℕ) × Mem H x
  some_left Q2 e l r = given (rule2_quiet G Z Q2 e l r) (λ (pS, pT). by-test (M e)
      (λ t. (e, record { lt = l; mem = t; left = r }))
      (λ n. ⊎_elim (λ x. x) (λ a. ⊎_elim (λ x. x) (λ b. absurd (H.no_bad.direct e (l, n) a b))
      (some_or_room (AT H) (G.st e) (omega arith)))
      (some_or_room (AS H) (G.sv e) (omega arith))))

  module _ (Q1 : Quiet G Z (rule1 G Z)) (Q2 : Quiet G Z (rule2 G Z)) (Q3 : Quiet G Z (rule3 G Z)) (Q4 : Quiet G Z (rule4 G Z))
      (Q6 : Quiet G Z (rule6 G Z)) (Q7 : Quiet G Z (rule7 G Z)) where
    -- no arc into x from an edge of the plan costs at most the fall of the height
    abbrev Alone : ℕ → Type 0
    Alone x = (y : ℕ) → Mem H y → Reach G M 1 y x (height y) (height x) → ⊥

    -- x without an arrow of its surveyor, which then has a better one g outside the plan
    arrowless_not_alone : (x : ℕ) → Mem H x → Alone x → T (not (arrow_s G Z x)) → ⊥
    arrowless_not_alone x ix alone n = given (better_arrow (AS H) (λ e. tt) x ix n) (λ (g, ng, t, i, w). given (no_better_in H Q2 g ng t) (λ (y, iy, j, k).
        let hx = bit_yes (not (arrow_s G Z x)) n in
        let u = up_no (G.rank_s x) (G.rank_s g) (omega arith) in
        let v = up_yes (G.rank_s g) (G.rank_s x) w in
        alone y iy (hop (height y) (height x) ng ix j i (⊎_elim
        (λ h. omega (arith, up_no (G.rank_t y) (G.rank_t g) h))
        (λ ny. omega (arith, bit_yes (not (arrow_s G Z y)) ny, up_one (G.rank_t y) (G.rank_t g)))
        k))))

    -- x with an arrow of its surveyor s, and f of N(s) outside the plan: f's stand sends an arrow along it
    firm_not_alone : (x f : ℕ) → Mem H x → Alone x → T (arrow_s G Z x) → New G M f → T (arrow_t G Z f) → G.sv f ≡ G.sv x → ⊥
    firm_not_alone x f ix alone a nf b i = let many = rule7_quiet G Z Q7 f nf.0 (arrow_t_rem G Z f b) (arrow_t_strict G Z f b) in
        by_cases (dec_lt (deg (stands G) (both (AT H)) (G.st f)) (cut_t G Z (G.st f)))
        (λ h. given (beyond_plan (AT H) (arrow_s G Z) (G.st f) (arrow_s_rem G Z) (omega arith)) (λ (g, ng, t, j).
        no_both_block H.no_bad g ng (arrow_blocks (AS H) g ng t) (inl (subst (λ v. deg (stands G) M v < G.quota_t v) (sym j) (room (AT H) (G.st f) h)))))
        (λ h. given (arrow_out_worse (AT H) f nf b (omega arith)) (λ (y, iy, n, j, w).
        alone y iy (hop (height y) (height x) nf ix j i (omega (
          arith,
          height_0 x a,
          up_no (G.rank_t y) (G.rank_t f) (omega arith),
          up_yes (G.rank_t f) (G.rank_t y) w,
          up_one (G.rank_s x) (G.rank_s f),
        )))))

    -- a loose stand has no strict edge left, by rule 7
    loose_beats : (f y : ℕ) → New G M f → Mem H y → T (loose G Z (G.st f)) → G.st f ≡ G.st y → G.rank_t f ≤ G.rank_t y
    loose_beats f y nf iy lo j = given (loose_says G Z (G.st f) lo) (λ (few, none). spare_beats (AT H) f y nf iy
        (not_T (arrow_t G Z y) (λ t. omega
        (arith, subst (λ v. cut_t G Z v ≤ deg (stands G) (arrow_s G Z) v) (sym j) (rule7_quiet G Z Q7 y iy.lt iy.left (arrow_t_strict G Z y t)))))
        j few)

    -- or f's stand is loose
    loose_not_alone : (x f : ℕ) → Mem H x → Alone x → T (arrow_s G Z x) → T (not (reserved G Z x)) → New G M f → T (loose G Z (G.st f)) → G.sv f ≡ G.sv x → ⊥
    loose_not_alone x f ix alone a out nf lo i = given (loose_says G Z (G.st f) lo) (λ (few, none).
        by_cases (dec_lt (deg (stands G) (both (AT H)) (G.st f)) (cut_t G Z (G.st f)))
        (λ h. no_gain H.no_bad f x nf (room (AT H) (G.st f) h) ix i (λ y iy j. loose_beats f y nf iy lo j)
        (way_forth H Q1 Q3 Q4 x (outside_stray H x ix out)))
        (λ h. given (plan_beyond (AT H) (arrow_t G Z) (G.st f) (omega arith)) (λ (y, iy, n, j).
        alone y iy (hop (height y) (height x) nf ix j i (omega (
          arith,
          height_0 x a,
          bit_yes (not (arrow_s G Z y)) (deg_none (stands G) (arrow_s G Z) (G.st f) none y iy.lt (sym j)),
          up_no (G.rank_t y) (G.rank_t f) (loose_beats f y nf iy lo j),
          up_one (G.rank_s x) (G.rank_s f),
        ))))))

    -- such an x is not in N(s), which by rule 6 is as large as the quota: so some f of N(s) is outside the plan
    arrow_not_alone : (x : ℕ) → Mem H x → Alone x → T (arrow_s G Z x) → ⊥
    arrow_not_alone x ix alone a =
        let out : T (not (reserved G Z x)) = not_T (reserved G Z x) (λ t. ⊎_elim
        (λ lo. T_not (arrow_s G Z x) (deg_none (stands G) (arrow_s G Z) (G.st x) (loose_says G Z (G.st x) lo).1 x ix.lt refl) a)
        (λ b. rule1_quiet G Z Q1 x ix.lt a b)
        (reserved_says G Z x t)) in
        given (instead_of_plan (AS H) (reserved G Z) x (reserved_rem G Z) ix out
        (omega (arith, fits (AS H) (G.sv x), rule6_quiet G Z Q6 x ix.lt ix.left))) (λ (f, nf, t, i).
        ⊎_elim (λ lo. loose_not_alone x f ix alone a out nf lo i) (λ b. firm_not_alone x f ix alone a nf b i) (reserved_says G Z f t))

    none_remains : (e : ℕ) → e < G.m → T (Z.rem e) → ⊥
    none_remains e l r = given (some_left Q2 e l r) (λ (x, ix).
        chain G.m (Mem H) (λ x y. Reach G M 1 y x (height y) (height x)) (λ x p. p.lt)
        (λ x y z s t. loosen 1 (height z) (height x) (join t s) (omega arith) (omega arith))
        (λ x p s. no_loop H.no_bad p (loosen 1 0 0 s (omega arith) (omega arith))) (λ x. ⊥)
        (λ x ix alone. by-test (arrow_s G Z x) (arrow_not_alone x ix alone) (arrowless_not_alone x ix alone)) x ix)

  -- the End theorem
  pub finished : ((r : ℕ) → Quiet G Z (names G Z r)) → (e : ℕ) → e < G.m → T (Z.rem e) → ⊥
  unfolding names
  finished Q e l r = none_remains (Q 1) (Q 2) (Q 3) (Q 4) (Q 6) (Q 7) e l r
