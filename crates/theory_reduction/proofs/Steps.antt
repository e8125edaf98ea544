-- The Step theorem: in a situation, what a rule fixes is in the plan and what a rule strikes is not, given that no earlier rule
-- names a remaining edge. Rules 1 and 2 rest on "no blocking edge" alone, the others on the chains.
use Rattle.std.specs.Prelude.{ℕ, ◌+◌, ◌<◌, refl, Bool, not, ◌||◌}
use Rattle.std.proofs.Common.{arith, sym, inr, ⊎_elim}
use Rattle.std.proofs.Math.Decide.{dec_lt}
use Rattle.std.proofs.Math.Logic.{by_cases}
use Rattle.std.proofs.Math.Dec.{T}
use Rattle.lists.specs.Test.{by-test, given, or_l, nor_l, nor_r}
use Rattle.model.specs.Instance.{Instance, surveyors, stands, deg}
use Rattle.model.specs.Reduction.{State, cut_s, cut_t, arrow_s, arrow_t, reserved, rule1, rule2, rule3, rule4, rule5, rule6, rule7, fixes}
use Rattle.theory_reduction.specs.RuleNumbers.{names, fate_of}
use Rattle.theory_instance.specs.Degree.{deg_none, deg_pos}
use Rattle.theory_instance.specs.Walk.{up, up_one, up_yes, up_no, New}
use Rattle.theory_reduction.specs.Arrows.{few_arrow}
use Rattle.theory_reduction.specs.Facts.{Quiet, arrow_s_rem, arrow_t_rem, loose_says, reserved_rem, arrow_reserved, reserved_says, in_or_out}
use Rattle.theory_reduction.specs.Facts.{rule1_says, rule2_says, rule3_says, rule4_says, rule5_says, rule6_says, rule7_says}
use Rattle.theory_reduction.specs.Chosen.{by_rule}
use Rattle.theory_reduction.specs.Reach.{join, loosen}
use Rattle.theory_reduction.specs.PlanAgainstArrows.{Blocks, both, fits, room, no_room, plan_beyond, plan_instead, beyond_plan, better_beyond}
use Rattle.theory_reduction.specs.PlanAgainstArrows.{sharp, spare_beats, first_beats_law, arrow_blocks}
use Rattle.theory_reduction.specs.AlternatingPath.{hop, after, arrive, no_lG, no_gain}
use Rattle.theory_reduction.proofs.AlternatingPath.{no_back_forth, no_arrival, no_both_block}
use Rattle.theory_reduction.specs.Chains.{Sit, AS, AT, Mem, outside_stray, to_stray}
use Rattle.theory_reduction.proofs.Chains.{way_back_law, arrival, way_forth}

module _ {G : Instance} {Z : State} {M : ℕ → Bool} (H : Sit G Z M) where
  -- by contradiction
  in_plan : (e : ℕ) → e < G.m → (New G M e → ⊥) → T (M e)
  in_plan e l h = by-test (M e) (λ t. t) (λ n. absurd (h (l, n)))

  not_in : (e : ℕ) → e < G.m → T (Z.rem e) → (Mem H e → ⊥) → T (not (M e))
  not_in e l r h = by-test (M e) (λ t. absurd (h (record { lt = l; mem = t; left = r }))) (λ n. n)

  -- an arrow of both ends outside the plan blocks at both
  fix1 : (e : ℕ) → e < G.m → T (rule1 G Z e) → T (M e)
  fix1 e l t = given (rule1_says G Z e t)
      (λ (s, u). in_plan e l (λ nf. no_both_block H.no_bad e nf (arrow_blocks (AS H) e nf s) (arrow_blocks (AT H) e nf u)))

  -- one of the better edges that come in is outside the plan: it blocks here, by e, and at the end that its arrow leaves
  strike2 : (e : ℕ) → e < G.m → T (Z.rem e) → T (rule2 G Z e) → T (not (M e))
  strike2 e l r t = not_in e l r (λ ie. ⊎_elim
      (λ h. given (better_beyond (AS H) (arrow_t G Z) e (arrow_t_rem G Z) ie h)
      (λ (g, ng, s, i, w). no_both_block H.no_bad g ng (inr (e, ie, i, w)) (arrow_blocks (AT H) g ng s)))
      (λ h. given (better_beyond (AT H) (arrow_s G Z) e (arrow_s_rem G Z) ie h)
      (λ (g, ng, s, i, w). no_both_block H.no_bad g ng (arrow_blocks (AS H) g ng s) (inr (e, ie, i, w))))
      (rule2_says G Z e t))

  -- outside the plan, e leaves a place at its stand to an edge x without any arrow; a way back to x, then e, and e blocks at its surveyor
  fix3 : Quiet G Z (rule1 G Z) → Quiet G Z (rule2 G Z) → (e : ℕ) → e < G.m → T (rule3 G Z e) → T (M e)
  fix3 Q1 Q2 e l t = given (rule3_says G Z e t) (λ (s, few). in_plan e l (λ nf.
      let bS = arrow_blocks (AS H) e nf s in
      let full = no_room (AT H) e (no_both_block H.no_bad e nf bS) in
      let one = deg_pos (stands G) (arrow_s G Z) (G.st e) e l refl s in
      given (plan_instead (AT H) (λ d. arrow_s G Z d || arrow_t G Z d) e nf (or_l (arrow_s G Z e) (arrow_t G Z e) s)
      (omega (arith, in_or_out G Z Q1 (G.st e)))) (λ (x, ix, n, i).
      no_arrival H.no_bad e nf (arrive (way_back_law H Q2 x ix (nor_l (arrow_s G Z x) (arrow_t G Z x) n)) i
      (spare_beats (AT H) e x nf ix (nor_r (arrow_s G Z x) (arrow_t G Z x) n) i (omega arith))) bS)))

  -- in the plan, the worst e leaves some f of N(s) out, which blocks at s; so f's stand is loose, and the plan has an edge without any arrow there
  strike4 : Quiet G Z (rule2 G Z) → (e : ℕ) → e < G.m → T (Z.rem e) → T (rule4 G Z e) → T (not (M e))
  strike4 Q2 e l r t = given (rule4_says G Z e t) (λ (big, worst). not_in e l r (λ ie.
      given (beyond_plan (AS H) (reserved G Z) (G.sv e) (reserved_rem G Z) (omega (arith, fits (AS H) (G.sv e)))) (λ (f, nf, nr, i).
      let bS : Blocks (surveyors G) M Z.rem f = inr (e, ie, i, sharp (AS H) f e nf tt ie i (worst f nf.0 i nr)) in
      let full = no_room (AT H) f (no_both_block H.no_bad f nf bS) in
      ⊎_elim
      (λ lo. given (loose_says G Z (G.st f) lo) (λ (few, none). given (plan_beyond (AT H) (arrow_t G Z) (G.st f) (omega arith)) (λ (x, ix, n, j).
      no_arrival H.no_bad f nf (arrive (way_back_law H Q2 x ix (deg_none (stands G) (arrow_s G Z) (G.st f) none x ix.lt (sym j))) j
      (spare_beats (AT H) f x nf ix n j few)) bS)))
      (λ s. no_both_block H.no_bad f nf bS (arrow_blocks (AT H) f nf s))
      (reserved_says G Z f nr))))

  module _ (Q1 : Quiet G Z (rule1 G Z)) (Q2 : Quiet G Z (rule2 G Z)) (Q3 : Quiet G Z (rule3 G Z)) (Q4 : Quiet G Z (rule4 G Z)) where
    -- in the plan, e has a way back and a way forth
    strike5 : (e : ℕ) → e < G.m → T (Z.rem e) → T (rule5 G Z e) → T (not (M e))
    strike5 e l r t = given (rule5_says G Z e t)
        (λ (firm, ns, nt). not_in e l r (λ ie. no_back_forth H.no_bad (way_back_law H Q2 e ie ns) (way_forth H Q1 Q3 Q4 e (ie, firm, nt))))

    -- outside the plan, e is arrived at; where s has room, e ends an alternating path there, and else the plan has an edge outside N(s), with a way forth
    fix6 : (e : ℕ) → e < G.m → T (Z.rem e) → T (rule6 G Z e) → T (M e)
    fix6 e l r t = given (rule6_says G Z e t) (λ (few, z). in_plan e l (λ nf.
        given (arrival H Q2 e nf (few_arrow (surveyors G) Z.rem (cut_s G Z) e r tt (omega arith))) (λ A.
        by_cases (dec_lt (deg (surveyors G) (both (AS H)) (G.sv e)) (cut_s G Z (G.sv e)))
        (λ h. no_lG H.no_bad e 0 nf (room (AS H) (G.sv e) h) A
        (λ i. omega (arith, up_no (G.rank_s A.from) (G.rank_s e) (first_beats_law (AS H) e A.from nf z A.from_in i))))
        (λ h. given (plan_beyond (AS H) (reserved G Z) (G.sv e) (omega arith)) (λ (x, ix, n, i).
        let w = sharp (AS H) e x nf tt ix i (first_beats_law (AS H) e x nf z ix i) in
        no_back_forth H.no_bad
        (record {
          from = A.from;
          from_in = A.from_in;
          way = loosen 0 0 1 (join A.way
              (hop (up (G.rank_t A.at) (G.rank_t e)) (up (G.rank_t e) (G.rank_t A.at) + 1) nf ix A.stand i
              (omega (arith, up_no (G.rank_s x) (G.rank_s e) (omega arith), up_yes (G.rank_s e) (G.rank_s x) w)))) (omega arith) (omega arith);
        })
        (way_forth H Q1 Q3 Q4 x (outside_stray H x ix n)))))))

    -- outside the plan, e blocks at its stand, so its surveyor is full and has an edge of the plan with a way forth; e leads to that one from a
    -- gain at its stand, or from an edge there without an arrow of its surveyor, which has a way back
    fix7 : (e : ℕ) → e < G.m → T (Z.rem e) → T (rule7 G Z e) → T (M e)
    fix7 e l r t = given (rule7_says G Z e t) (λ (few, s, z). in_plan e l (λ nf.
        let a = few_arrow (stands G) Z.rem (cut_t G Z) e r s (omega arith) in
        given (to_stray H Q4 e nf (arrow_reserved G Z e a) (no_room (AS H) e (λ b. no_both_block H.no_bad e nf b (arrow_blocks (AT H) e nf a))))
        (λ (x, sx, i).
        given (way_forth H Q1 Q3 Q4 x sx) (λ F.
        by_cases (dec_lt (deg (stands G) (both (AT H)) (G.st e)) (cut_t G Z (G.st e)))
        (λ h. no_gain H.no_bad e x nf (room (AT H) (G.st e) h) sx.0 i (λ y iy j. first_beats_law (AT H) e y nf z iy j) F)
        (λ h. given (plan_beyond (AT H) (arrow_s G Z) (G.st e) (omega arith)) (λ (y, iy, n, j).
        let w = sharp (AT H) e y nf s iy j (first_beats_law (AT H) e y nf z iy j) in
        no_back_forth H.no_bad (after (way_back_law H Q2 y iy n) (hop 0 0 nf sx.0 j i
        (omega (arith, up_no (G.rank_t y) (G.rank_t e) (omega arith), up_yes (G.rank_t e) (G.rank_t y) w, up_one (G.rank_s x) (G.rank_s e))))) F))))))

  -- the Step theorem
  pub step : (r e : ℕ) → e < G.m → T (Z.rem e) → T (names G Z r e) → ((k : ℕ) → k < r → Quiet G Z (names G Z k))
      → (T (fixes (fate_of r)) → T (M e)) × (T (not (fixes (fate_of r))) → T (not (M e)))
  unfolding names fate_of
  step r e l t n = by_rule G Z (λ r. ((k : ℕ) → k < r → Quiet G Z (names G Z k))
      → (T (fixes (fate_of r)) → T (M e)) × (T (not (fixes (fate_of r))) → T (not (M e)))) e
      (λ n Q. (λ f. fix1 e l n, λ f. absurd f))
      (λ n Q. (λ f. absurd f, λ f. strike2 e l t n))
      (λ n Q. (λ f. fix3 (Q 1 (omega arith)) (Q 2 (omega arith)) e l n, λ f. absurd f))
      (λ n Q. (λ f. absurd f, λ f. strike4 (Q 2 (omega arith)) e l t n))
      (λ n Q. (λ f. absurd f, λ f. strike5 (Q 1 (omega arith)) (Q 2 (omega arith)) (Q 3 (omega arith)) (Q 4 (omega arith)) e l t n))
      (λ n Q. (λ f. fix6 (Q 1 (omega arith)) (Q 2 (omega arith)) (Q 3 (omega arith)) (Q 4 (omega arith)) e l t n, λ f. absurd f))
      (λ n Q. (λ f. fix7 (Q 1 (omega arith)) (Q 2 (omega arith)) (Q 3 (omega arith)) (Q 4 (omega arith)) e l t n, λ f. absurd f))
      r n
