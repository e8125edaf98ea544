-- What the reduction's tests say, as facts about numbers: each rule where it names an edge, and each rule where it names no
-- remaining edge. After this file no proof reads a test of a rule again. Only the model's definitions are to be believed.
use Rattle.std.specs.Prelude.{ℕ, ◌+◌, ◌≤◌, ◌<◌, ◌≡◌, ◌⊎◌, Bool, not, ◌&&◌, ◌||◌, T, leb, ltb}
use native.Mathlib.Omega.{arith}
use Rattle.std.proofs.Math.Decide.{dec_le, dec_lt}
use Rattle.std.proofs.Common.{sym, ◌∙◌}
use Rattle.std.proofs.Math.Path.{subst}
use Rattle.std.proofs.Math.Logic.{inl, inr, ⊎_elim, by_cases}
use Rattle.std.proofs.Math.Dec.{eqb, ltb→lt, nltb→le, leb→le, nleb→lt, eqb→eq, T_not}
use Rattle.lists.specs.Test.{by-test, given, and_r, and_i, nand_r, or_l, or_r, or_case, nor_l, nor_r, parts, whole}
use Rattle.model.specs.Instance.{Instance, surveyors, stands}
use Rattle.model.specs.Reduction.{State, cut_s, cut_t, arrow_s, arrow_t, deg_s, deg_t, ahead_s, ahead_t, loose, reserved, better_s, better_t, worse_reserved}
use Rattle.model.specs.Reduction.{rule1, rule2, rule3, rule4, rule5, rule6, rule7}
use Rattle.theory_instance.specs.Degree.{deg_none, deg_zero, deg_or, worst_at_law}
use Rattle.theory_reduction.specs.Arrows.{better, arrow_rem, arrow_strict, some_none_ahead}

-- the rule names no remaining edge
abbrev pub Quiet : Instance → State → (ℕ → Bool) → Type 0
Quiet G Z rule = (e : ℕ) → e < G.m → T (Z.rem e) → T (not (rule e))

module _ (G : Instance) (Z : State) where
  abbrev a_s : ℕ → Bool
  a_s = arrow_s G Z

  abbrev a_t : ℕ → Bool
  a_t = arrow_t G Z

  abbrev d_s : (ℕ → Bool) → ℕ → ℕ
  d_s = deg_s G Z

  abbrev d_t : (ℕ → Bool) → ℕ → ℕ
  d_t = deg_t G Z

  -- an arrow from a surveyor goes along a remaining edge
  pub arrow_s_rem : (e : ℕ) → T (a_s e) → T (Z.rem e)
  arrow_s_rem = arrow_rem (surveyors G) Z.rem (cut_s G Z)

  pub arrow_t_rem : (e : ℕ) → T (a_t e) → T (Z.rem e)
  arrow_t_rem = arrow_rem (stands G) Z.rem (cut_t G Z)

  pub arrow_t_strict : (e : ℕ) → T (a_t e) → T (not (G.tied e))
  arrow_t_strict = arrow_strict (stands G) Z.rem (cut_t G Z)

  -- ---- loose stands, N(s)
  pub loose_says : (t : ℕ) → T (loose G Z t) → (d_t a_t t < cut_t G Z t) × (d_t a_s t ≡ 0)
  unfolding loose
  loose_says t h = (ltb→lt (d_t a_t t) (cut_t G Z t) (search parts), eqb→eq (d_t a_s t) 0 (search parts))

  -- a firm stand with few arrows out has one in
  pub firm_in : (t : ℕ) → T (not (loose G Z t)) → d_t a_t t < cut_t G Z t → 0 < d_t a_s t
  unfolding loose
  firm_in t n h = by_cases (dec_lt 0 (d_t a_s t)) (λ k. k) (λ k.
      let z : d_t a_s t ≡ 0 = omega arith in absurd (T_not (ltb (d_t a_t t) (cut_t G Z t) && eqb (d_t a_s t) 0) n (search whole)))

  -- what is in N(s) remains
  pub reserved_rem : (e : ℕ) → T (reserved G Z e) → T (Z.rem e)
  unfolding reserved
  reserved_rem e t = search parts

  pub arrow_reserved : (e : ℕ) → T (a_t e) → T (reserved G Z e)
  unfolding reserved
  arrow_reserved e t = let lo = loose G Z (G.st e) in and_i (Z.rem e) ((not lo && a_t e) || lo) (arrow_t_rem e t)
      (by-test lo (λ s. or_r (not lo && a_t e) lo s) (λ n. or_l (not lo && a_t e) lo (and_i (not lo) (a_t e) n t)))

  pub reserved_says : (e : ℕ) → T (reserved G Z e) → T (loose G Z (G.st e)) ⊎ T (a_t e)
  unfolding reserved
  reserved_says e t = let lo = loose G Z (G.st e) in ⊎_elim
      (λ s. inr (and_r (not lo) (a_t e) s))
      inl
      (or_case (not lo && a_t e) lo (and_r (Z.rem e) ((not lo && a_t e) || lo) t))

  pub unreserved_says : (e : ℕ) → T (Z.rem e) → T (not (reserved G Z e)) → T (not (loose G Z (G.st e))) × T (not (a_t e))
  unfolding reserved
  unreserved_says e r n =
      let lo = loose G Z (G.st e) in
      let k = nand_r (Z.rem e) ((not lo && a_t e) || lo) n r in
      let firm = nor_r (not lo && a_t e) lo k in
      (firm, nand_r (not lo) (a_t e) (nor_l (not lo && a_t e) lo k) firm)

  -- ---- rule 1
  pub rule1_says : (e : ℕ) → T (rule1 G Z e) → T (a_s e) × T (a_t e)
  unfolding rule1
  rule1_says e t = (search parts, search parts)

  pub rule1_quiet : Quiet G Z (rule1 G Z) → (e : ℕ) → e < G.m → T (a_s e) → T (a_t e) → ⊥
  unfolding rule1
  rule1_quiet Q e l s t = T_not (a_s e && a_t e) (Q e l (arrow_s_rem e s)) (search whole)

  -- so the arrows in and the arrows out of a stand add up
  pub in_or_out : Quiet G Z (rule1 G Z) → (t : ℕ) → d_t (λ d. a_s d || a_t d) t ≡ d_t a_s t + d_t a_t t
  in_or_out Q t = deg_or (stands G) a_s a_t t (rule1_quiet Q)

  -- ---- rule 2: how many better edges come in at e's surveyor, at its stand
  abbrev come_s : ℕ → ℕ
  come_s e = d_s (better (surveyors G) a_t e) (G.sv e)

  abbrev come_t : ℕ → ℕ
  come_t e = d_t (better (stands G) a_s e) (G.st e)

  pub rule2_says : (e : ℕ) → T (rule2 G Z e) → (cut_s G Z (G.sv e) ≤ come_s e) ⊎ (cut_t G Z (G.st e) ≤ come_t e)
  unfolding rule2 better_s better_t
  rule2_says e t = ⊎_elim
      (λ s. inl (leb→le (cut_s G Z (G.sv e)) (come_s e) s))
      (λ s. inr (leb→le (cut_t G Z (G.st e)) (come_t e) s))
      (or_case (leb (cut_s G Z (G.sv e)) (come_s e)) (leb (cut_t G Z (G.st e)) (come_t e)) t)

  pub rule2_quiet : Quiet G Z (rule2 G Z) → (e : ℕ) → e < G.m → T (Z.rem e) → (come_s e < cut_s G Z (G.sv e)) × (come_t e < cut_t G Z (G.st e))
  unfolding rule2 better_s better_t
  rule2_quiet Q e l r = (
    nleb→lt (cut_s G Z (G.sv e)) (come_s e) (nor_l (leb (cut_s G Z (G.sv e)) (come_s e)) (leb (cut_t G Z (G.st e)) (come_t e)) (Q e l r)),
    nleb→lt (cut_t G Z (G.st e)) (come_t e) (nor_r (leb (cut_s G Z (G.sv e)) (come_s e)) (leb (cut_t G Z (G.st e)) (come_t e)) (Q e l r)),
  )

  -- ---- rule 3: how many arrows a stand has, in and out
  abbrev in_out : ℕ → ℕ
  in_out t = d_t a_s t + d_t a_t t

  pub rule3_says : (e : ℕ) → T (rule3 G Z e) → T (a_s e) × (in_out (G.st e) ≤ cut_t G Z (G.st e))
  unfolding rule3
  rule3_says e t = (search parts, leb→le (in_out (G.st e)) (cut_t G Z (G.st e)) (search parts))

  pub rule3_quiet : Quiet G Z (rule3 G Z) → (e : ℕ) → e < G.m → T (a_s e) → cut_t G Z (G.st e) < in_out (G.st e)
  unfolding rule3
  rule3_quiet Q e l t = nleb→lt (in_out (G.st e)) (cut_t G Z (G.st e)) (nand_r (a_s e) (leb (in_out (G.st e)) (cut_t G Z (G.st e))) (Q e l (arrow_s_rem e t)) t)

  -- ---- rule 4
  -- e is the worst of N(s)
  abbrev Worst : ℕ → Type 0
  Worst e = (d : ℕ) → d < G.m → G.sv d ≡ G.sv e → T (reserved G Z d) → G.rank_s d ≤ G.rank_s e

  worst_none : (e : ℕ) → Worst e → d_s (worse_reserved G Z e) (G.sv e) ≡ 0
  unfolding worse_reserved
  worst_none e h = deg_zero (surveyors G) (worse_reserved G Z e) (G.sv e)
      (λ d l i t. let k = ltb→lt (G.rank_s e) (G.rank_s d) (search parts) in absurd (omega (arith, h d l i (search parts))))

  none_worst : (e : ℕ) → d_s (worse_reserved G Z e) (G.sv e) ≡ 0 → Worst e
  unfolding worse_reserved
  none_worst e z d l i t = nltb→le (G.rank_s e) (G.rank_s d)
      (nand_r (reserved G Z d) (ltb (G.rank_s e) (G.rank_s d)) (deg_none (surveyors G) (worse_reserved G Z e) (G.sv e) z d l i) t)

  pub rule4_says : (e : ℕ) → T (rule4 G Z e) → (cut_s G Z (G.sv e) < d_s (reserved G Z) (G.sv e)) × Worst e
  unfolding rule4
  rule4_says e t = (
    ltb→lt (cut_s G Z (G.sv e)) (d_s (reserved G Z) (G.sv e)) (search parts),
    none_worst e (eqb→eq (d_s (worse_reserved G Z e) (G.sv e)) 0 (search parts)),
  )

  -- N(s) has a worst edge, so the silent rule says that N(s) is small
  pub rule4_quiet : Quiet G Z (rule4 G Z) → (s : ℕ) → d_s (reserved G Z) s ≤ cut_s G Z s
  unfolding rule4
  rule4_quiet Q s = by_cases (dec_le (d_s (reserved G Z) s) (cut_s G Z s)) (λ h. h) (λ h.
      given (worst_at_law (surveyors G) G.rank_s (reserved G Z) s (omega arith)) (λ (w, wl, wt, wi, worst).
      let k : cut_s G Z (G.sv w) < d_s (reserved G Z) (G.sv w) = subst (λ v. cut_s G Z v < d_s (reserved G Z) v) (sym wi) (omega arith) in
      let z : d_s (worse_reserved G Z w) (G.sv w) ≡ 0 = worst_none w (λ d l i t. worst d l (i ∙ wi) t) in
      absurd (T_not (rule4 G Z w) (Q w wl (reserved_rem w wt)) (search whole))))

  -- ---- rule 5
  pub rule5_says : (e : ℕ) → T (rule5 G Z e) → T (not (loose G Z (G.st e))) × T (not (a_s e)) × T (not (a_t e))
  unfolding rule5
  rule5_says e t = (search parts, search parts, search parts)

  -- ---- rule 6
  pub rule6_says : (e : ℕ) → T (rule6 G Z e) → (d_s (reserved G Z) (G.sv e) < cut_s G Z (G.sv e)) × (ahead_s G Z e ≡ 0)
  unfolding rule6
  rule6_says e t = (ltb→lt (d_s (reserved G Z) (G.sv e)) (cut_s G Z (G.sv e)) (search parts), eqb→eq (ahead_s G Z e) 0 (search parts))

  -- a surveyor with a remaining edge has a best one, so the silent rule says that N(s) is large
  pub rule6_quiet : Quiet G Z (rule6 G Z) → (e : ℕ) → e < G.m → T (Z.rem e) → cut_s G Z (G.sv e) ≤ d_s (reserved G Z) (G.sv e)
  unfolding rule6
  rule6_quiet Q e l r = by_cases (dec_le (cut_s G Z (G.sv e)) (d_s (reserved G Z) (G.sv e))) (λ h. h) (λ h.
      given (some_none_ahead (surveyors G) Z.rem e l r tt) (λ (w, wl, wr, ws, wi, z).
      let k : d_s (reserved G Z) (G.sv w) < cut_s G Z (G.sv w) = subst (λ v. d_s (reserved G Z) v < cut_s G Z v) (sym wi) (omega arith) in
      absurd (T_not (rule6 G Z w) (Q w wl wr) (search whole))))

  -- ---- rule 7
  pub rule7_says : (e : ℕ) → T (rule7 G Z e) → (d_t a_s (G.st e) < cut_t G Z (G.st e)) × T (not (G.tied e)) × (ahead_t G Z e ≡ 0)
  unfolding rule7
  rule7_says e t = (ltb→lt (d_t a_s (G.st e)) (cut_t G Z (G.st e)) (search parts), search parts, eqb→eq (ahead_t G Z e) 0 (search parts))

  -- likewise for a stand with a strict remaining edge
  pub rule7_quiet : Quiet G Z (rule7 G Z) → (e : ℕ) → e < G.m → T (Z.rem e) → T (not (G.tied e)) → cut_t G Z (G.st e) ≤ d_t a_s (G.st e)
  unfolding rule7
  rule7_quiet Q e l r s = by_cases (dec_le (cut_t G Z (G.st e)) (d_t a_s (G.st e))) (λ h. h) (λ h.
      given (some_none_ahead (stands G) Z.rem e l r s) (λ (w, wl, wr, ws, wi, z).
      let k : d_t a_s (G.st w) < cut_t G Z (G.st w) = subst (λ v. d_t a_s v < cut_t G Z v) (sym wi) (omega arith) in
      absurd (T_not (rule7 G Z w) (Q w wl wr) (search whole))))
