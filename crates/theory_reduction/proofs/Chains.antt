-- The theorems that rest on specs/Chains.antt. They stand here so that a wrong definition there is refused by a proof.
use Rattle.std.specs.Prelude.{ℕ, ◌+◌, ◌-◌, ◌≤◌, ◌<◌, min, ◌≡◌, refl, ◌⊎◌, Bool, not, ◌||◌, T}
use Rattle.std.proofs.Common.{arith, sym, subst, inr, ⊎_elim}
use Rattle.std.proofs.Math.Decide.{dec_le}
use Rattle.std.proofs.Math.Logic.{by_cases}
use Rattle.lists.specs.Test.{given, or_case}
use Rattle.lists.specs.Distinct.{chain}
use Rattle.model.specs.Instance.{Instance, Side, surveyors, stands, deg}
use Rattle.model.specs.Reduction.{State, cut_s, cut_t, arrow_s, arrow_t, loose, rule1, rule2, rule3, rule4}
use Rattle.theory_instance.specs.Lawful.{Ranked, Within}
use Rattle.theory_instance.specs.Degree.{deg_some}
use Rattle.theory_instance.specs.Walk.{up_one, up_yes, up_no, New}
use Rattle.theory_reduction.specs.Arrows.{better, better_not}
use Rattle.theory_reduction.specs.Facts.{Quiet, arrow_s_rem, arrow_t_rem, firm_in, arrow_reserved, in_or_out, rule2_quiet}
use Rattle.theory_reduction.specs.Facts.{rule3_quiet}
use Rattle.theory_reduction.specs.Reach.{Reach, stay, join, loosen}
use Rattle.theory_reduction.specs.PlanAgainstArrows.{In, PlanAgainstArrows, both, fits, no_room, plan_beyond, beyond_plan}
use Rattle.theory_reduction.specs.PlanAgainstArrows.{instead_of_plan, arrow_beats, spare_beats, arrow_blocks, better_arrow}
use Rattle.theory_reduction.specs.AlternatingPath.{Arrival, Back, Forth, lost, gained, hop, before, after, no_loop}
use Rattle.theory_reduction.proofs.AlternatingPath.{no_both_block}
use Rattle.theory_reduction.specs.Chains.{Sit, to_stray}

module _ {G : Instance} {Z : State} {M : ℕ → Bool} (H : Sit G Z M) where
  -- the plan at one side of the instance, with the quotas after the cut there
  abbrev against : (K : Side) → K.m ≡ G.m → Ranked K → Within K M → (q : ℕ → ℕ)
      → ((v : ℕ) → q v ≡ min (K.quota v - deg K Z.fixed v) (deg K Z.rem v)) → PlanAgainstArrows
  against K i law plan q q_is =
      record {
        K = K;
        law = law;
        M = M;
        plan = plan;
        rem = Z.rem;
        fixed = Z.fixed;
        kept = λ e l. H.kept e (omega arith);
        rest = λ e l. H.rest e (omega arith);
        apart = λ e l. H.sound.apart e (omega arith);
        q = q;
        q_is = q_is;
      }

  -- at the surveyors, at the stands
  abbrev AS : PlanAgainstArrows
  AS = against (surveyors G) refl H.law.at_s H.plan.at_s (cut_s G Z) H.sound.at_s.cut_is

  abbrev AT : PlanAgainstArrows
  AT = against (stands G) refl H.law.at_t H.plan.at_t (cut_t G Z) H.sound.at_t.cut_is

  -- an edge of the plan that remains; the three kinds of parts of an alternating path
  abbrev Mem : ℕ → Type 0
  Mem = In G.m M Z.rem

  abbrev Arrived : ℕ → ℕ → ℕ → Type 0
  Arrived = Arrival G M Z.rem

  abbrev BackTo : ℕ → Type 0
  BackTo = Back G M Z.rem

  abbrev ForthFrom : ℕ → Type 0
  ForthFrom = Forth G M Z.rem

  -- ---- backward
  -- An arrow f of its surveyor that is not in the plan: the plan has an edge at f's stand that is no better than f there, or has
  -- no arrow of its own surveyor. Else rule 2 would name f.
  pub no_better_in : Quiet G Z (rule2 G Z) → (f : ℕ) → New G M f → T (arrow_s G Z f)
      → (x : ℕ) × Mem x × (G.st f ≡ G.st x) × ((G.rank_t f ≤ G.rank_t x) ⊎ T (not (arrow_s G Z x)))
  no_better_in Q f nf t = given (plan_beyond AT (better (stands G) (arrow_s G Z) f) (G.st f)
      (omega (arith, (rule2_quiet G Z Q f nf.0 (arrow_s_rem G Z f t)).1, no_room AT f (no_both_block H.no_bad f nf (arrow_blocks AS f nf t)))))
      (λ (x, ix, n, i). (x, ix, i, better_not (stands G) (arrow_s G Z) f x n))

  -- Corollary B: a loss and a way to x, together at most 0
  pub way_back_law : Quiet G Z (rule2 G Z) → (x : ℕ) → Mem x → T (not (arrow_s G Z x)) → BackTo x
  way_back_law Q x ix n = chain G.m Bare (λ x y. Reach G M 1 y x 0 0) (λ x p. p.0.lt)
      (λ x y z r s. loosen 1 0 0 (join s r) (omega arith) (omega arith))
      (λ x p r. no_loop H.no_bad p.0 r) BackTo step x (ix, n)
    where
      Bare : ℕ → Type 0
      Bare x = Mem x × T (not (arrow_s G Z x))

      step : (x : ℕ) → Bare x → ((y : ℕ) → Bare y → Reach G M 1 y x 0 0 → BackTo y) → BackTo x
      step x (ix, n) ih = given (better_arrow AS (λ e. tt) x ix n) (λ (g, ng, t, i, w). given (no_better_in Q g ng t) (λ (y, iy, j, k).
          let u = up_no (G.rank_s x) (G.rank_s g) (omega arith) in
          let v = up_yes (G.rank_s g) (G.rank_s x) w in
          ⊎_elim
          (λ h. record {
            from = y;
            from_in = iy;
            way = loosen 0 0 1 (hop 0 1 ng ix j i (omega (arith, up_no (G.rank_t y) (G.rank_t g) h)))
                (omega arith) (omega arith);
          })
          (λ ny. let h : Reach G M 1 y x 0 0 = hop 0 0 ng ix j i (omega (arith, up_one (G.rank_t y) (G.rank_t g))) in after (ih y (iy, ny) h) h)
          k))

  -- Lemma B: a loss and a way to f's stand, with its vote on f together at most 1
  pub arrival : Quiet G Z (rule2 G Z) → (f : ℕ) → New G M f → T (arrow_s G Z f) → Arrived f 0 0
  arrival Q f nf t = given (no_better_in Q f nf t) (λ (x, ix, i, k). ⊎_elim
      (λ h. record { from = x; at = x; c = 0; d = 0; from_in = ix; way = stay x; stand = i; cost = omega (arith, up_no (G.rank_t x) (G.rank_t f) h) })
      (λ n. given (way_back_law Q x ix n) (λ b.
      record { from = b.from; at = x; c = 0; d = 1; from_in = b.from_in; way = b.way; stand = i; cost = omega (arith, up_one (G.rank_t x) (G.rank_t f)) }))
      k)

  -- ---- forward
  -- an edge of the plan that its stand, which is firm, sends no arrow along: it is not in N of its surveyor
  abbrev Stray : ℕ → Type 0
  Stray x = In G.m M Z.rem x × T (not (loose G Z (G.st x))) × T (not (arrow_t G Z x))

  -- Lemma F: a way and an end
  pub way_forth : Quiet G Z (rule1 G Z) → Quiet G Z (rule3 G Z) → Quiet G Z (rule4 G Z) → (x : ℕ) → Stray x → ForthFrom x
  way_forth Q1 Q3 Q4 = chain G.m Stray (λ x y. Reach G M 1 x y 0 0) (λ x p. p.0.lt)
      (λ x y z r s. loosen 1 0 0 (join r s) (omega arith) (omega arith))
      (λ x p r. no_loop H.no_bad p.0 r) ForthFrom step
    where
      -- (a) an arrow g of the stand is not in the plan
      missing : (x : ℕ) → Stray x → ((y : ℕ) → Stray y → Reach G M 1 x y 0 0 → ForthFrom y) → (g : ℕ) → New G M g → T (arrow_t G Z g)
          → G.st g ≡ G.st x → ForthFrom x
      missing x (ix, nl, na) ih g ng t i =
          let w = arrow_beats AT g x ng t ix na i in
          given (to_stray {G = G} {Z = Z} {M = M} H Q4 g ng (arrow_reserved G Z g t) (no_room AS g (λ b. no_both_block H.no_bad g ng b (inr (x, ix, i, w))))) (λ (y, sy, j).
          let h : Reach G M 1 x y 0 0 = hop 0 0 ng sy.0 i j
          (omega (arith, up_no (G.rank_t x) (G.rank_t g) (omega arith), up_yes (G.rank_t g) (G.rank_t x) w, up_one (G.rank_s y) (G.rank_s g))) in
          before h (ih y sy h))

      -- (b) an arrow g into the stand is not in the plan
      incoming : (x : ℕ) → Mem x → (g : ℕ) → New G M g → T (arrow_s G Z g) → G.st g ≡ G.st x → G.rank_t g ≤ G.rank_t x → ForthFrom x
      incoming x ix g ng s i v = let u = up_no (G.rank_t x) (G.rank_t g) v in ⊎_elim
          (λ rm. gained x g 0 0 ng rm i (stay x) (omega arith))
          (λ (y, iy, j, w). lost y iy (loosen 0 0 1
          (hop 0 1 ng iy i j (omega (arith, up_no (G.rank_s y) (G.rank_s g) (omega arith), up_yes (G.rank_s g) (G.rank_s y) w))) (omega arith)
          (omega arith)))
          (arrow_blocks AS g ng s)

      -- the plan at the stand has no more edges than it sends arrows, or more; then, by rule 3, it has fewer than arrows in and out
      step : (x : ℕ) → Stray x → ((y : ℕ) → Stray y → Reach G M 1 x y 0 0 → ForthFrom y) → ForthFrom x
      step x (ix, nl, na) ih = by_cases (dec_le (deg (stands G) (both AT) (G.st x)) (deg (stands G) (arrow_t G Z) (G.st x)))
          (λ h. given (instead_of_plan AT (arrow_t G Z) x (arrow_t_rem G Z) ix na h) (λ (g, ng, t, i). missing x (ix, nl, na) ih g ng t i))
          (λ h. let few : deg (stands G) (arrow_t G Z) (G.st x) < cut_t G Z (G.st x) = omega (arith, fits AT (G.st x)) in
          given (deg_some (stands G) (arrow_s G Z) (G.st x) (firm_in G Z (G.st x) nl few)) (λ (d, dl, da, di).
          let many = subst (λ t. cut_t G Z t < deg (stands G) (arrow_s G Z) t + deg (stands G) (arrow_t G Z) t) di (rule3_quiet G Z Q3 d dl da) in
          given (beyond_plan AT (λ e. arrow_s G Z e || arrow_t G Z e) (G.st x)
          (λ e t. ⊎_elim (arrow_s_rem G Z e) (arrow_t_rem G Z e) (or_case (arrow_s G Z e) (arrow_t G Z e) t))
          (omega (arith, fits AT (G.st x), in_or_out G Z Q1 (G.st x)))) (λ (g, ng, t, i).
          ⊎_elim
          (λ s. incoming x ix g ng s i (spare_beats AT g x ng ix na i (subst (λ t. deg (stands G) (arrow_t G Z) t < cut_t G Z t) (sym i) few)))
          (λ o. missing x (ix, nl, na) ih g ng o i)
          (or_case (arrow_s G Z g) (arrow_t G Z g) t))))
