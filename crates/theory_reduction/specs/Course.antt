-- The laws of the reduction itself, for any instance and without any plan: its steps name edges of the instance, each at most
-- once, by the rules 1 to 7 in order; at the end no rule names what remains, which is what no step named; what is fixed is what
-- the fixing steps named, and is within the quotas. Only the model's definitions are to be believed.
use Prim.Native.Nat.{ℕ, zero, suc, ◌≤◌, ◌<◌}
use native.Mathlib.Omega.{arith}
use Rattle.std.proofs.Math.Decide.{dec_lt}
use Rattle.std.specs.Prelude.{◌≡◌, ◌⊎◌, false, ◌&&◌, ◌||◌, length, T, ltb}
use Rattle.std.proofs.Math.Path.{refl, sym, ap, subst}
use Rattle.std.proofs.Common.{◌∙◌, inl, inr, eqb→eq, T_not}
use Rattle.std.proofs.Math.Logic.{by_cases}
use Rattle.std.proofs.Math.Bool.{not, and-true, or-false, or_assoc}
use Rattle.std.proofs.Math.Option.{Option, Option-elim}
use mathlib.Core.List.Memᴰ
use mathlib.Core.List.{List, [], ◌∷◌, map}
use Rattle.std.proofs.lemmas.List.{length-map}
use Rattle.std.proofs.Math.Dec.{eqb, eqb_refl, not_T}
use Rattle.lists.specs.Test.{given, and_l, and_r, and_nor, eq→eqb, T_false}
use Rattle.lists.specs.Sum.{◌∈◌, count, count_sub_lt, count_≤}
use Rattle.lists.specs.Keep.{any?, any_∈}
use Rattle.lists.specs.Distinct.{Nodup, nodup_below}
use Rattle.model.specs.Instance.{Instance}
use Rattle.model.specs.Reduction.{State, Step, fixes, act, after_step, begin, steps_from, state_after, steps_of, end_of}
use Rattle.theory_reduction.specs.RuleNumbers.{names, rule_of, edge_of, fate_of, next, step_of}
use Rattle.theory_reduction.specs.Facts.{Quiet}
use Rattle.theory_reduction.specs.Chosen.{Acts, acts, all_quiet}
use Rattle.theory_reduction.specs.FirstRule.{step_taken, no_step}

module _ (G : Instance) where
  -- the state and the steps that follow, by whether a step is taken
  abbrev then_state : ℕ → State → Option Step → State
  then_state n Z o = Option-elim o Z (λ s. state_after G n (after_step G Z s))

  abbrev then_steps : ℕ → State → Option Step → List Step
  then_steps n Z o = Option-elim o [] (λ s. s ∷ steps_from G n (after_step G Z s))

  -- induction along the steps: at most n of them, from a state, in a list, to a state
  pub along : (P : ℕ → State → List Step → State → Type 0)
      → ((n : ℕ) (Z : State) → (n ≡ 0) ⊎ (8 ≤ rule_of G Z) → P n Z [] Z)
      → ((n : ℕ) (Z : State) (ss : List Step) (Y : State) → rule_of G Z < 8 → P n (next G Z) ss Y → P (suc n) Z (step_of G Z ∷ ss) Y)
      → (n : ℕ) (Z : State) → P n Z (steps_from G n Z) (state_after G n Z)
  unfolding steps_from state_after next Option-elim
  along P stop more zero Z = stop 0 Z (inl refl)
  along P stop more (suc n) Z = by_cases (dec_lt (rule_of G Z) 8)
      (λ h. subst Told (sym (step_taken G Z h)) (more n Z (steps_from G n (next G Z)) (state_after G n (next G Z)) h (along P stop more n (next G Z))))
      (λ h. let k : 8 ≤ rule_of G Z = omega arith in subst Told (sym (no_step G Z k)) (stop (suc n) Z (inr k)))
    where
      Told : Option Step → Type 0
      Told o = P (suc n) Z (then_steps n Z o) (then_state n Z o)

  -- ---- each step is that of the state before it
  -- where a rule acts, the state after n + 1 steps is the one after n steps from the next state
  pub after_more : (n : ℕ) (Z : State) → rule_of G Z < 8 → state_after G (suc n) Z ≡ state_after G n (next G Z)
  unfolding state_after next Option-elim
  after_more n Z h = ap (then_state n Z) (step_taken G Z h)

  -- where a rule acts, the steps are its own and then those from the state after it
  pub steps_more : (n : ℕ) (Z : State) → rule_of G Z < 8 → steps_from G (suc n) Z ≡ step_of G Z ∷ steps_from G n (next G Z)
  unfolding steps_from next Option-elim
  steps_more n Z h = ap (then_steps n Z) (step_taken G Z h)

  -- and where no rule acts there is none
  pub after_none : (n : ℕ) (Z : State) → 8 ≤ rule_of G Z → state_after G n Z ≡ Z
  unfolding state_after Option-elim
  after_none zero Z h = refl
  after_none (suc n) Z h = ap (then_state n Z) (no_step G Z h)

  -- where no rule acts, there are no steps
  pub steps_none : (n : ℕ) (Z : State) → 8 ≤ rule_of G Z → steps_from G n Z ≡ []
  unfolding steps_from Option-elim
  steps_none zero Z h = refl
  steps_none (suc n) Z h = ap (then_steps n Z) (no_step G Z h)

  -- s is the step that a rule takes after some number of steps
  abbrev pub Taken : State → Step → Type 0
  Taken Z s = (i : ℕ) × Acts G (state_after G i Z) × (s ≡ step_of G (state_after G i Z))

  all_taken_law : (n : ℕ) (Z : State) → (s : Step) → s ∈ steps_from G n Z → Taken Z s
  unfolding state_after
  all_taken_law = along (λ n Z ss Y. (s : Step) → s ∈ ss → Taken Z s) (λ n Z h s k. absurd (Memᴰ.not-nil k)) more
    where
      more : (n : ℕ) (Z : State) (ss : List Step) (Y : State) → rule_of G Z < 8 → ((s : Step) → s ∈ ss → Taken (next G Z) s) → (s : Step)
          → s ∈ (step_of G Z ∷ ss) → Taken Z s
      more n Z ss Y h ih s (Memᴰ.head i) = (0, acts G Z h, i)
      more n Z ss Y h ih s (Memᴰ.tail k) = given (ih s k) (λ (i, A, e). let j = sym (after_more i Z h) in (suc i, subst (Acts G) j A, e ∙ ap (step_of G) j))

  pub steps_taken : (s : Step) → s ∈ steps_of G → Taken (begin G) s
  unfolding steps_of
  steps_taken = all_taken_law G.m (begin G)

  -- every step names an edge of the instance
  pub steps_below : (s : Step) → s ∈ steps_of G → s.edge < G.m
  steps_below s k = given (steps_taken s k) (λ (i, A, e). subst (λ s. s.edge < G.m) (sym e) A.inside)

  -- ---- no edge twice, so no more steps than edges
  next_other : (Z : State) (e : ℕ) → T ((next G Z).rem e) → T (Z.rem e) × T (not (eqb e (edge_of G Z)))
  unfolding next act
  next_other Z e t = (and_l (Z.rem e) (not (eqb e (edge_of G Z))) t, and_r (Z.rem e) (not (eqb e (edge_of G Z))) t)

  -- no edge twice, and each remains where the steps start
  abbrev Once : State → List Step → Type 0
  Once Z ss = Nodup (map (λ s. s.edge) ss) × ((s : Step) → s ∈ ss → T (Z.rem s.edge))

  once : (n : ℕ) (Z : State) → Once Z (steps_from G n Z)
  once = along (λ n Z ss Y. Once Z ss) (λ n Z h. (tt, λ s k. absurd (Memᴰ.not-nil k))) more
    where
      inside : (Z : State) (ss : List Step) → rule_of G Z < 8 → Once (next G Z) ss → (s : Step) → s ∈ (step_of G Z ∷ ss) → T (Z.rem s.edge)
      inside Z ss h (u, k) s (Memᴰ.head i) = subst (λ s. T (Z.rem s.edge)) (sym i) (acts G Z h).left
      inside Z ss h (u, k) s (Memᴰ.tail j) = (next_other Z s.edge (k s j)).0

      more : (n : ℕ) (Z : State) (ss : List Step) (Y : State) → rule_of G Z < 8 → Once (next G Z) ss → Once Z (step_of G Z ∷ ss)
      more n Z ss Y h (u, k) = (
        (
          (λ m. given (Memᴰ.of_map (λ s. s.edge) ss m)
              (λ (s, j, i). T_not (eqb s.edge (edge_of G Z)) (next_other Z s.edge (k s j)).1 (eq→eqb s.edge (edge_of G Z) i))),
          u,
        ),
        inside Z ss h (u, k),
      )

  -- no two steps name the same edge
  pub steps_once : Nodup (map (λ s. s.edge) (steps_of G))
  unfolding steps_of
  steps_once = (once G.m (begin G)).0

  -- there are no more steps than edges
  pub steps_few : length (steps_of G) ≤ G.m
  steps_few = omega (
    arith,
    length-map (steps_of G) (λ s. s.edge),
    nodup_below G.m (map (λ s. s.edge) (steps_of G)) steps_once
        (λ a k. given (Memᴰ.of_map (λ s. s.edge) (steps_of G) k) (λ (s, j, i). subst (λ e. e < G.m) i (steps_below s j))),
  )

  -- ---- at the end no rule acts: each step takes an edge away, and there were no more than m
  next_less : (Z : State) → rule_of G Z < 8 → count (next G Z).rem G.m < count Z.rem G.m
  next_less Z h = given (acts G Z h) (λ A. count_sub_lt (next G Z).rem Z.rem G.m (λ e l t. (next_other Z e t).0) (edge_of G Z) A.inside A.left
      (not_T ((next G Z).rem (edge_of G Z)) (λ t. T_not (eqb (edge_of G Z) (edge_of G Z)) (next_other Z (edge_of G Z) t).1 (eqb_refl (edge_of G Z)))))

  done : (n : ℕ) (Z : State) → count Z.rem G.m ≤ n → 8 ≤ rule_of G (state_after G n Z)
  done = along (λ n Z ss Y. count Z.rem G.m ≤ n → 8 ≤ rule_of G Y) stop (λ n Z ss Y h ih k. ih (omega (arith, next_less Z h)))
    where
      stop : (n : ℕ) (Z : State) → (n ≡ 0) ⊎ (8 ≤ rule_of G Z) → count Z.rem G.m ≤ n → 8 ≤ rule_of G Z
      stop n Z (inl z) k = by_cases (dec_lt (rule_of G Z) 8) (λ h. absurd (omega (arith, next_less Z h))) (λ h. omega arith)
      stop n Z (inr h) k = h

  -- at the end no rule names an edge that remains
  pub end_quiet : (r : ℕ) → Quiet G (end_of G) (names G (end_of G) r)
  unfolding end_of
  end_quiet = all_quiet G (end_of G) (done G.m (begin G) (count_≤ (begin G).rem G.m))

  -- ---- what remains, what is fixed
  left_after_law : (e n : ℕ) (Z : State) → (state_after G n Z).rem e ≡ Z.rem e && not (any? (λ s. eqb e s.edge) (steps_from G n Z))
  unfolding next act
  left_after_law e = along (λ n Z ss Y. Y.rem e ≡ Z.rem e && not (any? (λ s. eqb e s.edge) ss))
      (λ n Z h. sym (and-true (Z.rem e)))
      (λ n Z ss Y h ih. ih ∙ and_nor (Z.rem e) (eqb e (edge_of G Z)) (any? (λ s. eqb e s.edge) ss))

  fixed_after : (e n : ℕ) (Z : State) → (state_after G n Z).fixed e ≡ Z.fixed e || any? (λ s. fixes s.fate && eqb e s.edge) (steps_from G n Z)
  unfolding next act
  fixed_after e = along (λ n Z ss Y. Y.fixed e ≡ Z.fixed e || any? (λ s. fixes s.fate && eqb e s.edge) ss)
      (λ n Z h. sym (or-false (Z.fixed e)))
      (λ n Z ss Y h ih. ih ∙ or_assoc (Z.fixed e) (fixes (fate_of (rule_of G Z)) && eqb e (edge_of G Z)) (any? (λ s. fixes s.fate && eqb e s.edge) ss))

  -- an edge is left exactly if no step names it
  pub left_is : (e : ℕ) → (end_of G).rem e ≡ ltb e G.m && not (any? (λ s. eqb e s.edge) (steps_of G))
  unfolding end_of steps_of begin
  left_is e = left_after_law e G.m (begin G)

  -- an edge is fixed exactly if a step fixes it
  pub fixed_is : (e : ℕ) → (end_of G).fixed e ≡ any? (λ s. fixes s.fate && eqb e s.edge) (steps_of G)
  unfolding end_of steps_of begin
  fixed_is e = fixed_after e G.m (begin G)

  -- behind the edges nothing is fixed
  pub fixed_behind : (e : ℕ) → G.m ≤ e → (end_of G).fixed e ≡ false
  fixed_behind e h = fixed_is e ∙ T_false (not_T (any? (λ s. fixes s.fate && eqb e s.edge) (steps_of G)) (λ t.
      given (any_∈ (λ s. fixes s.fate && eqb e s.edge) (steps_of G) t) (λ (s, m, b).
      absurd (omega (arith, steps_below s m, eqb→eq e s.edge (and_r (fixes s.fate) (eqb e s.edge) b))))))
