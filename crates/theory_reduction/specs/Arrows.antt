-- The arrows of one side, surveyors or stands, under any quotas: which edges have one, how many there are, what the edges
-- without one are like. No plan and no rule comes in. The laws of ranks are asked for only where they are needed.
use Prim.Native.Nat.{ℕ, ◌≤◌, ◌<◌}
use native.Mathlib.Omega.{arith}
use Rattle.std.proofs.Common.{eq-or-lt_of_le, ◌∙◌, subst, inl, inr, ⊎_elim, lt→ltb, T_not}
use Rattle.std.proofs.Math.Decide.{dec_le, dec_lt}
use Rattle.std.specs.Prelude.{◌≡◌, ◌⊎◌, Bool, ◌&&◌, ltb, eqb}
use Rattle.std.proofs.Math.Path.{refl, sym}
use Rattle.std.proofs.Math.Logic.{by_cases}
use Rattle.std.proofs.Math.Bool.{not}
use Rattle.std.proofs.Math.Dec.{T, ltb→lt, nltb→le}
use Rattle.lists.specs.Test.{by-test, given, and_l, and_r, and_i, nand_r, eq→eqb, parts, bit_one}
use Rattle.lists.specs.Search.{strong}
use Rattle.model.specs.Instance.{Side, deg}
use Rattle.model.specs.Reduction.{strict_left, ahead, arrow}
use Rattle.theory_instance.specs.Lawful.{Ranked}
use Rattle.theory_instance.specs.Degree.{deg_sub, deg_none, deg_pos, deg_zero, deg_without, worst_at_law, best_at}

-- d is in p and better than e
abbrev pub better : Side → (p : ℕ → Bool) → ℕ → ℕ → Bool
better K p e d = p d && ltb (K.rank d) (K.rank e)

pub better_is : (K : Side) (p : ℕ → Bool) (e d : ℕ) → T (better K p e d) → T (p d) × (K.rank d < K.rank e)
better_is K p e d t = (search parts, ltb→lt (K.rank d) (K.rank e) (search parts))

pub better_not : (K : Side) (p : ℕ → Bool) (e d : ℕ) → T (not (better K p e d)) → (K.rank e ≤ K.rank d) ⊎ T (not (p d))
better_not K p e d n = by-test (p d) (λ t. inl (nltb→le (K.rank d) (K.rank e) (nand_r (p d) (ltb (K.rank d) (K.rank e)) n t))) inr

module _ (K : Side) (rem : ℕ → Bool) where
  -- a strict remaining edge that is better than rank r
  abbrev pub Ahead : ℕ → ℕ → Bool
  Ahead r d = strict_left K rem d && ltb (K.rank d) r

  -- an edge ahead of a rank remains, is strict, and is better
  pub ahead_is : (r d : ℕ) → T (Ahead r d) → T (rem d) × T (not (K.tie d)) × (K.rank d < r)
  ahead_is r d t = (search parts, search parts, ltb→lt (K.rank d) r (search parts))

  -- a strict remaining edge that is better than a rank is ahead of it
  pub is_ahead : (r d : ℕ) → T (rem d) → T (not (K.tie d)) → K.rank d < r → T (Ahead r d)
  is_ahead r d a b h = and_i (strict_left K rem d) (ltb (K.rank d) r) (and_i (rem d) (not (K.tie d)) a b) (lt→ltb (K.rank d) r h)

  -- at a node no fewer edges are ahead of a worse rank
  pub ahead_mono : (v r s : ℕ) → r ≤ s → ahead K rem v r ≤ ahead K rem v s
  unfolding ahead
  ahead_mono v r s h = deg_sub K (Ahead r) (Ahead s) v (λ d l i t. given (ahead_is r d t) (λ (a, b, c). is_ahead s d a b (omega arith)))

  -- an edge with none ahead is the best at its node
  pub none_ahead_best : Ranked K → (e : ℕ) → e < K.m → ahead K rem (K.end e) (K.rank e) ≡ 0
      → (d : ℕ) → d < K.m → T (rem d) → K.end e ≡ K.end d → K.rank e ≤ K.rank d
  unfolding ahead
  none_ahead_best L e l z d dl r i = by-test (K.tie d)
      (λ t. L.last d e dl l (sym i) t)
      (λ s. nltb→le (K.rank d) (K.rank e) (nand_r (strict_left K rem d) (ltb (K.rank d) (K.rank e))
      (deg_none K (Ahead (K.rank e)) (K.end e) z d dl (sym i)) (and_i (rem d) (not (K.tie d)) r s)))

  -- a node with a strict remaining edge has one that none is ahead of
  pub some_none_ahead : (e : ℕ) → e < K.m → T (rem e) → T (not (K.tie e))
      → (w : ℕ) × (w < K.m) × T (rem w) × T (not (K.tie w)) × (K.end w ≡ K.end e) × (ahead K rem (K.end w) (K.rank w) ≡ 0)
  unfolding ahead
  some_none_ahead e l r s = given
      (best_at K K.rank (strict_left K rem) (K.end e) (deg_pos K (strict_left K rem) (K.end e) e l refl (and_i (rem e) (not (K.tie e)) r s)))
      (λ (w, wl, wt, wi, best). (
        w,
        wl,
        search parts,
        search parts,
        wi,
        deg_zero K (Ahead (K.rank w)) (K.end w)
            (λ d dl di t. let b = ltb→lt (K.rank d) (K.rank w) (search parts) in absurd (omega (arith, best d dl (di ∙ wi) (search parts)))),
      ))

  module _ (q : ℕ → ℕ) where
    abbrev a : ℕ → Bool
    a = arrow K rem q

    abbrev before : ℕ → ℕ
    before e = ahead K rem (K.end e) (K.rank e)

    pub arrow_rem : (e : ℕ) → T (a e) → T (rem e)
    unfolding arrow
    arrow_rem e t = search parts

    -- an arrow goes along a strict edge
    pub arrow_strict : (e : ℕ) → T (a e) → T (not (K.tie e))
    unfolding arrow
    arrow_strict e t = search parts

    pub arrow_few : (e : ℕ) → T (a e) → before e < q (K.end e)
    unfolding arrow
    arrow_few e t = ltb→lt (before e) (q (K.end e)) (search parts)

    pub few_arrow : (e : ℕ) → T (rem e) → T (not (K.tie e)) → before e < q (K.end e) → T (a e)
    unfolding arrow
    few_arrow e r s h = and_i (strict_left K rem e) (ltb (before e) (q (K.end e))) (and_i (rem e) (not (K.tie e)) r s) (lt→ltb (before e) (q (K.end e)) h)

    -- the same where the node has another name
    few_at : (e v : ℕ) → K.end e ≡ v → T (a e) → ahead K rem v (K.rank e) < q v
    few_at e v i t = subst (λ u. ahead K rem u (K.rank e) < q u) i (arrow_few e t)

    -- fewer arrows than the quota: every strict edge has one
    pub spare_all : (v : ℕ) → deg K a v < q v → (e : ℕ) → e < K.m → K.end e ≡ v → T (rem e) → T (not (K.tie e)) → T (a e)
    unfolding ahead
    spare_all v h e = strong Has step (K.rank e) e refl
      where
        Has : ℕ → Type 0
        Has n = (e : ℕ) → K.rank e ≡ n → e < K.m → K.end e ≡ v → T (rem e) → T (not (K.tie e)) → T (a e)

        step : (n : ℕ) → ((k : ℕ) → k < n → Has k) → Has n
        step n ih e en l i r s = few_arrow e r s (subst (λ u. ahead K rem u (K.rank e) < q u) (sym i) (omega (
          arith,
          deg_sub K (Ahead (K.rank e)) a v (λ d dl di t. given (ahead_is (K.rank e) d t) (λ (b, c, k). ih (K.rank d) (omega arith) d refl dl di b c)),
        )))

    module _ (L : Ranked K) where
      -- a remaining edge without an arrow is worse than one with
      pub arrow_better : (e d : ℕ) → e < K.m → d < K.m → K.end e ≡ K.end d → T (a e) → T (rem d) → T (not (a d)) → K.rank e < K.rank d
      arrow_better e d el dl i t r n = by_cases (dec_lt (K.rank e) (K.rank d)) (λ h. h) (λ h. absurd (⊎_elim
          (λ eq. T_not (a d) n (subst (λ z. T (a z)) (L.strict e d el dl i (sym eq) (arrow_strict e t)) t))
          (λ lt. by-test (K.tie d)
          (λ tied. absurd (omega (arith, L.below d e dl el (sym i) tied (arrow_strict e t))))
          (λ s. T_not (a d) n (few_arrow d r s (omega (arith, few_at e (K.end d) i t, ahead_mono (K.end d) (K.rank d) (K.rank e) (omega arith))))))
          (let g : K.rank d ≤ K.rank e = omega arith in eq-or-lt_of_le g)))

      -- where there are fewer arrows than the quota, an edge without one is tied, so no better than any other
      pub spare_last : (v : ℕ) → deg K a v < q v → (x : ℕ) → x < K.m → K.end x ≡ v → T (rem x) → T (not (a x))
          → (f : ℕ) → f < K.m → K.end f ≡ v → K.rank f ≤ K.rank x
      spare_last v h x xl i r n f fl j = by-test (K.tie x)
          (λ t. L.last x f xl fl (i ∙ sym j) t)
          (λ s. absurd (T_not (a x) n (spare_all v h x xl i r s)))

      -- no more arrows than the quota: all but the worst of them are ahead of it
      pub arrows_fit : (v : ℕ) → deg K a v ≤ q v
      unfolding ahead
      arrows_fit v = by_cases (dec_le (deg K a v) (q v)) (λ h. h) (λ h.
          given (worst_at_law K K.rank a v (omega arith)) (λ (e, el, et, ei, worst).
          omega (
            arith,
            few_at e v ei et,
            deg_without K a e v el et,
            bit_one (eqb v (K.end e)),
            deg_sub K (λ d. a d && not (eqb d e)) (Ahead (K.rank e)) v
                (λ d l j t. let s = and_l (a d) (not (eqb d e)) t in is_ahead (K.rank e) d (arrow_rem d s) (arrow_strict d s) (⊎_elim
                (λ eq. absurd (T_not (eqb d e) (and_r (a d) (not (eqb d e)) t) (eq→eqb d e (L.strict d e l el (j ∙ sym ei) eq (arrow_strict d s)))))
                (λ lt. lt)
                (eq-or-lt_of_le (worst d l j s)))),
          )))
