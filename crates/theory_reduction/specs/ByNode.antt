-- The rules and the arrows node by node: the lowest edge that passes a test at a node, rule 2 at either end, and that the arrows of a node depend on
-- what remains there and on its cut quota alone, and stay where an edge goes that carries none of them. No plan comes in.
use Rattle.std.specs.Prelude.{ℕ, ◌≤◌, ◌<◌, ◌≡◌, refl, Bool, true, false, ◌&&◌, ◌||◌, leb, eqb}
use Rattle.std.proofs.Common.{arith, ap₂, ◌∙◌, lt→ltb}
use Rattle.std.proofs.Math.Path.{sym, ap, subst}
use Rattle.std.proofs.Math.Bool.{not, and-true, and-false}
use Rattle.std.proofs.Math.Dec.{T, ltb, eqb→eq, eqb_refl, ltb→lt, nltb→le}
use borrow.Author.Tests.{le-ltb}
use Rattle.lists.specs.Test.{by-test, by-eq, given, and_l, and_r, and_i, nand_r, T_false, parts}
use Rattle.lists.specs.Search.{low, low_cong}
use Rattle.model.specs.Instance.{Instance, Side}
use Rattle.model.specs.Reduction.{State, strict_left, ahead, arrow, cut_s, cut_t, deg_s, deg_t, better_s, better_t, rule2}
use Rattle.theory_instance.specs.Degree.{deg_cong, deg_sub}

-- the lowest number that passes a test at v, m if none does
abbrev pub lowest_at : (m : ℕ) (end : ℕ → ℕ) (test : ℕ → Bool) → ℕ → ℕ
lowest_at m end test v = low (λ e. eqb (end e) v && test e) m

and_same : (a b c : Bool) → (T a → b ≡ c) → a && b ≡ a && c
and_same true b c h = h tt
and_same false b c h = refl

-- tests that agree on the edges of a node find the same lowest edge there
pub lowest_at_cong : (m : ℕ) (end : ℕ → ℕ) (p q : ℕ → Bool) (v : ℕ) → ((e : ℕ) → e < m → end e ≡ v → p e ≡ q e) → lowest_at m end p v ≡ lowest_at m end q v
lowest_at_cong m end p q v h = low_cong (λ e. eqb (end e) v && p e) (λ e. eqb (end e) v && q e) m
    (λ e l. and_same (eqb (end e) v) (p e) (q e) (λ t. h e l (eqb→eq (end e) v t)))

-- rule 2 at a surveyor, at a stand
abbrev pub rule2_s : Instance → State → ℕ → Bool
rule2_s G Z e = leb (cut_s G Z (G.sv e)) (deg_s G Z (better_s G Z e) (G.sv e))

-- rule 2 at the stand of e
abbrev pub rule2_t : Instance → State → ℕ → Bool
rule2_t G Z e = leb (cut_t G Z (G.st e)) (deg_t G Z (better_t G Z e) (G.st e))

-- rule 2 names an edge exactly if it does so at the surveyor or at the stand
pub rule2_ends : (G : Instance) (Z : State) (e : ℕ) → rule2 G Z e ≡ rule2_s G Z e || rule2_t G Z e
unfolding rule2
rule2_ends G Z e = refl

-- ---- arrows of one side depend on the node that they leave
-- where the same edges remain at the node of e and its quota is the same, e has an arrow in both or in neither
pub arrow_local : (K : Side) (rem rem' : ℕ → Bool) (q q' : ℕ → ℕ) (e : ℕ) → e < K.m → ((d : ℕ) → d < K.m → K.end d ≡ K.end e → rem' d ≡ rem d)
    → q' (K.end e) ≡ q (K.end e) → arrow K rem' q' e ≡ arrow K rem q e
unfolding arrow ahead
arrow_local K rem rem' q q' e l h i = ap₂ (λ (x : Bool) (y : ℕ). (x && not (K.tie e)) && ltb y (q' (K.end e))) (h e l refl)
    (deg_cong K (λ d. strict_left K rem' d && ltb (K.rank d) (K.rank e)) (λ d. strict_left K rem d && ltb (K.rank d) (K.rank e)) (K.end e)
    (λ d dl j. ap (λ x. (x && not (K.tie d)) && ltb (K.rank d) (K.rank e)) (h d dl j)))
    ∙ ap (λ y. strict_left K rem e && ltb (ahead K rem (K.end e) (K.rank e)) y) i

-- ---- one side: e is taken out of what remains
module _ (K : Side) (rem : ℕ → Bool) (e : ℕ) where
  abbrev rem' : ℕ → Bool
  rem' x = rem x && not (eqb x e)

  other : (x : ℕ) → eqb x e ≡ false → rem' x ≡ rem x
  other x t = ap (λ b. rem x && not b) t ∙ and-true (rem x)

  gone : (x : ℕ) → eqb x e ≡ true → rem' x ≡ false
  gone x t = ap (λ b. rem x && not b) t ∙ and-false (rem x)

  -- at a node where e is not among those ahead, they stay
  ahead_kept : (v r : ℕ) → (K.end e ≡ v → (strict_left K rem e && ltb (K.rank e) r) ≡ false) → ahead K rem' v r ≡ ahead K rem v r
  unfolding ahead
  ahead_kept v r h = deg_cong K (λ d. strict_left K rem' d && ltb (K.rank d) r) (λ d. strict_left K rem d && ltb (K.rank d) r) v (λ d l i. by-eq d e
      (λ q t. ap (λ b. (b && not (K.tie d)) && ltb (K.rank d) r) (gone d t)
      ∙ sym (subst (λ x. (strict_left K rem x && ltb (K.rank x) r) ≡ false) (sym q) (h (ap K.end (sym q) ∙ i))))
      (λ n t. ap (λ b. (b && not (K.tie d)) && ltb (K.rank d) r) (other d t)))

  -- those ahead of e are ahead of what is worse, before and after
  ahead_more : (v r : ℕ) → K.end e ≡ v → K.rank e < r → (ahead K rem v (K.rank e) ≤ ahead K rem' v r) × (ahead K rem v (K.rank e) ≤ ahead K rem v r)
  unfolding ahead
  ahead_more v r i h = (
    deg_sub K (λ d. strict_left K rem d && ltb (K.rank d) (K.rank e)) (λ d. strict_left K rem' d && ltb (K.rank d) r) v (λ d l j t. by-eq d e
        (λ q s. let k = ltb→lt (K.rank d) (K.rank e) (search parts) in absurd (omega (arith, ap K.rank q)))
        (λ n s. let k = ltb→lt (K.rank d) (K.rank e) (search parts) in
        and_i (strict_left K rem' d) (ltb (K.rank d) r) (subst (λ b. T (b && not (K.tie d))) (sym (other d s)) (search parts))
        (lt→ltb (K.rank d) r (omega arith)))),
    deg_sub K (λ d. strict_left K rem d && ltb (K.rank d) (K.rank e)) (λ d. strict_left K rem d && ltb (K.rank d) r) v (λ d l j t.
        let k = ltb→lt (K.rank d) (K.rank e) (search parts) in
        and_i (strict_left K rem d) (ltb (K.rank d) r) (search parts) (lt→ltb (K.rank d) r (omega arith))),
  )

  module _ (q : ℕ → ℕ) (n : T (not (arrow K rem q e))) where
    -- e sends no arrow: as many are ahead of it as the quota
    full : T (strict_left K rem e) → q (K.end e) ≤ ahead K rem (K.end e) (K.rank e)
    unfolding arrow
    full s = nltb→le (ahead K rem (K.end e) (K.rank e)) (q (K.end e))
        (nand_r (strict_left K rem e) (ltb (ahead K rem (K.end e) (K.rank e)) (q (K.end e))) n s)

    -- where an edge without an arrow goes and the quotas stay, all arrows stay as they are
    pub arrow_kept : (d : ℕ) → arrow K rem' q d ≡ arrow K rem q d
    unfolding arrow
    arrow_kept d = by-eq d e
        (λ i t. ap (λ b. (b && not (K.tie d)) && ltb (ahead K rem' (K.end d) (K.rank d)) (q (K.end d))) (gone d t)
        ∙ sym (subst (λ x. arrow K rem q x ≡ false) (sym i) (T_false n)))
        (λ ne t. ap (λ b. (b && not (K.tie d)) && ltb (ahead K rem' (K.end d) (K.rank d)) (q (K.end d))) (other d t)
        ∙ ap (λ b. strict_left K rem d && b) (test d))
      where
        test : (d : ℕ) → ltb (ahead K rem' (K.end d) (K.rank d)) (q (K.end d)) ≡ ltb (ahead K rem (K.end d) (K.rank d)) (q (K.end d))
        test d = by-test (eqb (K.end e) (K.end d) && (strict_left K rem e && ltb (K.rank e) (K.rank d)))
            (λ s.
            let i = eqb→eq (K.end e) (K.end d) (and_l (eqb (K.end e) (K.end d)) (strict_left K rem e && ltb (K.rank e) (K.rank d)) s) in
            let u = and_r (eqb (K.end e) (K.end d)) (strict_left K rem e && ltb (K.rank e) (K.rank d)) s in
            let w = ltb→lt (K.rank e) (K.rank d) (and_r (strict_left K rem e) (ltb (K.rank e) (K.rank d)) u) in
            let f : q (K.end d) ≤ ahead K rem (K.end d) (K.rank e) =
            subst (λ x. q x ≤ ahead K rem x (K.rank e)) i (full (and_l (strict_left K rem e) (ltb (K.rank e) (K.rank d)) u)) in
            given (ahead_more (K.end d) (K.rank d) i w) (λ (a, b).
            le-ltb (ahead K rem' (K.end d) (K.rank d)) (q (K.end d)) (omega arith)
            ∙ sym (le-ltb (ahead K rem (K.end d) (K.rank d)) (q (K.end d)) (omega arith))))
            (λ s. ap (λ x. ltb x (q (K.end d)))
            (ahead_kept (K.end d) (K.rank d)
            (λ i. T_false (nand_r (eqb (K.end e) (K.end d)) (strict_left K rem e && ltb (K.rank e) (K.rank d)) s
            (subst (λ x. T (eqb (K.end e) x)) i (eqb_refl (K.end e)))))))
