-- What the cells of a side say where its ranks are lawful: how many edges of a set are ahead of a rank, which edge of a set is a node's best or
-- worst, and that the painted flags are the arrows.
use Prim.Native.Nat.{ℕ, zero, suc, ◌+◌, ◌-◌, ◌≤◌, ◌<◌}
use native.Mathlib.Omega.{arith}
use Rattle.std.proofs.Math.Nat.{eq-or-lt_of_le}
use Rattle.std.proofs.Math.Decide.{dec_lt, dec_le}
use Rattle.std.specs.Prelude.{◌≡◌, ◌≢◌, Bool, false, List, leb}
use Rattle.std.proofs.Math.Path.{refl, sym, ap, ap₂, subst}
use Rattle.std.proofs.Common.{◌∙◌, lt→ltb, leb→le, le→leb, eqb→eq, T_not, lt-ltb, le-ltb}
use Rattle.std.proofs.Math.Logic.{by_cases, ⊎_elim}
use Rattle.std.proofs.Math.Bool.{not, cond, ◌&&◌, and-true}
use Rattle.std.proofs.Math.Dec.{T, eqb, ltb, ltb→lt, not_T}
use Rattle.lists.specs.Test.{by-test, bool_eq, given, and_l, and_r, and_i, eq→eqb, eqb_yes, bit, bit_yes, bit_no, T_true, T_false, parts}
use Rattle.lists.specs.Search.{low, low_is, low_hit, low_none}
use Rattle.model.specs.Limits.{node_limit, empty_rank}
use Rattle.model.specs.Instance.{Side, deg}
use Rattle.model.specs.Reduction.{strict_left, ahead, arrow}
use Rattle.theory_instance.specs.Lawful.{Ranked}
use Rattle.theory_instance.specs.Degree.{deg_cong, deg_without, deg_zero, deg_none}
use Rattle.theory_reduction.specs.Arrows.{Ahead, ahead_mono, ahead_is, is_ahead, arrow_strict}
use Rattle.arrays.specs.ArrayInstance.{at, flag}
use Rattle.arrays.specs.Passes.{Low}
use Rattle.arrays.specs.Firsts.{from}
use Rattle.reduction_cells.specs.Painted.{Painted, AllPainted}
use Rattle.reduction_cells.specs.Cells.{Celled, place, in_cell, edge_in, passed, bar_of, best_of, worst_of, same_place, cell_holds}

-- each strict edge stands in the cell of its node and rank, and a cell that holds an edge holds that one
pub record Cells (K : Side) (cell : List ℕ) : Type 0 where
  pub nodes : (e : ℕ) → e < K.m → K.end e < node_limit
  pub here : (e : ℕ) → e < K.m → T (not (K.tie e)) → in_cell cell (K.end e) (K.rank e) ≡ e
  pub node : (v r : ℕ) → v < node_limit → r < empty_rank → in_cell cell v r < K.m → K.end (in_cell cell v r) ≡ v
  pub rank : (v r : ℕ) → v < node_limit → r < empty_rank → in_cell cell v r < K.m → K.rank (in_cell cell v r) ≡ r
  pub strict : (v r : ℕ) → v < node_limit → r < empty_rank → in_cell cell v r < K.m → T (not (K.tie (in_cell cell v r)))

-- a side as its arrays show it
abbrev pub side_of : (m n : ℕ) (end rank : List ℕ) (tie : ℕ → Bool) (quota : ℕ → ℕ) → Side
side_of m n end rank tie quota = record { m = m; n = n; end = at end; rank = at rank; tie = tie; quota = quota }

-- the cells that the code makes are those of a lawful side
pub celled_is : (m n : ℕ) (end rank : List ℕ) (tied : List Bool) (tie : ℕ → Bool) (quota : ℕ → ℕ) (cell : List ℕ) → ((e : ℕ) → tie e ≡ flag tied e)
    → Low m end node_limit → Celled m end rank tied cell → Ranked (side_of m n end rank tie quota) → Cells (side_of m n end rank tie quota) cell
celled_is m n end rank tied tie quota cell ties fit C law = record {
  nodes = fit;
  here = λ e l s. given (place end rank e) (λ p.
      let k = place end rank e in
      let F = from m (place end rank) (λ d. not (flag tied d)) 0 k in
      let t : T (F e) = and_i (leb 0 e) (not (flag tied e) && eqb k k) (le→leb 0 e (omega arith))
      (and_i (not (flag tied e)) (eqb k k) (subst (λ b. T (not b)) (ties e) s) (eq→eqb k k refl)) in
      let q : in_cell cell (at end e) (at rank e) ≡ low F m = C.firsts k (omega (arith, fit e l, law.placed e l)) in
      let x = low F m in
      let xl : x < m = by_cases (dec_lt x m) (λ h. h) (λ h. absurd (T_not (F e) ((low_is F m).1 e (omega (arith, (low_is F m).0))) t)) in
      let u = and_r (leb 0 x) (not (flag tied x) && eqb (place end rank x) k) ((low_is F m).2 xl) in
      let i = eqb→eq (place end rank x) k (and_r (not (flag tied x)) (eqb (place end rank x) k) u) in
      let j = same_place (at end x) (at end e) (at rank x) (at rank e) (law.placed x xl) (law.placed e l) i in
      q ∙ law.strict x e xl l j.0 j.1 (subst (λ b. T (not b)) (sym (ties x)) (and_l (not (flag tied x)) (eqb (place end rank x) k) u)));
  node = λ v r w h l. (same_place (at end (in_cell cell v r)) v (at rank (in_cell cell v r)) r (law.placed (in_cell cell v r) l) h
      (cell_holds m end rank tied cell C v r w h l).0).0;
  rank = λ v r w h l. (same_place (at end (in_cell cell v r)) v (at rank (in_cell cell v r)) r (law.placed (in_cell cell v r) l) h
      (cell_holds m end rank tied cell C v r w h l).0).1;
  strict = λ v r w h l. subst (λ b. T (not b)) (sym (ties (in_cell cell v r))) (cell_holds m end rank tied cell C v r w h l).1;
}

-- a test that one number alone passes
pub low_only : (q : ℕ → Bool) (m x : ℕ) → x < m → T (q x) → ((e : ℕ) → e < m → T (q e) → e ≡ x) → low q m ≡ x
low_only q m x l t h = low_hit q x m (low_none q x (λ e k. by-test (q e) (λ s. let i : e ≡ x = h e (omega arith) s in absurd (omega arith)) T_false))
    (T_true t) l

module _ (K : Side) (law : Ranked K) (cell : List ℕ) (C : Cells K cell) (p : ℕ → Bool) (v : ℕ) (w : v < node_limit) where
  abbrev c : ℕ → ℕ
  c r = in_cell cell v r

  abbrev in? : ℕ → Bool
  in? r = edge_in K.m p (c r)

  -- an edge at v that is strict is its cell's
  is_cell : (d : ℕ) → d < K.m → K.end d ≡ v → T (not (K.tie d)) → c (K.rank d) ≡ d
  is_cell d l i s = subst (λ u. in_cell cell u (K.rank d) ≡ d) i (C.here d l s)

  under_next : (r : ℕ) → r < empty_rank → ahead K p v (suc r) ≡ ahead K p v r + bit (in? r)
  unfolding ahead
  under_next r h = by-test (in? r)
      (λ t.
      let l = ltb→lt (c r) K.m (and_l (ltb (c r) K.m) (p (c r)) t) in
      let q = and_r (ltb (c r) K.m) (p (c r)) t in
      let k = C.rank v r w h l in
      omega (
        arith,
        deg_without K (Ahead K p (suc r)) (c r) v l (is_ahead K p (suc r) (c r) q (C.strict v r w h l) (omega arith)),
        ap bit (eqb_yes v (K.end (c r)) (sym (C.node v r w h l))),
        bit_yes (in? r) t,
        deg_cong K (λ d. Ahead K p (suc r) d && not (eqb d (c r))) (Ahead K p r) v (λ d dl i. bool_eq (Ahead K p (suc r) d && not (eqb d (c r))) (Ahead K p r d)
            (λ s. given (ahead_is K p (suc r) d (and_l (Ahead K p (suc r) d) (not (eqb d (c r))) s)) (λ (pd, sd, rd).
            by_cases (dec_lt (K.rank d) r)
            (λ b. is_ahead K p r d pd sd b)
            (λ b. absurd (T_not (eqb d (c r)) (and_r (Ahead K p (suc r) d) (not (eqb d (c r))) s)
            (eq→eqb d (c r) (sym (is_cell d dl i sd) ∙ ap c (let e : K.rank d ≡ r = omega arith in e)))))))
            (λ s. given (ahead_is K p r d s) (λ (pd, sd, rd).
            and_i (Ahead K p (suc r) d) (not (eqb d (c r))) (is_ahead K p (suc r) d pd sd (omega arith))
            (not_T (eqb d (c r)) (λ z. absurd (omega (arith, ap K.rank (eqb→eq d (c r) z)))))))),
      ))
      (λ t. omega (
        arith,
        bit_no (in? r) t,
        deg_cong K (Ahead K p (suc r)) (Ahead K p r) v (λ d dl i. bool_eq (Ahead K p (suc r) d) (Ahead K p r d)
            (λ s. given (ahead_is K p (suc r) d s) (λ (pd, sd, rd).
            by_cases (dec_lt (K.rank d) r)
            (λ b. is_ahead K p r d pd sd b)
            (λ b. let e : c r ≡ d = ap c (let x : r ≡ K.rank d = omega arith in x) ∙ is_cell d dl i sd in
            absurd (T_not (in? r) t (and_i (ltb (c r) K.m) (p (c r)) (lt→ltb (c r) K.m (omega arith)) (subst (λ z. T (p z)) (sym e) pd))))))
            (λ s. given (ahead_is K p r d s) (λ (pd, sd, rd). is_ahead K p (suc r) d pd sd (omega arith)))),
      ))

  -- the count of the code
  pub passed_is : (r : ℕ) → r ≤ empty_rank → passed K.m cell p v r ≡ ahead K p v r
  unfolding passed ahead
  passed_is zero h = sym (deg_zero K (Ahead K p 0) v (λ d l i t. given (ahead_is K p 0 d t) (λ (a, b, k). absurd (omega arith))))
  passed_is (suc r) h = omega (arith, passed_is r (omega arith), under_next r (omega arith))

  -- ---- the bar: an edge is at or behind it exactly if q of p are ahead of it
  pub bar_is : (q e : ℕ) → e < K.m → leb (bar_of K.m cell p v q) (K.rank e) ≡ leb q (ahead K p v (K.rank e))
  bar_is q e l = given (low_is (λ r. leb q (passed K.m cell p v r)) empty_rank) (λ (a, b, t).
      let r = K.rank e in
      let rl = law.placed e l in
      let B = bar_of K.m cell p v q in
      bool_eq (leb B r) (leb q (ahead K p v r))
      (λ s. let h : B ≤ r = leb→le B r s in
      le→leb q (ahead K p v r) (omega (
        arith,
        leb→le q (passed K.m cell p v B) (t (omega arith)),
        passed_is B (omega arith),
        ahead_mono K p v B r h,
      )))
      (λ s. by_cases (dec_le B r) (λ h. le→leb B r h) (λ h.
      absurd (T_not (leb q (passed K.m cell p v r)) (b r (omega arith))
      (le→leb q (passed K.m cell p v r) (omega (arith, leb→le q (ahead K p v r) s, passed_is r (omega arith))))))))

  -- ---- the best of p at v: none of p is ahead of it
  abbrev pub first : ℕ → Bool
  first e = eqb (K.end e) v && (strict_left K p e && eqb (ahead K p (K.end e) (K.rank e)) 0)

  first_at : (e : ℕ) → T (first e) → (K.end e ≡ v) × T (p e) × T (not (K.tie e)) × (ahead K p v (K.rank e) ≡ 0)
  first_at e t =
      let i = eqb→eq (K.end e) v (search parts) in
      (i, search parts, search parts, subst (λ u. ahead K p u (K.rank e) ≡ 0) i (eqb→eq (ahead K p (K.end e) (K.rank e)) 0 (search parts)))

  none_before : (k : ℕ) → k ≤ empty_rank → ((r : ℕ) → r < k → T (not (in? r))) → ahead K p v k ≡ 0
  unfolding passed
  none_before k h n = sym (passed_is k h) ∙ go k n
    where
      go : (k : ℕ) → ((r : ℕ) → r < k → T (not (in? r))) → passed K.m cell p v k ≡ 0
      go zero n = refl
      go (suc k) n = omega (arith, go k (λ r l. n r (omega arith)), bit_no (in? k) (n k (omega arith)))

  -- the code's best edge is the one with none ahead of it
  pub best_is : best_of K.m cell p v ≡ low first K.m
  unfolding ahead
  best_is = given (low_is in? empty_rank) (λ (a, b, t). by_cases (dec_lt (low in? empty_rank) empty_rank)
      (λ h.
      let k = low in? empty_rank in
      let s = t h in
      let l = ltb→lt (c k) K.m (and_l (ltb (c k) K.m) (p (c k)) s) in
      let pk = and_r (ltb (c k) K.m) (p (c k)) s in
      let nd = C.node v k w h l in
      let rk = C.rank v k w h l in
      let sk = C.strict v k w h l in
      let z : ahead K p v k ≡ 0 = none_before k (omega arith) b in
      ap (λ x. cond x (c k) K.m) (lt-ltb k empty_rank h)
      ∙ sym (low_only first K.m (c k) l
      (and_i (eqb (K.end (c k)) v) (strict_left K p (c k) && eqb (ahead K p (K.end (c k)) (K.rank (c k))) 0) (eq→eqb (K.end (c k)) v nd)
      (and_i (strict_left K p (c k)) (eqb (ahead K p (K.end (c k)) (K.rank (c k))) 0) (and_i (p (c k)) (not (K.tie (c k))) pk sk)
      (eq→eqb (ahead K p (K.end (c k)) (K.rank (c k))) 0 (ap₂ (ahead K p) nd rk ∙ z))))
      (λ e el u. given (first_at e u) (λ (i, pe, se, ze). ⊎_elim
      (λ q. sym (is_cell e el i se) ∙ ap c (sym q))
      (λ lt. absurd (T_not (Ahead K p (K.rank e) (c k)) (deg_none K (Ahead K p (K.rank e)) v ze (c k) l nd)
      (is_ahead K p (K.rank e) (c k) pk sk (omega arith))))
      (let g : k ≤ K.rank e = by_cases (dec_lt (K.rank e) k)
      (λ q. absurd (T_not (in? (K.rank e)) (b (K.rank e) q)
      (subst (λ z. T (edge_in K.m p z)) (sym (is_cell e el i se)) (and_i (ltb e K.m) (p e) (lt→ltb e K.m el) pe))))
      (λ q. omega arith) in eq-or-lt_of_le g)))))
      (λ h. ap (λ x. cond x (c (low in? empty_rank)) K.m) (le-ltb (low in? empty_rank) empty_rank (omega arith))
      ∙ sym (low_none first K.m (λ e el. by-test (first e)
      (λ u. given (first_at e u) (λ (i, pe, se, ze). absurd (T_not (in? (K.rank e)) (b (K.rank e) (omega (arith, law.placed e el)))
      (subst (λ z. T (edge_in K.m p z)) (sym (is_cell e el i se)) (and_i (ltb e K.m) (p e) (lt→ltb e K.m el) pe)))))
      T_false))))

  -- ---- the worst of p at v, where all edges are strict
  abbrev pub later : ℕ → ℕ → Bool
  later e d = p d && ltb (K.rank e) (K.rank d)

  abbrev pub last : ℕ → Bool
  last e = eqb (K.end e) v && (p e && eqb (deg K (later e) (K.end e)) 0)

  last_at : (e : ℕ) → T (last e) → (K.end e ≡ v) × T (p e) × (deg K (later e) v ≡ 0)
  last_at e t =
      let i = eqb→eq (K.end e) v (search parts) in
      (i, search parts, subst (λ u. deg K (later e) u ≡ 0) i (eqb→eq (deg K (later e) (K.end e)) 0 (search parts)))

  abbrev from? : ℕ → Bool
  from? k = edge_in K.m p (c (32 - k))

  -- where nothing is tied the code's worst edge is the one with none behind it
  pub worst_is : ((e : ℕ) → T (not (K.tie e))) → worst_of K.m cell p v ≡ low last K.m
  worst_is all = given (low_is from? empty_rank) (λ (a, b, t). by_cases (dec_lt (low from? empty_rank) empty_rank)
      (λ h.
      let k = low from? empty_rank in
      let x = c (32 - k) in
      let s = t h in
      let l = ltb→lt x K.m (and_l (ltb x K.m) (p x) s) in
      let px = and_r (ltb x K.m) (p x) s in
      let nd = C.node v (32 - k) w (omega arith) l in
      let rk = C.rank v (32 - k) w (omega arith) l in
      ap (λ y. cond y x K.m) (lt-ltb k empty_rank h)
      ∙ sym (low_only last K.m x l
      (and_i (eqb (K.end x) v) (p x && eqb (deg K (later x) (K.end x)) 0) (eq→eqb (K.end x) v nd)
      (and_i (p x) (eqb (deg K (later x) (K.end x)) 0) px (eq→eqb (deg K (later x) (K.end x)) 0
      (deg_zero K (later x) (K.end x) (λ d dl i u.
      let y = ltb→lt (K.rank x) (K.rank d) (and_r (p d) (ltb (K.rank x) (K.rank d)) u) in
      behind b d dl (i ∙ nd) (and_l (p d) (ltb (K.rank x) (K.rank d)) u) (omega (arith, law.placed d dl)))))))
      (λ e el u. given (last_at e u) (λ (i, pe, ze). ⊎_elim
      (λ q. sym (is_cell e el i (all e)) ∙ ap c q)
      (λ lt. absurd (T_not (later e x) (deg_none K (later e) v ze x l nd)
      (and_i (p x) (ltb (K.rank e) (K.rank x)) px (lt→ltb (K.rank e) (K.rank x) (omega arith)))))
      (let g : K.rank e ≤ 32 - k = by_cases (dec_le (K.rank e) (32 - k)) (λ q. q) (λ q. absurd (behind b e el i pe (omega (arith, law.placed e el)))) in
      eq-or-lt_of_le g)))))
      (λ h. ap (λ y. cond y (c (32 - low from? empty_rank)) K.m) (le-ltb (low from? empty_rank) empty_rank (omega arith))
      ∙ sym (low_none last K.m (λ e el. by-test (last e)
      (λ u. given (last_at e u) (λ (i, pe, ze). absurd (behind b e el i pe (omega (arith, law.placed e el)))))
      T_false))))
    where
      -- before the search ends there is no edge of p
      behind : ((k : ℕ) → k < low from? empty_rank → T (not (from? k))) → (d : ℕ) → d < K.m → K.end d ≡ v → T (p d) → 32 - K.rank d < low from? empty_rank → ⊥
      behind b d dl i pd h =
          let e : 32 - (32 - K.rank d) ≡ K.rank d = omega (arith, law.placed d dl) in
          T_not (from? (32 - K.rank d)) (b (32 - K.rank d) h)
          (subst (λ z. T (edge_in K.m p z)) (sym (ap c e ∙ is_cell d dl i (all d))) (and_i (ltb d K.m) (p d) (lt→ltb d K.m dl) pd))

-- ---- the painted flags
module _ (K : Side) (law : Ranked K) (cell : List ℕ) (C : Cells K cell) (rem f : List Bool) where
  -- the strict edges of a node, painted with its quota, have their arrows
  arrow_new : (v q : ℕ) → v < node_limit
      → ((r : ℕ) → r < empty_rank → in_cell cell v r < K.m
      → flag f (in_cell cell v r) ≡ flag rem (in_cell cell v r) && ltb (passed K.m cell (flag rem) v r) q)
      → (Q : ℕ → ℕ) → Q v ≡ q → (e : ℕ) → e < K.m → K.end e ≡ v → T (not (K.tie e)) → flag f e ≡ arrow K (flag rem) Q e
  unfolding arrow
  arrow_new v q w new Q qi e l i s =
      let r = K.rank e in
      let h : in_cell cell v r ≡ e = subst (λ z. in_cell cell z r ≡ e) i (C.here e l s) in
      let n : flag f e ≡ flag rem e && ltb (passed K.m cell (flag rem) v r) q =
      subst (λ z. flag f z ≡ flag rem z && ltb (passed K.m cell (flag rem) v r) q) h (new r (law.placed e l) (omega arith)) in
      n ∙ ap₂ ◌&&◌ (sym (ap (λ b. flag rem e && not b) (T_false {b = K.tie e} s) ∙ and-true (flag rem e)))
      (ap₂ ltb (passed_is K law cell C (flag rem) v w r (let g = law.placed e l in omega arith) ∙ ap (λ z. ahead K (flag rem) z r) (sym i))
      (sym (ap Q i ∙ qi)))

  -- a tied edge has none
  pub arrow_tied : (Q : ℕ → ℕ) (e : ℕ) → T (K.tie e) → arrow K (flag rem) Q e ≡ false
  arrow_tied Q e t = by-test (arrow K (flag rem) Q e) (λ a. absurd (T_not (K.tie e) (arrow_strict K (flag rem) Q e a) t)) T_false

  -- all nodes painted
  pub all_arrows : (q : List ℕ) → AllPainted K.m cell rem q node_limit f → (Q : ℕ → ℕ) → ((v : ℕ) → v < node_limit → at q v ≡ Q v)
      → (e : ℕ) → e < K.m → flag f e ≡ arrow K (flag rem) Q e
  all_arrows q P Q h e l = let w = C.nodes e l in by-test (K.tie e)
      (λ t. P.old e (λ v i k r (z : in_cell cell v i ≡ e). T_not (K.tie (in_cell cell v i)) (C.strict v i k r (omega arith))
      (subst (λ y. T (K.tie y)) (sym z) t)) ∙ sym (arrow_tied Q e t))
      (λ s. arrow_new (K.end e) (at q (K.end e)) w (λ r. P.new (K.end e) r w) Q (sym (h (K.end e) w)) e l refl s)

  -- one node painted anew: its own edges have their arrows, if its tied edges have none
  module _ (other : List ℕ) (v q : ℕ) (w : v < node_limit) (f₀ : List Bool) (u : ℕ → Bool) (P : Painted K.m other cell rem v q empty_rank f₀ f u) where
    -- its own edges have their arrows, if its tied edges had none
    pub painted_new : (Q : ℕ → ℕ) → Q v ≡ q → (e : ℕ) → e < K.m → K.end e ≡ v → (T (K.tie e) → flag f₀ e ≡ false)
        → flag f e ≡ arrow K (flag rem) Q e
    painted_new Q qi e l i h = by-test (K.tie e)
        (λ t. P.old e (λ i k (z : in_cell cell v i ≡ e). T_not (K.tie (in_cell cell v i)) (C.strict v i w k (omega arith))
        (subst (λ y. T (K.tie y)) (sym z) t)) ∙ h t ∙ sym (arrow_tied Q e t))
        (arrow_new v q w P.new Q qi e l i)

    -- all other edges are as before
    pub painted_other : (e : ℕ) → e < K.m → K.end e ≢ v → flag f e ≡ flag f₀ e
    painted_other e l n = P.old e (λ i h (z : in_cell cell v i ≡ e). n (ap K.end (sym z) ∙ C.node v i w h (omega arith)))
