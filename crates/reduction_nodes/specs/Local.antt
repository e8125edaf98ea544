-- The numbers of a node depend on its own edges alone: arrays that agree there give the same numbers. And where an edge goes that is not the lowest
-- that rule 2 names at a node, that one stays.
use Rattle.std.specs.Prelude.{ℕ, ◌+◌, ◌<◌, ◌≡◌, ◌≢◌, Bool, false, not, cond, ◌&&◌, ◌||◌, List, leb, ltb, eqb}
use Rattle.std.proofs.Common.{arith, sym, ap, ap₂, ◌∙◌}
use Rattle.std.proofs.Math.Decide.{dec_lt}
use Rattle.std.proofs.Math.Logic.{by_cases}
use Rattle.std.proofs.Math.Bool.{and-false}
use Rattle.lists.specs.Test.{by-eq, T_true, T_false, given}
use Rattle.lists.specs.Search.{low, low_is, low_hit, low_none}
use Rattle.model.specs.Limits.{node_limit}
use Rattle.model.specs.Instance.{deg}
use Rattle.theory_instance.specs.Degree.{deg_cong}
use Rattle.theory_reduction.specs.ByNode.{lowest_at_cong}
use Rattle.arrays.specs.ArrayInstance.{at, flag}
use Rattle.reduction_lists.specs.Listed.{tallied}
use Rattle.reduction_lists.specs.Walks.{at_node}
use Rattle.reduction_cells.specs.Cells.{Owned, bar_of}
use Rattle.reduction_cells.specs.CellLaws.{side_of}
use Rattle.reduction_cells.specs.Local.{Agree, bar_local, best_local, worst_local}
use Rattle.reduction_nodes.specs.Numbers.{in_n, first_of, second_of, surveyor_of, stand_of}

tallied_local : (m : ℕ) (end : List ℕ) (v : ℕ) (p q : ℕ → Bool) → Agree m end v p q → tallied end v p m ≡ tallied end v q m
unfolding deg
tallied_local m end v p q A = deg_cong (side_of m 0 end end (λ e. false) (λ u. 0)) p q v A

-- arrays of one state and of another agree at a node
pub record Same (m : ℕ) (end : List ℕ) (v : ℕ) (rem fs ft rem' fs' ft' : List Bool) : Type 0 where
  pub left : Agree m end v (flag rem') (flag rem)
  pub from_s : Agree m end v (flag fs') (flag fs)
  pub from_t : Agree m end v (flag ft') (flag ft)

-- rule 1
pub first_local : (m : ℕ) (sv : List ℕ) (v : ℕ) (fs ft fs' ft' : List Bool) → Agree m sv v (flag fs') (flag fs) → Agree m sv v (flag ft') (flag ft)
    → first_of m sv fs' ft' v ≡ first_of m sv fs ft v
first_local m sv v fs ft fs' ft' A B = lowest_at_cong m (at sv) (λ d. flag fs' d && flag ft' d) (λ d. flag fs d && flag ft d) v
    (λ e l i. ap₂ ◌&&◌ (A e l i) (B e l i))

-- so do the numbers: of rule 2, of a stand, of a surveyor
module _ (m : ℕ) (end cell : List ℕ) (O : Owned m end cell) (v : ℕ) (w : v < node_limit) where
  -- rule 2
  pub second_local : (rank : List ℕ) (rem f rem' f' : List Bool) (q q' : ℕ) → Agree m end v (flag rem') (flag rem) → Agree m end v (flag f') (flag f) → q' ≡ q
      → second_of m end rank cell rem' f' q' v ≡ second_of m end rank cell rem f q v
  second_local rank rem f rem' f' q q' A B i =
      let b : bar_of m cell (flag f') v q' ≡ bar_of m cell (flag f) v q
      = bar_local m end cell O v w (flag f') (flag f) B q' ∙ ap (bar_of m cell (flag f) v) i in
      lowest_at_cong m (at end) (λ d. flag rem' d && leb (bar_of m cell (flag f') v q') (at rank d))
      (λ d. flag rem d && leb (bar_of m cell (flag f) v q) (at rank d)) v
      (λ e l j. ap₂ (λ (x : Bool) (y : ℕ). x && leb y (at rank e)) (A e l j) b)

  -- the later rules at a stand
  pub stand_local : (rem fs ft rem' fs' ft' : List Bool) (q q' : ℕ) → Same m end v rem fs ft rem' fs' ft' → q' ≡ q
      → stand_of m end cell rem' fs' ft' q' v ≡ stand_of m end cell rem fs ft q v
  stand_local rem fs ft rem' fs' ft' q q' A i =
      let got = tallied_local m end v (flag fs') (flag fs) A.from_s in
      let sent = tallied_local m end v (flag ft') (flag ft) A.from_t in
      let low3 = lowest_at_cong m (at end) (λ d. flag rem' d && flag fs' d) (λ d. flag rem d && flag fs d) v
      (λ e l j. ap₂ ◌&&◌ (A.left e l j) (A.from_s e l j)) in
      let best = best_local m end cell O v w (flag rem') (flag rem) A.left in
      λ k. record {
        rule3 = cond (leb (got k + sent k) (i k)) (low3 k) m;
        rule7 = cond (ltb (got k) (i k)) (best k) m;
        loose = ltb (sent k) (i k) && eqb (got k) 0;
      }

  -- the later rules at a surveyor
  pub surveyor_local : (st : List ℕ) (rem fs ft lo rem' fs' ft' lo' : List Bool) (q q' : ℕ) → Same m end v rem fs ft rem' fs' ft'
      → Agree m end v (λ e. flag lo' (at st e)) (λ e. flag lo (at st e)) → q' ≡ q
      → surveyor_of m end st cell rem' fs' ft' lo' q' v ≡ surveyor_of m end st cell rem fs ft lo q v
  surveyor_local st rem fs ft lo rem' fs' ft' lo' q q' A B i =
      let N : Agree m end v (in_n st rem' ft' lo') (in_n st rem ft lo)
      = (λ e l j. ap₂ ◌&&◌ (A.left e l j) (ap₂ ◌||◌ (B e l j) (A.from_t e l j))) in
      let size = tallied_local m end v (in_n st rem' ft' lo') (in_n st rem ft lo) N in
      let worst = worst_local m end cell O v w (in_n st rem' ft' lo') (in_n st rem ft lo) N in
      let best = best_local m end cell O v w (flag rem') (flag rem) A.left in
      let idle = lowest_at_cong m (at end)
      (λ d. flag rem' d && (not (flag lo' (at st d)) && (not (flag fs' d) && not (flag ft' d))))
      (λ d. flag rem d && (not (flag lo (at st d)) && (not (flag fs d) && not (flag ft d)))) v
      (λ e l j. ap₂ ◌&&◌ (A.left e l j) (ap₂ (λ (x y : Bool). not x && y) (B e l j)
      (ap₂ (λ (x y : Bool). not x && not y) (A.from_s e l j) (A.from_t e l j)))) in
      λ k. record {
        rule4 = cond (ltb (i k) (size k)) (worst k) m;
        rule5 = idle k;
        rule6 = cond (ltb (size k) (i k)) (best k) m;
      }

-- ---- a number that is not the lowest goes
low_without : (p q : ℕ → Bool) (m e : ℕ) → ((d : ℕ) → d ≢ e → q d ≡ p d) → q e ≡ false → low p m ≢ e → low q m ≡ low p m
low_without p q m e h f n = given (low_is p m) (λ (a, b, t).
    let before : (d : ℕ) → d < low p m → q d ≡ false
    = (λ d l. by-eq d e (λ i s. ap q i ∙ f) (λ ne s. h d ne ∙ T_false (b d l))) in
    by_cases (dec_lt (low p m) m)
    (λ l. low_hit q (low p m) m (low_none q (low p m) before) (h (low p m) n ∙ T_true (t l)) l)
    (λ k. let i : low p m ≡ m = omega arith in low_none q m (λ d l. before d (omega arith)) ∙ sym i))

-- rule 2 where an edge is struck that it did not name
pub second_struck : (m : ℕ) (end rank cell : List ℕ) (rem rem' f : List Bool) (q v e : ℕ) → ((d : ℕ) → d ≢ e → flag rem' d ≡ flag rem d)
    → flag rem' e ≡ false → second_of m end rank cell rem f q v ≢ e → second_of m end rank cell rem' f q v ≡ second_of m end rank cell rem f q v
second_struck m end rank cell rem rem' f q v e h g = low_without
    (at_node end v (λ d. flag rem d && leb (bar_of m cell (flag f) v q) (at rank d)))
    (at_node end v (λ d. flag rem' d && leb (bar_of m cell (flag f) v q) (at rank d))) m e
    (λ d n. ap (λ x. eqb (at end d) v && (x && leb (bar_of m cell (flag f) v q) (at rank d))) (h d n))
    (ap (λ x. eqb (at end e) v && (x && leb (bar_of m cell (flag f) v q) (at rank e))) g ∙ and-false (eqb (at end e) v))
