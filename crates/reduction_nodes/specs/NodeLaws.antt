-- The numbers of the nodes are the model's: what the code reads from a node's edges is the lowest edge that each rule names there.
use Prim.Native.Nat.{ℕ, ◌+◌, ◌<◌}
use Rattle.std.proofs.Common.{arith, sym, ◌∙◌, subst, ltb→lt}
use Rattle.std.specs.Prelude.{◌≡◌, refl, true, false, ◌||◌, List, T}
use Rattle.std.proofs.Math.Path.{ap, ap₂}
use Rattle.std.proofs.Math.Bool.{Bool, not, cond, ◌&&◌, and-true, and-false}
use Rattle.std.proofs.Math.Dec.{eqb, leb, ltb, not_T}
use Rattle.lists.specs.Search.{low_none}
use Rattle.model.specs.Limits.{node_limit}
use Rattle.model.specs.Instance.{Instance, Side, surveyors, stands, deg}
use Rattle.model.specs.Reduction.{State, strict_left, ahead, cut_s, cut_t, arrow_s, arrow_t, deg_s, deg_t, ahead_s}
use Rattle.model.specs.Reduction.{ahead_t, loose, reserved, better_s, better_t, worse_reserved}
use Rattle.model.specs.Reduction.{rule1, rule3, rule4, rule5, rule6, rule7}
use Rattle.theory_instance.specs.Lawful.{Ranked}
use Rattle.theory_instance.specs.Degree.{deg_cong}
use Rattle.theory_reduction.specs.Facts.{arrow_s_rem, reserved_rem}
use Rattle.theory_reduction.specs.ByNode.{lowest_at, lowest_at_cong, rule2_s, rule2_t}
use Rattle.arrays.specs.ArrayInstance.{at, flag}
use Rattle.reduction_lists.specs.Listed.{tallied}
use Rattle.reduction_cells.specs.Cells.{bar_of, best_of, worst_of}
use Rattle.reduction_cells.specs.CellLaws.{Cells, bar_is, best_is, worst_is}
use Rattle.reduction_nodes.specs.Known.{Edges, Known, instance_of, state_of}
use Rattle.reduction_nodes.specs.Numbers.{in_n, second_of}

-- ---- what the arrays of a state are: arrows and cut quotas; of its nodes: the lowest edges by rule
module _ (G : Instance) (Z : State) where
  -- the arrays of a state
  pub record Seen (fs ft : List Bool) (qs qt : List ℕ) : Type 0 where
    pub from_s : (e : ℕ) → e < G.m → flag fs e ≡ arrow_s G Z e
    pub from_t : (e : ℕ) → e < G.m → flag ft e ≡ arrow_t G Z e
    pub quota_s : (v : ℕ) → v < node_limit → at qs v ≡ cut_s G Z v
    pub quota_t : (v : ℕ) → v < node_limit → at qt v ≡ cut_t G Z v

  -- the lowest remaining edge at v that a rule names
  abbrev pub named_at : (end : ℕ → ℕ) (rule : Instance → State → ℕ → Bool) → ℕ → ℕ
  named_at end rule v = lowest_at G.m end (λ e. Z.rem e && rule G Z e) v

  -- an array has the lowest edges that a rule names
  abbrev pub Named : (xs : List ℕ) (end : ℕ → ℕ) (rule : Instance → State → ℕ → Bool) → Type 0
  Named xs end rule = (v : ℕ) → v < node_limit → at xs v ≡ named_at end rule v

  -- flags of the loose stands
  abbrev pub Loose : List Bool → Type 0
  Loose lo = (v : ℕ) → v < node_limit → flag lo v ≡ loose G Z v

-- ---- tests
-- a number that is sought only under a condition of the node
cond_low : (m : ℕ) (end : ℕ → ℕ) (p q : ℕ → Bool) (v : ℕ) (b : Bool) → ((e : ℕ) → e < m → end e ≡ v → q e ≡ p e && b)
    → cond b (lowest_at m end p v) m ≡ lowest_at m end q v
cond_low m end p q v true h = lowest_at_cong m end p q v (λ e l i. sym (and-true (p e)) ∙ sym (h e l i))
cond_low m end p q v false h =
    sym (low_none (λ e. eqb (end e) v && false) m (λ e l. and-false (eqb (end e) v)))
    ∙ lowest_at_cong m end (λ e. false) q v (λ e l i. sym (and-false (p e)) ∙ sym (h e l i))

-- a tied edge is ahead of none
drop_tie : (a t b : Bool) → (T t → T (not b)) → (a && not t) && b ≡ a && b
drop_tie true true true h = absurd (h tt)
drop_tie true true false h = refl
drop_tie true false b h = refl
drop_tie false t b h = refl

either : (r l a : Bool) → r && (l || a) ≡ r && ((not l && a) || l)
either false l a = refl
either true true a = refl
either true false true = refl
either true false false = refl

assoc : (r a b : Bool) → r && (a && b) ≡ (r && a) && b
assoc true a b = refl
assoc false a b = refl

turned : (r b c : Bool) → r && (b && c) ≡ (r && c) && b
turned true true true = refl
turned true true false = refl
turned true false true = refl
turned true false false = refl
turned false b c = refl

-- with a premise in front that the second implies
implied : (r a b c : Bool) → (T a → T r) → r && (a && (b && c)) ≡ (a && c) && b
implied true true true true h = refl
implied true true true false h = refl
implied true true false true h = refl
implied true true false false h = refl
implied true false b c h = refl
implied false true b c h = absurd (h tt)
implied false false b c h = refl

strict_best : (r t b c : Bool) → r && (b && (not t && c)) ≡ ((r && not t) && c) && b
strict_best true true true c = refl
strict_best true true false c = refl
strict_best true false true true = refl
strict_best true false true false = refl
strict_best true false false true = refl
strict_best true false false false = refl
strict_best false t b c = refl

loose_best : (r b c : Bool) → r && (b && c) ≡ ((r && true) && c) && b
loose_best true true true = refl
loose_best true true false = refl
loose_best true false true = refl
loose_best true false false = refl
loose_best false b c = refl

both_left : (r a b : Bool) → (T a → T r) → a && b ≡ r && (a && b)
both_left true a b h = refl
both_left false true b h = absurd (h tt)
both_left false false b h = refl

-- how many of the arrows that come in are better than e
come_in : (K : Side) → Ranked K → (f a : ℕ → Bool) → ((d : ℕ) → d < K.m → f d ≡ a d) → (e : ℕ) → e < K.m
    → ahead K f (K.end e) (K.rank e) ≡ deg K (λ d. a d && ltb (K.rank d) (K.rank e)) (K.end e)
unfolding ahead
come_in K law f a h e l = deg_cong K (λ d. strict_left K f d && ltb (K.rank d) (K.rank e)) (λ d. a d && ltb (K.rank d) (K.rank e)) (K.end e) (λ d dl i.
    ap (λ x. (x && not (K.tie d)) && ltb (K.rank d) (K.rank e)) (h d dl)
    ∙ drop_tie (a d) (K.tie d) (ltb (K.rank d) (K.rank e)) (λ t. not_T (ltb (K.rank d) (K.rank e)) (λ s.
    let x = ltb→lt (K.rank d) (K.rank e) s in absurd (omega (arith, law.last d e dl l i t)))))

-- rule 2 at one end
second_is : (K : Side) → Ranked K → (cell : List ℕ) → Cells K cell → (rem : ℕ → Bool) (f : ℕ → Bool) (a : ℕ → Bool) → ((d : ℕ) → d < K.m → f d ≡ a d)
    → (q : ℕ → ℕ) (k v : ℕ) → v < node_limit → k ≡ q v
    → lowest_at K.m K.end (λ d. rem d && leb (bar_of K.m cell f v k) (K.rank d)) v
    ≡ lowest_at K.m K.end (λ e. rem e && leb (q (K.end e)) (deg K (λ d. a d && ltb (K.rank d) (K.rank e)) (K.end e))) v
second_is K law cell C rem f a h q k v w i = lowest_at_cong K.m K.end
    (λ d. rem d && leb (bar_of K.m cell f v k) (K.rank d))
    (λ e. rem e && leb (q (K.end e)) (deg K (λ d. a d && ltb (K.rank d) (K.rank e)) (K.end e))) v
    (λ e l j. ap (λ b. rem e && b) (bar_is K law cell C f v w k e l
    ∙ ap₂ leb (i ∙ ap q (sym j)) (ap (λ u. ahead K f u (K.rank e)) (sym j) ∙ come_in K law f a h e l)))

module _ {A : Edges} {quota_s quota_t : List ℕ} (K : Known A quota_s quota_t) (rem fixed : List Bool) (k_s k_t : ℕ → ℕ) (fs ft : List Bool) (qs qt : List ℕ)
    (S : Seen (instance_of K) (state_of rem fixed k_s k_t) fs ft qs qt) (cs ct : List ℕ) (CS : Cells (surveyors (instance_of K)) cs)
    (CT : Cells (stands (instance_of K)) ct) where
  abbrev G : Instance
  G = instance_of K

  abbrev Z : State
  Z = state_of rem fixed k_s k_t

  abbrev m : ℕ
  m = A.m

  -- ---- stands
  got_is : (v : ℕ) → tallied A.st v (flag fs) m ≡ deg_t G Z (arrow_s G Z) v
  unfolding deg
  got_is v = deg_cong (stands G) (flag fs) (arrow_s G Z) v (λ e l i. S.from_s e l)

  sent_is : (v : ℕ) → tallied A.st v (flag ft) m ≡ deg_t G Z (arrow_t G Z) v
  unfolding deg
  sent_is v = deg_cong (stands G) (flag ft) (arrow_t G Z) v (λ e l i. S.from_t e l)

  -- rule 2 at a stand
  pub stand2 : (v : ℕ) → v < node_limit → second_of m A.st A.rt ct rem fs (at qt v) v ≡ named_at G Z G.st rule2_t v
  unfolding better_t
  stand2 v w = second_is (stands G) K.law.at_t ct CT (flag rem) (flag fs) (arrow_s G Z) S.from_s (cut_t G Z) (at qt v) v w (S.quota_t v w)

  -- rule 3
  pub stand3 : (v : ℕ) → v < node_limit → cond (leb (tallied A.st v (flag fs) m + tallied A.st v (flag ft) m) (at qt v))
      (lowest_at m (at A.st) (λ d. flag rem d && flag fs d) v) m ≡ named_at G Z G.st rule3 v
  unfolding rule3
  stand3 v w = cond_low m G.st (λ d. flag rem d && flag fs d) (λ e. flag rem e && rule3 G Z e) v
      (leb (tallied A.st v (flag fs) m + tallied A.st v (flag ft) m) (at qt v))
      (λ e l i. assoc (flag rem e) (arrow_s G Z e) (leb (deg_t G Z (arrow_s G Z) (G.st e) + deg_t G Z (arrow_t G Z) (G.st e)) (cut_t G Z (G.st e)))
      ∙ ap₂ (λ (x y : Bool). (flag rem e && x) && y) (sym (S.from_s e l))
      (subst (λ u. leb (deg_t G Z (arrow_s G Z) u + deg_t G Z (arrow_t G Z) u) (cut_t G Z u) ≡ leb (tallied A.st v (flag fs) m + tallied A.st v (flag ft) m)
      (at qt v))
      (sym i) (sym (ap₂ leb (ap₂ ◌+◌ (got_is v) (sent_is v)) (S.quota_t v w)))))

  -- rule 7
  pub stand7 : (v : ℕ) → v < node_limit → cond (ltb (tallied A.st v (flag fs) m) (at qt v)) (best_of m ct (flag rem) v) m ≡ named_at G Z G.st rule7 v
  unfolding rule7
  stand7 v w = ap (λ x. cond (ltb (tallied A.st v (flag fs) m) (at qt v)) x m) (best_is (stands G) K.law.at_t ct CT (flag rem) v w)
      ∙ cond_low m G.st (λ e. strict_left (stands G) (flag rem) e && eqb (ahead_t G Z e) 0) (λ e. flag rem e && rule7 G Z e) v
      (ltb (tallied A.st v (flag fs) m) (at qt v))
      (λ e l i. strict_best (flag rem e) (G.tied e) (ltb (deg_t G Z (arrow_s G Z) (G.st e)) (cut_t G Z (G.st e))) (eqb (ahead_t G Z e) 0)
      ∙ ap (λ y. (strict_left (stands G) (flag rem) e && eqb (ahead_t G Z e) 0) && y)
      (subst (λ u. ltb (deg_t G Z (arrow_s G Z) u) (cut_t G Z u) ≡ ltb (tallied A.st v (flag fs) m) (at qt v)) (sym i)
      (sym (ap₂ ltb (got_is v) (S.quota_t v w)))))

  -- looseness
  pub stand_loose : (v : ℕ) → v < node_limit → ltb (tallied A.st v (flag ft) m) (at qt v) && eqb (tallied A.st v (flag fs) m) 0 ≡ loose G Z v
  unfolding loose
  stand_loose v w = ap₂ ◌&&◌ (ap₂ ltb (sent_is v) (S.quota_t v w)) (ap (λ n. eqb n 0) (got_is v))

  -- ---- surveyors
  pub surveyor1 : (v : ℕ) → v < node_limit → lowest_at m (at A.sv) (λ d. flag fs d && flag ft d) v ≡ named_at G Z G.sv rule1 v
  unfolding rule1
  surveyor1 v w = lowest_at_cong m G.sv (λ d. flag fs d && flag ft d) (λ e. flag rem e && rule1 G Z e) v
      (λ e l i. ap₂ ◌&&◌ (S.from_s e l) (S.from_t e l) ∙ both_left (flag rem e) (arrow_s G Z e) (arrow_t G Z e) (arrow_s_rem G Z e))

  -- rule 2 at a surveyor
  pub surveyor2 : (v : ℕ) → v < node_limit → second_of m A.sv A.rs cs rem ft (at qs v) v ≡ named_at G Z G.sv rule2_s v
  unfolding better_s
  surveyor2 v w = second_is (surveyors G) K.law.at_s cs CS (flag rem) (flag ft) (arrow_t G Z) S.from_t (cut_s G Z) (at qs v) v w (S.quota_s v w)

  -- with the loose stands
  module _ (lo : List Bool) (L : Loose G Z lo) where
    in_N : (e : ℕ) → e < m → in_n A.st rem ft lo e ≡ reserved G Z e
    unfolding reserved
    in_N e l = ap₂ (λ (x y : Bool). flag rem e && (x || y)) (L (at A.st e) (K.fit_t e l)) (S.from_t e l)
        ∙ either (flag rem e) (loose G Z (at A.st e)) (arrow_t G Z e)

    size_is : (v : ℕ) → tallied A.sv v (in_n A.st rem ft lo) m ≡ deg_s G Z (reserved G Z) v
    unfolding deg
    size_is v = deg_cong (surveyors G) (in_n A.st rem ft lo) (reserved G Z) v (λ e l i. in_N e l)

    -- rule 4
    pub surveyor4 : (v : ℕ) → v < node_limit
        → cond (ltb (at qs v) (tallied A.sv v (in_n A.st rem ft lo) m)) (worst_of m cs (in_n A.st rem ft lo) v) m ≡ named_at G Z G.sv rule4 v
    unfolding rule4 worse_reserved
    surveyor4 v w = ap (λ x. cond (ltb (at qs v) (tallied A.sv v N m)) x m) (worst_is (surveyors G) K.law.at_s cs CS N v w (λ e. tt))
        ∙ cond_low m G.sv (λ e. N e && eqb (deg (surveyors G) (λ d. N d && ltb (G.rank_s e) (G.rank_s d)) (G.sv e)) 0) (λ e. flag rem e && rule4 G Z e) v
        (ltb (at qs v) (tallied A.sv v N m))
        (λ e l i. implied (flag rem e) (reserved G Z e) (ltb (cut_s G Z (G.sv e)) (deg_s G Z (reserved G Z) (G.sv e)))
        (eqb (deg_s G Z (worse_reserved G Z e) (G.sv e)) 0) (left e)
        ∙ ap₂ ◌&&◌
        (ap₂ ◌&&◌ (sym (in_N e l)) (ap (λ n. eqb n 0) (sym (deg_cong (surveyors G) (λ d. N d && ltb (G.rank_s e) (G.rank_s d))
        (λ d. reserved G Z d && ltb (G.rank_s e) (G.rank_s d)) (G.sv e) (λ d dl j. ap (λ x. x && ltb (G.rank_s e) (G.rank_s d)) (in_N d dl))))))
        (subst (λ u. ltb (cut_s G Z u) (deg_s G Z (reserved G Z) u) ≡ ltb (at qs v) (tallied A.sv v N m)) (sym i)
        (sym (ap₂ ltb (S.quota_s v w) (size_is v)))))
      where
        N : ℕ → Bool
        N = in_n A.st rem ft lo

        left : (e : ℕ) → T (reserved G Z e) → T (flag rem e)
        left e t = reserved_rem G Z e t

    -- rule 5
    pub surveyor5 : (v : ℕ) → v < node_limit
        → lowest_at m (at A.sv) (λ d. flag rem d && (not (flag lo (at A.st d)) && (not (flag fs d) && not (flag ft d)))) v ≡ named_at G Z G.sv rule5 v
    unfolding rule5
    surveyor5 v w = lowest_at_cong m G.sv (λ d. flag rem d && (not (flag lo (at A.st d)) && (not (flag fs d) && not (flag ft d))))
        (λ e. flag rem e && rule5 G Z e) v
        (λ e l i. ap (λ b. flag rem e && b) (ap₂ (λ (x y : Bool). not x && y) (L (at A.st e) (K.fit_t e l))
        (ap₂ (λ (x y : Bool). not x && not y) (S.from_s e l) (S.from_t e l))))

    -- rule 6
    pub surveyor6 : (v : ℕ) → v < node_limit
        → cond (ltb (tallied A.sv v (in_n A.st rem ft lo) m) (at qs v)) (best_of m cs (flag rem) v) m ≡ named_at G Z G.sv rule6 v
    unfolding rule6
    surveyor6 v w = ap (λ x. cond (ltb (tallied A.sv v (in_n A.st rem ft lo) m) (at qs v)) x m) (best_is (surveyors G) K.law.at_s cs CS (flag rem) v w)
        ∙ cond_low m G.sv (λ e. strict_left (surveyors G) (flag rem) e && eqb (ahead_s G Z e) 0) (λ e. flag rem e && rule6 G Z e) v
        (ltb (tallied A.sv v (in_n A.st rem ft lo) m) (at qs v))
        (λ e l i. loose_best (flag rem e) (ltb (deg_s G Z (reserved G Z) (G.sv e)) (cut_s G Z (G.sv e))) (eqb (ahead_s G Z e) 0)
        ∙ ap (λ y. (strict_left (surveyors G) (flag rem) e && eqb (ahead_s G Z e) 0) && y)
        (subst (λ u. ltb (deg_s G Z (reserved G Z) u) (cut_s G Z u) ≡ ltb (tallied A.sv v (in_n A.st rem ft lo) m) (at qs v)) (sym i)
        (sym (ap₂ ltb (size_is v) (S.quota_s v w)))))
