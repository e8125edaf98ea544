-- What a turn does to the numbers of the nodes: where they were those of the arrays before it, they are those of the arrays after it. All of it speaks
-- of the arrays alone.
use Rattle.std.specs.Prelude.{ℕ, ◌+◌, ◌<◌, ◌≡◌, refl, ◌≢◌, ◌⊎◌, Bool, true, false, not, cond, ◌&&◌, ◌||◌, List, length, set, T, eqb}
use Rattle.std.proofs.Common.{arith, sym, ap, ◌∙◌, subst, inl, inr, ⊎_elim, length-set, get_or-set_same, get_or-set_other}
use Rattle.std.proofs.Math.Logic.{⊎_map}
use Rattle.std.proofs.Math.Bool.{and-true, and-false, or-false}
use Rattle.lists.specs.Test.{by-eq, by_bool, given, eqb_yes, eqb_no}
use Rattle.model.specs.Limits.{node_limit, empty_rank}
use Rattle.arrays.specs.ArrayInstance.{at, flag}
use Rattle.reduction_cells.specs.Cells.{Owned, in_cell}
use Rattle.reduction_cells.specs.Painted.{Painted, or_parts, among, among_none}
use Rattle.reduction_cells.specs.Local.{Agree}
use Rattle.reduction_nodes.specs.Known.{Edges}
use Rattle.reduction_nodes.specs.Renewed.{RenewedBy, by_all, among_own, among_other, or_true}
use Rattle.reduction_nodes.specs.Numbers.{row, row_own, row_other, Rows, first_of, second_of, seconds_of, Surveyors, Stands}
use Rattle.reduction_nodes.specs.Local.{Same, first_local, second_local, stand_local, surveyor_local, second_struck}
use Rattle.reduction_nodes.specs.Kept.{NodeLists, Tables, Looks, looks, Later, Leads, Lates, first_now, second_s, second_t}

-- ---- e is taken out of what remained
abbrev pub Gone : (rem₀ rem : List Bool) (e : ℕ) → Type 0
Gone rem₀ rem e = (d : ℕ) → flag rem d ≡ flag rem₀ d && not (eqb d e)

pub gone_other : (rem₀ rem : List Bool) (e : ℕ) → Gone rem₀ rem e → (d : ℕ) → d ≢ e → flag rem d ≡ flag rem₀ d
gone_other rem₀ rem e g d n = g d ∙ ap (λ b. flag rem₀ d && not b) (eqb_no d e n) ∙ and-true (flag rem₀ d)

gone_self : (rem₀ rem : List Bool) (e : ℕ) → Gone rem₀ rem e → flag rem e ≡ false
gone_self rem₀ rem e g = g e ∙ ap (λ b. flag rem₀ e && not b) (eqb_yes e e refl) ∙ and-false (flag rem₀ e)

-- other nodes than its own see the same
gone_apart : (m : ℕ) (end : List ℕ) (rem₀ rem : List Bool) (e : ℕ) → Gone rem₀ rem e → (v : ℕ) → v ≢ at end e → Agree m end v (flag rem) (flag rem₀)
gone_apart m end rem₀ rem e g v n d l j = gone_other rem₀ rem e g d (λ (z : d ≡ e). n (sym j ∙ ap (at end) z))

-- ---- numbers that go on: those of rules 1 and 2, and at which nodes those of the later rules are old
pub record Numbers : Type 0 where
  pub one : List ℕ
  pub twos : List ℕ
  pub twot : List ℕ
  pub olds : List Bool
  pub oldt : List Bool

-- the rows of `lead`: rule 1, and rule 2 by surveyor and by stand
abbrev pub numbers : (lead : List (List ℕ)) (olds oldt : List Bool) → Numbers
numbers lead olds oldt = record { one = row lead 0; twos = row lead 1; twot = row lead 2; olds = olds; oldt = oldt }

-- their sizes
pub record SizedN (lead : List (List ℕ)) (olds oldt : List Bool) : Type 0 where
  pub rows : Rows 3 lead
  pub size_s : length olds ≡ node_limit
  pub size_t : length oldt ≡ node_limit

abbrev pub later : Surveyors → Stands → Numbers → Later
later x y k = record { surveyors = x; stands = y; olds = k.olds; oldt = k.oldt }

pub record Onward (A : Edges) (L : NodeLists) (X : Looks) (k : Numbers) (Y : Looks) (k' : Numbers) : Type 0 where
  pub leads : Leads A L X k.one k.twos k.twot → Leads A L Y k'.one k'.twos k'.twot
  pub lates : (x : Surveyors) (y : Stands) → Lates A L X (later x y k) → Lates A L Y (later x y k')

-- a node that is not marked old was not before, and sees the same arrays
abbrev Unmoved : (m : ℕ) (end : List ℕ) (X Y : Looks) (old old' : List Bool) (q q' : List ℕ) → Type 0
Unmoved m end X Y old old' q q' = (v : ℕ) → v < node_limit → flag old' v ≡ false
    → (flag old v ≡ false) × Same m end v X.rem X.fs X.ft Y.rem Y.fs Y.ft × (at q' v ≡ at q v)

module _ (A : Edges) (L : NodeLists) (D : Tables A L) where
  lates_on : (X Y : Looks) (k k' : Numbers) → Unmoved A.m A.sv X Y k.olds k'.olds X.qs Y.qs
      → Unmoved A.m A.st X Y k.oldt k'.oldt X.qt Y.qt → (x : Surveyors) (y : Stands) → Lates A L X (later x y k) → Lates A L Y (later x y k')
  lates_on X Y k k' hS hT x y K = record {
    stand = λ v w t. given (hT v w t) (λ (a, s, q). K.stand v w a
        ∙ sym (stand_local A.m A.st L.table_t D.owned_t v w X.rem X.fs X.ft Y.rem Y.fs Y.ft
        (at X.qt v) (at Y.qt v) s q));
    surveyor = λ v w t. given (hS v w t) (λ (a, s, q). K.surveyor v w a
        ∙ sym (surveyor_local A.m A.sv L.table_s D.owned_s v w A.st X.rem X.fs X.ft y.loose
        Y.rem Y.fs Y.ft y.loose (at X.qs v) (at Y.qs v) s (λ e l j. refl) q));
  }

-- ---- rule 2's numbers of one side while a turn goes on: e is gone, and at its end alone the quota may have fallen and the number may still be the one
-- of before
module _ (m : ℕ) (end rank cell : List ℕ) (O : Owned m end cell)
    (rem₀ rem : List Bool) (q₀ q : List ℕ) (e : ℕ) (fit : at end e < node_limit) (g : Gone rem₀ rem e) where
  abbrev new : List Bool → ℕ → ℕ
  new f = seconds_of m end rank cell rem f q

  abbrev before : List Bool → ℕ → ℕ
  before f = seconds_of m end rank cell rem₀ f q₀

  record Waiting (f : List Bool) (x : List ℕ) : Type 0 where
    apart : (v : ℕ) → v < node_limit → v ≢ at end e → at x v ≡ new f v
    own : (at x (at end e) ≡ new f (at end e)) ⊎ (at x (at end e) ≡ before f (at end e))

  waiting_first : (f : List Bool) (x : List ℕ) → ((v : ℕ) → v ≢ at end e → at q v ≡ at q₀ v) → ((v : ℕ) → v < node_limit → at x v ≡ before f v) → Waiting f x
  waiting_first f x Q H = record {
    apart = λ v w n. H v w
        ∙ sym (second_local m end cell O v w rank rem₀ f rem f (at q₀ v) (at q v) (gone_apart m end rem₀ rem e g v n) (λ d l j. refl) (Q v n));
    own = inr (H (at end e) fit);
  }

  -- arrows turned, and the nodes across them are read anew
  waiting_seen : (f f' : List Bool) (x x' : List ℕ) (seen : ℕ → Bool) → ((v : ℕ) → seen v ≡ false → Agree m end v (flag f') (flag f))
      → RenewedBy seen (new f') x x' → Waiting f x → Waiting f' x'
  waiting_seen f f' x x' seen A R H = record {
    apart = λ v w n. by_all seen (new f') x x' R v (λ t. H.apart v w n ∙ kept v w t rem q);
    own = by_bool (seen (at end e))
        (λ t. inl (R (at end e) ∙ ap (λ b. cond b (new f' (at end e)) (at x (at end e))) t))
        (λ t. let same : at x' (at end e) ≡ at x (at end e) = R (at end e) ∙ ap (λ b. cond b (new f' (at end e)) (at x (at end e))) t in
        ⊎_map (λ h. same ∙ h ∙ kept (at end e) fit t rem q) (λ h. same ∙ h ∙ kept (at end e) fit t rem₀ q₀) H.own);
  }
    where
      kept : (v : ℕ) → v < node_limit → seen v ≡ false → (rem : List Bool) (q : List ℕ)
          → seconds_of m end rank cell rem f q v ≡ seconds_of m end rank cell rem f' q v
      kept v w t rem q =
          sym (second_local m end cell O v w rank rem f rem f' (at q v) (at q v) (λ d l j. refl) (A v t) refl)

  -- at the end of e it is read anew if it was e or the quota fell
  waiting_over : (f : List Bool) (x x' : List ℕ) (fell : Bool) → (fell ≡ false → at q (at end e) ≡ at q₀ (at end e))
      → RenewedBy (λ u. eqb u (at end e) && (fell || eqb (at x (at end e)) e)) (new f) x x' → Waiting f x → (v : ℕ) → v < node_limit → at x' v ≡ new f v
  waiting_over f x x' fell Q R H v w = by_all (λ u. eqb u s && (fell || eqb (at x s) e)) (new f) x x' R v (λ t. by-eq v s
      (λ i u. ap (at x) i ∙ still (or_parts fell (eqb (at x s) e) (sym (ap (λ b. b && (fell || eqb (at x s) e)) u) ∙ t)) ∙ ap (new f) (sym i))
      (λ n u. H.apart v w n))
    where
      s : ℕ
      s = at end e

      still : (fell ≡ false) × (eqb (at x s) e ≡ false) → at x s ≡ new f s
      still (a, b) = ⊎_elim (λ h. h) (λ h. h
          ∙ sym (second_struck m end rank cell rem₀ rem f (at q₀ s) s e (gone_other rem₀ rem e g) (gone_self rem₀ rem e g)
          (λ (z : before f s ≡ e). absurd (subst T (sym (eqb_yes (at x s) e (h ∙ z)) ∙ b) tt)))
          ∙ ap (λ k. second_of m end rank cell rem f k s) (sym (Q a))) H.own

-- ---- the nodes of a list are marked
abbrev pub Marked : (seen : ℕ → Bool) (old old' : List Bool) → Type 0
Marked seen old old' = (v : ℕ) → flag old' v ≡ flag old v || seen v

pub marked_none : (list : List ℕ) (old : List Bool) → Marked (among list 0) old old
marked_none list old v = sym (ap (λ b. flag old v || b) (among_none list v) ∙ or-false (flag old v))

pub marked_next : (list : List ℕ) (old old' : List Bool) (i : ℕ) → at list i < length old' → Marked (among list i) old old'
    → Marked (among list (i + 1)) old (set old' (at list i) true)
marked_next list old old' i l M v = by-eq v (at list i)
    (λ q t. ap (flag (set old' (at list i) true)) q ∙ get_or-set_same old' (at list i) true false l
    ∙ sym (ap (λ b. flag old v || b) (among_own list i v q) ∙ or_true (flag old v)))
    (λ n t. get_or-set_other old' (at list i) v true false n ∙ M v ∙ sym (ap (λ b. flag old v || b) (among_other list i v n)))

-- one node is marked
marked_other : (old : List Bool) (u v : ℕ) → length old ≡ node_limit → u < node_limit → flag (set old u true) v ≡ false → (v ≢ u) × (flag old v ≡ false)
marked_other old u v n w h = by-eq v u
    (λ i t. absurd (subst T (sym (get_or-set_same old u true false (omega arith)) ∙ ap (flag (set old u true)) (sym i) ∙ h) tt))
    (λ ne t. (ne, sym (get_or-set_other old u v true false ne) ∙ h))

-- ---- the arrows of v are painted if `on`, else they stay
pub record Arrows (m : ℕ) (other cell : List ℕ) (rem : List Bool) (v q : ℕ) (on : Bool) (f f' : List Bool) : Type 0 where
  pub size : length f' ≡ length f
  pub anew : on ≡ true → (w : ℕ → Bool) × Painted m other cell rem v q empty_rank f f' w
  pub still : on ≡ false → f' ≡ f

-- and the numbers that go on then: of rule 1 at the surveyors in `lead`, of rule 2 at the other side's nodes in `seen`, which are marked old
pub record Carried (m : ℕ) (sv end other : List ℕ) (v : ℕ) (f f' : List Bool) (rule1 rule2 : ℕ → ℕ) (one one' two two' : List ℕ) (old old' : List Bool)
    : Type 0 where
  pub lead : ℕ → Bool
  pub seen : ℕ → Bool
  pub across : (u : ℕ) → seen u ≡ false → Agree m other u (flag f') (flag f)
  pub own : (u : ℕ) → u ≢ v → Agree m end u (flag f') (flag f)
  pub led : (u : ℕ) → lead u ≡ false → Agree m sv u (flag f') (flag f)
  pub first : RenewedBy lead rule1 one one'
  pub second : RenewedBy seen rule2 two two'
  pub marked : Marked seen old old'

-- where they stay
pub carried_still : (m : ℕ) (sv end other : List ℕ) (v : ℕ) (f : List Bool) (rule1 rule2 : ℕ → ℕ) (one two : List ℕ) (old : List Bool)
    → Carried m sv end other v f f rule1 rule2 one one two two old old
carried_still m sv end other v f rule1 rule2 one two old = record {
  lead = λ u. false;
  seen = λ u. false;
  across = λ u h d l j. refl;
  own = λ u n d l j. refl;
  led = λ u h d l j. refl;
  first = λ u. refl;
  second = λ u. refl;
  marked = λ u. sym (or-false (flag old u));
}

-- arrays that are the same
pub carried_same : {m : ℕ} {sv end other : List ℕ} {v : ℕ} {f f' : List Bool} {rule1 rule2 : ℕ → ℕ} {one one₁ one₂ two₀ two₁ two₂ two₃ : List ℕ}
    {old old' : List Bool} → one₁ ≡ one₂ → two₀ ≡ two₁ → two₂ ≡ two₃ → Carried m sv end other v f f' rule1 rule2 one one₁ two₀ two₂ old old'
    → Carried m sv end other v f f' rule1 rule2 one one₂ two₁ two₃ old old'
carried_same {m} {sv} {end} {other} {v} {f} {f'} {rule1} {rule2} {one} {one₁} {two₁} {two₂} {two₃} {old} {old'} p q r C =
    subst (λ (x : List ℕ). Carried m sv end other v f f' rule1 rule2 one x two₁ two₃ old old') p
    (subst (λ (x : List ℕ). Carried m sv end other v f f' rule1 rule2 one one₁ two₁ x old old') r
    (subst (λ (x : List ℕ). Carried m sv end other v f f' rule1 rule2 one one₁ x two₂ old old') q C))

-- the first two rows are written, one after the other
pub rows_two : (lead : List (List ℕ)) {x y : List ℕ} → Rows 3 lead → Rows 3 (set lead 0 x) → Rows 3 (set (set lead 0 x) 1 y)
    → (x ≡ row (set (set lead 0 x) 1 y) 0) × (row (set lead 0 x) 1 ≡ row lead 1) × (y ≡ row (set (set lead 0 x) 1 y) 1)
    × (row (set (set lead 0 x) 1 y) 2 ≡ row lead 2)
rows_two lead {x} {y} R R₁ R₂ = (
  sym (row_other (set lead 0 x) 1 0 y (λ (z : 0 ≡ 1). absurd (omega arith)) ∙ row_own lead 0 x (omega (arith, R.rows))),
  row_other lead 0 1 x (λ (z : 1 ≡ 0). absurd (omega arith)),
  sym (row_own (set lead 0 x) 1 y (omega (arith, R₁.rows))),
  row_other (set lead 0 x) 1 2 y (λ (z : 2 ≡ 1). absurd (omega arith)) ∙ row_other lead 0 2 x (λ (z : 2 ≡ 0). absurd (omega arith)),
)

-- at its own side the arrows of other nodes stay
pub painted_apart : (m : ℕ) (end cell : List ℕ) → Owned m end cell → (other : List ℕ) (rem : List Bool) (v q : ℕ) → v < node_limit → (f₀ f : List Bool)
    (w : ℕ → Bool) → Painted m other cell rem v q empty_rank f₀ f w → (u : ℕ) → u ≢ v
    → Agree m end u (flag f) (flag f₀)
painted_apart m end cell O other rem v q vl f₀ f w P u n d l j = P.old d (λ i h (z : in_cell cell v i ≡ d).
    n (sym j ∙ ap (at end) (sym z) ∙ O v i vl h (omega arith)))

-- one number is read anew
pub one_renewed : (new : ℕ → ℕ) (x : List ℕ) (v y : ℕ) → v < length x → y ≡ new v → RenewedBy (λ u. eqb u v) new x (set x v y)
one_renewed new x v y l i u = by-eq u v
    (λ q t. ap (at (set x v y)) q ∙ get_or-set_same x v y 0 l ∙ i ∙ ap new (sym q) ∙ sym (ap (λ b. cond b (new u) (at x u)) t))
    (λ n t. get_or-set_other x v u y 0 n ∙ sym (ap (λ b. cond b (new u) (at x u)) t))

pub eqb_other : (u v : ℕ) → eqb u v ≡ false → u ≢ v
eqb_other u v h z = absurd (subst T (sym (eqb_yes u v z) ∙ h) tt)

-- a test and its opposite
pub off : (b : Bool) → not b ≡ true → b ≡ false
off true e = sym e
off false e = refl

pub on : (b : Bool) → not b ≡ false → b ≡ true
on true e = refl
on false e = sym e

pub both_ways {ℓ} : {B : Type ℓ} {b : Bool} → b ≡ true → b ≡ false → B
both_ways t f = absurd (subst T (sym t ∙ f) tt)

-- ---- the whole turn: both ends marked old, the arrows of s and then those of t, and rule 2's numbers at both ends
module _ (A : Edges) (L : NodeLists) (D : Tables A L) (rem₀ rem : List Bool) (qs₀ qs qt₀ qt : List ℕ) (e : ℕ) (el : e < A.m)
    (g : Gone rem₀ rem e) (QS : (v : ℕ) → v ≢ at A.sv e → at qs v ≡ at qs₀ v) (QT : (v : ℕ) → v ≢ at A.st e → at qt v ≡ at qt₀ v)
    (fs ft fs' ft' : List Bool) (k : Numbers) (zS : length k.olds ≡ node_limit) (zT : length k.oldt ≡ node_limit) where
  abbrev X : Looks
  X = looks rem₀ fs ft qs₀ qt₀

  abbrev Y : Looks
  Y = looks rem fs' ft' qs qt

  abbrev pub CarriedS : (one twot : List ℕ) (oldt : List Bool) → Type 0
  CarriedS one twot oldt = Carried A.m A.sv A.sv A.st (at A.sv e) fs fs' (first_of A.m A.sv fs' ft) (second_t A L Y)
      k.one one k.twot twot (set k.oldt (at A.st e) true) oldt

  abbrev pub CarriedT : (one₁ one twos : List ℕ) (olds : List Bool) → Type 0
  CarriedT one₁ one twos olds = Carried A.m A.sv A.st A.sv (at A.st e) ft ft' (first_now A L Y) (second_s A L Y)
      one₁ one k.twos twos (set k.olds (at A.sv e) true) olds

  module _ (one₁ one twos₁ twos twot₁ twot : List ℕ) (olds oldt : List Bool) (S : CarriedS one₁ twot₁ oldt) (T' : CarriedT one₁ one twos₁ olds)
      (fellS fellT : Bool) (FS : fellS ≡ false → at qs (at A.sv e) ≡ at qs₀ (at A.sv e))
      (FT : fellT ≡ false → at qt (at A.st e) ≡ at qt₀ (at A.st e))
      (RS : RenewedBy (λ u. eqb u (at A.sv e) && (fellS || eqb (at twos₁ (at A.sv e)) e)) (second_s A L Y) twos₁ twos)
      (RT : RenewedBy (λ u. eqb u (at A.st e) && (fellT || eqb (at twot₁ (at A.st e)) e)) (second_t A L Y) twot₁ twot) where
    first_on_law : ((v : ℕ) → v < node_limit → at k.one v ≡ first_now A L X v) → (v : ℕ) → v < node_limit → at one v ≡ first_now A L Y v
    first_on_law H v w = by_all T'.lead (first_now A L Y) one₁ one T'.first v (λ t.
        by_all S.lead (first_of A.m A.sv fs' ft) k.one one₁ S.first v
        (λ u. H v w ∙ sym (first_local A.m A.sv v fs ft fs' ft (S.led v u) (λ d l j. refl)))
        ∙ sym (first_local A.m A.sv v fs' ft fs' ft' (λ d l j. refl) (T'.led v t)))

    second_s_on : ((v : ℕ) → v < node_limit → at k.twos v ≡ second_s A L X v) → (v : ℕ) → v < node_limit → at twos v ≡ second_s A L Y v
    second_s_on H =
        let fit = D.fit_s e el in
        waiting_over A.m A.sv A.rs L.table_s D.owned_s rem₀ rem qs₀ qs e fit g ft' twos₁ twos fellS FS RS
        (waiting_seen A.m A.sv A.rs L.table_s D.owned_s rem₀ rem qs₀ qs e fit g ft ft' k.twos twos₁ T'.seen T'.across
        T'.second
        (waiting_first A.m A.sv A.rs L.table_s D.owned_s rem₀ rem qs₀ qs e fit g ft k.twos QS H))

    second_t_on : ((v : ℕ) → v < node_limit → at k.twot v ≡ second_t A L X v) → (v : ℕ) → v < node_limit → at twot v ≡ second_t A L Y v
    second_t_on H =
        let fit = D.fit_t e el in
        waiting_over A.m A.st A.rt L.table_t D.owned_t rem₀ rem qt₀ qt e fit g fs' twot₁ twot fellT FT RT
        (waiting_seen A.m A.st A.rt L.table_t D.owned_t rem₀ rem qt₀ qt e fit g fs fs' k.twot twot₁ S.seen S.across
        S.second
        (waiting_first A.m A.st A.rt L.table_t D.owned_t rem₀ rem qt₀ qt e fit g fs k.twot QT H))

    abbrev after : Numbers
    after = record { one = one; twos = twos; twot = twot; olds = olds; oldt = oldt }

    pub turn_on : Onward A L X k Y after
    turn_on = record {
      leads = λ H. record { first = first_on_law H.first; at_s = second_s_on H.at_s; at_t = second_t_on H.at_t };
      lates = lates_on A L D X Y k after
          (λ v w t. given (or_parts (flag (set k.olds (at A.sv e) true) v) (T'.seen v) (sym (T'.marked v) ∙ t))
          (λ (a, b). given (marked_other k.olds (at A.sv e) v zS (D.fit_s e el) a) (λ (n, o). (
            o,
            record {
              left = gone_apart A.m A.sv rem₀ rem e g v n;
              from_s = S.own v n;
              from_t = T'.across v b;
            },
            QS v n,
          ))))
          (λ v w t. given (or_parts (flag (set k.oldt (at A.st e) true) v) (S.seen v) (sym (S.marked v) ∙ t))
          (λ (a, b). given (marked_other k.oldt (at A.st e) v zT (D.fit_t e el) a) (λ (n, o). (
            o,
            record {
              left = gone_apart A.m A.st rem₀ rem e g v n;
              from_s = S.across v b;
              from_t = T'.own v n;
            },
            QT v n,
          ))));
    }

-- the same by rows: `leadS` and `leadT` are the rows after the arrows of s and those of t, and then rule 2's two rows are entered
module _ (A : Edges) (L : NodeLists) (D : Tables A L) (rem₀ rem : List Bool) (qs₀ qs qt₀ qt : List ℕ) (e : ℕ) (el : e < A.m)
    (g : Gone rem₀ rem e) (QS : (v : ℕ) → v ≢ at A.sv e → at qs v ≡ at qs₀ v) (QT : (v : ℕ) → v ≢ at A.st e → at qt v ≡ at qt₀ v)
    (fs ft fs' ft' : List Bool) (lead : List (List ℕ)) (olds₀ oldt₀ : List Bool) (zS : length olds₀ ≡ node_limit) (zT : length oldt₀ ≡ node_limit) where
  abbrev before_it : Looks
  before_it = looks rem₀ fs ft qs₀ qt₀

  abbrev behind_it : Looks
  behind_it = looks rem fs' ft' qs qt

  pub rows_on : (leadS leadT : List (List ℕ)) (twos twot : List ℕ) (olds oldt : List Bool) → Rows 3 leadS → Rows 3 leadT
      → Rows 3 (set (set leadT 1 twos) 2 twot) → row leadS 1 ≡ row lead 1 → row leadT 2 ≡ row leadS 2
      → Carried A.m A.sv A.sv A.st (at A.sv e) fs fs' (first_of A.m A.sv fs' ft) (second_t A L behind_it)
      (row lead 0) (row leadS 0) (row lead 2) (row leadS 2) (set oldt₀ (at A.st e) true) oldt
      → Carried A.m A.sv A.st A.sv (at A.st e) ft ft' (first_now A L behind_it) (second_s A L behind_it)
      (row leadS 0) (row leadT 0) (row leadS 1) (row leadT 1) (set olds₀ (at A.sv e) true) olds
      → (fellS fellT : Bool) → (fellS ≡ false → at qs (at A.sv e) ≡ at qs₀ (at A.sv e)) → (fellT ≡ false → at qt (at A.st e) ≡ at qt₀ (at A.st e))
      → RenewedBy (λ u. eqb u (at A.sv e) && (fellS || eqb (at (row leadT 1) (at A.sv e)) e)) (second_s A L behind_it) (row leadT 1) twos
      → RenewedBy (λ u. eqb u (at A.st e) && (fellT || eqb (at (row (set leadT 1 twos) 2) (at A.st e)) e)) (second_t A L behind_it)
      (row (set leadT 1 twos) 2) twot → Onward A L before_it (numbers lead olds₀ oldt₀) behind_it (numbers (set (set leadT 1 twos) 2 twot) olds oldt)
  rows_on leadS leadT twos twot olds oldt R₁ R R₄ hS hT S T' fellS fellT FS FT RS RT =
      let t = at A.st e in
      let lead₃ = set leadT 1 twos in
      let n = turn_on A L D rem₀ rem qs₀ qs qt₀ qt e el g QS QT fs ft fs' ft' (numbers lead olds₀ oldt₀) zS zT
      (row leadS 0) (row leadT 0) (row leadT 1) twos (row leadS 2) twot olds oldt S
      (subst (λ (x : List ℕ). Carried A.m A.sv A.st A.sv t ft ft' (first_now A L behind_it) (second_s A L behind_it) (row leadS 0) (row leadT 0)
      x (row leadT 1) (set olds₀ (at A.sv e) true) olds) hS T') fellS fellT FS FT RS
      (subst (λ (x : List ℕ). RenewedBy (λ u. eqb u t && (fellT || eqb (at x t) e)) (second_t A L behind_it) x twot)
      (row_other leadT 1 2 twos (λ (z : 2 ≡ 1). absurd (omega arith)) ∙ hT) RT) in
      let p0 = sym (row_other lead₃ 2 0 twot (λ (z : 0 ≡ 2). absurd (omega arith)) ∙ row_other leadT 1 0 twos (λ (z : 0 ≡ 1). absurd (omega arith))) in
      let p1 = sym (row_other lead₃ 2 1 twot (λ (z : 1 ≡ 2). absurd (omega arith)) ∙ row_own leadT 1 twos (omega (arith, R.rows))) in
      let p2 = sym (row_own lead₃ 2 twot (omega (arith, R.rows, length-set leadT 1 twos))) in
      subst (Onward A L before_it (numbers lead olds₀ oldt₀) behind_it) (λ i. record { one = p0 i; twos = p1 i; twot = p2 i; olds = olds; oldt = oldt }) n
