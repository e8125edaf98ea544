-- An array by node of which some entries are made anew: those of the nodes in `due`, from its front on, or those of the nodes of a list.
use Rattle.std.specs.Prelude.{ℕ, ◌+◌, ◌≤◌, ◌<◌, ◌≡◌, refl, ◌≢◌, Bool, true, false, cond, ◌&&◌, ◌||◌, List, length, get_or, set, ltb}
use Rattle.std.proofs.Common.{arith, sym, ap, ap₂, ◌∙◌, get_or-set_same, get_or-set_other, lt-ltb, le-ltb}
use Rattle.std.proofs.Math.Decide.{dec_lt}
use Rattle.std.proofs.Math.Logic.{by_cases}
use Rattle.std.proofs.Math.Bool.{and-false, or-false}
use Rattle.lists.specs.Test.{by-eq, by_bool, eqb_yes, eqb_no}
use Rattle.model.specs.Limits.{node_limit, empty_rank}
use Rattle.arrays.specs.ArrayInstance.{at, flag}
use Rattle.reduction_cells.specs.Painted.{among, among_none, among_next}

-- one number more
pub other : (i v : ℕ) → v ≢ i → ltb v i ≡ ltb v (i + 1)
other i v n = by_cases (dec_lt v i)
    (λ h. lt-ltb v i h ∙ sym (lt-ltb v (i + 1) (omega arith)))
    (λ h. le-ltb v i (omega arith) ∙ sym (le-ltb v (i + 1) (by_cases (dec_lt i v) (λ k. omega arith) (λ k. absurd (n (omega arith))))))

module _ {A : Type 0} (d : A) (due : List Bool) (new : ℕ → A) (old : List A) where
  -- those below n are renewed
  abbrev pub Renewed : (n : ℕ) (xs : List A) → Type 0
  Renewed n xs = (v : ℕ) → get_or xs v d ≡ cond (ltb v n && flag due v) (new v) (get_or old v d)

  abbrev entry : ℕ → Bool → A
  entry v b = cond b (new v) (get_or old v d)

  pub renewed_none : Renewed 0 old
  renewed_none v = sym (ap (λ b. entry v (b && flag due v)) (le-ltb v 0 (omega arith)))

  pub renewed_set : (i : ℕ) (xs : List A) (x : A) → i < length xs → flag due i ≡ true → x ≡ new i → Renewed i xs → Renewed (i + 1) (set xs i x)
  renewed_set i xs x l s e R v = by-eq v i
      (λ q t. ap (λ k. get_or (set xs i x) k d) q ∙ get_or-set_same xs i x d l ∙ e ∙ ap new (sym q)
      ∙ sym (ap (entry v) (ap₂ ◌&&◌ (lt-ltb v (i + 1) (omega arith)) (ap (flag due) q ∙ s))))
      (λ n t. get_or-set_other xs i v x d n ∙ R v ∙ ap (λ b. entry v (b && flag due v)) (other i v n))

  pub renewed_skip : (i : ℕ) (xs : List A) → flag due i ≡ false → Renewed i xs → Renewed (i + 1) xs
  renewed_skip i xs s R v = by-eq v i
      (λ q t. R v ∙ ap (entry v) (ap (λ b. ltb v i && b) (ap (flag due) q ∙ s) ∙ and-false (ltb v i)
      ∙ sym (ap (λ b. ltb v (i + 1) && b) (ap (flag due) q ∙ s) ∙ and-false (ltb v (i + 1)))))
      (λ n t. R v ∙ ap (λ b. entry v (b && flag due v)) (other i v n))

-- ---- those that pass a test are renewed
abbrev pub RenewedBy : (w : ℕ → Bool) (new : ℕ → ℕ) (old xs : List ℕ) → Type 0
RenewedBy w new old xs = (v : ℕ) → at xs v ≡ cond (w v) (new v) (at old v)

-- the array holds the new numbers then, if the others stay
pub by_all : (w : ℕ → Bool) (new : ℕ → ℕ) (old xs : List ℕ) → RenewedBy w new old xs → (v : ℕ) → (w v ≡ false → at old v ≡ new v) → at xs v ≡ new v
by_all w new old xs R v h = by_bool (w v) (λ t. R v ∙ ap (λ b. cond b (new v) (at old v)) t) (λ t. R v ∙ ap (λ b. cond b (new v) (at old v)) t ∙ h t)

-- what is true beside anything
pub or_true : (b : Bool) → b || true ≡ true
or_true true = refl
or_true false = refl

-- a turn of a walk along a list of nodes: the i-th is a node, and x, which is written along, has a place for it
abbrev pub Visit : {A : Type 0} (list : List ℕ) (n i : ℕ) (x : List A) → Type 0
Visit list n i x = (at list i < node_limit) × (i < n) × (n ≤ empty_rank) × (length x ≡ node_limit)

-- one node of the list more
pub among_own : (list : List ℕ) (i v : ℕ) → v ≡ at list i → among list (i + 1) v ≡ true
among_own list i v q = among_next list i v ∙ ap (λ b. among list i v || b) (eqb_yes (at list i) v (sym q)) ∙ or_true (among list i v)

-- a node that is not the next of the list
pub among_other : (list : List ℕ) (i v : ℕ) → v ≢ at list i → among list (i + 1) v ≡ among list i v
among_other list i v n =
    among_next list i v ∙ ap (λ b. among list i v || b) (eqb_no (at list i) v (λ (z : at list i ≡ v). n (sym z))) ∙ or-false (among list i v)

module _ (list : List ℕ) (new : ℕ → ℕ) (old : List ℕ) where
  pub by_none : RenewedBy (among list 0) new old old
  by_none v = sym (ap (λ b. cond b (new v) (at old v)) (among_none list v))

  pub by_next : (i : ℕ) (xs : List ℕ) (x : ℕ) → at list i < length xs → x ≡ new (at list i) → RenewedBy (among list i) new old xs
      → RenewedBy (among list (i + 1)) new old (set xs (at list i) x)
  by_next i xs x l e R v = by-eq v (at list i)
      (λ q t. ap (at (set xs (at list i) x)) q ∙ get_or-set_same xs (at list i) x 0 l ∙ e ∙ ap new (sym q)
      ∙ sym (ap (λ b. cond b (new v) (at old v)) (among_own list i v q)))
      (λ n t. get_or-set_other xs (at list i) v x 0 n ∙ R v ∙ sym (ap (λ b. cond b (new v) (at old v)) (among_other list i v n)))
