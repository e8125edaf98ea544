-- The arrows of a node painted anew from its cells: which edges have one, and the list of the nodes at whose ends one turned.
use Rattle.std.specs.Prelude.{ℕ, zero, suc, ◌+◌, ◌≤◌, ◌<◌, ◌≡◌, refl, ◌≢◌, Bool, true, false, not, ◌&&◌, ◌||◌, List, length, set, T, eqb, ltb}
use Rattle.std.proofs.Common.{arith, eq-or-lt_of_le, sym, ap, ap₂, ◌∙◌, subst, ⊎_elim, length-set, get_or-set_same, get_or-set_other}
use Rattle.std.proofs.Math.Decide.{dec_lt}
use Rattle.std.proofs.Math.Logic.{by_cases}
use Rattle.std.specs.Bool.{beq}
use Rattle.std.proofs.Math.Bool.{or-false}
use Rattle.lists.specs.Test.{by-eq, eqb_yes, bit, bit_one}
use Rattle.model.specs.Limits.{node_limit, empty_rank}
use Rattle.arrays.specs.ArrayInstance.{at, flag}
use Rattle.arrays.specs.Passes.{Low}
use Rattle.reduction_cells.specs.Cells.{Spread, in_cell, passed}

-- two flags differ
abbrev pub differ : Bool → Bool → Bool
differ a b = not (beq a b)

-- neither of two
pub or_parts : (a b : Bool) → a || b ≡ false → (a ≡ false) × (b ≡ false)
or_parts true b h = (h, absurd (subst T h tt))
or_parts false b h = (refl, h)

-- ---- u is among the first n of a list
unfoldable pub among : (list : List ℕ) (n u : ℕ) → Bool
among list zero u = false
among list (suc n) u = among list n u || eqb (at list n) u

-- nobody is among none
pub among_none : (list : List ℕ) (u : ℕ) → among list 0 u ≡ false
unfolding among
among_none list u = refl

-- among one more
pub among_next : (list : List ℕ) (n u : ℕ) → among list (n + 1) u ≡ among list n u || eqb (at list n) u
unfolding among
among_next list n u = ap (λ k. among list k u) (let e : n + 1 ≡ suc n = omega arith in e)

-- what is stored behind them changes nothing
among_behind : (list : List ℕ) (k x n u : ℕ) → n ≤ k → among (set list k x) n u ≡ among list n u
unfolding among
among_behind list k x zero u h = refl
among_behind list k x (suc n) u h = ap₂ (λ (a : Bool) (y : ℕ). a || eqb y u) (among_behind list k x n u (omega arith))
    (get_or-set_other list k n x 0 (λ (z : n ≡ k). absurd (omega arith)))

-- one more is stored, and counted or not
pub among_put : (list : List ℕ) (k x u : ℕ) (b : Bool) → k < length list → among (set list k x) (k + bit b) u ≡ among list k u || (b && eqb x u)
among_put list k x u true l = among_next (set list k x) k u
    ∙ ap₂ (λ (a : Bool) (y : ℕ). a || eqb y u) (among_behind list k x k u (omega arith)) (get_or-set_same list k x 0 l)
among_put list k x u false l = ap (λ n. among (set list k x) n u) (let e : k + 0 ≡ k = omega arith in e) ∙ among_behind list k x k u (omega arith)
    ∙ sym (or-false (among list k u))

pub low_put : (list : List ℕ) (k x : ℕ) (b : Bool) → k < length list → x < node_limit → Low k list node_limit → Low (k + bit b) (set list k x) node_limit
low_put list k x b l h L i il = by-eq i k
    (λ z t. omega (arith, ap (at (set list k x)) z, get_or-set_same list k x 0 l))
    (λ n t. omega (arith, get_or-set_other list k i x 0 n, L i (by_cases (dec_lt i k) (λ a. a) (λ a. absurd (n (omega (arith, bit_one b)))))))

-- ---- the cells of v below rank r are painted from what remains, with the quota q: f₀ is now f, and the nodes in w are across an arrow that turned
pub record Painted (m : ℕ) (other cell : List ℕ) (rem : List Bool) (v q r : ℕ) (f₀ f : List Bool) (w : ℕ → Bool) : Type 0 where
  pub size_f : length f ≡ length f₀
  pub new : (i : ℕ) → i < r → in_cell cell v i < m → flag f (in_cell cell v i) ≡ flag rem (in_cell cell v i) && ltb (passed m cell (flag rem) v i) q
  pub old : (e : ℕ) → ((i : ℕ) → i < r → in_cell cell v i ≢ e) → flag f e ≡ flag f₀ e
  pub elsewhere : (u : ℕ) → w u ≡ false → (e : ℕ) → e < m → at other e ≡ u → flag f e ≡ flag f₀ e

module _ (m : ℕ) (other cell : List ℕ) (S : Spread m cell) (rem : List Bool) (v q : ℕ) (f₀ : List Bool) where
  abbrev At : (r : ℕ) → (f : List Bool) (w : ℕ → Bool) → Type 0
  At r f w = Painted m other cell rem v q r f₀ f w

  pub painted_none : (w : ℕ → Bool) → At 0 f₀ w
  painted_none w = record {
    size_f = refl;
    new = λ i h. absurd (omega arith);
    old = λ e h. refl;
    elsewhere = λ u h e l i. refl;
  }

  -- a cell without an edge
  pub painted_empty : (r : ℕ) (f : List Bool) (w : ℕ → Bool) → m ≤ in_cell cell v r → At r f w → At (r + 1) f w
  painted_empty r f w h P = record {
    size_f = P.size_f;
    new = λ i k l. ⊎_elim
        (λ e. let x : in_cell cell v i ≡ in_cell cell v r = ap (in_cell cell v) e in absurd (omega arith))
        (λ b. P.new i b l)
        (let g : i ≤ r = omega arith in eq-or-lt_of_le g);
    old = λ e n. P.old e (λ i k. n i (omega arith));
    elsewhere = P.elsewhere;
  }

  same_flag : (a b : Bool) → differ a b ≡ false → a ≡ b
  same_flag true true h = refl
  same_flag true false h = h
  same_flag false true h = sym h
  same_flag false false h = refl

  -- a cell with an edge: its flag is stored, and its other node is in w if it turned
  pub painted_edge : (r : ℕ) (f : List Bool) (w w' : ℕ → Bool) → v < node_limit → r < empty_rank → in_cell cell v r < m → in_cell cell v r < length f
      → (on : Bool) → on ≡ flag rem (in_cell cell v r) && ltb (passed m cell (flag rem) v r) q
      → ((u : ℕ) → w' u ≡ w u || (differ on (flag f (in_cell cell v r)) && eqb (at other (in_cell cell v r)) u)) → At r f w
      → At (r + 1) (set f (in_cell cell v r) on) w'
  painted_edge r f w w' wl rl l lf on oi wi P = record {
    size_f = simp length-set P.size_f;
    new = λ i k il. ⊎_elim
        (λ e. subst (λ z. flag (set f d on) (in_cell cell v z) ≡ flag rem (in_cell cell v z) && ltb (passed m cell (flag rem) v z) q) (sym e)
        (get_or-set_same f d on false lf ∙ oi))
        (λ b. get_or-set_other f d (in_cell cell v i) on false (apart i b il) ∙ P.new i b il)
        (let g : i ≤ r = omega arith in eq-or-lt_of_le g);
    old = λ e n. get_or-set_other f d e on false (λ (z : e ≡ d). n r (omega arith) (sym z)) ∙ P.old e (λ i k. n i (omega arith));
    elsewhere = λ u h e el j.
        let p = or_parts (w u) (differ on (flag f d) && eqb (at other d) u) (sym (wi u) ∙ h) in
        by-eq e d
        (λ z s. ap (flag (set f d on)) z ∙ get_or-set_same f d on false lf
        ∙ same_flag on (flag f d) (seen (differ on (flag f d)) (eqb (at other d) u) p.1 (eqb_yes (at other d) u (ap (at other) (sym z) ∙ j)))
        ∙ ap (flag f) (sym z) ∙ P.elsewhere u p.0 e el j)
        (λ ne s. get_or-set_other f d e on false ne ∙ P.elsewhere u p.0 e el j);
  }
    where
      d : ℕ
      d = in_cell cell v r

      seen : (a b : Bool) → a && b ≡ false → b ≡ true → a ≡ false
      seen true b h t = absurd (subst T (sym t ∙ h) tt)
      seen false b h t = refl

      apart : (i : ℕ) → i < r → in_cell cell v i < m → in_cell cell v i ≡ in_cell cell v r → ⊥
      apart i b il z = omega (arith, (S.apart v i v r wl (omega arith) wl rl il z).1)

-- ---- all nodes below n are painted, each with its quota; nothing else has an arrow
pub record AllPainted (m : ℕ) (cell : List ℕ) (rem : List Bool) (q : List ℕ) (n : ℕ) (f : List Bool) : Type 0 where
  pub new : (v i : ℕ) → v < n → i < empty_rank → in_cell cell v i < m
      → flag f (in_cell cell v i) ≡ flag rem (in_cell cell v i) && ltb (passed m cell (flag rem) v i) (at q v)
  pub old : (e : ℕ) → ((v i : ℕ) → v < n → i < empty_rank → in_cell cell v i ≢ e) → flag f e ≡ false

pub all_none : (m : ℕ) (cell : List ℕ) (rem : List Bool) (q : List ℕ) (f : List Bool) → ((e : ℕ) → flag f e ≡ false) → AllPainted m cell rem q 0 f
all_none m cell rem q f h = record { new = λ v i k. absurd (omega arith); old = λ e n. h e }

-- one node more
pub all_next : (m : ℕ) (cell : List ℕ) → Spread m cell → (other : List ℕ) (rem : List Bool) (q : List ℕ) (n : ℕ) → n < node_limit → (f₀ f : List Bool)
    (w : ℕ → Bool) → AllPainted m cell rem q n f₀
    → Painted m other cell rem n (at q n) empty_rank f₀ f w → AllPainted m cell rem q (n + 1) f
all_next m cell S other rem q n nl f₀ f w A P = record {
  new = λ v i k h l. ⊎_elim
      (λ e. subst
      (λ u. in_cell cell u i < m → flag f (in_cell cell u i) ≡ flag rem (in_cell cell u i) && ltb (passed m cell (flag rem) u i) (at q u)) (sym e)
      (P.new i h) l)
      (λ b. P.old (in_cell cell v i) (apart v i b h l) ∙ A.new v i b h l)
      (let g : v ≤ n = omega arith in eq-or-lt_of_le g);
  old = λ e h. P.old e (λ i k. h n i (omega arith) k) ∙ A.old e (λ v i k. h v i (omega arith));
}
  where
    -- an edge stands in the cells of one node
    apart : (v i : ℕ) → v < n → i < empty_rank → in_cell cell v i < m → (j : ℕ) → j < empty_rank → in_cell cell n j ≡ in_cell cell v i → ⊥
    apart v i b h l j k z = omega (arith, (S.apart v i n j (omega arith) h nl k l (sym z)).0)
