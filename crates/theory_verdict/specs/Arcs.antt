-- The arcs of a walk as couples of an exchange: at the stand of x the edge x gives way to f, at the surveyor of z the edge z. What a
-- walk is, graph says (Walk).
use Rattle.std.specs.Prelude.{ℕ, ◌+◌, ◌≡◌, refl, Bool, List, [], ◌∷◌, map, eqb}
use Rattle.std.proofs.Common.{arith, sym, ap}
use Rattle.lists.specs.Test.{bit, pk_0}
use Rattle.lists.specs.Sum.{sum, occ}
use Rattle.lists.specs.Keep.{All}
use Rattle.model.specs.Instance.{Instance, Side}
use Rattle.model.specs.Vote.{edge, empty, same}
use Rattle.theory_instance.specs.Walk.{Steps, Old, New, Walk, plus, minus}
use Rattle.theory_votes.specs.Exchange.{Couple, for, against, gains}

-- an edge gives way to another at the same node
abbrev pub Link : (ℕ → ℕ) → Couple → Type 0
Link end (edge d, f) = end d ≡ end f
Link end (empty, f) = ⊥

pub link_meet : (end : ℕ → ℕ) (c : Couple) → Link end c → (d : ℕ) → c.0 ≡ edge d → end d ≡ end c.1
link_meet end (edge b, f) h d e = cc
link_meet end (empty, f) h d e = absurd h

pub links_gain : (K : Side) (cs : List Couple) → All (Link K.end) cs → (v : ℕ) → gains K cs v ≡ 0
links_gain K [] a v = refl
links_gain K ((edge d, f) ∷ cs) a v = omega (arith, links_gain K cs a.1 v, pk_0 (eqb (K.end f) v))
links_gain K ((empty, f) ∷ cs) a v = absurd a.0

-- at the stands, at the surveyors
abbrev pub heads : ℕ → Steps → List Couple
heads x [] = []
heads x ((f, z) ∷ w) = (edge x, f) ∷ heads z w

abbrev pub tails : Steps → List Couple
tails w = map (λ s. (edge s.1, s.0)) w

-- the edges that come, the edges walked to
abbrev pub fs : Steps → List ℕ
fs w = map (λ s. s.0) w

-- the edges of M that a walk leads to, one an arc
abbrev pub zs : Steps → List ℕ
zs w = map (λ s. s.1) w

pub heads_new : (e x : ℕ) (w : Steps) → sum (λ c. bit (eqb c.1 e)) (heads x w) ≡ occ e (fs w)
heads_new e x [] = refl
heads_new e x ((f, z) ∷ w) = omega (arith, heads_new e z w)

pub tails_new : (e : ℕ) (w : Steps) → sum (λ c. bit (eqb c.1 e)) (tails w) ≡ occ e (fs w)
tails_new e [] = refl
tails_new e ((f, z) ∷ w) = omega (arith, tails_new e w)

pub tails_old : (e : ℕ) (w : Steps) → sum (λ c. bit (same c.0 (edge e))) (tails w) ≡ occ e (zs w)
tails_old e [] = refl
tails_old e ((f, z) ∷ w) = omega (arith, tails_old e w)

module _ (G : Instance) where
  pub walk_plus : (x : ℕ) (w : Steps) → plus G x w ≡ sum (for G.rank_s) (tails w) + sum (for G.rank_t) (heads x w)
  walk_plus x [] = refl
  walk_plus x ((f, z) ∷ w) = omega (arith, walk_plus z w)

  pub walk_minus : (x : ℕ) (w : Steps) → minus G x w ≡ sum (against G.rank_s) (tails w) + sum (against G.rank_t) (heads x w)
  walk_minus x [] = refl
  walk_minus x ((f, z) ∷ w) = omega (arith, walk_minus z w)

module _ (G : Instance) (M : ℕ → Bool) where
  -- at the stands every edge of the walk but the last gives way, at the surveyors every one but the first
  pub heads_old : (e x : ℕ) (w : Steps) (y : ℕ) → Walk G M x w y
      → sum (λ c. bit (same c.0 (edge e))) (heads x w) + bit (eqb y e) ≡ bit (eqb x e) + occ e (zs w)
  heads_old e x [] y h = omega (arith, ap (λ z. bit (eqb z e)) h)
  heads_old e x ((f, z) ∷ w) y h = omega (arith, heads_old e z w y h.1)

  pub heads_link : (x : ℕ) (w : Steps) (y : ℕ) → Walk G M x w y → All (Link G.st) (heads x w)
  heads_link x [] y h = tt
  heads_link x ((f, z) ∷ w) y h = (sym h.0.2, heads_link z w y h.1)

  pub tails_link : (x : ℕ) (w : Steps) (y : ℕ) → Walk G M x w y → All (Link G.sv) (tails w)
  tails_link x [] y h = tt
  tails_link x ((f, z) ∷ w) y h = (sym h.0.3, tails_link z w y h.1)

  pub walk_old : (x : ℕ) (w : Steps) (y : ℕ) → Walk G M x w y → All (Old G M) (zs w)
  walk_old x [] y h = tt
  walk_old x ((f, z) ∷ w) y h = (h.0.1, walk_old z w y h.1)

  pub walk_new : (x : ℕ) (w : Steps) (y : ℕ) → Walk G M x w y → All (New G M) (fs w)
  walk_new x [] y h = tt
  walk_new x ((f, z) ∷ w) y h = (h.0.0, walk_new z w y h.1)
