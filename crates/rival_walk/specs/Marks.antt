-- Edges marked in an array: which edges a list names.
use Rattle.std.specs.Prelude.{ℕ, ◌+◌, ◌<◌, ◌≡◌, refl, Bool, true, false, ◌||◌, List, [], ◌∷◌, length, set, ltb, eqb}
use Rattle.std.proofs.Common.{arith, sym, ap, ◌∙◌, get_or-set_same, get_or-set_other, lt-ltb}
use Rattle.lists.specs.Test.{bit, by-eq}
use Rattle.lists.specs.Sum.{occ}
use Rattle.arrays.specs.ArrayInstance.{flag}

-- whether an edge is in a list
abbrev pub listed : ℕ → List ℕ → Bool
listed e xs = ltb 0 (occ e xs)

listed_cons : (e x : ℕ) (xs : List ℕ) → listed e (x ∷ xs) ≡ eqb x e || listed e xs
listed_cons e x xs = go (eqb x e)
  where
    go : (b : Bool) → ltb 0 (bit b + occ e xs) ≡ b || ltb 0 (occ e xs)
    go true = lt-ltb 0 (1 + occ e xs) (omega arith)
    go false = let z : 0 + occ e xs ≡ occ e xs = omega arith in ap (ltb 0) z

-- the edges of a list are marked, besides those that were
abbrev pub Marked : List Bool → List ℕ → List Bool → Type 0
Marked g xs r = (e : ℕ) → flag r e ≡ flag g e || listed e xs

-- one more edge is marked
marked : (g : List Bool) (x e : ℕ) → x < length g → flag (set g x true) e ≡ eqb x e || flag g e
marked g x e h = by-eq x e
    (λ q b. ap (λ k. flag (set g x true) k) (sym q) ∙ get_or-set_same g x true false h ∙ sym (ap (λ b. b || flag g e) b))
    (λ n b. get_or-set_other g x e true false (λ q. n (sym q)) ∙ sym (ap (λ b. b || flag g e) b))

-- what is marked and what is still named
pub note : (g : List Bool) (x : ℕ) (xs : List ℕ) (e : ℕ) → x < length g → flag (set g x true) e || listed e xs ≡ flag g e || listed e (x ∷ xs)
note g x xs e h = ap (λ b. b || listed e xs) (marked g x e h) ∙ move (eqb x e) (flag g e) (listed e xs) ∙ ap (λ b. flag g e || b) (sym (listed_cons e x xs))
  where
    move : (a b c : Bool) → (a || b) || c ≡ b || (a || c)
    move true true c = refl
    move true false c = refl
    move false true c = refl
    move false false c = refl

-- nothing is left to mark
pub none_left : (b : Bool) (e : ℕ) → b ≡ b || listed e []
none_left true e = refl
none_left false e = refl
