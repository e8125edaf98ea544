-- An array that a loop fills from its front: its first n entries are those of a function.
use Rattle.std.specs.Prelude.{ℕ, ◌+◌, ◌≤◌, ◌<◌, ◌≡◌, List, length, get_or, set}
use Rattle.std.proofs.Common.{arith, eq-or-lt_of_le, sym, ◌∙◌, subst, ⊎_elim, get_or-set_same, get_or-set_other}

-- the first n entries are f's
abbrev pub Made : {A : Type 0} → A → List A → (ℕ → A) → ℕ → Type 0
Made d o f n = (e : ℕ) → e < n → get_or o e d ≡ f e

-- one turn: f's value is stored at i, and the first i + 1 entries are f's
pub made_next : {A : Type 0} (d : A) (o : List A) (f : ℕ → A) (i : ℕ) → i < length o → Made d o f i → Made d (set o i (f i)) f (i + 1)
made_next d o f i l h e k = ⊎_elim
    (λ q. subst (λ (k : ℕ). get_or (set o i (f i)) k d ≡ f k) (sym q) (get_or-set_same o i (f i) d l))
    (λ q. let ne : e ≡ i → ⊥ = (λ (x : e ≡ i). omega arith) in get_or-set_other o i e (f i) d ne ∙ h e q)
    (let g : e ≤ i = omega arith in eq-or-lt_of_le g)

-- one turn that stores a value equal to f's at i: the first i + 1 entries are f's
pub made_set : {A : Type 0} (d : A) (o : List A) (f : ℕ → A) (i : ℕ) (v : A) → i < length o → v ≡ f i → Made d o f i → Made d (set o i v) f (i + 1)
made_set d o f i v l e h = subst (λ z. Made d (set o i z) f (i + 1)) (sym e) (made_next d o f i l h)
