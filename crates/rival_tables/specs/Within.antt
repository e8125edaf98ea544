-- The answer of a search below n, where n stands for none: what it found, if it found something.
use Rattle.std.specs.Prelude.{ℕ, ◌≤◌, ◌<◌, ◌≡◌, true, false, cond, ltb, Option, Some, None, is_some}
use Rattle.std.proofs.Common.{arith, sym, ap, ◌∙◌, lt-ltb, le-ltb, ltb-true, ltb-false}
use Rattle.lists.specs.Test.{by_bool}

-- i, if it is below n
abbrev pub if_below : ℕ → ℕ → Option ℕ
if_below n i = cond (ltb i n) (Some i) None

-- to answer it
pub some_below : (n i j : ℕ) → i ≡ j → i < n → Some i ≡ if_below n j
some_below n i j e h = ap Some e ∙ sym (ap (λ b. cond b (Some j) None) (ap (λ k. ltb k n) (sym e) ∙ lt-ltb i n h))

-- none
pub none_below : (n j : ℕ) → n ≤ j → None ≡ if_below n j
none_below n j h = sym (ap (λ b. cond b (Some j) None) (le-ltb j n h))

-- to read such an answer
pub found_below : {o : Option ℕ} (n i j : ℕ) → o ≡ Some i → o ≡ if_below n j → (i ≡ j) × (i < n)
found_below n i j h e = by_bool (ltb j n)
    (λ t. let q : Some i ≡ Some j = sym h ∙ e ∙ ap (λ b. cond b (Some j) None) t in let s : i ≡ j = cc in (s, omega (arith, ltb-true j n t)))
    (λ t. let q : Some i ≡ None = sym h ∙ e ∙ ap (λ b. cond b (Some j) None) t in cc)

-- nothing was found: what is searched is not below n
pub nothing_below : {o : Option ℕ} (n j : ℕ) → o ≡ None → o ≡ if_below n j → n ≤ j
nothing_below n j h e = by_bool (ltb j n)
    (λ t. let q : None ≡ Some j = sym h ∙ e ∙ ap (λ b. cond b (Some j) None) t in cc)
    (λ t. ltb-false j n t)

-- to read one of which only that is asked whether it is there
pub some_is_below : {o : Option ℕ} (n j : ℕ) → is_some o ≡ true → o ≡ if_below n j → j < n
some_is_below n j h e = by_bool (ltb j n)
    (λ t. ltb-true j n t)
    (λ t. let q : false ≡ true = sym (ap is_some (e ∙ ap (λ b. cond b (Some j) None) t)) ∙ h in cc)

-- it is not there: what is searched is not below n
pub none_is_below : {o : Option ℕ} (n j : ℕ) → is_some o ≡ false → o ≡ if_below n j → n ≤ j
none_is_below n j h e = by_bool (ltb j n)
    (λ t. let q : true ≡ false = sym (ap is_some (e ∙ ap (λ b. cond b (Some j) None) t)) ∙ h in cc)
    (λ t. ltb-false j n t)
