-- A route read into a table: whether it names each stand once, and the new number of each stand; and the route itself, from place 1 on.
use Rattle.std.specs.Prelude.{Option}
use Rattle.std.specs.declared.option.Option.TheVariants.{None, Some}
use Rattle.std.specs.Prelude.{ℕ, zero, suc, ◌+◌, ◌≤◌, ◌<◌, ◌≡◌, refl, ◌≢◌, Bool, true, false, not, cond, ◌||◌, List, [], ◌∷◌, ◌++◌, length, take, get_or, set, T, eqb}
use Rattle.std.proofs.Common.{arith, add-one, sym, ap, ap₂, ◌∙◌, subst, ⊎_elim, length-set, length-take, take-suc, take_all, get_or-set_same, get_or-set_other, T_not, eqb→eq}
use Rattle.std.proofs.Math.Nat.{min-eq_left}
use Rattle.std.proofs.Math.Bool.{or-false}
use mathlib.Core.List.Memᴰ
use Rattle.std.proofs.Math.Dec.{not_T}
use Rattle.lists.specs.Test.{given, by-eq, by_bool, eqb_yes, true_t, T_true, or_r}
use Rattle.lists.specs.Sum.{◌∈◌}
use Rattle.lists.specs.Keep.{any_append, get_d_∈}
use Rattle.lists.specs.Distinct.{Nodup, nodup_append}
use Rattle.model.specs.Limits.{node_limit}
use Rattle.model.specs.Roster.{elem}
use Rattle.model_files.specs.Routes.{new_number}
use Rattle.theory_files.specs.Chosen.{∈_elem}
use Rattle.theory_renamed.specs.RouteNumbers.{Names, number_pos, number_at, named}

-- a route that names each of n stands once, and each stand's new number
pub record Numbered (route : List ℕ) (n : ℕ) (numbers : List ℕ) : Type 0 where
  pub names : Names route n
  pub size : length numbers ≡ 33
  pub number : (t : ℕ) → 1 ≤ t → t ≤ n → get_or numbers t 0 ≡ new_number route t

-- what the code has read of a route: each stand's new number, or that it doesn't name each of n stands once
abbrev pub RouteRead : (route : List ℕ) (n : ℕ) → Option (List ℕ) → Type 0
RouteRead route n (Some numbers) = Numbered route n numbers
RouteRead route n None = Names route n → ⊥

-- the route in a table of 33 places, from place 1 on
pub record Places (route places : List ℕ) : Type 0 where
  pub size : length places ≡ 33
  pub place : (i : ℕ) → i < length route → get_or places (i + 1) 0 ≡ get_or route i 0

-- ---- the first numbers of a route
-- the table after them: the new number of those that were named, 0 for the others
abbrev place_in : (named : List ℕ) → ℕ → ℕ
place_in xs t = cond (elem t xs) (new_number xs t) 0

pub record Marked (named : List ℕ) (n : ℕ) (numbers : List ℕ) : Type 0 where
  pub size : length numbers ≡ 33
  pub inside : (t : ℕ) → t ∈ named → (1 ≤ t) × (t ≤ n)
  pub once : Nodup named
  pub marks : (t : ℕ) → t ≤ node_limit → get_or numbers t 0 ≡ place_in named t

pub marked_none : (n : ℕ) (numbers : List ℕ) → length numbers ≡ 33 → ((t : ℕ) → t ≤ node_limit → get_or numbers t 0 ≡ 0) → Marked [] n numbers
marked_none n numbers l z = record { size = l; inside = λ t m. absurd (Memᴰ.not-nil m); once = tt; marks = z }

elem_snoc : (t x : ℕ) (xs : List ℕ) → elem t (xs ++ x ∷ []) ≡ elem t xs || eqb t x
elem_snoc t x xs = any_append (eqb t) xs (x ∷ []) ∙ ap (λ b. elem t xs || b) (or-false (eqb t x))

-- a number that was named keeps its place; one that was not has the last
number_snoc_in : (t x : ℕ) (xs : List ℕ) → T (elem t xs) → new_number (xs ++ x ∷ []) t ≡ new_number xs t
unfolding new_number
number_snoc_in t x [] s = absurd s
number_snoc_in t x (y ∷ xs) s = go (eqb t y) (number_snoc_in t x xs) s
  where
    go : (b : Bool) → (T (elem t xs) → new_number (xs ++ x ∷ []) t ≡ new_number xs t) → T (b || elem t xs)
        → cond b 1 (suc (new_number (xs ++ x ∷ []) t)) ≡ cond b 1 (suc (new_number xs t))
    go true ih s = refl
    go false ih s = ap suc (ih s)

number_snoc_last : (x : ℕ) (xs : List ℕ) → T (not (elem x xs)) → new_number (xs ++ x ∷ []) x ≡ suc (length xs)
unfolding new_number
number_snoc_last x [] s = ap (λ b. cond b 1 2) (eqb_yes x x refl)
number_snoc_last x (y ∷ xs) s = go (eqb x y) (number_snoc_last x xs) s
  where
    go : (b : Bool) → (T (not (elem x xs)) → new_number (xs ++ x ∷ []) x ≡ suc (length xs)) → T (not (b || elem x xs))
        → cond b 1 (suc (new_number (xs ++ x ∷ []) x)) ≡ suc (suc (length xs))
    go true ih s = absurd s
    go false ih s = ap suc (ih s)

-- one number more, which is a stand's and was not named
pub marked_next : {named : List ℕ} {n : ℕ} {numbers : List ℕ} (t i : ℕ) → Marked named n numbers → length named ≡ i → 1 ≤ t → t ≤ n → n ≤ node_limit
    → get_or numbers t 0 ≤ 0 → Marked (named ++ t ∷ []) n (set numbers t (i + 1))
marked_next {named} {n} {numbers} t i M l a b c z = record {
  size = length-set numbers t (i + 1) ∙ M.size;
  inside = λ s m. ⊎_elim (M.inside s) (λ k. one s k) (Memᴰ.append_cases named m);
  once = nodup_append named (t ∷ []) M.once ((λ m. Memᴰ.not-nil m), tt)
      (λ s m k. T_not (elem t named) fresh (subst (λ z. T (elem z named)) (is s k) (∈_elem s named m)));
  marks = λ s h. by-eq s t
      (λ e y. ap (λ k. get_or (set numbers t (i + 1)) k 0) e ∙ get_or-set_same numbers t (i + 1) 0 (omega (arith, M.size)) ∙ at_t_law
      ∙ ap (place_in (named ++ t ∷ [])) (sym e))
      (λ d y. get_or-set_other numbers t s (i + 1) 0 d ∙ M.marks s h ∙ other s y);
}
  where
    is : (s : ℕ) → s ∈ (t ∷ []) → s ≡ t
    is s (Memᴰ.head e) = e
    is s (Memᴰ.tail m) = absurd (Memᴰ.not-nil m)

    one : (s : ℕ) → s ∈ (t ∷ []) → (1 ≤ s) × (s ≤ n)
    one s m = subst (λ z. (1 ≤ z) × (z ≤ n)) (sym (is s m)) (a, b)

    fresh : T (not (elem t named))
    fresh = not_T (elem t named) (λ s. absurd (given (M.marks t (omega arith) ∙ ap (λ x. cond x (new_number named t) 0) (T_true {b = elem t named} s))
        (λ e. given (number_pos named t) (λ p. let w : ⊥ = omega arith in w))))

    at_t_law : i + 1 ≡ place_in (named ++ t ∷ []) t
    at_t_law = sym (ap (λ x. cond x (new_number (named ++ t ∷ []) t) 0) (T_true {b = elem t (named ++ t ∷ [])} there)
        ∙ number_snoc_last t named fresh ∙ (let e : suc (length named) ≡ i + 1 = omega arith in e))
      where
        there : T (elem t (named ++ t ∷ []))
        there = subst T (sym (elem_snoc t t named)) (or_r (elem t named) (eqb t t) (true_t (eqb_yes t t refl)))

    other : (s : ℕ) → eqb s t ≡ false → place_in named s ≡ place_in (named ++ t ∷ []) s
    other s y = by_bool (elem s named)
        (λ e. ap₂ (λ x k. cond x k 0) (e ∙ sym (elem_snoc s t named ∙ ap (λ x. x || eqb s t) e)) (sym (number_snoc_in s t named (true_t e))))
        (λ e. ap (λ x. cond x (new_number named s) 0) e
        ∙ sym (ap (λ x. cond x (new_number (named ++ t ∷ []) s) 0) (elem_snoc s t named ∙ ap₂ (λ x z. x || z) e y)))

-- ---- the loop's answers
pub named_all : (route : List ℕ) (n : ℕ) (numbers : List ℕ) → n ≤ node_limit → length route ≡ n → Marked route n numbers → Numbered route n numbers
named_all route n numbers few l M =
    let N : Names route n = record { count = l; inside = M.inside; once = M.once } in
    record {
      names = N;
      size = M.size;
      number = λ t a b. M.marks t (omega arith) ∙ ap (λ x. cond x (new_number route t) 0) (T_true {b = elem t route} (named route n N t a b));
    }

-- why a route does not name each stand once, at place i
module _ (route : List ℕ) (n i : ℕ) (l : i < length route) where
  pub outside_not : (get_or route i 0 ≡ 0) → Names route n → ⊥
  outside_not e N = given (N.inside (get_or route i 0) (get_d_∈ route i 0 l)) (λ (a, b). omega arith)

  pub above_not : n < get_or route i 0 → Names route n → ⊥
  above_not h N = given (N.inside (get_or route i 0) (get_d_∈ route i 0 l)) (λ (a, b). omega arith)

  -- a number that the first i have
  pub twice_not : (numbers : List ℕ) → Marked (take i route) n numbers → get_or route i 0 ≤ node_limit → 0 < get_or numbers (get_or route i 0) 0 → Names route n → ⊥
  twice_not numbers M k h N = by_bool (elem (get_or route i 0) (take i route))
      (λ e. given (elem_place (get_or route i 0) route i (true_t e)) (λ (j, lj, q).
      let w : suc j ≡ suc i = sym (number_at route N.once j (omega arith)) ∙ ap (new_number route) q ∙ number_at route N.once i l in
      omega arith))
      (λ e. given (M.marks (get_or route i 0) k ∙ ap (λ x. cond x (new_number (take i route) (get_or route i 0)) 0) e) (λ z. omega arith))
    where
      elem_place : (t : ℕ) (xs : List ℕ) (i : ℕ) → T (elem t (take i xs)) → (j : ℕ) × (j < i) × (get_or xs j 0 ≡ t)
      elem_place t [] zero s = absurd s
      elem_place t [] (suc i) s = absurd s
      elem_place t (x ∷ xs) zero s = absurd s
      elem_place t (x ∷ xs) (suc i) s = by_bool (eqb t x)
          (λ e. (0, omega arith, sym (eqb→eq t x (true_t e))))
          (λ e. given (elem_place t xs i (subst (λ b. T (b || elem t (take i xs))) e s)) (λ (j, l, q). (suc j, omega arith, q)))

-- ---- one turn of the loop, and its end
pub marked_step : (route : List ℕ) (n i : ℕ) (numbers : List ℕ) → i < length route → Marked (take i route) n numbers → get_or route i 0 ≢ 0
    → get_or route i 0 ≤ n → n ≤ node_limit → get_or numbers (get_or route i 0) 0 ≤ 0
    → Marked (take (i + 1) route) n (set numbers (get_or route i 0) (i + 1))
marked_step route n i numbers l M a b c z =
    subst (λ xs. Marked xs n (set numbers (get_or route i 0) (i + 1))) (sym (ap (λ k. take k route) (add-one i) ∙ take-suc route i 0 l))
    (marked_next (get_or route i 0) i M (length-take i route ∙ min-eq_left (omega arith)) (some (get_or route i 0) a) b c z)
  where
    some : (t : ℕ) → t ≢ 0 → 1 ≤ t
    some zero h = absurd (h refl)
    some (suc t) h = omega arith

pub all_taken_law : (route : List ℕ) (n i : ℕ) (numbers : List ℕ) → length route ≡ n → n ≤ i → Marked (take i route) n numbers → Marked route n numbers
all_taken_law route n i numbers l h M = subst (λ xs. Marked xs n numbers) (take_all i route (omega arith)) M
