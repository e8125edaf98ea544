-- A route that names each of n stands once is a numbering of them: the new number of a stand is its place, what stands at a place is the stand,
-- and the way back is such a route too, whose way back is the route.
use Prim.Native.Nat.{ℕ, zero, suc, ◌+◌, ◌-◌, ◌≤◌, ◌<◌}
use native.Mathlib.Omega.{arith}
use Rattle.std.proofs.Common.{not-suc-le-zero, sym, ◌∙◌, T_not, eqb→eq, nltb→le}
use Rattle.std.specs.Prelude.{◌≡◌, refl, Bool, true, false, not, cond, ◌&&◌, ◌||◌, length, get_or, T, eqb, ltb}
use Rattle.std.proofs.Math.Path.{ap, subst}
use mathlib.Core.List.Memᴰ
use mathlib.Core.List.{List, [], ◌∷◌, map}
use Rattle.std.proofs.Math.ListN.{length-map}
use Rattle.std.proofs.Math.Dec.{not_T}
use Rattle.std.proofs.Math.Arith.{le→nltb}
use Rattle.lists.specs.Test.{given, by-test, by_bool, and_l, and_r, and_i, nor_l, nor_r, nor_i, eq→eqb, eqb_yes, eqb_no, true_t}
use Rattle.lists.specs.Sum.{◌∈◌, range, range_length, ∈_range}
use Rattle.lists.specs.Keep.{all?, all_∈, ∈_all, any_∈, get_d_∈}
use Rattle.lists.specs.Ranges.{map_at, range_at_law}
use Rattle.lists.specs.Distinct.{Nodup, nodup_below, range_once}
use Rattle.model.specs.Roster.{Roster, stand_count, elem, outside}
use Rattle.model_files.specs.Routes.{differing, names_each, new_number, way_back}
use Rattle.theory_files.specs.Chosen.{∈_elem}
use Rattle.theory_renamed.specs.Numberings.{Numbering}

-- ---- a number's place in a list
-- new numbers count from 1
pub number_pos : (route : List ℕ) (t : ℕ) → 1 ≤ new_number route t
unfolding new_number
number_pos [] t = omega arith
number_pos (x ∷ route) t = go (eqb t x)
  where
    go : (b : Bool) → 1 ≤ cond b 1 (suc (new_number route t))
    go true = omega arith
    go false = omega arith

number_in : (route : List ℕ) (t : ℕ) → T (elem t route) → new_number route t ≤ length route
unfolding new_number
number_in [] t s = absurd s
number_in (x ∷ route) t s = go (eqb t x) (number_in route t) s
  where
    go : (b : Bool) → (T (elem t route) → new_number route t ≤ length route) → T (b || elem t route)
        → cond b 1 (suc (new_number route t)) ≤ suc (length route)
    go true ih s = omega arith
    go false ih s = omega (arith, ih s)

-- what stands there
at_number : (route : List ℕ) (t : ℕ) → T (elem t route) → get_or route (new_number route t - 1) 0 ≡ t
unfolding new_number
at_number [] t s = absurd s
at_number (x ∷ route) t s = by_bool (eqb t x)
    (λ e. ap (λ b. get_or (x ∷ route) (cond b 1 (suc (new_number route t)) - 1) 0) e ∙ sym (eqb→eq t x (true_t e)))
    (λ e. ap (λ b. get_or (x ∷ route) (cond b 1 (suc (new_number route t)) - 1) 0) e ∙ skip (new_number route t) (number_pos route t)
    ∙ at_number route t (subst (λ b. T (b || elem t route)) e s))
  where
    skip : (n : ℕ) → 1 ≤ n → get_or (x ∷ route) (suc n - 1) 0 ≡ get_or route (n - 1) 0
    skip zero h = absurd (let z : ⊥ = omega arith in z)
    skip (suc n) h =
        let a : suc (suc n) - 1 ≡ suc n = omega arith in
        let b : n ≡ suc n - 1 = omega arith in
        ap (λ k. get_or (x ∷ route) k 0) a ∙ ap (λ k. get_or route k 0) b

-- the place of what stands there, where none comes twice
pub number_at : (route : List ℕ) → Nodup route → (j : ℕ) → j < length route → new_number route (get_or route j 0) ≡ suc j
unfolding new_number
number_at [] u j l = absurd (not-suc-le-zero l)
number_at (x ∷ route) u zero l = ap (λ b. cond b 1 (suc (new_number route x))) (eqb_yes x x refl)
number_at (x ∷ route) u (suc j) l = ap (λ b. cond b 1 (suc (new_number route (get_or route j 0))))
    (eqb_no (get_or route j 0) x (λ q. u.0 (subst (λ z. z ∈ route) q (get_d_∈ route j 0 (omega arith)))))
    ∙ ap suc (number_at route u.1 j (omega arith))

differing_nodup : (xs : List ℕ) → T (differing xs) → Nodup xs
differing_nodup [] t = tt
differing_nodup (x ∷ xs) t =
    ((λ m. T_not (elem x xs) (and_l (not (elem x xs)) (differing xs) t) (∈_elem x xs m)), differing_nodup xs (and_r (not (elem x xs)) (differing xs) t))

nodup_differing : (xs : List ℕ) → Nodup xs → T (differing xs)
nodup_differing [] u = tt
nodup_differing (x ∷ xs) u = and_i (not (elem x xs)) (differing xs)
    (not_T (elem x xs) (λ t. given (any_∈ (eqb x) xs t) (λ (y, m, e). u.0 (subst (λ z. z ∈ xs) (sym (eqb→eq x y e)) m)))) (nodup_differing xs u.1)

-- ---- a route that names each of n stands once
pub record Names (route : List ℕ) (n : ℕ) : Type 0 where
  pub count : length route ≡ n
  pub inside : (t : ℕ) → t ∈ route → (1 ≤ t) × (t ≤ n)
  pub once : Nodup route

-- a route that passes the model's test names each stand of the roster once
pub each_names : (route : List ℕ) (r : Roster) → T (names_each route r) → Names route (stand_count r)
unfolding names_each
each_names route r t =
    let n = stand_count r in
    let a = eqb (length route) n in
    let b = all? (λ t. not (outside n t)) route in
    given (and_r a (b && differing route) t) (λ u. record {
      count = eqb→eq (length route) n (and_l a (b && differing route) t);
      inside = λ t m. given (all_∈ (λ t. not (outside n t)) route (and_l b (differing route) u) t m) (λ o.
          (above t (nor_l (eqb t 0) (ltb n t) o), nltb→le n t (nor_r (eqb t 0) (ltb n t) o)));
      once = differing_nodup route (and_r b (differing route) u);
    })
  where
    above : (t : ℕ) → T (not (eqb t 0)) → 1 ≤ t
    above zero h = absurd h
    above (suc t) h = omega arith

-- a route that names each stand of the roster once passes the model's test
pub names_each_law : (route : List ℕ) (r : Roster) → Names route (stand_count r) → T (names_each route r)
unfolding names_each
names_each_law route r N =
    let n = stand_count r in
    let b = all? (λ t. not (outside n t)) route in
    and_i (eqb (length route) n) (b && differing route) (eq→eqb (length route) n N.count)
    (and_i b (differing route) (∈_all (λ t. not (outside n t)) route (λ t m. given (N.inside t m) (λ (h, k).
    nor_i (eqb t 0) (ltb n t) (above t h) (le→nltb n t k)))) (nodup_differing route N.once))
  where
    above : (t : ℕ) → 1 ≤ t → T (not (eqb t 0))
    above t h = not_T (eqb t 0) (λ e. given (eqb→eq t 0 e) (λ q. omega arith))

module _ (route : List ℕ) (n : ℕ) (N : Names route n) where
  -- a number that is not named would be one too many
  pub named : (t : ℕ) → 1 ≤ t → t ≤ n → T (elem t route)
  named t h k = by-test (elem t route) (λ s. s) (λ s. absurd (omega (
    arith,
    N.count,
    nodup_below (suc n) (0 ∷ t ∷ route) ((λ m. zero_out m), ((λ m. T_not (elem t route) s (∈_elem t route m)), N.once)) small,
  )))
    where
      zero_out : 0 ∈ (t ∷ route) → ⊥
      zero_out (Memᴰ.head e) = omega arith
      zero_out (Memᴰ.tail m) = given (N.inside 0 m) (λ (a, b). omega arith)

      small : (a : ℕ) → a ∈ (0 ∷ t ∷ route) → a < suc n
      small a (Memᴰ.head e) = omega arith
      small a (Memᴰ.tail (Memᴰ.head e)) = omega arith
      small a (Memᴰ.tail (Memᴰ.tail m)) = given (N.inside a m) (λ (l, u). omega arith)

  pub number_most : (t : ℕ) → 1 ≤ t → t ≤ n → new_number route t ≤ n
  number_most t h k = subst (λ m. new_number route t ≤ m) N.count (number_in route t (named t h k))

  -- a stand's number by its place, and the place of a stand
  pub stand_at_law : (t : ℕ) → 1 ≤ t → t ≤ n → get_or route (new_number route t - 1) 0 ≡ t
  stand_at_law t h k = at_number route t (named t h k)

  pub place_of : (j : ℕ) → j < n → new_number route (get_or route j 0) ≡ suc j
  place_of j l = number_at route N.once j (subst (λ m. j < m) (sym N.count) l)

  -- at each place of the route stands the number of a stand
  pub name_inside : (j : ℕ) → j < n → (1 ≤ get_or route j 0) × (get_or route j 0 ≤ n)
  name_inside j l = N.inside (get_or route j 0) (get_d_∈ route j 0 (subst (λ m. j < m) (sym N.count) l))

  -- ---- the stands from 0, by their new places and back
  abbrev pub new_place : ℕ → ℕ
  new_place v = new_number route (suc v) - 1

  abbrev pub old_place : ℕ → ℕ
  old_place j = get_or route j 0 - 1

  pub new_suc : (v : ℕ) → suc (new_place v) ≡ new_number route (suc v)
  new_suc v = given (number_pos route (suc v)) (λ h. omega arith)

  pub old_suc : (j : ℕ) → j < n → suc (old_place j) ≡ get_or route j 0
  old_suc j l = given (name_inside j l) (λ (h, k). omega arith)

  pub places : Numbering n new_place old_place
  places = record {
    into = λ v l. given (number_most (suc v) (omega arith) (omega arith)) (λ h. given (number_pos route (suc v)) (λ k. omega arith));
    back = λ j l. given (name_inside j l) (λ (h, k). omega arith);
    there = λ j l. given (ap (new_number route) (old_suc j l) ∙ place_of j l) (λ e. omega arith);
    here = λ v l. given (stand_at_law (suc v) (omega arith) (omega arith)) (λ e. omega arith);
  }

  -- ---- the way back
  back_count : length (way_back route) ≡ n
  unfolding way_back
  back_count = length-map (range 1 (length route)) (new_number route) ∙ range_length 1 (length route) ∙ N.count

  -- the way back has the new number of a stand at the stand's old place
  pub back_at : (j : ℕ) → j < n → get_or (way_back route) j 0 ≡ new_number route (suc j)
  unfolding way_back
  back_at j l = map_at (new_number route) (range 1 (length route)) j 0 0 (omega (arith, range_length 1 (length route), N.count))
      ∙ ap (new_number route) (range_at_law (length route) 1 j (omega (arith, N.count)) ∙ one_plus j)
    where
      one_plus : (j : ℕ) → 1 + j ≡ suc j
      one_plus j = omega arith

  -- two stands have two numbers
  numbers_differ : (s t : ℕ) → 1 ≤ s → s ≤ n → 1 ≤ t → t ≤ n → new_number route s ≡ new_number route t → s ≡ t
  numbers_differ s t a b c d e = sym (stand_at_law s a b) ∙ ap (λ z. get_or route (z - 1) 0) e ∙ stand_at_law t c d

  -- the way back names each stand once too
  pub back_names : Names (way_back route) n
  unfolding way_back
  back_names = record {
    count = back_count;
    inside = λ t m. given (Memᴰ.of_map (new_number route) (range 1 (length route)) m) (λ (s, k, e). given (∈_range (length route) 1 k) (λ (a, b).
        subst (λ z. (1 ≤ z) × (z ≤ n)) e (number_pos route s, number_most s a (omega (arith, N.count)))));
    once = all_differ (range 1 (length route)) (range_once 1 (length route))
        (λ s k. given (∈_range (length route) 1 k) (λ (a, b). (a, omega (arith, N.count))));
  }
    where
      all_differ : (xs : List ℕ) → Nodup xs → ((s : ℕ) → s ∈ xs → (1 ≤ s) × (s ≤ n)) → Nodup (map (new_number route) xs)
      all_differ [] u h = tt
      all_differ (x ∷ xs) u h = (
        (λ m. given (Memᴰ.of_map (new_number route) xs m) (λ (y, k, e). given (h x (Memᴰ.head refl)) (λ (a, b). given (h y (Memᴰ.tail k)) (λ (c, d).
            u.0 (subst (λ z. z ∈ xs) (numbers_differ y x c d a b e) k))))),
        all_differ xs u.1 (λ s k. h s (Memᴰ.tail k)),
      )
