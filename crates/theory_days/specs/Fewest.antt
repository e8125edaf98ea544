-- As many days as the busiest end has entries, and no spreading has fewer: the days used are the distinct numbers of the list of days.
use Prim.Native.Nat.{ℕ, suc, ◌≤◌, ◌<◌}
use native.Mathlib.Omega.{arith}
use Rattle.std.specs.Prelude.{◌≡◌, refl, ◌≢◌, Bool, true, false, not, cond, length, T}
use Rattle.std.proofs.Common.{sym, ap, ◌∙◌, subst, T_not, eqb→eq}
use mathlib.Core.List.Memᴰ
use mathlib.Core.List.{List, [], ◌∷◌, map}
use Rattle.std.proofs.Math.ListN.{length-map}
use Rattle.std.proofs.Math.Dec.{eqb, eqb_refl}
use Rattle.lists.specs.Test.{by-test, if-ind, T_true, T_false, bit}
use Rattle.lists.specs.Sum.{◌∈◌, range, ∈_range, sum_range, count}
use Rattle.lists.specs.Keep.{keep, keep_length, ∈_keep, any_∈, none_∈}
use Rattle.lists.specs.Distinct.{Nodup, nodup_le, nodup_below, nodup_keep, range_once}
use Rattle.model.specs.Roster.{elem}
use Rattle.model.specs.Days.{days_used}
use Rattle.theory_days.specs.Chain.{end_on, Proper}

-- the days themselves, each once
kinds : List ℕ → List ℕ
kinds [] = []
kinds (d ∷ ds) = cond (elem d ds) (kinds ds) (d ∷ kinds ds)

kinds_length : (ds : List ℕ) → length (kinds ds) ≡ days_used ds
unfolding kinds
kinds_length [] = refl
kinds_length (d ∷ ds) = go (elem d ds) (kinds_length ds)
  where
    go : (b : Bool) → length (kinds ds) ≡ days_used ds → length (cond b (kinds ds) (d ∷ kinds ds)) ≡ cond b (days_used ds) (suc (days_used ds))
    go true e = e
    go false e = ap suc e

kinds_∈ : (ds : List ℕ) (x : ℕ) → x ∈ kinds ds → x ∈ ds
unfolding kinds
kinds_∈ [] x m = m
kinds_∈ (d ∷ ds) x m = go (elem d ds) (kinds_∈ ds x) m
  where
    go : (b : Bool) → (x ∈ kinds ds → x ∈ ds) → x ∈ cond b (kinds ds) (d ∷ kinds ds) → x ∈ (d ∷ ds)
    go true ih m = Memᴰ.tail (ih m)
    go false ih (Memᴰ.head e) = Memᴰ.head e
    go false ih (Memᴰ.tail m) = Memᴰ.tail (ih m)

∈_kinds : (ds : List ℕ) (x : ℕ) → x ∈ ds → x ∈ kinds ds
unfolding kinds
∈_kinds [] x m = m
∈_kinds (d ∷ ds) x m = by-test (elem d ds)
    (λ t. subst (λ z. x ∈ cond z (kinds ds) (d ∷ kinds ds)) (sym (yes_it t)) (∈_kinds ds x (inside t m)))
    (λ t. subst (λ z. x ∈ cond z (kinds ds) (d ∷ kinds ds)) (sym (no_it t)) (either (∈_kinds ds x) m))
  where
    yes_it : T (elem d ds) → elem d ds ≡ true
    yes_it t = T_true t

    no_it : T (not (elem d ds)) → elem d ds ≡ false
    no_it t = T_false t

    inside : T (elem d ds) → x ∈ (d ∷ ds) → x ∈ ds
    inside t (Memᴰ.head e) = let (y, k, s) = any_∈ (eqb d) ds t in Memᴰ.cast (e ∙ eqb→eq d y s) k
    inside t (Memᴰ.tail k) = k

    either : (x ∈ ds → x ∈ kinds ds) → x ∈ (d ∷ ds) → x ∈ (d ∷ kinds ds)
    either ih (Memᴰ.head e) = Memᴰ.head e
    either ih (Memᴰ.tail k) = Memᴰ.tail (ih k)

kinds_once : (ds : List ℕ) → Nodup (kinds ds)
unfolding kinds
kinds_once [] = tt
kinds_once (d ∷ ds) = if-ind Nodup (elem d ds) (λ t. kinds_once ds)
    (λ t. (λ m. T_not (eqb d d) (none_∈ (eqb d) ds t d (kinds_∈ ds d m)) (eqb_refl d), kinds_once ds))

-- a list of numbers that differ for different entries
once_on : (c : ℕ → ℕ) (xs : List ℕ) → Nodup xs → ((i j : ℕ) → i ∈ xs → j ∈ xs → i ≢ j → c i ≢ c j) → Nodup (map c xs)
once_on c [] u h = tt
once_on c (x ∷ xs) u h = (
  (λ m. let (y, k, e) = Memᴰ.of_map c xs m in h y x (Memᴰ.tail k) (Memᴰ.head refl) (λ q. u.0 (Memᴰ.cast (sym q) k)) e),
  once_on c xs u.1 (λ i j a b. h i j (Memᴰ.tail a) (Memᴰ.tail b)),
)

module _ (sv st : ℕ → ℕ) (n : ℕ) (c : ℕ → ℕ) where
  -- the days of the n entries, as a list
  abbrev pub sheet : List ℕ
  sheet = map c (range 0 n)

  -- no end has more entries than there are days
  pub days_least : Proper sv st n c → (y : Bool) (v : ℕ) → count (λ j. eqb (end_on sv st y j) v) n ≤ days_used sheet
  unfolding count
  days_least p y v = omega (
    arith,
    nodup_le (map c here) (kinds sheet) once inside,
    kinds_length sheet,
    length-map here c,
    keep_length (λ j. eqb (end_on sv st y j) v) (range 0 n),
    sum_range (λ j. bit (eqb (end_on sv st y j) v)) n,
  )
    where
      here : List ℕ
      here = keep (λ j. eqb (end_on sv st y j) v) (range 0 n)

      at : (j : ℕ) → j ∈ here → (j < n) × (end_on sv st y j ≡ v)
      at j m = let k = ∈_keep (λ j. eqb (end_on sv st y j) v) (range 0 n) m in (omega (arith, ∈_range n 0 k.0), eqb→eq (end_on sv st y j) v k.1)

      once : Nodup (map c here)
      once = once_on c here (nodup_keep (λ j. eqb (end_on sv st y j) v) (range 0 n) (range_once 0 n))
          (λ i j a b d e. p y i j (at i a).0 (at j b).0 d ((at i a).1 ∙ sym (at j b).1) e)

      inside : (d : ℕ) → d ∈ map c here → d ∈ kinds sheet
      inside d m = let (j, k, e) = Memᴰ.of_map c here m in ∈_kinds sheet d
          (Memᴰ.cast (sym e) (Memᴰ.map c (∈_keep (λ j. eqb (end_on sv st y j) v) (range 0 n) k).0))

  -- days below D: at most D of them
  pub days_most : (D : ℕ) → ((j : ℕ) → j < n → c j < D) → days_used sheet ≤ D
  days_most D h = omega (
    arith,
    kinds_length sheet,
    nodup_below D (kinds sheet) (kinds_once sheet)
        (λ d m. let (j, k, e) = Memᴰ.of_map c (range 0 n) (kinds_∈ sheet d m) in subst (λ z. z < D) e (h j (omega (arith, ∈_range n 0 k)))),
  )
