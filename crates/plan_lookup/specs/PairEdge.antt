-- The edge that a pair names, looked for from a place on: among edges that differ in an end or in the shift, it is the lowest.
use Rattle.std.specs.Prelude.{ℕ, suc, ◌+◌, ◌≤◌, ◌<◌, ◌≡◌, Bool, false, not, ◌&&◌, List, Option, None, Some, T, eqb}
use Rattle.std.proofs.Common.{arith, sym, ap, ap₂, ◌∙◌, subst, eqb→eq, T_not}
use Rattle.std.proofs.Math.Decide.{dec_lt}
use Rattle.std.proofs.Math.Logic.{by_cases}
use Rattle.std.proofs.Math.Dec.{not_T, eqb-suc-suc}
use Rattle.lists.specs.Test.{given, and_l, and_r, false_t}
use Rattle.lists.specs.Search.{low, low_is}
use Rattle.arrays.specs.ArrayInstance.{at}

-- two edges with the same ends and the same shift are one
abbrev pub Differ : ℕ → (sv st sh : List ℕ) → Type 0
Differ m sv st sh = (d e : ℕ) → d < m → e < m → at sv d ≡ at sv e → at st d ≡ at st e → at sh d ≡ at sh e → d ≡ e

-- the bytes x, y, z name edge e
abbrev pub Names : (sv st sh : List ℕ) (x y z : ℕ) → ℕ → Bool
Names sv st sh x y z e = eqb (suc (at sv e)) x && (eqb (suc (at st e)) y && eqb (at sh e) z)

-- edge e has the surveyor s, the stand t and the shift z
abbrev pub Ends : (sv st sh : List ℕ) (s t z : ℕ) → ℕ → Bool
Ends sv st sh s t z e = eqb (at sv e) s && (eqb (at st e) t && eqb (at sh e) z)

-- an edge that may be none, as a number: the end of the search then
abbrev pub edge_or : (end : ℕ) → Option ℕ → ℕ
edge_or end (Some e) = e
edge_or end None = end

-- the lowest from start on and below end, or end
pub record Scanned (start end : ℕ) (sv st sh : List ℕ) (s t z r : ℕ) : Type 0 where
  pub from : start ≤ r
  pub to : r ≤ end
  pub none : (e : ℕ) → start ≤ e → e < r → T (not (Ends sv st sh s t z e))
  pub hit : r < end → T (Ends sv st sh s t z r)

pub low_unique : (p : ℕ → Bool) (n r : ℕ) → r ≤ n → ((e : ℕ) → e < r → T (not (p e))) → (r < n → T (p r)) → r ≡ low p n
low_unique p n r h none hit = given (low_is p n) (λ (l, a, b). by_cases (dec_lt r (low p n))
    (λ k. absurd (T_not (p r) (a r k) (hit (omega arith))))
    (λ k. by_cases (dec_lt (low p n) r)
    (λ j. absurd (T_not (p (low p n)) (none (low p n) j) (b (omega arith))))
    (λ j. omega arith)))

-- the bytes are one more than the numbers
pub names_ends : (sv st sh : List ℕ) (s t z e : ℕ) → Names sv st sh (suc s) (suc t) z e ≡ Ends sv st sh s t z e
names_ends sv st sh s t z e = ap₂ (λ a b. a && (b && eqb (at sh e) z)) (eqb-suc-suc (at sv e) s) (eqb-suc-suc (at st e) t)

-- two edges with these are one
ends_one : (m : ℕ) (sv st sh : List ℕ) → Differ m sv st sh → (s t z d e : ℕ) → d < m → e < m → T (Ends sv st sh s t z d) → T (Ends sv st sh s t z e)
    → d ≡ e
ends_one m sv st sh differ s t z d e h k x y =
    differ d e h k (first d x ∙ sym (first e y)) (second d x ∙ sym (second e y)) (third d x ∙ sym (third e y))
  where
    first : (c : ℕ) → T (Ends sv st sh s t z c) → at sv c ≡ s
    first c w = eqb→eq (at sv c) s (and_l (eqb (at sv c) s) (eqb (at st c) t && eqb (at sh c) z) w)

    both : (c : ℕ) → T (Ends sv st sh s t z c) → T (eqb (at st c) t && eqb (at sh c) z)
    both c w = and_r (eqb (at sv c) s) (eqb (at st c) t && eqb (at sh c) z) w

    second : (c : ℕ) → T (Ends sv st sh s t z c) → at st c ≡ t
    second c w = eqb→eq (at st c) t (and_l (eqb (at st c) t) (eqb (at sh c) z) (both c w))

    third : (c : ℕ) → T (Ends sv st sh s t z c) → at sh c ≡ z
    third c w = eqb→eq (at sh c) z (and_r (eqb (at st c) t) (eqb (at sh c) z) (both c w))

module _ (m : ℕ) (sv st sh : List ℕ) (x y z s t : ℕ) (xs : x ≡ suc s) (yt : y ≡ suc t) where
  low_ends : low (Names sv st sh x y z) m ≡ low (Ends sv st sh s t z) m
  low_ends = ap₂ (λ x y. low (Names sv st sh x y z) m) xs yt ∙ ap (λ p. low p m) (λ k e. names_ends sv st sh s t z e k)

  -- found from `from` on: no earlier edge has these ends
  pub found_later : Differ m sv st sh → (from r : ℕ) → Scanned from m sv st sh s t z r → r < m → r ≡ low (Names sv st sh x y z) m
  found_later differ from r S h = low_unique (Ends sv st sh s t z) m r S.to none S.hit ∙ sym low_ends
    where
      none : (e : ℕ) → e < r → T (not (Ends sv st sh s t z e))
      none e k = by_cases (dec_lt e from)
          (λ l. not_T (Ends sv st sh s t z e) (λ y. let q : e ≡ r = ends_one m sv st sh differ s t z e r (omega arith) h y (S.hit h) in absurd (omega arith)))
          (λ l. S.none e (omega arith) k)

  -- not found from `from` on, but before it
  pub found_before : (from r d : ℕ) → from ≤ m → Scanned from m sv st sh s t z r
      → m ≤ r → Scanned 0 from sv st sh s t z d → d < from → d ≡ low (Names sv st sh x y z) m
  found_before from r d l S h D k = low_unique (Ends sv st sh s t z) m d (omega arith) (λ e j. D.none e (omega arith) j) (λ j. D.hit k) ∙ sym low_ends

  pub found_not : (from r d : ℕ) → from ≤ m → Scanned from m sv st sh s t z r → m ≤ r
      → Scanned 0 from sv st sh s t z d → from ≤ d → m ≡ low (Names sv st sh x y z) m
  found_not from r d l S h D k = low_unique (Ends sv st sh s t z) m m (omega arith)
      (λ e j. by_cases (dec_lt e from) (λ i. D.none e (omega arith) (omega arith)) (λ i. S.none e (omega arith) (omega arith)))
      (λ j. absurd (omega arith)) ∙ sym low_ends

-- no number is 0
pub none_zero : (m : ℕ) (sv st sh : List ℕ) (x y z : ℕ) → x ≡ 0 → m ≡ low (Names sv st sh x y z) m
none_zero m sv st sh x y z q = low_unique (Names sv st sh x y z) m m (omega arith)
    (λ e j. not_T (Names sv st sh x y z e)
    (λ w. let i = eqb→eq (suc (at sv e)) x (and_l (eqb (suc (at sv e)) x) (eqb (suc (at st e)) y && eqb (at sh e) z) w) in absurd (omega arith)))
    (λ j. absurd (omega arith))

pub none_zero_2 : (m : ℕ) (sv st sh : List ℕ) (x y z : ℕ) → y ≡ 0 → m ≡ low (Names sv st sh x y z) m
none_zero_2 m sv st sh x y z q = low_unique (Names sv st sh x y z) m m (omega arith)
    (λ e j. not_T (Names sv st sh x y z e)
    (λ w. let k = and_r (eqb (suc (at sv e)) x) (eqb (suc (at st e)) y && eqb (at sh e) z) w in
    let i = eqb→eq (suc (at st e)) y (and_l (eqb (suc (at st e)) y) (eqb (at sh e) z) k) in absurd (omega arith)))
    (λ j. absurd (omega arith))

-- one edge more that is not it
pub none_next : (p : ℕ → Bool) (start e : ℕ) → ((d : ℕ) → start ≤ d → d < e → T (not (p d))) → p e ≡ false → (d : ℕ) → start ≤ d → d < e + 1 → T (not (p d))
none_next p start e h f d l k = by_cases (dec_lt d e) (λ j. h d l j) (λ j. let q : d ≡ e = omega arith in subst (λ z. T (not (p z))) (sym q) (false_t f))
