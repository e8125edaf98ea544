-- What the loops of the choice write, place by place: the low ranks, and then the high ranks of the entries that a plan's own edges raise.
use Rattle.std.specs.Prelude.{ℕ, ◌+◌, ◌*◌, ◌≤◌, ◌<◌, ◌≡◌, refl, ◌≢◌, Bool, true, false, not, cond, ◌&&◌, ◌||◌, List, [], ◌∷◌, length, set, take, eqb, Result}
use Rattle.std.proofs.Common.{arith, add-one, sym, ap, ap₂, ◌∙◌, subst, length-set, take-suc, get_or-set_same, get_or-set_other}
use Rattle.std.proofs.Math.Decide.{ℕ_discrete}
use Rattle.std.proofs.Math.Logic.{by_cases}
use Rattle.lists.specs.Test.{by-eq}
use Rattle.lists.specs.Keep.{any?, any_append}
use Rattle.model.specs.Limits.{entry_limit}
use Rattle.arrays.specs.ArrayInstance.{at}
use Rattle.theory_ranges.specs.RangesFile.{ranges_refusal}
use Rattle.std.specs.declared.result.Result.TheVariants.{Ok, Err}
use Rattle.answers.specs.declared.Refusal.{Refusal}
use Rattle.answers.specs.RefusalCases.{code_of}

-- ---- one element more in a list, and a test of some element
pub or_true : (x : Bool) → x || true ≡ true
or_true true = refl
or_true false = refl

pub or_yes : (x : Bool) → x || (true || false) ≡ true
or_yes x = or_true x

pub or_no : (x : Bool) → x || (false || false) ≡ x
or_no true = refl
or_no false = refl

-- n edges of an instance with m of them, listed
pub record EdgeList (m n : ℕ) (es : List ℕ) : Type 0 where
  pub all : m ≤ entry_limit
  pub few : n ≤ 64
  pub there : n ≤ length es
  pub below : (i : ℕ) → i < n → at es i < m

-- the low ranks of n ranges, and 0
pub record Lows (n : ℕ) (ranges o : List ℕ) : Type 0 where
  pub size : length o ≡ 2048
  pub low : (k : ℕ) → k < n → at o k ≡ at ranges (2 * k)
  pub behind : (k : ℕ) → n ≤ k → at o k ≡ 0

-- the low ranks that were read
abbrev pub lows_in : Result (List ℕ) Refusal → List ℕ
lows_in (Ok lows) = lows
lows_in (Err r) = []

-- a file of ranges read: the refusal that it meets, and the low ranks where it meets none
pub record ReadRanges (n : ℕ) (file : List ℕ) (r : Result (List ℕ) Refusal) : Type 0 where
  pub refusal : code_of r ≡ ranges_refusal n file
  pub lows : code_of r ≤ 0 → Lows n file (lows_in r)

pub lows_next : (ranges o : List ℕ) (n : ℕ) → n < 2048 → Lows n ranges o → Lows (n + 1) ranges (set o n (at ranges (2 * n)))
lows_next ranges o n l h = record {
  size = length-set o n (at ranges (2 * n)) ∙ h.size;
  low = λ k s. by_cases (ℕ_discrete k n)
      (λ q. ap (at (set o n (at ranges (2 * n)))) q ∙ get_or-set_same o n (at ranges (2 * n)) 0 (omega (arith, h.size)) ∙ ap (λ z. at ranges (2 * z)) (sym q))
      (λ d. get_or-set_other o n k (at ranges (2 * n)) 0 d ∙ h.low k (omega arith));
  behind = λ k s. let d : k ≢ n = (λ (q : k ≡ n). omega arith) in get_or-set_other o n k (at ranges (2 * n)) 0 d ∙ h.behind k (omega arith);
}

-- ---- the high rank at a place
abbrev pub with_high : ℕ → (ranges o : List ℕ) → List ℕ
with_high k ranges o = set o k (at ranges (2 * k + 1))

-- ---- the high ranks of the entries that some edges raise, where a and b are the places of an edge's entries
abbrev pub hits : (a b : ℕ → ℕ) (N : ℕ → Bool) → ℕ → ℕ → Bool
hits a b N k e = not (N e) && (eqb (a e) k || eqb (b e) k)

abbrev pub Raised : (a b : ℕ → ℕ) (N : ℕ → Bool) (es ranges low o : List ℕ) → Type 0
Raised a b N es ranges low o = (length o ≡ length low) × ((k : ℕ) → at o k ≡ cond (any? (hits a b N k) es) (at ranges (2 * k + 1)) (at low k))

module _ (a b : ℕ → ℕ) (N : ℕ → Bool) (ranges low : List ℕ) where
  -- one edge more: the list's next one
  more : (es : List ℕ) (i k : ℕ) → i < length es → any? (hits a b N k) (take (i + 1) es) ≡ any? (hits a b N k) (take i es) || (hits a b N k (at es i) || false)
  more es i k l =
      ap (any? (hits a b N k)) (ap (λ n. take n es) (add-one i) ∙ take-suc es i 0 l) ∙ any_append (hits a b N k) (take i es) (at es i ∷ [])

  -- it is in the other plan
  pub raised_shared : (es o : List ℕ) (i : ℕ) → i < length es → N (at es i) ≡ true → Raised a b N (take i es) ranges low o
      → Raised a b N (take (i + 1) es) ranges low o
  raised_shared es o i l t (s, h) = (
    s,
    λ k. h k ∙ ap (λ b. cond b (at ranges (2 * k + 1)) (at low k))
        (same (any? (hits a b N k) (take i es)) (eqb (a (at es i)) k || eqb (b (at es i)) k) ∙ sym (more es i k l)),
  )
    where
      same : (x y : Bool) → x ≡ x || ((not (N (at es i)) && y) || false)
      same true y = refl
      same false y = ap (λ z. (not z && y) || false) (sym t)

  pub raised_own : (es o : List ℕ) (i : ℕ) → i < length es → N (at es i) ≡ false → a (at es i) < length o → b (at es i) < length o
      → Raised a b N (take i es) ranges low o
      → Raised a b N (take (i + 1) es) ranges low (with_high (b (at es i)) ranges (with_high (a (at es i)) ranges o))
  raised_own es o i l n sl tl (z, h) = (
    length-set o₁ t (at ranges (2 * t + 1)) ∙ length-set o s (at ranges (2 * s + 1)) ∙ z,
    λ k. written k ∙ ap (λ b. cond b (at ranges (2 * k + 1)) (at low k)) (sym (more es i k l)),
  )
    where
      s : ℕ
      s = a (at es i)

      t : ℕ
      t = b (at es i)

      o₁ : List ℕ
      o₁ = set o (a (at es i)) (at ranges (2 * a (at es i) + 1))

      o₂ : List ℕ
      o₂ = set o₁ (b (at es i)) (at ranges (2 * b (at es i) + 1))

      test : (k : ℕ) → hits a b N k (at es i) ≡ eqb (a (at es i)) k || eqb (b (at es i)) k
      test k = ap (λ x. not x && (eqb (a (at es i)) k || eqb (b (at es i)) k)) n

      goal : ℕ → Bool → Type 0
      goal k x = at o₂ k ≡ cond (any? (hits a b N k) (take i es) || (x || false)) (at ranges (2 * k + 1)) (at low k)

      hit : (k : ℕ) → at o₂ k ≡ at ranges (2 * k + 1) → goal k true
      hit k e = e ∙ ap (λ b. cond b (at ranges (2 * k + 1)) (at low k)) (sym (or_yes (any? (hits a b N k) (take i es))))

      written : (k : ℕ) → goal k (hits a b N k (at es i))
      written k = subst (goal k) (sym (test k)) (by-eq (b (at es i)) k
          (λ e q. subst (goal k) (sym (ap (λ x. eqb (a (at es i)) k || x) q ∙ or_true (eqb (a (at es i)) k)))
          (hit k (ap (at o₂) (sym e) ∙ get_or-set_same o₁ t (at ranges (2 * t + 1)) 0 (omega (arith, length-set o s (at ranges (2 * s + 1)))) ∙ ap
          (λ j. at ranges (2 * j + 1)) e)))
          (λ d q. by-eq (a (at es i)) k
          (λ e p. subst (goal k) (sym (ap₂ (λ x y. x || y) p q))
          (hit k (get_or-set_other o₁ t k (at ranges (2 * t + 1)) 0 (λ x. d (sym x)) ∙ ap (at o₁) (sym e) ∙ get_or-set_same o s (at ranges (2 * s + 1)) 0 sl
          ∙ ap (λ j. at ranges (2 * j + 1)) e)))
          (λ c p. subst (goal k) (sym (ap₂ (λ x y. x || y) p q))
          (get_or-set_other o₁ t k (at ranges (2 * t + 1)) 0 (λ x. d (sym x)) ∙ get_or-set_other o s k (at ranges (2 * s + 1)) 0 (λ x. c (sym x)) ∙ h k
          ∙ ap (λ b. cond b (at ranges (2 * k + 1)) (at low k)) (sym (or_no (any? (hits a b N k) (take i es))))))))
