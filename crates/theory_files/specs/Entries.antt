-- What the checks of a roster's lists let pass: quotas within their limits, entries without repeats, ties that ascend.
use Rattle.std.specs.Prelude.{ℕ, zero, suc, ◌+◌, ◌≤◌, ◌≡◌, refl, Bool, true, false, not, cond, ◌&&◌, ◌||◌, List, [], ◌∷◌, ◌++◌, T, eqb, leb, ltb}
use Rattle.std.proofs.Common.{arith, sym, ap, ap₂, ◌∙◌, subst, append_assoc, append-nil, leb→le, le→leb, nltb→le}
use Rattle.std.proofs.Math.Arith.{le→nltb}
use Rattle.lists.specs.Test.{given, and_l, and_r, and_i, nor_l, nor_r, nor_i, eqb_no, eqb_sym, false_t}
use Rattle.lists.specs.Sum.{sum}
use Rattle.lists.specs.Keep.{all?, any_append}
use Rattle.model.specs.Limits.{quota_limit, quota_sum_limit, shift_limit}
use Rattle.model.specs.Roster.{Entry, same, has, before, outside, entry_fits, distinct, ascending}
use Rattle.model.specs.RosterFile.{quota_check, entry_refusal, entry_check, Tie, tied_check}
use Rattle.theory_files.specs.Reads.{Passes}

-- a check that refuses by n where a test says so, and goes on with r
pub cond_zero : (b : Bool) (n : ℕ) {r : ℕ} → cond b (suc n) r ≡ 0 → T (not b) × (r ≡ 0)
cond_zero true n e = absurd (omega arith)
cond_zero false n e = (tt, e)

pub zero_cond : (b : Bool) (n : ℕ) {r : ℕ} → T (not b) → r ≡ 0 → cond b (suc n) r ≡ 0
zero_cond true n t e = absurd t
zero_cond false n t e = e

-- a check that goes on where a test says so, and else refuses by n
cond_first : (b : Bool) (n : ℕ) → cond b 0 (suc n) ≡ 0 → T b
cond_first true n e = tt
cond_first false n e = absurd (omega arith)

first_cond : (b : Bool) (n : ℕ) → T b → cond b 0 (suc n) ≡ 0
first_cond true n t = refl
first_cond false n t = absurd t

same_sym : (x y : Entry) → same x y ≡ same y x
same_sym x y = ap₂ ◌&&◌ (eqb_sym x.number y.number) (eqb_sym x.shift y.shift)

-- ---- none of the entries is among those before it, as a reader meets them
abbrev pub fresh : List Entry → List Entry → Bool
fresh seen [] = true
fresh seen (x ∷ xs) = not (has x seen) && fresh (seen ++ x ∷ []) xs

-- none of the second list is in the first
abbrev pub apart : List Entry → List Entry → Bool
apart seen xs = all? (λ x. not (has x seen)) xs

has_snoc : (y : Entry) (seen : List Entry) (x : Entry) → has y (seen ++ x ∷ []) ≡ has y seen || (same y x || false)
has_snoc y seen x = any_append (same y) seen (x ∷ [])

apart_snoc : (seen : List Entry) (x : Entry) (xs : List Entry) → T (apart (seen ++ x ∷ []) xs) → T (apart seen xs) × T (not (has x xs))
apart_snoc seen x [] t = (tt, tt)
apart_snoc seen x (y ∷ ys) t =
    let h = and_l (not (has y (seen ++ x ∷ []))) (apart (seen ++ x ∷ []) ys) t in
    let k = subst (λ b. T (not b)) (has_snoc y seen x) h in
    let (a, b) = apart_snoc seen x ys (and_r (not (has y (seen ++ x ∷ []))) (apart (seen ++ x ∷ []) ys) t) in
    let n : T (not (same x y)) = subst (λ b. T (not b)) (same_sym y x) (nor_l (same y x) false (nor_r (has y seen) (same y x || false) k)) in
    (and_i (not (has y seen)) (apart seen ys) (nor_l (has y seen) (same y x || false) k) a, nor_i (same x y) (has x ys) n b)

snoc_apart : (seen : List Entry) (x : Entry) (xs : List Entry) → T (apart seen xs) → T (not (has x xs)) → T (apart (seen ++ x ∷ []) xs)
snoc_apart seen x [] t n = tt
snoc_apart seen x (y ∷ ys) t n =
    let k : T (not (same y x)) = subst (λ b. T (not b)) (same_sym x y) (nor_l (same x y) (has x ys) n) in
    let h = nor_i (has y seen) (same y x || false) (and_l (not (has y seen)) (apart seen ys) t) (nor_i (same y x) false k tt) in
    and_i (not (has y (seen ++ x ∷ []))) (apart (seen ++ x ∷ []) ys) (subst (λ b. T (not b)) (sym (has_snoc y seen x)) h)
    (snoc_apart seen x ys (and_r (not (has y seen)) (apart seen ys) t) (nor_r (same x y) (has x ys) n))

fresh→ : (seen xs : List Entry) → T (fresh seen xs) → T (apart seen xs) × T (distinct xs)
fresh→ seen [] t = (tt, tt)
fresh→ seen (x ∷ xs) t =
    let h = and_l (not (has x seen)) (fresh (seen ++ x ∷ []) xs) t in
    let (a, d) = fresh→ (seen ++ x ∷ []) xs (and_r (not (has x seen)) (fresh (seen ++ x ∷ []) xs) t) in
    let (b, n) = apart_snoc seen x xs a in
    (and_i (not (has x seen)) (apart seen xs) h b, and_i (not (has x xs)) (distinct xs) n d)

→fresh : (seen xs : List Entry) → T (apart seen xs) → T (distinct xs) → T (fresh seen xs)
→fresh seen [] a d = tt
→fresh seen (x ∷ xs) a d = and_i (not (has x seen)) (fresh (seen ++ x ∷ []) xs) (and_l (not (has x seen)) (apart seen xs) a)
    (→fresh (seen ++ x ∷ []) xs (snoc_apart seen x xs (and_r (not (has x seen)) (apart seen xs) a) (and_l (not (has x xs)) (distinct xs) d))
    (and_r (not (has x xs)) (distinct xs) d))

apart_none : (xs : List Entry) → T (apart [] xs)
apart_none [] = tt
apart_none (x ∷ xs) = apart_none xs

pub fresh_distinct : (xs : List Entry) → T (fresh [] xs) → T (distinct xs)
fresh_distinct xs t = (fresh→ [] xs t).1

pub distinct_fresh : (xs : List Entry) → T (distinct xs) → T (fresh [] xs)
distinct_fresh xs d = →fresh [] xs (apart_none xs) d

-- the two parts of a stand's list, read one after the other
pub fresh_append : (seen xs ys : List Entry) → fresh seen (xs ++ ys) ≡ fresh seen xs && fresh (seen ++ xs) ys
fresh_append seen [] ys = ap (λ z. fresh z ys) (sym (append-nil seen))
fresh_append seen (x ∷ xs) ys = go (not (has x seen)) (fresh_append (seen ++ x ∷ []) xs ys
    ∙ ap (λ z. fresh (seen ++ x ∷ []) xs && fresh z ys) (append_assoc seen (x ∷ []) xs))
  where
    go : (b : Bool) → fresh (seen ++ x ∷ []) (xs ++ ys) ≡ fresh (seen ++ x ∷ []) xs && fresh (seen ++ x ∷ xs) ys
        → b && fresh (seen ++ x ∷ []) (xs ++ ys) ≡ (b && fresh (seen ++ x ∷ []) xs) && fresh (seen ++ x ∷ xs) ys
    go true e = e
    go false e = refl

-- and none of the second part in the first
pub distinct_append : (xs ys : List Entry) → T (distinct xs) → T (distinct ys) → T (apart xs ys) → T (distinct (xs ++ ys))
distinct_append xs ys d e a = fresh_distinct (xs ++ ys)
    (subst T (sym (fresh_append [] xs ys)) (and_i (fresh [] xs) (fresh xs ys) (distinct_fresh xs d) (→fresh xs ys a e)))

-- every number and shift of a list is in range
abbrev pub in_range : ℕ → List Entry → Bool
in_range other xs = all? (entry_fits other) xs

-- what is in range
pub in_range_law : (count : ℕ) (x : Entry) → T (entry_fits count x) → (1 ≤ x.number) × (x.number ≤ count) × (1 ≤ x.shift) × (x.shift ≤ shift_limit)
in_range_law count x t =
    given (and_l (not (outside count x.number)) (not (outside shift_limit x.shift)) t) (λ a.
    given (and_r (not (outside count x.number)) (not (outside shift_limit x.shift)) t) (λ b. (
      above x.number (nor_l (eqb x.number 0) (ltb count x.number) a),
      nltb→le count x.number (nor_r (eqb x.number 0) (ltb count x.number) a),
      above x.shift (nor_l (eqb x.shift 0) (ltb shift_limit x.shift) b),
      nltb→le shift_limit x.shift (nor_r (eqb x.shift 0) (ltb shift_limit x.shift) b),
    )))
  where
    above : (n : ℕ) → T (not (eqb n 0)) → 1 ≤ n
    above zero t = absurd t
    above (suc n) t = omega arith

-- a number from 1 to the count, with a shift from 1 to 3, is in range
pub range_in : (count : ℕ) (x : Entry) → 1 ≤ x.number → x.number ≤ count → 1 ≤ x.shift → x.shift ≤ shift_limit → T (entry_fits count x)
range_in count x a b c d = and_i (not (outside count x.number)) (not (outside shift_limit x.shift))
    (inside count x.number a b) (inside shift_limit x.shift c d)
  where
    inside : (count n : ℕ) → 1 ≤ n → n ≤ count → T (not (outside count n))
    inside count n a b = nor_i (eqb n 0) (ltb count n) (false_t (eqb_no n 0 (λ (e : n ≡ 0). omega arith))) (le→nltb count n b)

-- ---- quotas
-- no quota is above 8
abbrev pub small : List ℕ → Bool
small qs = all? (λ q. leb q quota_limit) qs

abbrev QuotasPass : ℕ → List ℕ → Type 0
QuotasPass so qs = Passes quota_check (λ so q. so + q) so qs

pub quotas→ : (so : ℕ) (qs : List ℕ) → so ≤ quota_sum_limit → QuotasPass so qs → T (small qs) × (so + sum (λ q. q) qs ≤ quota_sum_limit)
quotas→ so [] h p = (tt, omega arith)
quotas→ so (q ∷ qs) h p =
    given (cond_zero (ltb quota_limit q || ltb quota_sum_limit (so + q)) 2 p.0) (λ (t, z).
    given (nltb→le quota_sum_limit (so + q) (nor_r (ltb quota_limit q) (ltb quota_sum_limit (so + q)) t)) (λ s.
    given (quotas→ (so + q) qs s p.1) (λ (a, k). (
      and_i (leb q quota_limit) (small qs) (le→leb q quota_limit (nltb→le quota_limit q (nor_l (ltb quota_limit q) (ltb quota_sum_limit (so + q)) t))) a,
      omega arith,
    ))))

pub →quotas : (so : ℕ) (qs : List ℕ) → T (small qs) → so + sum (λ q. q) qs ≤ quota_sum_limit → QuotasPass so qs
→quotas so [] a k = tt
→quotas so (q ∷ qs) a k = (
  zero_cond (ltb quota_limit q || ltb quota_sum_limit (so + q)) 2
      (nor_i (ltb quota_limit q) (ltb quota_sum_limit (so + q)) (le→nltb quota_limit q (leb→le q quota_limit (and_l (leb q quota_limit) (small qs) a)))
      (le→nltb quota_sum_limit (so + q) (omega arith))) refl,
  →quotas (so + q) qs (and_r (leb q quota_limit) (small qs) a) (omega arith),
)

-- ---- entries
refusal→ : (other : ℕ) (x : Entry) (n : ℕ) → entry_refusal other x n ≡ 0 → T (entry_fits other x) × (n ≡ 0)
refusal→ other x n e =
    given (cond_zero (outside other x.number) 3 e) (λ (o, h).
    given (cond_zero (outside shift_limit x.shift) 17 h) (λ (k, z).
    (and_i (not (outside other x.number)) (not (outside shift_limit x.shift)) o k, z)))

→refusal : (other : ℕ) (x : Entry) (n : ℕ) → T (entry_fits other x) → n ≡ 0 → entry_refusal other x n ≡ 0
→refusal other x n t e = zero_cond (outside other x.number) 3 (and_l (not (outside other x.number)) (not (outside shift_limit x.shift)) t)
    (zero_cond (outside shift_limit x.shift) 17 (and_r (not (outside other x.number)) (not (outside shift_limit x.shift)) t) e)

abbrev EntriesPass : ℕ → List Entry → List Entry → Type 0
EntriesPass other seen xs = Passes (entry_check other) (λ seen x. seen ++ x ∷ []) seen xs

pub entries→ : (other : ℕ) (seen xs : List Entry) → EntriesPass other seen xs → T (in_range other xs) × T (fresh seen xs)
entries→ other seen [] p = (tt, tt)
entries→ other seen (x ∷ xs) p =
    given (refusal→ other x (cond (has x seen) 5 0) p.0) (λ (o, h).
    given (cond_zero (has x seen) 4 h) (λ (d, z).
    given (entries→ other (seen ++ x ∷ []) xs p.1) (λ (r, f).
    (and_i (entry_fits other x) (in_range other xs) o r, and_i (not (has x seen)) (fresh (seen ++ x ∷ []) xs) d f))))

pub →entries : (other : ℕ) (seen xs : List Entry) → T (in_range other xs) → T (fresh seen xs) → EntriesPass other seen xs
→entries other seen [] r f = tt
→entries other seen (x ∷ xs) r f = (
  →refusal other x (cond (has x seen) 5 0) (and_l (entry_fits other x) (in_range other xs) r)
      (zero_cond (has x seen) 4 (and_l (not (has x seen)) (fresh (seen ++ x ∷ []) xs) f) refl),
  →entries other (seen ++ x ∷ []) xs (and_r (entry_fits other x) (in_range other xs) r) (and_r (not (has x seen)) (fresh (seen ++ x ∷ []) xs) f),
)

-- ---- ties
abbrev TiedPass : ℕ → Tie → List Entry → Type 0
TiedPass other s xs = Passes (tied_check other) (λ s x. record { seen = s.seen ++ x ∷ []; last = x }) s xs

pub tied→ : (other : ℕ) (s : Tie) (xs : List Entry) → TiedPass other s xs → T (in_range other xs) × T (fresh s.seen xs) × T (ascending s.last xs)
tied→ other s [] p = (tt, tt, tt)
tied→ other s (x ∷ xs) p =
    given (refusal→ other x (cond (has x s.seen) 5 (cond (before s.last x) 0 6)) p.0) (λ (o, h).
    given (cond_zero (has x s.seen) 4 h) (λ (d, k).
    given (tied→ other (record { seen = s.seen ++ x ∷ []; last = x }) xs p.1) (λ (r, f, u). (
      and_i (entry_fits other x) (in_range other xs) o r,
      and_i (not (has x s.seen)) (fresh (s.seen ++ x ∷ []) xs) d f,
      and_i (before s.last x) (ascending x xs) (cond_first (before s.last x) 5 k) u,
    ))))

pub →tied : (other : ℕ) (s : Tie) (xs : List Entry) → T (in_range other xs) → T (fresh s.seen xs) → T (ascending s.last xs) → TiedPass other s xs
→tied other s [] r f u = tt
→tied other s (x ∷ xs) r f u = (
  →refusal other x (cond (has x s.seen) 5 (cond (before s.last x) 0 6)) (and_l (entry_fits other x) (in_range other xs) r)
      (zero_cond (has x s.seen) 4 (and_l (not (has x s.seen)) (fresh (s.seen ++ x ∷ []) xs) f)
      (first_cond (before s.last x) 5 (and_l (before s.last x) (ascending x xs) u))),
  →tied other (record { seen = s.seen ++ x ∷ []; last = x }) xs (and_r (entry_fits other x) (in_range other xs) r)
      (and_r (not (has x s.seen)) (fresh (s.seen ++ x ∷ []) xs) f) (and_r (before s.last x) (ascending x xs) u),
)
