-- The days of W-209, entry by entry: with at most D entries at each end, days 0, .., D - 1 are enough.
use Prim.Native.Nat.{ℕ, zero, suc, ◌≤◌, ◌<◌}
use native.Mathlib.Omega.{arith}
use Rattle.std.proofs.Common.{sym, T_not, eqb→eq}
use Rattle.std.proofs.Math.Decide.{dec_lt}
use Rattle.std.specs.Prelude.{◌≡◌, ◌≢◌, Bool, cond, ◌&&◌}
use Rattle.std.proofs.Math.Path.{subst}
use Rattle.std.proofs.Math.Logic.{by_cases}
use Rattle.std.proofs.Math.Bool.{true, not}
use Rattle.std.proofs.Math.Dec.{T, eqb}
use Rattle.lists.specs.Test.{by-test, and_l, and_r, and_i, eq→eqb, eqb_yes, bit, pk, bit_yes}
use Rattle.lists.specs.Search.{low, low_is}
use Rattle.lists.specs.Sum.{sum, sum_mem, sum_mono, sum_length, up_to, up_to_<, up_to_∈, up_to_length, count}
use Rattle.lists.specs.Keep.{any?, any_∈, none_∈}
use Rattle.lists.specs.Occur.{sum_by}
use Rattle.theory_days.specs.Chain.{set_day, changes, chase}

-- an entry below k at v is on day d
abbrev pub taken : (ℕ → ℕ) → (ℕ → ℕ) → (k v d : ℕ) → Bool
taken end c k v d = any? (λ j. eqb (end j) v && eqb (c j) d) (up_to k)

-- the first day below B that is free at v; B is at least as large as the number of days that are needed, and which B it is makes no difference
unfoldable pub free_day : (ℕ → ℕ) → (ℕ → ℕ) → (k v B : ℕ) → ℕ
free_day end c k v B = low (λ d. not (taken end c k v d)) B

-- on a day that is not taken at v there is no entry
pub free_of : (end c : ℕ → ℕ) (k v d : ℕ) → T (not (taken end c k v d)) → (j : ℕ) → j < k → end j ≡ v → c j ≢ d
free_of end c k v d t j l e q = T_not (eqb (end j) v && eqb (c j) d) (none_∈ (λ j. eqb (end j) v && eqb (c j) d) (up_to k) t j (up_to_∈ k j l))
    (and_i (eqb (end j) v) (eqb (c j) d) (eq→eqb (end j) v e) (eq→eqb (c j) d q))

module _ (end c : ℕ → ℕ) (k v D B : ℕ) (room : D ≤ B) (few : count (λ j. eqb (end j) v) k < D) (days : (j : ℕ) → j < k → c j < D) where
  -- if every day were taken, v would have D entries
  pub free_in_law : free_day end c k v B < D
  unfolding free_day count
  free_in_law = by_cases (dec_lt (low (λ d. not (taken end c k v d)) B) D) (λ h. h) (λ n. absurd (omega (
    arith,
    sum_by D c (λ j. bit (eqb (end j) v)) (up_to k) (λ j m. days j (up_to_< k m)),
    sum_mono (λ d. 1) (λ d. sum (λ j. pk (eqb (c j) d) (bit (eqb (end j) v))) (up_to k)) (up_to D) (λ d m. one d (up_to_< D m) n),
    sum_length (up_to D),
    up_to_length D,
  )))
    where
      hit : (d j : ℕ) → T (eqb (end j) v && eqb (c j) d) → 1 ≤ pk (eqb (c j) d) (bit (eqb (end j) v))
      hit d j t = subst (λ z. 1 ≤ pk z (bit (eqb (end j) v))) (sym (eqb_yes (c j) d (eqb→eq (c j) d (and_r (eqb (end j) v) (eqb (c j) d) t))))
          (omega (arith, bit_yes (eqb (end j) v) (and_l (eqb (end j) v) (eqb (c j) d) t)))

      one : (d : ℕ) → d < D → ¬ (low (λ d. not (taken end c k v d)) B < D) → 1 ≤ sum (λ j. pk (eqb (c j) d) (bit (eqb (end j) v))) (up_to k)
      one d l n = by-test (taken end c k v d)
          (λ t. let (j, m, h) = any_∈ (λ j. eqb (end j) v && eqb (c j) d) (up_to k) t in omega
          (arith, hit d j h, sum_mem (λ j. pk (eqb (c j) d) (bit (eqb (end j) v))) m))
          (λ t. absurd (T_not (not (taken end c k v d)) ((low_is (λ d. not (taken end c k v d)) B).1 d
          (omega (arith, (low_is (λ d. not (taken end c k v d)) B).0))) t))

  pub free_at_law : T (not (taken end c k v (free_day end c k v B)))
  unfolding free_day
  free_at_law = (low_is (λ d. not (taken end c k v d)) B).2 (omega (arith, free_in_law))

  pub free_is : (j : ℕ) → j < k → end j ≡ v → c j ≢ free_day end c k v B
  free_is j l e q = free_of end c k v (free_day end c k v B) free_at_law j l e q

module _ (sv st : ℕ → ℕ) (B : ℕ) where
  -- one entry more: the first day free at its stand, if it is free at its surveyor too; else a day free at the surveyor, mended at the stand
  unfoldable pub with_day : ℕ → (ℕ → ℕ) → ℕ → ℕ
  with_day k c = cond (not (taken sv c k (sv k) (free_day st c k (st k) B))) (set_day c k (free_day st c k (st k) B))
      (chase sv st (free_day sv c k (sv k) B) (free_day st c k (st k) B) (suc k) (changes (suc k)) true k (set_day c k (free_day sv c k (sv k) B)))

  -- the days when k entries have one, given entry by entry
  unfoldable pub spread : ℕ → ℕ → ℕ
  spread zero = λ j. 0
  spread (suc k) = with_day k (spread k)
