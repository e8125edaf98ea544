-- A plan file read pair by pair: what one more pair makes of the reading of those that are left.
use Prim.Native.Nat.{ℕ, zero, suc, ◌≤◌, ◌<◌}
use Rattle.std.specs.Prelude.{◌≡◌, cond}
use Rattle.std.proofs.Math.Path.{refl, ap}
use Rattle.std.proofs.Common.{sym, ◌∙◌, lt-ltb, le-ltb}
use mathlib.Core.List.{List, [], ◌∷◌, ◌++◌, append-nil}
use Rattle.std.proofs.Math.Seq.{append_snoc}
use Rattle.model.specs.Limits.{plan_limit}
use Rattle.model.specs.Reading.{Reading, accepted, refused, ◌then◌, refuse_by, read_each, whole}
use Rattle.model.specs.Instance.{Instance}
use Rattle.model.specs.PlanFile.{Named, PairLayout, Pairs, pair_check, with_pair, read_pairs_by, plan_of_pairs, read_plan_by}
use Rattle.model.specs.Plans.{Plan}

-- no pair read yet
abbrev pub no_pairs : Pairs
no_pairs = record { seen = []; from = 0 }

module _ (L : PairLayout) (G : Instance) where
  abbrev finish : List Named → List Named → List ℕ → Reading (Plan × List ℕ)
  finish ps xs rest = accepted (plan_of_pairs G (ps ++ xs), rest)

  -- n pairs are left, after the pairs ps
  abbrev pub pairs_left : ℕ → Pairs → List ℕ → List Named → Reading (Plan × List ℕ)
  pairs_left n s bs ps = read_each L.field (pair_check G) (with_pair G) n s bs then finish ps

  -- a plan file without any byte meets 1
  pub plan_empty : read_plan_by L G [] ≡ refused 1
  unfolding read_plan_by
  plan_empty = refl

  -- a count above 64 meets 2
  pub plan_long : (n : ℕ) (bs : List ℕ) → plan_limit < n → read_plan_by L G (n ∷ bs) ≡ refused 2
  unfolding read_plan_by
  plan_long n bs h = ap (λ b. whole (cond b (refused 2) (accepted (n, bs)) then read_pairs_by L G then finish [])) (lt-ltb plan_limit n h)

  -- behind a count of at most 64 so many pairs are left, and then the file must end
  pub plan_starts : (n : ℕ) (bs : List ℕ) → n ≤ plan_limit → read_plan_by L G (n ∷ bs) ≡ whole (pairs_left n no_pairs bs [])
  unfolding read_plan_by
  plan_starts n bs h = ap (λ b. whole (cond b (refused 2) (accepted (n, bs)) then read_pairs_by L G then finish [])) (le-ltb plan_limit n h)

  abbrev onward : ℕ → Pairs → Named → List ℕ → Reading (List Named × List ℕ)
  onward n s p rest = refuse_by (pair_check G s p)
      (read_each L.field (pair_check G) (with_pair G) n (with_pair G s p) rest then (λ xs rest. accepted (p ∷ xs, rest)))

  -- the field is cut short
  pub left_cut : (n : ℕ) (s : Pairs) (bs : List ℕ) (ps : List Named) → L.field bs ≡ refused 1 → pairs_left (suc n) s bs ps ≡ refused 1
  unfolding read_each
  left_cut n s bs ps e = ap (λ r. r then onward n s then finish ps) e

  -- the field is the pair p
  pub left_pair : (n : ℕ) (s : Pairs) (p : Named) (bs rest : List ℕ) (ps : List Named) → L.field bs ≡ accepted (p, rest)
      → pairs_left (suc n) s bs ps ≡ refuse_by (pair_check G s p) (pairs_left n (with_pair G s p) rest (ps ++ p ∷ []))
  unfolding read_each
  left_pair n s p bs rest ps e = ap (λ r. r then onward n s then finish ps) e
      ∙ out (pair_check G s p) (read_each L.field (pair_check G) (with_pair G) n (with_pair G s p) rest)
    where
      out : (c : ℕ) (r : Reading (List Named × List ℕ))
          → (refuse_by c (r then (λ xs rest. accepted (p ∷ xs, rest))) then finish ps) ≡ refuse_by c (r then finish (ps ++ p ∷ []))
      out zero (accepted (xs, rest)) = ap (λ z. accepted (plan_of_pairs G z, rest)) (sym (append_snoc ps p xs))
      out zero (refused k) = refl
      out (suc c) r = refl

  -- with no pair left, those read are the plan, and the other bytes stand behind it
  pub left_none : (s : Pairs) (bs : List ℕ) (ps : List Named) → pairs_left zero s bs ps ≡ accepted (plan_of_pairs G ps, bs)
  unfolding read_each
  left_none s bs ps = ap (λ z. accepted (plan_of_pairs G z, bs)) (append-nil ps)
