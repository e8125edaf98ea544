-- The pairs of a plan file by the places of their bytes, and the same plan in the other layout.
use Prim.Native.Nat.{ℕ, zero, suc, ◌+◌, ◌-◌, ◌*◌, ◌≤◌, ◌<◌}
use native.Mathlib.Omega.{arith}
use Rattle.std.proofs.Common.{mul-le-mul_left, not-suc-le-zero, sym, ap, ap₂, ◌∙◌, append_assoc, append-nil, length-append}
use Rattle.std.specs.Prelude.{◌≡◌, refl, Bool, true, false, not, cond, List, [], ◌∷◌, ◌++◌, length, drop, set, eqb, Result}
use Rattle.lists.specs.Keep.{all?, gather}
use Rattle.model.specs.Limits.{plan_limit, plan_size}
use Rattle.model.specs.Reading.{Reading, accepted, refused}
use Rattle.model.specs.PlanFile.{Named}
use Rattle.model_desk.specs.Desk as model
use Rattle.model_desk.specs.Desk.{said, wrote, onto, converted_answer, converted_onto}
use Rattle.std.specs.declared.result.Result.TheVariants.{Ok, Err}
use Rattle.answers.specs.declared.Refusal.{Refusal}
use Rattle.answers.specs.declared.Refusal.TheVariants.{OtherShift}
use Rattle.answers.specs.WrittenCases.{written_shown}
use Rattle.pair_bytes.specs.declared.Pair.{Pair}
use Rattle.pair_bytes.specs.PairAt.{pair_layout, width_of, named_of, named_at, put_by, put_behind}

-- n pairs from a place on
unfoldable pub pairs_from : (shifts : Bool) → List ℕ → (n at : ℕ) → List Named
pairs_from shifts f zero at = []
pairs_from shifts f (suc n) at = named_at shifts f at ∷ pairs_from shifts f n (at + width_of shifts)

abbrev pub first_pair : Named → Bool
first_pair p = eqb p.shift 1

-- their bytes in the other layout, behind their count
abbrev pub other_pairs : (shifts : Bool) → List Named → List ℕ
other_pairs shifts ps = gather (pair_layout (not shifts)).bytes ps

abbrev pub other_plan : (shifts : Bool) → List ℕ → (n : ℕ) → List ℕ
other_plan shifts f n = n ∷ other_pairs shifts (pairs_from shifts f n 1)

-- "It refuses, on the way back, a valid file with another shift (19, ..)"
abbrev pub pairs_turned : (shifts : Bool) → List ℕ → (n : ℕ) → Reading (List ℕ)
pairs_turned shifts f n = cond (all? first_pair (pairs_from shifts f n 1)) (accepted (other_plan shifts f n)) (refused 19)

pub record PairsTurned (shifts : Bool) (f : List ℕ) (n : ℕ) (o : List ℕ) (r : Result ℕ Refusal) (o' : List ℕ) : Type 0 where
  pub answer : written_shown r ≡ converted_answer (pairs_turned shifts f n)
  pub lent : o' ≡ converted_onto (pairs_turned shifts f n) o

-- ---- one turn of a loop over them
module _ (shifts : Bool) (f : List ℕ) (n k at : ℕ) where
  pub pairs_turn : k < n → pairs_from shifts f (n - k) at ≡ named_at shifts f at ∷ pairs_from shifts f (n - (k + 1)) (at + width_of shifts)
  unfolding pairs_from
  pairs_turn h = let m : n - k ≡ suc (n - (k + 1)) = omega arith in rw m

  pub pairs_done : n ≤ k → pairs_from shifts f (n - k) at ≡ []
  unfolding pairs_from
  pairs_done h = let m : n - k ≡ 0 = omega arith in rw m

-- a pair's place and the pairs before it; there is room for it
pub next_place : (w k at : ℕ) → at ≡ w * k + 1 → at + w ≡ w * (k + 1) + 1
next_place w k at e = omega arith

pub pair_room : (w n k at : ℕ) → k < n → at ≡ w * k + 1 → at + w ≤ w * n + 1
pair_room w n k at h e = let l : k + 1 ≤ n = omega arith in omega (arith, mul-le-mul_left w l)

pub plan_room : (shifts : Bool) (n : ℕ) → n ≤ plan_limit → width_of shifts * n + 1 ≤ plan_size
plan_room true n h = omega arith
plan_room false n h = omega arith

-- ---- a loop that writes: the buffer's front is written up to a place, and with the pairs that are left it is the whole
pair_wide : (shifts : Bool) (p : Named) → length ((pair_layout shifts).bytes p) ≡ width_of shifts
pair_wide true p = refl
pair_wide false p = refl

pub record Writing (shifts : Bool) (f : List ℕ) (n k at to : ℕ) (before after : List ℕ) : Type 0 where
  pub front : List ℕ
  pub long : length front ≡ to
  pub here : after ≡ front ++ drop to before
  pub is : front ++ other_pairs shifts (pairs_from shifts f (n - k) at) ≡ other_plan shifts f n

module _ (shifts : Bool) (f : List ℕ) (n : ℕ) where
  -- the count byte is stored before the loop
  pub writing_starts : (o : List ℕ) → 0 < length o → Writing shifts f n 0 1 1 (set o 0 n) (set o 0 n)
  writing_starts o h = record {
    front = n ∷ [];
    long = refl;
    here = stored o h;
    is = let m : n - 0 ≡ n = omega arith in ap (λ j. n ∷ other_pairs shifts (pairs_from shifts f j 1)) m;
  }
    where
      stored : (o : List ℕ) → 0 < length o → set o 0 n ≡ n ∷ drop 1 (set o 0 n)
      stored [] h = absurd (not-suc-le-zero h)
      stored (x ∷ o) h = refl

  module _ (k at to : ℕ) (o : List ℕ) where
    -- a pair more, with the widths and the buffer as the code has them
    pub writing_on : {after after' : List ℕ} {w v : ℕ} (p : Pair) → k < n → w ≡ width_of shifts → v ≡ width_of (not shifts) → named_of p ≡ named_at shifts f at
        → to + width_of (not shifts) ≤ length o → after' ≡ put_by (not shifts) after to p → Writing shifts f n k at to o after
        → Writing shifts f n (k + 1) (at + w) (to + v) o after'
    writing_on {after} {after'} {w} {v} p h dw dv e room q X = record {
      front = X.front ++ bytes;
      long = length-append X.front bytes ∙ ap₂ (λ x y. x + y) X.long (pair_wide (not shifts) (named_of p) ∙ sym dv);
      here = q ∙ ap (λ z. put_by (not shifts) z to p) X.here ∙ put_behind (not shifts) X.front o to p X.long room
          ∙ ap (λ z. (X.front ++ bytes) ++ drop (to + z) o) (sym dv);
      is = append_assoc X.front bytes (rest w)
          ∙ ap (λ z. X.front ++ (bytes ++ rest z)) dw
          ∙ ap (λ q. X.front ++ ((pair_layout (not shifts)).bytes q ++ rest (width_of shifts))) e
          ∙ ap (λ ps. X.front ++ other_pairs shifts ps) (sym (pairs_turn shifts f n k at h)) ∙ X.is;
    }
      where
        bytes : List ℕ
        bytes = (pair_layout (not shifts)).bytes (named_of p)

        rest : ℕ → List ℕ
        rest w = other_pairs shifts (pairs_from shifts f (n - (k + 1)) (at + w))

    pub writing_ends : {after : List ℕ} → n ≤ k → Writing shifts f n k at to (set o 0 n) after
        → (to ≡ length (other_plan shifts f n)) × (after ≡ onto (other_plan shifts f n) o)
    writing_ends h X =
        let e : X.front ≡ other_plan shifts f n =
        sym (append-nil X.front) ∙ ap (λ ps. X.front ++ other_pairs shifts ps) (sym (pairs_done shifts f n k at h)) ∙ X.is in
        let l : to ≡ length (other_plan shifts f n) = sym X.long ∙ ap length e in (
          l,
          X.here ∙ ap₂ (λ x y. x ++ drop y (set o 0 n)) e l
              ∙ ap (λ z. other_plan shifts f n ++ z) (behind o (length (other_pairs shifts (pairs_from shifts f n 1)))),
        )
      where
        behind : (o : List ℕ) (m : ℕ) → drop (suc m) (set o 0 n) ≡ drop (suc m) o
        behind [] m = refl
        behind (x ∷ o) m = refl

-- ---- 19, or the copy
module _ (shifts : Bool) (f : List ℕ) (n : ℕ) (o : List ℕ) where
  pub pairs_not : all? first_pair (pairs_from shifts f n 1) ≡ false → PairsTurned shifts f n o (Err OtherShift) o
  pairs_not h = record {
    answer = sym (ap (λ b. converted_answer (cond b (accepted (other_plan shifts f n)) (refused 19))) h);
    lent = sym (ap (λ b. converted_onto (cond b (accepted (other_plan shifts f n)) (refused 19)) o) h);
  }

  pub pairs_wrote : {k : ℕ} {o' : List ℕ} → all? first_pair (pairs_from shifts f n 1) ≡ true → k ≡ length (other_plan shifts f n)
      → o' ≡ onto (other_plan shifts f n) o → PairsTurned shifts f n o (Ok k) o'
  pairs_wrote h p q = record {
    answer = ap (λ k. said (wrote k)) p ∙ sym (ap (λ b. converted_answer (cond b (accepted (other_plan shifts f n)) (refused 19))) h);
    lent = q ∙ sym (ap (λ b. converted_onto (cond b (accepted (other_plan shifts f n)) (refused 19)) o) h);
  }
