-- A lent diary while it is filled, one record a turn, and that it ends as the contract says.
use Prim.Native.Nat.{ℕ, zero, suc, ◌+◌, ◌≤◌}
use native.Mathlib.Omega.{arith}
use mathlib.Core.Path.{◌≡◌, refl, sym, ap, ◌∙◌}
use mathlib.Core.List.{List, [], ◌∷◌, ◌++◌, append_assoc}
use lib.ListN.{length, get_or, set, drop, length-set, length-append}
use lib.Seq.{drop-cons, set_at}
use Rattle.model_desk.specs.Desk.{onto}
use Rattle.diary.specs.declared.Step.{Step}
use Rattle.diary.specs.LentSteps.{step_at, steps_in}
use Rattle.diary_records.specs.FilledDiary.{steps_length, steps_more}

-- the diary with its first n records written
abbrev pub filled : ℕ → List ℕ → List Step → List Step
filled zero f d = d
filled (suc n) f d = set (filled n f d) n (step_at f n)

pub filled_length : (n : ℕ) (f : List ℕ) (d : List Step) → length (filled n f d) ≡ length d
filled_length zero f d = refl
filled_length (suc n) f d = length-set (filled n f d) n (step_at f n) ∙ filled_length n f d

-- a list of n at the front, and one more
one_more : (xs d : List Step) (n : ℕ) (s : Step) → length xs ≡ n → suc n ≤ length d → set (onto xs d) n s ≡ onto (xs ++ (s ∷ [])) d
one_more xs d n s h k =
    let l : n + 1 ≡ suc n = omega arith in
    ap (λ (m : ℕ). set (xs ++ drop m d) n s) h ∙ ap (λ (l : List Step). set (xs ++ l) n s) (drop-cons d n s k) ∙ set_at xs (get_or d n s) (drop (suc n) d) s n h
    ∙ ap (λ (m : ℕ). xs ++ s ∷ drop m d) (sym (length-append xs (s ∷ []) ∙ ap (λ (m : ℕ). m + 1) h ∙ l))
    ∙ sym (append_assoc xs (s ∷ []) (drop (length (xs ++ (s ∷ []))) d))

pub filled_onto : (n : ℕ) (f : List ℕ) (d : List Step) → n ≤ length d → filled n f d ≡ onto (steps_in n f) d
unfolding steps_in
filled_onto zero f d h = refl
filled_onto (suc n) f d h =
    ap (λ (l : List Step). set l n (step_at f n)) (filled_onto n f d (omega arith)) ∙ one_more (steps_in n f) d n (step_at f n) (steps_length n f) h
    ∙ ap (λ (l : List Step). onto l d) (sym (steps_more n f))
