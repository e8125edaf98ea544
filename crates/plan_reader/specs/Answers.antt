-- What is promised of a plan file's reading: document 01's answer, and the edges of an accepted plan.
use Rattle.std.specs.Prelude.{ℕ, ◌≡◌, refl, Bool, true, false, List, [], length, take, T, Result}
use Rattle.std.proofs.Common.{sym, ap, ◌∙◌, subst}
use Rattle.model.specs.Reading.{Reading, accepted, refused}
use Rattle.model.specs.Instance.{Instance}
use Rattle.model.specs.Plans.{Plan, on}
use Rattle.model.specs.PlanFile.{edges_in, read_plan_by}
use Rattle.arrays.specs.ArrayInstance.{flag, shown}
use Rattle.pair_bytes.specs.PairAt.{pair_layout}
use Rattle.std.specs.declared.result.Result.TheVariants.{Ok, Err}
use Rattle.answers.specs.declared.Refusal.{Refusal}
use Rattle.answers.specs.RefusalCases.{number_of}
use Rattle.plan_reader.specs.declared.PlanRead.{PlanRead}

-- the answer that a reading is: the number of the plan's pairs, or that of the refusal
abbrev pub answer_of : ℕ → Reading Plan → Reading ℕ
answer_of m (accepted M) = accepted (length (edges_in m (on M)))
answer_of m (refused n) = refused n

-- the same of the code's answer
abbrev pub answered : Result PlanRead Refusal → Reading ℕ
answered (Ok p) = accepted p.n
answered (Err r) = refused (number_of r)

-- the flags and the list of what is read
abbrev pub chosen_in : Result PlanRead Refusal → List Bool
chosen_in (Ok p) = p.chosen
chosen_in (Err r) = []

abbrev pub listed_in : Result PlanRead Refusal → List ℕ
listed_in (Ok p) = p.edges
listed_in (Err r) = []

-- a file with shifts, or without
abbrev pub plan_in : Bool → Instance → List ℕ → Reading Plan
plan_in shifts G file = read_plan_by (pair_layout shifts) G file

-- what is read of a plan file: the model's answer, and of an accepted plan its edges, as flags and as an ascending list
pub record ReadAs (shifts : Bool) (G : Instance) (file : List ℕ) (r : Result PlanRead Refusal) : Type 0 where
  pub answer : answered r ≡ answer_of G.m (plan_in shifts G file)
  pub chosen : (M : Plan) → plan_in shifts G file ≡ accepted M → (e : ℕ) → flag (chosen_in r) e ≡ on M e
  pub edges : (M : Plan) → plan_in shifts G file ≡ accepted M → take (length (edges_in G.m (on M))) (listed_in r) ≡ edges_in G.m (on M)

-- for the instance that the arrays show, whatever its node counts, ranks and ties
abbrev pub ReadFor : (shifts : Bool) (m : ℕ) (sv st sh qs qt file : List ℕ) (r : Result PlanRead Refusal) → Type 0
ReadFor shifts m sv st sh qs qt file r =
    (ns nt : ℕ) (rank_s rank_t : List ℕ) (tied : List Bool) → ReadAs shifts (shown m ns nt sv st rank_s rank_t sh tied qs qt) file r

-- ---- what an answer says of the reading
abbrev is_accepted : Reading ℕ → Bool
is_accepted (accepted n) = true
is_accepted (refused n) = false

abbrev count_of : Reading ℕ → ℕ
count_of (accepted n) = n
count_of (refused n) = 0

abbrev refusal_in : Reading ℕ → ℕ
refusal_in (accepted n) = 0
refusal_in (refused n) = n

module _ {shifts : Bool} {G : Instance} {file : List ℕ} {r : Result PlanRead Refusal} (A : ReadAs shifts G file r) where
  -- accepted: there is a plan, and the flags are its edges
  pub accepted_read : {p : PlanRead} → r ≡ Ok p → (M : Plan) × (plan_in shifts G file ≡ accepted M) × (flag p.chosen ≡ on M)
  accepted_read {p} q = go (plan_in shifts G file) refl (sym (ap answered q) ∙ A.answer)
    where
      go : (x : Reading Plan) → plan_in shifts G file ≡ x → accepted p.n ≡ answer_of G.m x
          → (M : Plan) × (plan_in shifts G file ≡ accepted M) × (flag p.chosen ≡ on M)
      go (accepted M) s e = (M, s, λ k d. (sym (ap (λ z. flag (chosen_in z) d) q) ∙ A.chosen M s d) k)
      go (refused k) s e = absurd (subst (λ a. T (is_accepted a)) e tt)

  -- and its edges are the first n of the list
  pub accepted_edges : {p : PlanRead} → r ≡ Ok p → (M : Plan) → plan_in shifts G file ≡ accepted M
      → (p.n ≡ length (edges_in G.m (on M))) × (take p.n p.edges ≡ edges_in G.m (on M))
  accepted_edges {p} q M a =
      let c : p.n ≡ length (edges_in G.m (on M)) = ap count_of (sym (ap answered q) ∙ A.answer ∙ ap (answer_of G.m) a) in
      (c, ap (λ k. take k p.edges) c ∙ (sym (ap (λ z. take (length (edges_in G.m (on M))) (listed_in z)) q) ∙ A.edges M a))

  -- refused: the file meets that number
  pub refused_read : {n : Refusal} → r ≡ Err n → plan_in shifts G file ≡ refused (number_of n)
  refused_read {n} q = go (plan_in shifts G file) (sym (ap answered q) ∙ A.answer)
    where
      go : (x : Reading Plan) → refused (number_of n) ≡ answer_of G.m x → x ≡ refused (number_of n)
      go (accepted M) e = absurd (subst (λ a. T (is_accepted a)) (sym e) tt)
      go (refused k) e = ap (λ a. refused (refusal_in a)) (sym e)
