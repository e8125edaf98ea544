-- Two plans within the quotas compared, by the flags and the lists of their edges; and two plan files, the first in full before the second.
use Rattle.std.specs.Prelude.{ℕ, ◌≡◌, Bool, true, List, ℤ, Result}
use Rattle.std.proofs.Math.Path.{refl, sym, ap}
use Rattle.std.proofs.Common.{ap₂, ◌∙◌, subst}
use Rattle.lists.specs.Test.{given}
use Rattle.model.specs.Reading.{Reading, accepted, refused}
use Rattle.model.specs.Instance as model
use Rattle.model.specs.Plans.{Plan, on, vote_of}
use Rattle.model.specs.PlanFile.{read_plan}
use Rattle.model.specs.Vote.{vote}
use Rattle.model.specs.Facing.{pairing_bytes}
use Rattle.model_desk.specs.Compare.{votes, winner_of, compared, second_judged, first_judged, comparison_of, Pairings, both_pairings, second_paired}
use Rattle.model_desk.specs.Compare.{first_paired, pairings_of}
use Rattle.model_desk.specs.Desk.{onto}
use Rattle.std.specs.declared.result.Result.TheVariants.{Ok, Err}
use Rattle.answers.specs.declared.Refusal.{Refusal}
use Rattle.answers.specs.RefusalCases.{number_of}
use Rattle.plan_reader.specs.declared.PlanRead.{PlanRead}
use Rattle.plan_reader.specs.Answers.{ReadAs, accepted_read, refused_read}
use Rattle.answers.specs.declared.Winner.{Winner}
use Rattle.answers.specs.declared.Comparison.{Comparison}
use Rattle.answers.specs.ComparisonCases.{winner_shown, winner_shown_law, winner_case, compared_shown}
use Rattle.model_desk.specs.Compare as compare

-- two buffers with the pairings of both votes at their fronts
pub record Paired (p : Pairings) (forward back forward' back' : List ℕ) : Type 0 where
  pub first : forward' ≡ onto p.0 forward
  pub second : back' ≡ onto p.1 back

pub paired_as : {p p' : Pairings} {f k f' k' : List ℕ} → p ≡ p' → Paired p f k f' k' → Paired p' f k f' k'
paired_as {f = f} {k = k} {f' = f'} {k' = k'} e P = subst (λ p. Paired p f k f' k') e P

-- ---- the votes of two plans
pub votes_are : (G : model.Instance) (p q : List Bool) {v w : ℤ} {x : Winner} → v ≡ vote_of G p q → w ≡ vote_of G q p → x ≡ winner_case (winner_of v w)
    → compared_shown (Ok (record { first = v; second = w; winner = x })) ≡ compared G p q
votes_are G p q {v} {w} a b e = ap (votes v w) (ap winner_shown e ∙ winner_shown_law (winner_of v w)) ∙ ap₂ (λ y z. votes y z (winner_of y z)) a b

-- ---- which plan it is matters by its edges alone
abbrev by_edges : model.Instance → (ℕ → Bool) → (ℕ → Bool) → compare.Comparison
by_edges G f h = votes (vote G f h) (vote G h f) (winner_of (vote G f h) (vote G h f))

same_first : (G : model.Instance) (M M' : Plan) → on M ≡ on M' → (x : Reading Plan) → second_judged G M x ≡ second_judged G M' x
same_first G M M' e (accepted N) = ap (λ f. by_edges G f (on N)) e
same_first G M M' e (refused n) = refl

abbrev paired_by : model.Instance → (ℕ → Bool) → (ℕ → Bool) → Pairings
paired_by G f h = (pairing_bytes G f h, pairing_bytes G h f)

same_paired : (G : model.Instance) (M M' : Plan) → on M ≡ on M' → (x : Reading Plan) → second_paired G M x ≡ second_paired G M' x
same_paired G M M' e (accepted N) = ap (λ f. paired_by G f (on N)) e
same_paired G M M' e (refused n) = refl

-- ---- a plan file read against the arrays of an accepted roster
module _ {G : model.Instance} {file : List ℕ} {r : Result PlanRead Refusal} (here : ReadAs true G file r) where
  -- as the second file, after plan p
  module _ (p : Plan) where
    -- the answer, and what the two buffers have behind it
    abbrev AsSecond : Result Comparison Refusal → (forward back forward' back' : List ℕ) → Type 0
    AsSecond c f b f' b' = (compared_shown c ≡ second_judged G p (read_plan G file)) × Paired (second_paired G p (read_plan G file)) f b f' b'

    pub second_refused : {n : Refusal} → r ≡ Err n → {f b : List ℕ} → AsSecond (Err n) f b f b
    second_refused {n} q = (
      sym (ap (second_judged G p) (refused_read here q)),
      paired_as (sym (ap (second_paired G p) (refused_read here q))) (record { first = refl; second = refl }),
    )

    pub second_accepted : {read : PlanRead} → r ≡ Ok read → (c : Comparison) {f b f' b' : List ℕ}
        → (compared_shown (Ok c) ≡ compared G p read.chosen) × Paired (both_pairings G p read.chosen) f b f' b' → AsSecond (Ok c) f b f' b'
    second_accepted q c (e, P) = given (accepted_read here q) (λ (M, a, s). (
      e ∙ ap (by_edges G (on p)) s ∙ sym (ap (second_judged G p) a),
      paired_as (ap (paired_by G (on p)) s ∙ sym (ap (second_paired G p) a)) P,
    ))

  -- as the first file
  module _ (second : List ℕ) where
    abbrev AsFirst : Result Comparison Refusal → (forward back forward' back' : List ℕ) → Type 0
    AsFirst c f b f' b' = (compared_shown c ≡ comparison_of G file second) × Paired (pairings_of G file second) f b f' b'

    pub first_refused : {n : Refusal} → r ≡ Err n → {f b : List ℕ} → AsFirst (Err n) f b f b
    unfolding comparison_of pairings_of
    first_refused {n} q = (
      sym (ap (λ x. first_judged G x second) (refused_read here q)),
      paired_as (sym (ap (λ x. first_paired G x second) (refused_read here q))) (record { first = refl; second = refl }),
    )

    pub first_accepted : {read : PlanRead} → r ≡ Ok read → (c : Result Comparison Refusal) {f b f' b' : List ℕ}
        → (compared_shown c ≡ second_judged G read.chosen (read_plan G second)) × Paired (second_paired G read.chosen (read_plan G second)) f b f' b'
        → AsFirst c f b f' b'
    unfolding comparison_of pairings_of
    first_accepted {read} q c (e, P) = given (accepted_read here q) (λ (M, a, s). (
      e ∙ same_first G read.chosen M s (read_plan G second) ∙ sym (ap (λ x. first_judged G x second) a),
      paired_as (same_paired G read.chosen M s (read_plan G second) ∙ sym (ap (λ x. first_paired G x second) a)) P,
    ))
