-- What the comparison's call promises: the model's reply, and the part in that same answer, tied to its file by its place in memory and its bytes.
use Rattle.std.specs.Prelude.{ℕ, ◌≤◌, ◌≡◌, Bool, true, false, not, cond, List, [], ◌∷◌, length, ltb, Result}
use Rattle.std.proofs.Common.{arith, ap, ◌∙◌, subst}
use Rattle.std.proofs.Math.Dec.{T}
use Rattle.std.specs.Borrow.{Bor}
use Rattle.model.specs.Reading as reading
use Rattle.model.specs.Reading.{Reading, accepted}
use Rattle.model.specs.Instance.{Instance}
use Rattle.model.specs.Edges.{instance_of}
use Rattle.model.specs.Plans.{Plan}
use Rattle.model.specs.PlanFile.{read_plan_by, read_plan}
use Rattle.model_desk.specs.Compare.{second_judged, first_judged, comparison_of}
use Rattle.model_desk.specs.Desk as D
use Rattle.model_desk.specs.Desk.{Held, nothing, roster, planned, Answer, is_refused, refusal, compare, comparison_answer, part_in, answer_of, state_refusal}
use Rattle.answers.specs.declared.Comparison.{Comparison}
use Rattle.std.specs.declared.result.Result.TheVariants.{Ok, Err}
use Rattle.answers.specs.declared.Refusal.{Refusal}
use Rattle.answers.specs.ComparisonCases.{part_shown, comparison_shown, part_shown_law}
use Rattle.compare_winner.specs.Parts.{placed, Counted}
use Rattle.desk_files.specs.declared.Files.{Files}
use Rattle.desk_files.specs.Held.{held_of}
use Rattle.desk_files.specs.Replies.{answered, Replied}

-- the comparison's call on desk d with two lent files and two buffers for the pairings of both votes (W-208): the answer, the part, the buffers and
-- the desk then
pub record Compares (d : Files) (first second : Bor (List ℕ)) (f k : List ℕ) (answer : Result Comparison Refusal) (handed : Bor (List ℕ)) (f' k' : List ℕ) (d' : Files)
    : Type 0 where
  pub replied : Replied d (compare first.now second.now f k) (comparison_shown answer) (compare first.now second.now f' k') d'
  -- "the winner's pair bytes are handed back as a part of its own file": "the winner's for first and second, and empty for both and neither" (W-206);
  -- the empty part, on a refusal too, is "taken from the first file"
  pub part : (handed.ref_ptr, handed.now) ≡ placed first second (part_in first.now second.now (answered (held_of d) (compare first.now second.now f k)))

-- ---- where there are votes, both files have their count byte
abbrev is_votes : Answer D.compares → Bool
is_votes a = not (is_refused a)

abbrev is_accepted : Reading Plan → Bool
is_accepted (accepted M) = true
is_accepted (reading.refused n) = false

-- the empty file is refused
filled : (G : Instance) (l : List ℕ) → T (is_accepted (read_plan G l)) → 1 ≤ length l
unfolding read_plan_by
filled G [] t = absurd t
filled G (x ∷ l) t = omega arith

both_filled : (G : Instance) (a b : List ℕ) → T (is_votes (comparison_answer (comparison_of G a b))) → (1 ≤ length a) × (1 ≤ length b)
unfolding comparison_of
both_filled G a b t = by_first (read_plan G a) (λ h. filled G a h) t
  where
    by_second : (M : Plan) (y : Reading Plan) → (T (is_accepted y) → 1 ≤ length b) → T (is_votes (comparison_answer (second_judged G M y))) → 1 ≤ length b
    by_second M (accepted N) h t = h tt
    by_second M (reading.refused n) h t = absurd t

    by_first : (y : Reading Plan) → (T (is_accepted y) → 1 ≤ length a) → T (is_votes (comparison_answer (first_judged G y b))) → (1 ≤ length a) × (1 ≤ length b)
    by_first (accepted M) h t = (h tt, by_second M (read_plan G b) (λ g. filled G b g) t)
    by_first (reading.refused n) h t = absurd t

-- votes are answered only where the buffers have their size
by_size : (n : ℕ) (short : Bool) (x : Answer D.compares) → T (is_votes (cond (ltb 0 (cond short 15 0)) (refusal n) x)) → T (is_votes x)
by_size n true x t = absurd t
by_size n false x t = t

module _ (a b f k : List ℕ) where
  abbrev small : Bool
  small = D.lent_short (compare a b f k)

  abbrev refusing : ℕ
  refusing = cond small 15 0

  sized : (G : Instance) → T (is_votes (cond (ltb 0 refusing) (refusal refusing) (comparison_answer (comparison_of G a b)))) → (1 ≤ length a) × (1 ≤ length b)
  sized G t = both_filled G a b (by_size refusing small (comparison_answer (comparison_of G a b)) t)

  -- so a part can be named without the count byte
  pub counted : (h : Held) (c : Result Comparison Refusal) → comparison_shown c ≡ answered h (compare a b f k) → Counted c a b
  unfolding answer_of state_refusal
  counted h (Err n) e = tt
  counted nothing (Ok v) e = absurd (subst (λ z. T (is_votes z)) e tt)
  counted (roster r) (Ok v) e = sized (instance_of r) (subst (λ z. T (is_votes z)) e tt)
  counted (planned r M) (Ok v) e = sized (instance_of r) (subst (λ z. T (is_votes z)) e tt)
  counted (D.proposed r M N) (Ok v) e = sized (instance_of r) (subst (λ z. T (is_votes z)) e tt)

-- ---- the part that the answer names is the one with the model's answer
pub compares : (d : Files) (first second : Bor (List ℕ)) (f k : List ℕ) (answer : Result Comparison Refusal) (handed : Bor (List ℕ)) (f' k' : List ℕ) (d' : Files)
    → Replied d (compare first.now second.now f k) (comparison_shown answer) (compare first.now second.now f' k') d'
    → (handed.ref_ptr, handed.now) ≡ placed first second (part_shown answer first.now second.now) → Compares d first second f k answer handed f' k' d'
compares d first second f k answer handed f' k' d' R e = record {
  replied = R;
  part = e ∙ ap (placed first second) (part_shown_law answer first.now second.now ∙ ap (part_in first.now second.now) R.answer);
}
