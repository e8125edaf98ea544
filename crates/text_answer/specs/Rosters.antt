-- The same for every roster within the limits and every input: a fixed buffer holds the text.
use Rattle.std.specs.Prelude.{ℕ, zero, suc, ◌≤◌, ◌≡◌, refl, Bool, true, false, not, List, [], ◌∷◌, take, T, ltb, Result}
use Rattle.std.proofs.Common.{arith, sym, ap, subst}
use Rattle.std.proofs.Math.ListN.{length}
use Rattle.lists.specs.Test.{and_l, and_r, and_i}
use Rattle.lists.specs.Sum.{◌∈◌, range, range_length}
use Rattle.model.specs.Limits.{entry_limit, plan_limit, plan_size, diary_size, left_size, input_size}
use Rattle.model.specs.Reading.{Reading, accepted, refused}
use Rattle.model.specs.Roster.{Roster, fits}
use Rattle.model.specs.RosterFile.{read_roster}
use Rattle.model.specs.Edges.{instance_of}
use Rattle.model.specs.Instance.{Instance}
use Rattle.model.specs.Plans.{Plan, on, plans_of, Verdict, strong, popular, beaten, is_strong, verdict_of}
use Rattle.model.specs.PlanFile.{edges_in}
use Rattle.model.specs.Reduction.{steps_of, end_of}
use Rattle.model.specs.Finder.{left_of, candidate_of, found, is_empty, finder_of}
use Rattle.model.specs.Finder as F
use Rattle.model.specs.Printed.{answer_text, printed}
use Rattle.theory_files.specs.Reads.{is_bytes}
use Rattle.theory_files.specs.Rosters.{read_fits}
use Rattle.theory_files.specs.Reach.{read_front}
use Rattle.theory_files.specs.EdgeCount.{edges_few}
use Rattle.theory_reduction.specs.Course.{steps_few}
use Rattle.theory_reduction.proofs.Course.{end_matching}
use Rattle.theory_verdict.specs.Plans.{matching_plan}
use Rattle.theory_files.specs.RosterInstance.{fileable}
use Rattle.theory_files.specs.PlanFiles.{plan_few}
use Rattle.theory_finder.specs.Choices.{chosen}
use Rattle.arrays.specs.Kept.{keep_most}
use Rattle.diary.specs.FlatDiary.{flat_size}
use Rattle.answers.specs.declared.Found.{Found}
use Rattle.std.specs.declared.result.Result.TheVariants.{Ok, Err}
use Rattle.answers.specs.declared.Refusal.{Refusal}
use Rattle.answers.specs.FinderCases.{finding_not}
use Rattle.text_answer.specs.Printable.{Printable, text_size}
use Rattle.text_answer.specs.Handed.{HandedFor}
use Rattle.text_answer.specs.Sizes.{Small, refused_length, text_length, handed_printable}

bytes_front : (n : ℕ) (bs : List ℕ) → T (is_bytes bs) → T (is_bytes (take n bs))
bytes_front zero bs t = tt
bytes_front (suc n) [] t = tt
bytes_front (suc n) (x ∷ bs) t =
    and_i (ltb x 256) (is_bytes (take n bs)) (and_l (ltb x 256) (is_bytes bs) t) (bytes_front n bs (and_r (ltb x 256) (is_bytes bs) t))

module _ (r : Roster) (ok : T (fits r)) where
  abbrev G : Instance
  G = instance_of r

  edges_fit : G.m ≤ entry_limit
  unfolding instance_of
  edges_fit = edges_few r ok

  pub steps_fit : length (steps_of (instance_of r)) ≤ diary_size
  steps_fit = omega (arith, steps_few (instance_of r), edges_fit)

  candidate_plan : candidate_of G ∈ plans_of G
  unfolding candidate_of
  candidate_plan = matching_plan G (end_matching G)

  left_few : length (left_of G) ≤ entry_limit
  unfolding left_of
  left_few = omega (arith, keep_most (end_of G).rem (range 0 G.m), range_length 0 G.m, edges_fit)

  pub found_small : Small (instance_of r) (finder_of (instance_of r) (chosen.rival_of (instance_of r)))
  unfolding finder_of
  found_small = by_left (is_empty (left_of G))
    where
      few : (M : Plan) → M ∈ plans_of G → length (edges_in G.m (on M)) ≤ plan_limit
      few M m = plan_few G (fileable r ok) M m

      rival : T (not (is_strong (verdict_of G (candidate_of G)))) → chosen.rival_of G (candidate_of G) ∈ plans_of G
      rival t = (chosen.rival_holds r ok (candidate_of G) candidate_plan t).in_quotas

      judged : (v : Verdict) → verdict_of G (candidate_of G) ≡ v → Small G (found G (chosen.rival_of G) v)
      judged strong e = few (candidate_of G) candidate_plan
      judged popular e = (few (candidate_of G) candidate_plan, few (chosen.rival_of G (candidate_of G)) (rival (subst (λ v. T (not (is_strong v))) (sym e) tt)))
      judged beaten e = (few (candidate_of G) candidate_plan, few (chosen.rival_of G (candidate_of G)) (rival (subst (λ v. T (not (is_strong v))) (sym e) tt)))

      by_left : (b : Bool) → Small G (elim b as (λ b. F.Found) [ true ↦ found G (chosen.rival_of G) (verdict_of G (candidate_of G)) | false ↦ F.left (left_of G) ])
      by_left true = judged (verdict_of G (candidate_of G)) refl
      by_left false = left_few

-- what is handed over for a roster file can be printed
pub file_printable : (x : Reading Roster) → ((r : Roster) → x ≡ accepted r → T (fits r)) → (a : Result Found Refusal) (flat left plan rival : List ℕ)
    → flat_size ≤ length flat → left_size ≤ length left → plan_size ≤ length plan → plan_size ≤ length rival → HandedFor x a flat left plan rival
    → Printable a flat left plan rival
file_printable (accepted r) ok (Err n) flat left plan rival d l p v h = absurd h
file_printable (accepted r) ok (Ok a) flat left plan rival d l p v h =
    handed_printable (steps_fit r (ok r refl)) d l p v (finder_of (instance_of r) (chosen.rival_of (instance_of r))) (found_small r (ok r refl)) h
file_printable (refused n) ok (Ok a) flat left plan rival d l p v h = finding_not a h
file_printable (refused n) ok (Err r) flat left plan rival d l p v h = tt

-- the text for a roster within the limits, or for a refusal, is no longer than `text_size`
pub answer_length : (x : Reading Roster) → ((r : Roster) → x ≡ accepted r → T (fits r)) → length (answer_text x chosen.rival_of) ≤ text_size
answer_length (accepted r) h =
    text_length (instance_of r) (finder_of (instance_of r) (chosen.rival_of (instance_of r))) (steps_fit r (h r refl)) (found_small r (h r refl))
answer_length (refused n) h = refused_length n

-- so a buffer of so many bytes holds whatever is printed
pub printed_length : (input : List ℕ) → T (is_bytes input) → length (printed chosen.rival_of input) ≤ text_size
unfolding printed
printed_length input is_b = answer_length (read_roster (take input_size input)) (λ r e. read_fits (take input_size input) r (bytes_front input_size input is_b) e)

-- a longer input has the answer of its first 4,263 bytes
pub printed_whole : (input : List ℕ) → printed chosen.rival_of input ≡ answer_text (read_roster input) chosen.rival_of
unfolding printed
printed_whole input = ap (λ x. answer_text x chosen.rival_of) (read_front input)
