-- A question that is read (W-211): its plans are within the quotas and its ranges fit. So the choice that the calls name for it reaches the least vote,
-- `choice_holds`, and where the ranges are settled at the roster's ranks that is the ordinary vote, `settled_holds`.
use Prim.Native.Nat.{ℕ, zero, suc}
use Rattle.std.specs.Prelude.{◌≡◌, List, T}
use Rattle.std.proofs.Math.Path.{refl, subst}
use Rattle.std.proofs.Common.{sym, ap, ◌∙◌}
use Rattle.lists.specs.Sum.{◌∈◌}
use Rattle.model.specs.Reading.{Reading, accepted, refused}
use Rattle.model.specs.Roster.{Roster}
use Rattle.model.specs.Edges.{instance_of}
use Rattle.model.specs.Plans.{Plan, plans_of}
use Rattle.model.specs.PlanFile.{read_plan}
use Rattle.model.specs.Ranges.{Question, entry_count, ranges_judged, second_judged, first_judged, read_question}
use Rattle.theory_files.specs.Reads.{is_bytes, accepted_value, refused-not}
use Rattle.theory_files.specs.PlanFiles.{plan_read_within}
use Rattle.theory_ranges.specs.Worst.{Fit}
use Rattle.theory_ranges.specs.LeastVote.{choice_of}
use Rattle.theory_ranges.specs.RangesFile.{ranges_refusal, ranges_of, reading_by, read_is, taken, taken_fit}

-- which choice is open: this one is written
abbrev pub choice_for : Roster → Question → List ℕ
choice_for r q = choice_of r q.first q.second q.ranges

pub record Sound (r : Roster) (q : Question) : Type 0 where
  pub first : q.first ∈ plans_of (instance_of r)
  pub second : q.second ∈ plans_of (instance_of r)
  pub ranges : Fit q.ranges

module _ (r : Roster) (a b c : List ℕ) (ia : T (is_bytes a)) (ib : T (is_bytes b)) (q : Question) (e : read_question r a b c ≡ accepted q) where
  -- a question that is read has two plans within the quotas, and ranges that fit
  pub question_sound : Sound r q
  unfolding read_question
  question_sound = first (read_plan (instance_of r) a) refl e
    where
      third : (M N : Plan) → M ∈ plans_of (instance_of r) → N ∈ plans_of (instance_of r) → (k : ℕ) → ranges_refusal (entry_count r) c ≡ k
          → ranges_judged M N (reading_by k (ranges_of (entry_count r) c)) ≡ accepted q → Sound r q
      third M N m n zero z e = subst (Sound r) (accepted_value e) (record {
        first = m;
        second = n;
        ranges = taken_fit (entry_count r) c (taken (entry_count r) c z);
      })
      third M N m n (suc k) z e = refused-not e

      second : (M : Plan) → M ∈ plans_of (instance_of r) → (y : Reading Plan) → read_plan (instance_of r) b ≡ y → second_judged r M y c ≡ accepted q → Sound r q
      second M m (accepted N) z e =
          third M N m (plan_read_within (instance_of r) b N ib z) (ranges_refusal (entry_count r) c) refl (sym (ap (ranges_judged M N) (read_is r c)) ∙ e)
      second M m (refused n) z e = refused-not e

      first : (x : Reading Plan) → read_plan (instance_of r) a ≡ x → first_judged r x b c ≡ accepted q → Sound r q
      first (accepted M) z e = second M (plan_read_within (instance_of r) a M ia z) (read_plan (instance_of r) b) refl e
      first (refused n) z e = refused-not e
