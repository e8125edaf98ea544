-- Comparisons run by the checker: W-206's four answers, each with both votes and the part that is handed back.
use Rattle.std.specs.Prelude.{ℕ, ◌≡◌, refl, List, [], ◌∷◌, pos, negsuc}
use Rattle.lists.specs.Sum.{count}
use Rattle.lists.specs.Search.{low}
use Rattle.model.specs.Decimal.{bytes, numbers_from}
use Rattle.model.specs.Refusal.{group_of}
use Rattle.model.specs.Reading.{Reading, accepted, refused, read_each}
use Rattle.model.specs.Roster.{Roster, listed, listed_back, both_or_neither}
use Rattle.model.specs.RosterFile.{read_roster_by, read_roster}
use Rattle.model.specs.Edges.{position, edges_of, instance_of}
use Rattle.model.specs.Instance.{deg}
use Rattle.model.specs.Vote.{node_vote, vote}
use Rattle.model.specs.PlanFile.{edge_of_pair, read_plan_by}
use Rattle.model_desk.specs.Compare.{Part, first_file, second_file, first, second, both, neither, comparison_of}
use Rattle.model_desk.specs.Desk.{Answer, compares, said, votes, refusal, comparison_answer, part_in}
use Rattle.model_desk.specs.DeskCases.{Each}

-- the comparison of two plan files on a roster's file
pub record Case : Type 0 where
  pub roster : List ℕ
  pub plan : List ℕ
  pub other : List ℕ
  pub answer : Answer compares
  pub part : Part

abbrev compared_on : Reading Roster → (firstBytes secondBytes : List ℕ) → Answer compares
compared_on (accepted r) a b = comparison_answer (comparison_of (instance_of r) a b)
compared_on (refused n) a b = refusal n

abbrev whole : List ℕ → Part
whole bs = record { file = first_file; from = 1; bytes = bs }

abbrev whole_second : List ℕ → Part
whole_second bs = record { file = second_file; from = 1; bytes = bs }

abbrev empty : Part
empty = record { file = first_file; from = 0; bytes = [] }

-- document 01's sample, P7 and P24
abbrev sample : List ℕ
sample = bytes "2 1 1 1 1 2 0 1 1 1 1 1 1 2 0 2 0 1 1 2 1"

abbrev P7 : List ℕ
P7 = bytes "4 1 1 1 1 1 2 4 0 1 1 1 1 1 1 1 1 1 1 1 1 4 0 4 0 1 1 2 1 3 1 4 1"

abbrev P24 : List ℕ
P24 = bytes "1 1 1 1 2 0 2 1 3 1 1 2 0 2 0 1 1 1 3"

-- P7 twice, side by side: in the plans below its second part is the other way round
abbrev double_p7 : List ℕ
double_p7 = bytes "8 1 1 1 1 1 1 1 1 2 2 2 8 0 1 1 1 1 1 1 1 1 1 1 1 1 1 2 1 1 2 1 1 2 1 1 2 1 8 0 4 0 1 1 2 1 3 1 4 1 4 0 5 1 6 1 7 1 8 1"

abbrev cases : List Case
cases =
    record { roster = sample; plan = bytes "1 1 1 1"; other = bytes "1 2 1 1"; answer = said (votes (pos 1) (negsuc 0) first); part = whole (bytes "1 1 1") }
    ∷ record {
      roster = sample;
      plan = bytes "1 2 1 1";
      other = bytes "1 1 1 1";
      answer = said (votes (negsuc 0) (pos 1) second);
      part = whole_second (bytes "1 1 1");
    }
    -- no vote is above zero: the plan that the other does not beat wins
    ∷ record {
      roster = P7;
      plan = bytes "2 1 1 1 3 1 1";
      other = bytes "2 2 1 1 4 1 1";
      answer = said (votes (pos 0) (negsuc 1) first);
      part = whole (bytes "1 1 1 3 1 1");
    }
    ∷ record {
      roster = P7;
      plan = bytes "2 2 1 1 4 1 1";
      other = bytes "2 1 1 1 3 1 1";
      answer = said (votes (negsuc 1) (pos 0) second);
      part = whole_second (bytes "1 1 1 3 1 1");
    }
    -- each beats the other
    ∷ record {
      roster = double_p7;
      plan = bytes "4 1 1 1 3 1 1 6 2 1 8 2 1";
      other = bytes "4 2 1 1 4 1 1 5 2 1 7 2 1";
      answer = said (votes (negsuc 1) (negsuc 1) both);
      part = empty;
    }
    -- neither does: a plan and itself, and two plans that draw
    ∷ record { roster = P7; plan = bytes "2 1 1 1 3 1 1"; other = bytes "2 1 1 1 3 1 1"; answer = said (votes (pos 0) (pos 0) neither); part = empty }
    ∷ record { roster = P24; plan = bytes "1 1 1 1"; other = bytes "1 1 1 3"; answer = said (votes (pos 0) (pos 0) neither); part = empty } ∷ []

abbrev Compared : Case → Type 0
Compared c = (compared_on (read_roster c.roster) c.plan c.other ≡ c.answer)
    × (part_in c.plan c.other (compared_on (read_roster c.roster) c.plan c.other) ≡ c.part)

pub compared : Each Compared cases
unfolding numbers_from count low group_of listed listed_back both_or_neither read_each read_roster_by position edges_of instance_of deg node_vote vote edge_of_pair
    read_plan_by comparison_of
compared = ((refl, refl), ((refl, refl), ((refl, refl), ((refl, refl), ((refl, refl), ((refl, refl), ((refl, refl), tt)))))))
