-- P1 to P10 of document 01 with "shift 1 throughout" (W-204), run by the checker: one theorem, `cases`, computed over the list of them. The
-- limits of its last line are in RosterCases.
use Rattle.std.specs.Prelude.{◌≡◌, refl, true, false, [], ◌∷◌, pos, negsuc}
use Rattle.std.proofs.Math.Option.{Option-elim, or_else}
use Rattle.lists.specs.Sum.{count}
use Rattle.lists.specs.Search.{low}
use Rattle.lists.specs.First.{first}
use Rattle.lists.specs.Keep.{all?}
use Rattle.model.specs.Decimal.{bytes, numbers_from}
use Rattle.model.specs.Claims.{Case, is_true, prints, strong_ones, votes, stand_votes, judged, rivals, blocked}
use Rattle.model.specs.Text.{text}
use Rattle.model.specs.Refusal.{group_of}
use Rattle.model.specs.Reading.{read_each}
use Rattle.model.specs.Roster.{listed, listed_back, both_or_neither}
use Rattle.model.specs.RosterFile.{read_roster_by}
use Rattle.model.specs.Edges.{position, edges_of, instance_of}
use Rattle.model.specs.Instance.{deg}
use Rattle.model.specs.Vote.{node_vote, vote}
use Rattle.model.specs.Plans.{strong, popular, beaten, choices, within, plans_of, same_plan, beaten_by, drawn_with, verdict_of, strong_plans}
use Rattle.model.specs.Reduction.{cut, ahead, arrow, loose, reserved, better_s, better_t, worse_reserved, rule1, rule2, rule3, rule4, rule5}
use Rattle.model.specs.Reduction.{rule6, rule7, act, rules, step_by, first_step, begin, steps_from, state_after, steps_of, end_of}
use Rattle.model.specs.PlanFile.{plan_bytes_by, edge_of_pair, read_plan_by}
use Rattle.model.specs.Finder.{diary_of, left_of, candidate_of, finder_of}
use Rattle.model.specs.Blocking.{blocks, some_blocks}
use Rattle.model.specs.Printed.{digits, printed}

-- "P1 no surveyors, no stands: the empty plan, strong."
abbrev P1 : Case
P1 = record { file = bytes "0 0 0 0 0 0"; claims = prints "plan 0\n" ∷ strong_ones 1 ∷ judged (bytes "0") strong ∷ [] }

-- "P2 surveyor quota 0, one pair: struck by rule 2, empty plan."
abbrev P2 : Case
P2 = record { file = bytes "1 0 1 1 1 0 1 1 1 1 0 1 0 1 1"; claims = prints "strike 1 1 1 2\nplan 0\n" ∷ strong_ones 1 ∷ [] }

-- "P3 the program's roster: plan 1-1; against 2-1 its vote is 1."
abbrev P3 : Case
P3 = record {
  file = bytes "2 1 1 1 1 2 0 1 1 1 1 1 1 2 0 2 0 1 1 2 1";
  claims = prints "fix 1 1 1 1\nstrike 2 1 1 2\nplan 1\n1 1 1\n" ∷ strong_ones 1 ∷ votes (bytes "1 1 1 1") (bytes "1 2 1 1") (pos 1)
      ∷ judged (bytes "1 2 1 1") beaten ∷ [];
}

-- "P4 a tie of surveyors 1 and 2 at one stand: candidate 1-1, rivalled by 2-1 with vote 0. Verdict on 1-1: popular."
abbrev P4 : Case
P4 = record {
  file = bytes "2 1 1 1 1 2 0 1 1 1 1 1 1 2 0 0 2 1 1 2 1";
  claims =
      prints "fix 1 1 1 6\nstrike 2 1 1 2\nnone rivalled 0\ncandidate 1\n1 1 1\nrival 1\n2 1 1\n" ∷ strong_ones 0 ∷ judged (bytes "1 1 1 1") popular
      ∷ rivals (bytes "1 1 1 1") (bytes "1 2 1 1" ∷ [])
      ∷ blocked (bytes "1 1 1 1") false ∷ [];
}

-- "P5 P4 with stand quota 2: both fixed by rule 3, strong."
abbrev P5 : Case
P5 = record {
  file = bytes "2 1 1 1 2 2 0 1 1 1 1 1 1 2 0 0 2 1 1 2 1";
  claims = prints "fix 1 1 1 3\nfix 2 1 1 3\nplan 2\n1 1 1\n2 1 1\n" ∷ strong_ones 1 ∷ judged (bytes "2 1 1 1 2 1 1") strong ∷ [];
}

-- "P6 surveyor 1 ranks 1, 2; 2 ranks 2, 1; stand 1 ranks 2, 1; stand 2 ranks 1, 2: four pairs left, none." Without blocking pairs is
-- not strong: the surveyors' favourites have none, and are popular only.
abbrev P6 : Case
P6 = record {
  file = bytes "2 1 1 2 1 1 4 0 2 1 1 2 1 2 2 1 1 1 4 0 2 0 2 1 1 1 2 0 1 1 2 1";
  claims = prints "none left 4\n1 1 1\n1 2 1\n2 1 1\n2 2 1\n" ∷ strong_ones 0 ∷ blocked (bytes "2 1 1 1 2 2 1") false
      ∷ judged (bytes "2 1 1 1 2 2 1") popular
      ∷ blocked (bytes "1 1 1 1") true ∷ [];
}

-- "P7 stand quota 2 ranking 1, 2, 3, 4: {1,3} against {2,4} votes 0 there, the reverse -2."
abbrev P7 : Case
P7 = record {
  file = bytes "4 1 1 1 1 1 2 4 0 1 1 1 1 1 1 1 1 1 1 1 1 4 0 4 0 1 1 2 1 3 1 4 1";
  claims = stand_votes 0 (bytes "2 1 1 1 3 1 1") (bytes "2 2 1 1 4 1 1") (pos 0)
      ∷ stand_votes 0 (bytes "2 2 1 1 4 1 1") (bytes "2 1 1 1 3 1 1") (negsuc 1) ∷ [];
}

-- "P8 stand quota 3 ranking 1, 2, 3: {1} against {2,3} votes 0 there, not -1."
abbrev P8 : Case
P8 = record {
  file = bytes "3 1 1 1 1 3 3 0 1 1 1 1 1 1 1 1 1 3 0 3 0 1 1 2 1 3 1";
  claims = stand_votes 0 (bytes "1 1 1 1") (bytes "2 2 1 1 3 1 1") (pos 0) ∷ [];
}

-- "P9 stand quota 2 ranking 1, 2, 3: {2,3} against {1,2} votes -1 there, not -2."
abbrev P9 : Case
P9 = record {
  file = bytes "3 1 1 1 1 2 3 0 1 1 1 1 1 1 1 1 1 3 0 3 0 1 1 2 1 3 1";
  claims = stand_votes 0 (bytes "2 2 1 1 3 1 1") (bytes "2 1 1 1 2 1 1") (negsuc 0) ∷ [];
}

-- "P10 surveyors 1 and 2 rank stand 1, then 2; stand 1 ties them; stand 2, quota 2, ranks 1, 2: rule 7 first fixes 1-2; plan 1-2 and
-- 2-1, strong."
abbrev P10 : Case
P10 = record {
  file = bytes "2 1 1 2 1 2 4 0 2 1 1 2 1 2 1 1 2 1 4 0 0 2 1 1 2 1 2 0 1 1 2 1";
  claims = prints "fix 1 2 1 7\nstrike 1 1 1 2\nfix 2 1 1 3\nstrike 2 2 1 2\nplan 2\n1 2 1\n2 1 1\n" ∷ strong_ones 1
      ∷ judged (bytes "2 1 2 1 2 1 1") strong ∷ [];
}

pub cases : all? is_true (P1 ∷ P2 ∷ P3 ∷ P4 ∷ P5 ∷ P6 ∷ P7 ∷ P8 ∷ P9 ∷ P10 ∷ []) ≡ true
unfolding numbers_from count low text group_of listed listed_back both_or_neither read_each read_roster_by position edges_of instance_of deg node_vote vote
    choices within plans_of same_plan beaten_by drawn_with verdict_of strong_plans cut ahead arrow loose reserved better_s better_t worse_reserved rule1 rule2
    rule3 rule4 rule5 rule6 rule7 act rules first or_else Option-elim step_by first_step begin steps_from state_after steps_of end_of plan_bytes_by edge_of_pair
    read_plan_by diary_of left_of candidate_of finder_of blocks some_blocks digits printed
cases = refl
