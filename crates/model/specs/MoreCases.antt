-- More rosters than document 01 has, run by the checker: each of rules 4 to 6 in turn, a quota that is cut, a surveyor with room, a vote
-- below zero, two digits and more, the worst rank, what is printed for a refusal, the blocking pair that is named, one surveyor and one stand in
-- several shifts, and the last node where there are fewer of the others. Outputs are the reference's.
use Rattle.std.specs.Prelude.{◌≡◌, refl, true, false, [], ◌∷◌, ◌++◌, map, replicate, pos, negsuc}
use Rattle.std.proofs.Math.Option.{Option-elim, or_else}
use Rattle.lists.specs.Sum.{count, range}
use Rattle.lists.specs.Search.{low}
use Rattle.lists.specs.First.{first}
use Rattle.lists.specs.Keep.{all?, gather}
use Rattle.model.specs.Decimal.{bytes, numbers_from}
use Rattle.model.specs.Claims.{Case, is_true, prints, strong_ones, votes, stand_votes, judged, rivals, blocked, blocked_at, cut_to, surveyor_cut_to}
use Rattle.model.specs.Text.{text}
use Rattle.model.specs.Refusal.{group_of}
use Rattle.model.specs.Reading.{read_each}
use Rattle.model.specs.Roster.{listed, listed_back, both_or_neither}
use Rattle.model.specs.RosterFile.{read_roster_by}
use Rattle.model.specs.Edges.{position, edges_of, instance_of}
use Rattle.model.specs.Instance.{deg}
use Rattle.model.specs.Vote.{node_vote, vote}
use Rattle.model.specs.Plans.{strong, popular, beaten, choices, within, plans_of, same_plan, beaten_by, drawn_with, verdict_of, strong_plans}
use Rattle.model.specs.Reduction.{cut, ahead, arrow, loose, reserved, better_s, better_t, worse_reserved, rule1, rule2, rule3, rule4, rule5}
use Rattle.model.specs.Reduction.{rule6, rule7, act, rules, step_by, first_step, begin, steps_from, state_after, steps_of, end_of}
use Rattle.model.specs.PlanFile.{plan_bytes_by, edge_of_pair, read_plan_by}
use Rattle.model.specs.Finder.{diary_of, left_of, candidate_of, finder_of}
use Rattle.model.specs.Blocking.{blocks, some_blocks, top_blocking}
use Rattle.model.specs.Printed.{digits, number, printed}

-- the same for a surveyor that a strong plan leaves with room: surveyor 1, quota 2, and surveyor 2 rank stand 1, then 2; stand 1 ties
-- them; stand 2 ranks 2, 1
abbrev P11 : Case
P11 = record {
  file = bytes "2 2 1 2 1 1 4 0 2 1 1 2 1 2 1 1 2 1 4 0 0 2 1 1 2 1 2 0 2 1 1 1";
  claims = prints "fix 1 1 1 6\nstrike 2 1 1 2\nfix 2 2 1 1\nstrike 1 2 1 2\nplan 2\n1 1 1\n2 2 1\n" ∷ strong_ones 1 ∷ [];
}

-- a quota above the node's pairs is cut to their number; no step is another for it (docs/DECISIONS.md), so it is said of the cut itself
abbrev P12 : Case
P12 = record { file = bytes "1 3 1 2 1 0 1 1 1 1 0 1 0 1 1"; claims = prints "fix 1 1 1 1\nplan 1\n1 1 1\n" ∷ cut_to 0 1 ∷ surveyor_cut_to 0 1 ∷ [] }

-- refusals, with their groups
abbrev P13 : Case
P13 = record { file = []; claims = prints "refused 1 form\n" ∷ [] }

abbrev P14 : Case
P14 = record { file = bytes "1 9"; claims = prints "refused 3 content\n" ∷ [] }

-- rules 4, 5 and 6 in turn, with outputs from the reference: N(s) of surveyor 1 is too large; 1-2 has no arrow at a firm stand; N(s) of
-- surveyor 2 is too small
abbrev P15 : Case
P15 =
    record {
      file = bytes "3 1 2 2 3 1 1 1 4 0 3 2 1 1 1 3 1 0 1 2 1 4 0 0 1 1 1 0 2 1 1 3 1 0 1 1 1";
      claims = prints "strike 1 3 1 4\nfix 3 2 1 6\nstrike 1 2 1 2\nfix 1 1 1 3\nplan 2\n1 1 1\n3 2 1\n"
          ∷ strong_ones 1 ∷ [];
    }

abbrev P16 : Case
P16 =
    record {
      file = bytes "3 1 2 1 2 1 1 4 0 2 1 1 2 1 0 2 1 1 2 1 4 0 0 2 1 1 3 1 2 0 3 1 1 1";
      claims = prints "strike 1 2 1 5\nfix 1 1 1 6\nstrike 3 1 1 2\nfix 3 2 1 1\nplan 2\n1 1 1\n3 2 1\n"
          ∷ strong_ones 1 ∷ [];
    }

abbrev P17 : Case
P17 =
    record {
      file = bytes "3 1 2 2 2 2 1 3 0 2 2 1 1 1 1 2 1 0 3 0 0 1 1 1 0 2 1 1 2 1";
      claims = prints "fix 2 2 1 6\nstrike 1 2 1 2\nfix 1 1 1 3\nplan 2\n1 1 1\n2 2 1\n"
          ∷ strong_ones 1 ∷ [];
    }

-- a vote below zero: two surveyors, the first with quota 2, rank stands 1, 2 and 2, 1; stand 1 has surveyor 1 before a tie of 2, stand 2 ranks 1, 2
abbrev P18 : Case
P18 = record {
  file = bytes "2 2 1 2 1 1 4 0 2 1 1 2 1 2 2 1 1 1 4 0 1 1 2 1 1 1 0 2 1 1 2 1";
  claims = prints "fix 1 1 1 6\nstrike 2 1 1 2\nfix 1 2 1 6\nstrike 2 2 1 2\nnone rivalled -1\ncandidate 2\n1 1 1\n1 2 1\nrival 2\n1 2 1\n2 1 1\n"
      ∷ strong_ones 0 ∷ rivals (bytes "2 1 1 1 1 2 1") (bytes "2 1 2 1 2 1 1" ∷ []) ∷ judged (bytes "2 1 1 1 1 2 1") beaten ∷ [];
}

-- numbers of two digits: of 19 surveyors the last one alone has a pair
abbrev P19 : Case
P19 = record {
  file = (19 ∷ replicate 19 1) ++ (bytes "1 1 1 0" ++ (replicate 18 0 ++ bytes "1 1 1 1 0 1 0 19 1"));
  claims = prints "fix 19 1 1 1\nplan 1\n19 1 1\n" ∷ [];
}

-- "an empty place has rank 33": a pair of rank 32 is better
abbrev P20 : Case
P20 = record {
  file = (32 ∷ replicate 32 1) ++ ((1 ∷ 1 ∷ 32 ∷ 0 ∷ []) ++ (gather (λ n. 1 ∷ 1 ∷ 1 ∷ []) (range 1 32)
      ++ ((32 ∷ 0 ∷ 32 ∷ 0 ∷ []) ++ gather (λ n. n ∷ 1 ∷ []) (range 1 32))));
  claims = stand_votes 0 (bytes "1 32 1 1") (bytes "0") (pos 1) ∷ [];
}

-- W-201, the best in the surveyor's list: surveyor 1 ranks stand 2, then 1
abbrev P21 : Case
P21 = record {
  file = bytes "1 1 2 1 1 2 0 2 2 1 1 1 2 0 1 0 1 1 1 0 1 1";
  claims = blocked_at (bytes "0") 1 2 1 ∷ blocked_at (bytes "1 1 1 1") 1 2 1 ∷ blocked (bytes "1 1 2 1") false ∷ [];
}

-- W-201, the lowest surveyor before the best rank: surveyor 1 ranks 3, 2, 1, surveyor 2, quota 2, ranks 1, 3, 2; stand 1 ranks 1, 2, stands 2
-- and 3 rank 2, 1. With 2-3 held, surveyor 1 blocks with 2 and 1, and surveyor 2 with 1, whom it ranks best.
abbrev P22 : Case
P22 = record {
  file = bytes "2 1 2 3 1 1 1 6 0 3 3 1 2 1 1 1 3 1 1 3 1 2 1 6 0 2 0 1 1 2 1 2 0 2 1 1 1 2 0 2 1 1 1";
  claims = blocked_at (bytes "1 2 3 1") 1 2 1 ∷ blocked_at (bytes "2 1 2 1 2 3 1") 2 1 1 ∷ [];
}

-- ---- W-204: "one surveyor and one stand in two shifts are two pairs"
-- surveyor 1 and stand 1, quotas 2: the surveyor ranks shift 3, then 1; the stand has shift 1 strict and shift 3 tied. Both pairs, and the
-- empty plan is blocked by the surveyor's best first.
abbrev P23 : Case
P23 = record {
  file = bytes "1 2 1 2 2 0 2 1 3 1 1 2 0 1 1 1 1 1 3";
  claims = prints "fix 1 1 1 1\nfix 1 1 3 3\nplan 2\n1 1 1\n1 1 3\n" ∷ strong_ones 1 ∷ judged (bytes "2 1 1 1 1 1 3") strong
      ∷ judged (bytes "1 1 1 3") beaten ∷ blocked_at (bytes "0") 1 1 3 ∷ blocked_at (bytes "1 1 1 3") 1 1 1
      ∷ blocked (bytes "2 1 1 1 1 1 3") false ∷ [];
}

-- quotas 1, the surveyor prefers shift 3, the stand shift 1: no step, and the two plans draw
abbrev P24 : Case
P24 = record {
  file = bytes "1 1 1 1 2 0 2 1 3 1 1 2 0 2 0 1 1 1 3";
  claims = prints "none left 2\n1 1 1\n1 1 3\n" ∷ strong_ones 0 ∷ votes (bytes "1 1 1 1") (bytes "1 1 1 3") (pos 0)
      ∷ votes (bytes "1 1 1 3") (bytes "1 1 1 1") (pos 0) ∷ rivals (bytes "1 1 1 1") (bytes "1 1 1 3" ∷ []) ∷ judged (bytes "1 1 1 3") popular
      ∷ blocked (bytes "1 1 1 1") false ∷ [];
}

-- quotas 1, both prefer shift 3
abbrev P25 : Case
P25 = record {
  file = bytes "1 1 1 1 2 0 2 1 3 1 1 2 0 2 0 1 3 1 1";
  claims = prints "fix 1 1 3 1\nstrike 1 1 1 2\nplan 1\n1 1 3\n" ∷ strong_ones 1 ∷ votes (bytes "1 1 1 3") (bytes "1 1 1 1") (pos 2)
      ∷ blocked_at (bytes "1 1 1 1") 1 1 3 ∷ blocked (bytes "1 1 1 3") false ∷ [];
}

-- a tie across shifts: surveyor 1, quota 2, ranks shifts 3, 1, 2 of stand 1, surveyor 2 shift 1; the stand, quota 2, has 1 in shift 3 before a
-- tie of 1 in shifts 1 and 2 and of 2. Candidate and rival share the pair 1-1-3, which faces itself.
abbrev P26 : Case
P26 = record {
  file = bytes "2 2 1 1 2 4 0 3 1 3 1 1 1 2 1 1 1 4 0 1 3 1 3 1 1 1 2 2 1";
  claims =
      prints "fix 1 1 3 1\nstrike 1 1 2 5\nfix 1 1 1 6\nstrike 2 1 1 2\nnone rivalled 0\ncandidate 2\n1 1 1\n1 1 3\nrival 2\n1 1 3\n2 1 1\n"
      ∷ strong_ones 0 ∷ judged (bytes "2 1 1 1 1 1 3") popular ∷ rivals (bytes "2 1 1 1 1 1 3") (bytes "2 1 1 3 2 1 1" ∷ []) ∷ [];
}

-- "ascending means by surveyor, stand, shift, and the rules pick in that order", whatever the lists' orders: by shift, and by stand before shift
abbrev P27 : Case
P27 = record {
  file = bytes "1 3 1 3 3 0 3 1 3 1 2 1 1 3 0 3 0 1 2 1 3 1 1";
  claims = prints "fix 1 1 1 1\nfix 1 1 2 1\nfix 1 1 3 1\nplan 3\n1 1 1\n1 1 2\n1 1 3\n" ∷ strong_ones 1 ∷ [];
}

abbrev P28 : Case
P28 = record {
  file = bytes "1 2 2 1 1 2 0 2 2 1 1 3 2 0 1 0 1 3 1 0 1 1";
  claims = prints "fix 1 1 3 1\nfix 1 2 1 1\nplan 2\n1 1 3\n1 2 1\n" ∷ strong_ones 1 ∷ blocked_at (bytes "0") 1 2 1 ∷ [];
}

-- ranks count over all shifts: surveyor 1, quota 2, ranks stand 2 in shift 3, stand 1 in shift 2, stand 2 in shift 1; stand 2 has shift 1 strict
-- and shift 3 tied
abbrev P29 : Case
P29 = record {
  file = bytes "1 2 2 1 1 3 0 3 2 3 1 2 2 1 3 0 1 0 1 2 1 1 1 1 1 3";
  claims = prints "fix 1 1 2 1\nnone left 2\n1 2 1\n1 2 3\n" ∷ strong_ones 0 ∷ blocked_at (bytes "1 1 1 2") 1 2 3
      ∷ blocked_at (bytes "1 1 2 1") 1 1 2 ∷ blocked (bytes "2 1 1 2 1 2 1") false ∷ [];
}

-- a shift outside 1 to 3
abbrev P30 : Case
P30 = record { file = bytes "1 1 1 1 1 0 1 1 4"; claims = prints "refused 18 content\n" ∷ [] }

-- the last node, where there are fewer of the others: stand 2 of one surveyor's, with quota 1 in two shifts, and surveyor 2 at one stand. Its quota, not the
-- first one's, gives its places, and no plan passes it.
abbrev P31 : Case
P31 = record {
  file = bytes "1 2 2 0 1 2 0 2 2 1 2 3 2 0 0 0 2 0 1 1 1 3";
  claims = stand_votes 1 (bytes "0") (bytes "1 1 2 1") (negsuc 0) ∷ judged (bytes "1 1 2 1") strong ∷ [];
}

abbrev P32 : Case
P32 = record {
  file = bytes "2 0 1 1 2 2 0 0 2 1 1 1 3 2 0 2 0 2 1 2 3";
  claims = judged (bytes "1 2 1 1") strong ∷ [];
}

-- rule 4 twice: the worst of N(s) is looked for in N(s), out of which the first step has taken a worse one. Surveyor 1 ranks stands 4, 3, 2, 1, surveyor 2
-- stand 4, and all are tied.
abbrev P33 : Case
P33 = record {
  file = bytes "2 1 1 4 1 1 1 1 5 0 4 4 1 3 1 2 1 1 1 1 4 1 5 0 0 1 1 1 0 1 1 1 0 1 1 1 0 2 1 1 2 1";
  claims = prints "strike 1 1 1 4\nstrike 1 2 1 4\nfix 2 4 1 6\nstrike 1 4 1 2\nfix 1 3 1 3\nplan 2\n1 3 1\n2 4 1\n" ∷ [];
}

-- rule 6 fixes the surveyor's best pair, not the lowest: in shift 2, before shift 1
abbrev P34 : Case
P34 = record { file = bytes "1 2 1 1 2 0 2 1 2 1 1 2 0 0 2 1 1 1 2"; claims = prints "fix 1 1 2 6\nstrike 1 1 1 2\nplan 1\n1 1 2\n" ∷ [] }

-- rule 7 fixes the stand's best pair, not the lowest (P10 with the stands and one ranking the other way round), and no tied one: surveyor 1 ranks
-- stand 2 in shift 1, then stand 1 in shift 3, surveyor 2 ranks stand 2 in shift 2, then in shift 1; stand 1 ties its pair, stand 2 has 2 in
-- shift 1 before a tie
abbrev P35 : Case
P35 = record {
  file = bytes "2 1 1 2 2 1 4 0 2 2 1 1 1 2 2 1 1 1 4 0 2 0 2 1 1 1 0 2 1 1 2 1";
  claims = prints "fix 2 1 1 7\nstrike 2 2 1 2\nfix 1 2 1 3\nstrike 1 1 1 2\nplan 2\n1 2 1\n2 1 1\n" ∷ [];
}

abbrev P36 : Case
P36 = record {
  file = bytes "2 1 1 2 2 2 4 0 2 2 1 1 3 2 2 2 2 1 4 0 0 1 1 3 1 2 2 1 1 1 2 2";
  claims = prints "none left 4\n1 1 3\n1 2 1\n2 2 1\n2 2 2\n" ∷ [];
}

-- N(s) alone: rule 4 strikes the worst of N(s), not a worse pair outside of it that is lower, surveyor 1's with stand 1 in shift 1; and what is fixed is no
-- more in N(s), surveyor 1's pair with stand 2 in shift 2
abbrev P38 : Case
P38 = record {
  file = bytes "2 1 1 2 1 2 6 0 4 1 2 2 3 2 1 1 1 2 1 1 2 1 6 0 0 3 1 1 1 2 2 1 0 3 1 1 1 3 2 1";
  claims = prints "strike 1 2 1 4\nstrike 1 1 1 5\nnone left 4\n1 1 2\n1 2 3\n2 1 1\n2 2 1\n" ∷ [];
}

abbrev P39 : Case
P39 = record {
  file = bytes "2 2 1 2 1 2 4 0 3 1 1 2 2 2 1 1 1 1 4 0 0 2 1 1 2 1 0 2 1 1 1 2";
  claims = prints "fix 1 2 2 3\nfix 2 1 1 6\nstrike 1 1 1 2\nfix 1 2 1 3\nplan 3\n1 2 1\n1 2 2\n2 1 1\n" ∷ [];
}

-- a full node yields for a worse pair of its own that is in the plan: surveyor 1 ranks stand 1, which it has, and stand 2 in shifts 1 and 3,
-- where there is room; surveyor 2 ranks stand 1, stand 3, of quota 0, and stand 4, which it has.
-- Neither 1-2, better than its other shift, nor any other pair blocks.
abbrev P37 : Case
P37 = record {
  file = bytes "2 1 1 4 1 1 0 1 6 0 3 1 1 2 1 2 3 3 1 1 3 1 4 1 6 0 2 0 1 1 2 1 2 0 1 1 1 3 1 0 2 1 1 0 2 1";
  claims = blocked (bytes "2 1 1 1 2 4 1") false ∷ [];
}

pub more_cases : all? is_true (P11 ∷ P12 ∷ P13 ∷ P14 ∷ P15 ∷ P16 ∷ P17 ∷ P18 ∷ P19 ∷ P20 ∷ P21 ∷ P22 ∷ P23 ∷ P24 ∷ P25 ∷ P26 ∷ P27 ∷ P28 ∷ P29 ∷ P30
    ∷ P31 ∷ P32 ∷ P33 ∷ P34 ∷ P35 ∷ P36 ∷ P37 ∷ P38 ∷ P39 ∷ []) ≡ true
unfolding numbers_from count low text group_of listed listed_back both_or_neither read_each read_roster_by position edges_of instance_of deg node_vote vote
    choices within plans_of same_plan beaten_by drawn_with verdict_of strong_plans cut ahead arrow loose reserved better_s better_t worse_reserved rule1 rule2
    rule3 rule4 rule5 rule6 rule7 act rules first or_else Option-elim step_by first_step begin steps_from state_after steps_of end_of plan_bytes_by edge_of_pair
    read_plan_by diary_of left_of candidate_of finder_of blocks some_blocks top_blocking digits printed
more_cases = refl

-- numbers of up to four digits, in decimal
pub numbers : map number (0 ∷ 9 ∷ 10 ∷ 305 ∷ 1024 ∷ []) ≡ text "0" ∷ text "9" ∷ text "10" ∷ text "305" ∷ text "1024" ∷ []
unfolding text digits
numbers = refl
