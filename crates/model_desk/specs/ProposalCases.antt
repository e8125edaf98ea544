-- Proposals (W-207), run by the checker: what each call leaves held and what it answers, on P5's roster, and what a list of calls with their answers
-- tells of the held plan (model_desk/History). No answer here depends on which rival is named.
use Rattle.std.specs.Prelude.{ℕ, ◌≡◌, refl, true, false, List, [], ◌∷◌, ◌++◌, pos, negsuc}
use Rattle.std.proofs.Math.Option.{Option}
use Rattle.std.proofs.Math.Option as O
use Rattle.lists.specs.Sum.{count}
use Rattle.lists.specs.Search.{low}
use Rattle.model.specs.Decimal.{bytes, numbers_from}
use Rattle.model.specs.Refusal.{group_of, form, plan, desk}
use Rattle.model.specs.Reading.{read_each}
use Rattle.model.specs.Roster.{Roster, listed, listed_back, both_or_neither}
use Rattle.model.specs.RosterFile.{read_roster_by}
use Rattle.model.specs.Edges.{position, edges_of, instance_of}
use Rattle.model.specs.Instance.{deg}
use Rattle.model.specs.Vote.{node_vote, vote}
use Rattle.model.specs.Plans.{Plan, choices, within, plans_of, same_plan, beaten_by, drawn_with, verdict_of}
use Rattle.model.specs.PlanFile.{Named, plan_bytes_by, edge_of_pair, read_plan_by}
use Rattle.model.specs.Blocking.{blocks, some_blocks, top_blocking}
use Rattle.model_changes.specs.Changes.{joined, join_on, departed, leave_on, carried}
use Rattle.model_desk.specs.Compare as C
use Rattle.model_desk.specs.Desk as D
use Rattle.model_desk.specs.Desk.{Choices, Held, nothing, roster, planned, proposed, proposes, Call, load_roster, load_plan, commit, refused, said, loaded}
use Rattle.model_desk.specs.Desk.{both_votes, committed, state_refusal, answer_of, lent_after, desk_after, onto}
use Rattle.model_desk.specs.DeskCases.{whole, judge, compare, diary, early, one, Each, Change, turns, HeldThen, Reply, replies, Answered}
use Rattle.model_desk.specs.DeskChangeCases.{join, leave}
use Rattle.model_desk.specs.History.{Event, Exchange, gave, new_roster, new_plan, new_proposal, committing, leaver, nothing_new, last_plan, events_of}
use Rattle.model_desk.specs.History.{held_pairs}

-- ---- P5: two surveyors tied at one stand of quota 2; the same without the second, without the first, with a third
-- W-208: with buffers of their size for the pairings
abbrev propose : List ℕ → Call proposes
propose a = D.propose a (whole 256) (whole 256)

abbrev P5File : List ℕ
P5File = bytes "2 1 1 1 2 2 0 1 1 1 1 1 1 2 0 0 2 1 1 2 1"

abbrev P5 : Roster
P5 = record {
  quotas_s = bytes "1 1";
  quotas_t = bytes "2";
  lists_s = early "1" ∷ early "1" ∷ [];
  lists_t = record { strict = []; tied = early "1 2" } ∷ [];
}

abbrev second_gone : Roster
second_gone = record {
  quotas_s = bytes "1 0";
  quotas_t = bytes "2";
  lists_s = early "1" ∷ [] ∷ [];
  lists_t = record { strict = []; tied = early "1" } ∷ [];
}

abbrev first_gone : Roster
first_gone = record {
  quotas_s = bytes "0 1";
  quotas_t = bytes "2";
  lists_s = [] ∷ early "1" ∷ [];
  lists_t = record { strict = []; tied = early "2" } ∷ [];
}

abbrev three : Roster
three = record {
  quotas_s = bytes "1 1 1";
  quotas_t = bytes "2";
  lists_s = early "1" ∷ early "1" ∷ early "1" ∷ [];
  lists_t = record { strict = []; tied = early "1 2 3" } ∷ [];
}

-- surveyor 1 with quota 0 and a pair, surveyor 2 with a quota and no pair; without the one, without the other
abbrev idle : Roster
idle = record {
  quotas_s = bytes "0 1 1";
  quotas_t = bytes "1";
  lists_s = early "1" ∷ [] ∷ early "1" ∷ [];
  lists_t = record { strict = early "1 3"; tied = [] } ∷ [];
}

abbrev idle_without_first : Roster
idle_without_first = record {
  quotas_s = bytes "0 1 1";
  quotas_t = bytes "1";
  lists_s = [] ∷ [] ∷ early "1" ∷ [];
  lists_t = record { strict = early "3"; tied = [] } ∷ [];
}

abbrev idle_without_second : Roster
idle_without_second = record {
  quotas_s = bytes "0 0 1";
  quotas_t = bytes "1";
  lists_s = early "1" ∷ [] ∷ early "1" ∷ [];
  lists_t = record { strict = early "1 3"; tied = [] } ∷ [];
}

-- P5's plans: the first pair, both, none
abbrev first : Plan
first = true ∷ false ∷ []

abbrev both : Plan
both = true ∷ true ∷ []

abbrev none : Plan
none = false ∷ false ∷ []

abbrev two_pairs : List ℕ
two_pairs = bytes "2 1 1 1 2 1 1"

-- the first pair held; both proposed beside it; without the second surveyor, no pair proposed beside the first
abbrev held : Held
held = planned P5 first

abbrev asked : Held
asked = proposed P5 first both

abbrev asked_left : Held
asked_left = proposed second_gone (true ∷ []) (false ∷ [])

abbrev idle_asked : Held
idle_asked = proposed idle (false ∷ true ∷ []) (false ∷ false ∷ [])

abbrev first_asked : Held
first_asked = proposed first_gone (true ∷ []) (false ∷ [])

-- ---- what is held after each call
-- a morning, call by call
abbrev morning : List Change
morning =
    turns nothing commit nothing
    ∷ turns nothing (load_roster P5File) (roster P5)
    ∷ turns (roster P5) commit (roster P5)
    ∷ turns (roster P5) (propose (bytes "1 1 1 1")) (roster P5)
    ∷ turns (roster P5) (load_plan (bytes "1 1 1 1")) held
    ∷ turns held commit held
    ∷ turns held (propose two_pairs) asked
    ∷ turns asked (propose (bytes "9")) asked
    ∷ turns asked commit (planned P5 both)
    ∷ turns (planned P5 both) (leave 2) (planned second_gone (true ∷ []))
    ∷ turns (planned second_gone (true ∷ [])) (propose (bytes "0")) asked_left
    ∷ turns asked_left (leave 2) asked_left
    ∷ turns asked_left (join 9 []) asked_left
    ∷ turns asked_left commit (planned second_gone (false ∷ [])) ∷ []

pub morning_held : Each HeldThen morning
unfolding numbers_from low listed listed_back both_or_neither read_each read_roster_by position edges_of instance_of edge_of_pair read_plan_by joined join_on departed leave_on
    carried state_refusal desk_after
morning_held = (refl, (refl, (refl, (refl, (refl, (refl, (refl, (refl, (refl, (refl, (refl, (refl, (refl, (refl, tt))))))))))))))

-- what closes a proposal, and what does not
abbrev closings : List Change
closings =
    -- "A later proposal replaces the open one", and may be the held plan itself
    turns asked (propose (bytes "0")) (proposed P5 first none)
    ∷ turns asked (propose (bytes "1 1 1 1")) (proposed P5 first first)
    ∷ turns (proposed P5 first first) commit held
    -- "Loading a roster or a plan, joining, or a leaving that changes the roster closes it"
    ∷ turns asked (load_roster P5File) (roster P5)
    ∷ turns asked (load_plan (bytes "0")) (planned P5 none)
    ∷ turns asked (load_plan (bytes "1 1 1 1")) held
    ∷ turns asked (join 1 (bytes "1 1 1")) (planned three (true ∷ false ∷ false ∷ []))
    ∷ turns asked (leave 1) (planned first_gone (false ∷ []))
    ∷ turns asked (leave 2) (planned second_gone (true ∷ []))
    -- the roster changes if the leaver has a pair or a quota above 0
    ∷ turns idle_asked (leave 1) (planned idle_without_first (true ∷ []))
    ∷ turns idle_asked (leave 2) (planned idle_without_second (false ∷ true ∷ []))
    -- and not if the leaver has left already
    ∷ turns first_asked (leave 1) first_asked ∷ []

pub closings_held : Each HeldThen closings
unfolding numbers_from low listed listed_back both_or_neither read_each read_roster_by position edges_of instance_of edge_of_pair read_plan_by joined join_on departed leave_on
    carried state_refusal desk_after
closings_held = (refl, (refl, (refl, (refl, (refl, (refl, (refl, (refl, (refl, (refl, (refl, (refl, tt))))))))))))

-- refused calls close nothing
abbrev unclosed : List Change
unclosed =
    turns asked (load_roster (bytes "1 9")) asked ∷ turns asked (load_plan (bytes "1 3 1 1")) asked
    ∷ turns asked (join 1 (bytes "1 2 1")) asked ∷ turns asked (leave 3) asked
    ∷ turns asked (D.join 1 (bytes "1 1 1") (diary 1024) (whole 3072) (whole 193) (whole 192)) asked
    ∷ turns asked (D.leave 1 (diary 1023) (whole 3072) (whole 193) (whole 193)) asked ∷ []

pub unclosed_held : Each HeldThen unclosed
unfolding numbers_from low listed listed_back both_or_neither read_each read_roster_by position edges_of instance_of edge_of_pair read_plan_by joined join_on departed leave_on
    carried state_refusal desk_after
unclosed_held = (refl, (refl, (refl, (refl, (refl, (refl, tt))))))

-- nor does a call that looks
abbrev looks : List Change
looks =
    turns asked (D.write_roster_to (whole 4262)) asked ∷ turns asked (D.write_plan_to (whole 193)) asked
    ∷ turns asked (D.find (diary 1024) (whole 3072) (whole 193) (whole 193)) asked ∷ turns asked (judge (whole 193)) asked
    ∷ turns asked (compare (bytes "0") (bytes "0")) asked ∷ turns asked D.blocking asked ∷ turns asked (D.plan_to_new (bytes "0") (whole 193)) asked
    ∷ turns asked (D.plan_to_old (bytes "0") (whole 193)) asked ∷ []

pub looks_held : Each HeldThen looks
unfolding state_refusal desk_after
looks_held = (refl, (refl, (refl, (refl, (refl, (refl, (refl, (refl, tt))))))))

-- ---- what each call answers
-- 13, 14, then the plan's refusals; 13, 14, then 20
abbrev refusals : List Reply
refusals =
    replies nothing (propose []) (refused 13 desk) ∷ replies (roster P5) (propose []) (refused 14 desk)
    ∷ replies held (propose []) (refused 1 form) ∷ replies held (propose (bytes "65")) (refused 2 form)
    ∷ replies held (propose (bytes "0 0")) (refused 9 form)
    ∷ replies held (propose (bytes "1 3 1 1")) (refused 10 plan)
    ∷ replies held (propose (bytes "2 2 1 1 1 1 1")) (refused 11 plan)
    ∷ replies one (propose two_pairs) (refused 12 plan)
    ∷ replies asked (propose (bytes "9")) (refused 1 form)
    ∷ replies nothing commit (refused 13 desk) ∷ replies (roster P5) commit (refused 14 desk)
    ∷ replies held commit (refused 20 desk) ∷ []

pub refusals_said : (ch : Choices) → Answered ch refusals
unfolding numbers_from low group_of listed read_each position edges_of instance_of edge_of_pair read_plan_by state_refusal answer_of
refusals_said ch = (refl, (refl, (refl, (refl, (refl, (refl, (refl, (refl, (refl, (refl, (refl, (refl, tt))))))))))))

abbrev answers : List Reply
answers =
    replies asked commit (said committed)
    -- the proposal's vote against the held plan, not against the open proposal, and the reverse
    ∷ replies held (propose two_pairs) (said (both_votes (pos 2) (negsuc 1)))
    ∷ replies held (propose (bytes "1 1 1 1")) (said (both_votes (pos 0) (pos 0)))
    ∷ replies asked (propose two_pairs) (said (both_votes (pos 2) (negsuc 1)))
    ∷ replies asked (propose (bytes "0")) (said (both_votes (negsuc 1) (pos 2)))
    -- the plan that is held is the one that is looked at
    ∷ replies asked D.blocking (said (D.blocked_by 2 1 1))
    ∷ replies asked (D.write_plan_to (whole 193)) (said (D.wrote 4))
    ∷ replies (proposed P5 both first) (judge (whole 193)) (said D.strong) ∷ []

pub answers_said : (ch : Choices) → Answered ch answers
unfolding numbers_from count low listed read_each position edges_of instance_of deg node_vote vote choices within plans_of same_plan beaten_by drawn_with verdict_of
    plan_bytes_by edge_of_pair read_plan_by blocks some_blocks top_blocking state_refusal answer_of
answers_said ch = (refl, (refl, (refl, (refl, (refl, (refl, (refl, (refl, tt))))))))

-- and written
pub written : (ch : Choices) → lent_after ch asked (D.write_plan_to (whole 193)) ≡ D.write_plan_to (onto (bytes "1 1 1 1") (whole 193))
unfolding numbers_from listed edges_of instance_of plan_bytes_by state_refusal lent_after
written ch = refl

-- ---- what a list of calls tells, the last one first
abbrev pair : ℕ → ℕ → Named
pair s t = record { surveyor = s; stand = t; shift = 1 }

pub record Story : Type 0 where
  pub told : List Event
  pub plan : Option (List Named)

abbrev stories : List Story
stories =
    -- nothing loaded; a roster without a plan; a plan; a roster drops it
    record { told = []; plan = O.none } ∷ record { told = new_roster ∷ []; plan = O.none }
    ∷ record { told = new_plan (pair 1 1 ∷ []) ∷ new_roster ∷ []; plan = O.some (pair 1 1 ∷ []) }
    ∷ record { told = new_roster ∷ new_plan (pair 1 1 ∷ []) ∷ new_roster ∷ []; plan = O.none }
    -- those who left after a plan was loaded, not before it
    ∷ record { told = leaver 2 ∷ new_plan (pair 1 1 ∷ pair 2 1 ∷ pair 3 1 ∷ []) ∷ []; plan = O.some (pair 1 1 ∷ pair 3 1 ∷ []) }
    ∷ record { told = leaver 1 ∷ nothing_new ∷ leaver 3 ∷ new_plan (pair 1 1 ∷ pair 2 1 ∷ pair 3 1 ∷ []) ∷ []; plan = O.some (pair 2 1 ∷ []) }
    ∷ record { told = new_plan (pair 1 1 ∷ pair 2 1 ∷ []) ∷ leaver 2 ∷ []; plan = O.some (pair 1 1 ∷ pair 2 1 ∷ []) }
    ∷ record { told = leaver 1 ∷ new_roster ∷ []; plan = O.none }
    -- a proposal counts once it is committed; the later one is
    ∷ record { told = new_proposal [] ∷ new_plan (pair 1 1 ∷ []) ∷ []; plan = O.some (pair 1 1 ∷ []) }
    ∷ record { told = committing ∷ new_proposal (pair 2 1 ∷ []) ∷ new_proposal [] ∷ new_plan (pair 1 1 ∷ []) ∷ []; plan = O.some (pair 2 1 ∷ []) }
    ∷ record { told = new_plan (pair 1 1 ∷ []) ∷ committing ∷ new_proposal [] ∷ []; plan = O.some (pair 1 1 ∷ []) }
    -- those who left after the commit
    ∷ record { told = leaver 1 ∷ committing ∷ nothing_new ∷ new_proposal (pair 1 1 ∷ pair 2 1 ∷ []) ∷ []; plan = O.some (pair 2 1 ∷ []) }
    ∷ record { told = committing ∷ leaver 3 ∷ new_proposal (pair 2 1 ∷ []) ∷ []; plan = O.some (pair 2 1 ∷ []) } ∷ []

pub stories_told : Each (λ (s : Story). last_plan [] s.told ≡ s.plan) stories
stories_told = (refl, (refl, (refl, (refl, (refl, (refl, (refl, (refl, (refl, (refl, (refl, (refl, (refl, tt)))))))))))))

-- the events are in the calls and their answers, and "refused calls count for nothing"
pub record Log : Type 0 where
  pub calls : List Exchange
  pub plan : Option (List Named)

abbrev loaded_both : List Exchange
loaded_both = gave (load_plan two_pairs) (said loaded) ∷ gave (load_roster P5File) (said loaded) ∷ []

-- calls that look, each with an answer that is no refusal
abbrev looked : List Exchange
looked =
    gave (D.write_roster_to (whole 4262)) (said (D.wrote 4)) ∷ gave (D.write_plan_to (whole 193)) (said (D.wrote 4))
    ∷ gave (D.find (diary 1024) (whole 3072) (whole 193) (whole 193)) (said (D.plan 1)) ∷ gave (judge (whole 193)) (said D.strong)
    ∷ gave (compare (bytes "0") (bytes "0")) (said (D.votes (pos 0) (pos 0) C.neither)) ∷ gave D.blocking (said D.unblocked)
    ∷ gave (D.plan_to_new (bytes "0") (whole 193)) (said (D.wrote 4)) ∷ gave (D.plan_to_old (bytes "0") (whole 193)) (said (D.wrote 4)) ∷ []

abbrev logs : List Log
logs =
    record { calls = loaded_both; plan = O.some (pair 1 1 ∷ pair 2 1 ∷ []) }
    ∷ record { calls = gave (leave 2) (said (D.plan 1)) ∷ loaded_both; plan = O.some (pair 1 1 ∷ []) }
    ∷ record { calls = gave (join 1 []) (said (D.plan 1)) ∷ gave D.blocking (said D.unblocked) ∷ loaded_both; plan = O.some (pair 1 1 ∷ pair 2 1 ∷ []) }
    ∷ record { calls = gave commit (said committed) ∷ gave (propose (bytes "0")) (said (both_votes (negsuc 3) (pos 4))) ∷ loaded_both; plan = O.some [] }
    ∷ record {
      calls = gave commit (said committed) ∷ gave (propose (bytes "1 2 1 1")) (said (both_votes (negsuc 1) (pos 2))) ∷ loaded_both;
      plan = O.some (pair 2 1 ∷ []);
    }
    ∷ record { calls = gave (leave 2) (said (D.none 0 (D.left 1))) ∷ loaded_both; plan = O.some (pair 1 1 ∷ []) }
    -- a call that looks tells nothing, whatever its answer; a pair's three numbers are the file's
    ∷ record { calls = looked ++ loaded_both; plan = O.some (pair 1 1 ∷ pair 2 1 ∷ []) }
    ∷ record { calls = gave (load_plan (bytes "1 1 2 3")) (said loaded) ∷ []; plan = O.some (record { surveyor = 1; stand = 2; shift = 3 } ∷ []) }
    -- refused
    ∷ record { calls = gave (load_roster []) (refused 1 form) ∷ loaded_both; plan = O.some (pair 1 1 ∷ pair 2 1 ∷ []) }
    ∷ record { calls = gave (load_plan (bytes "1 3 1 1")) (refused 10 plan) ∷ loaded_both; plan = O.some (pair 1 1 ∷ pair 2 1 ∷ []) }
    ∷ record { calls = gave (leave 2) (refused 15 desk) ∷ loaded_both; plan = O.some (pair 1 1 ∷ pair 2 1 ∷ []) }
    ∷ record { calls = gave commit (refused 20 desk) ∷ loaded_both; plan = O.some (pair 1 1 ∷ pair 2 1 ∷ []) }
    ∷ record {
      calls = gave commit (said committed) ∷ gave (propose (bytes "1 3 1 1")) (refused 10 plan)
          ∷ gave (propose (bytes "0")) (said (both_votes (negsuc 3) (pos 4))) ∷ loaded_both;
      plan = O.some [];
    } ∷ []

pub logs_told : Each (λ (l : Log). last_plan [] (events_of l.calls) ≡ l.plan) logs
unfolding numbers_from
logs_told = (refl, (refl, (refl, (refl, (refl, (refl, (refl, (refl, (refl, (refl, (refl, (refl, (refl, tt)))))))))))))

-- the same pairs in what a desk holds; an open proposal's are none of them
pub pairs_held : Each (λ (h : Held × Option (List Named)). held_pairs h.0 ≡ h.1) (
    (nothing, O.none) ∷ (roster P5, O.none) ∷ (held, O.some (pair 1 1 ∷ [])) ∷ (asked, O.some (pair 1 1 ∷ []))
    ∷ (planned first_gone (true ∷ []), O.some (pair 2 1 ∷ [])) ∷ [])
unfolding numbers_from listed edges_of instance_of
pairs_held = (refl, (refl, (refl, (refl, (refl, tt)))))

-- the plan that is held, with its roster; an open proposal is none
pub plans_held : Each (λ (h : Held × Option (Roster × Plan)). D.plan_held h.0 ≡ h.1) (
    (nothing, O.none) ∷ (roster P5, O.none) ∷ (held, O.some (P5, first)) ∷ (asked, O.some (P5, first)) ∷ [])
plans_held = (refl, (refl, (refl, (refl, tt))))
