-- Claims that are wrong, run by the checker: each is found to be wrong. Without them a test that passes everything would pass the cases too.
use Rattle.std.specs.Prelude.{ℕ, ◌≡◌, refl, true, false, List, [], ◌∷◌, map, replicate, pos, negsuc}
use Rattle.lists.specs.Sum.{count}
use Rattle.lists.specs.Search.{low}
use Rattle.model.specs.Decimal.{bytes, numbers_from}
use Rattle.model.specs.Claims.{Claim, Case, is_true, prints, strong_ones, votes, stand_votes, judged, rivals, blocked, blocked_at, cut_to, surveyor_cut_to}
use Rattle.model.specs.Text.{text}
use Rattle.model.specs.Refusal.{group_of}
use Rattle.model.specs.Reading.{read_each}
use Rattle.model.specs.Roster.{listed, listed_back, both_or_neither}
use Rattle.model.specs.RosterFile.{read_roster_by}
use Rattle.model.specs.Edges.{position, edges_of, instance_of}
use Rattle.model.specs.Instance.{deg}
use Rattle.model.specs.Vote.{node_vote, vote}
use Rattle.model.specs.Plans.{strong, popular, beaten, choices, within, plans_of, same_plan, beaten_by, drawn_with, verdict_of, strong_plans}
use Rattle.model.specs.Reduction.{cut, begin}
use Rattle.model.specs.PlanFile.{plan_bytes_by, edge_of_pair, read_plan_by}
use Rattle.model.specs.Blocking.{blocks, some_blocks, top_blocking}
use Rattle.model.specs.Printed.{digits, printed}

-- document 01's sample, P3, where 1-1 is strong and 2-1 beaten; P4, where 1-1 is popular with the one rival 2-1; a file that is refused
abbrev of_sample : Claim → Case
of_sample c = record { file = bytes "2 1 1 1 1 2 0 1 1 1 1 1 1 2 0 2 0 1 1 2 1"; claims = c ∷ [] }

abbrev of_tie : Claim → Case
of_tie c = record { file = bytes "2 1 1 1 1 2 0 1 1 1 1 1 1 2 0 0 2 1 1 2 1"; claims = c ∷ [] }

abbrev of_none : Claim → Case
of_none c = record { file = bytes "1 9"; claims = c ∷ [] }

-- the plans 1-1 and 2-1
abbrev one : List ℕ
one = bytes "1 1 1 1"

abbrev two : List ℕ
two = bytes "1 2 1 1"

abbrev wrong : List Case
wrong =
    -- another letter, one too few, one too many
    of_none (prints "refused 4 content\n") ∷ of_none (prints "refused 3 content") ∷ of_none (prints "refused 3 content\n\n")
    -- a plan too many; a vote that is less, that is more; at the stand
    ∷ of_sample (strong_ones 2) ∷ of_sample (votes one two (pos 0)) ∷ of_sample (votes one two (pos 2)) ∷ of_sample (stand_votes 0 one two (negsuc 0))
    -- every other verdict
    ∷ of_sample (judged one popular) ∷ of_sample (judged one beaten) ∷ of_sample (judged two strong) ∷ of_sample (judged two popular)
    ∷ of_tie (judged one strong) ∷ of_tie (judged one beaten)
    -- no rival, two, another, one where there is none
    ∷ of_tie (rivals one []) ∷ of_tie (rivals one (two ∷ two ∷ [])) ∷ of_tie (rivals one (one ∷ [])) ∷ of_sample (rivals one (two ∷ []))
    -- no pair that blocks; another surveyor, stand, shift; a pair where there is none
    ∷ of_sample (blocked two false) ∷ of_sample (blocked_at two 2 1 1) ∷ of_sample (blocked_at two 1 2 1) ∷ of_sample (blocked_at two 1 1 2)
    ∷ of_sample (blocked one true)
    -- another quota, at the stand, at the surveyor
    ∷ of_sample (cut_to 0 2) ∷ of_sample (surveyor_cut_to 1 2)
    -- right, but of a plan or a roster that is refused
    ∷ of_sample (blocked (bytes "1 3 1 1") false) ∷ of_none (strong_ones 0)
    -- one that is right, and one that is wrong
    ∷ record { file = bytes "0 0 0 0 0 0"; claims = strong_ones 1 ∷ strong_ones 0 ∷ [] } ∷ []

pub all_wrong : map is_true wrong ≡ replicate 27 false
unfolding numbers_from count low text group_of listed listed_back both_or_neither read_each read_roster_by position edges_of instance_of deg node_vote vote
    choices within plans_of same_plan beaten_by drawn_with verdict_of strong_plans cut begin plan_bytes_by edge_of_pair
    read_plan_by blocks some_blocks top_blocking digits printed
all_wrong = refl
