-- The calls that tell what a desk holds, and that write the open proposal, run by the checker: the first is never refused, the second by 13, 14, 20, then
-- 15; what is written is the proposal and not the plan held; and the desk, which stays as it is.
use Rattle.std.specs.Prelude.{refl, true, false, List, [], ◌∷◌, ◌++◌, replicate}
use Rattle.model.specs.Decimal.{bytes, numbers_from}
use Rattle.model.specs.Refusal.{group_of, desk}
use Rattle.model.specs.Roster.{listed}
use Rattle.model.specs.Edges.{edges_of, instance_of}
use Rattle.model.specs.PlanFile.{plan_bytes_by}
use Rattle.model_desk.specs.Desk.{Choices, Held, nothing, roster, proposed, holds, write_proposal_to, refused, said, wrote, holding, bare, a_roster, a_plan}
use Rattle.model_desk.specs.Desk.{a_proposal, state_refusal, answer_of, lent_after, desk_after}
use Rattle.model_desk.specs.DeskCases.{whole, sample, one, Each, turns, HeldThen, Reply, replies, Answered, Lent, lends, LentThen}

-- the sample with the plan of its first pair, and that of its second proposed; no pair proposed
abbrev asked : Held
asked = proposed sample (true ∷ false ∷ []) (false ∷ true ∷ [])

abbrev asked_none : Held
asked_none = proposed sample (true ∷ false ∷ []) (false ∷ false ∷ [])

abbrev replied : List Reply
replied =
    replies nothing holds (said (holding bare)) ∷ replies (roster sample) holds (said (holding a_roster)) ∷ replies one holds (said (holding a_plan))
    ∷ replies asked holds (said (holding a_proposal)) ∷ replies asked_none holds (said (holding a_proposal))
    -- 13, 14, 20, then 15
    ∷ replies nothing (write_proposal_to []) (refused 13 desk) ∷ replies (roster sample) (write_proposal_to []) (refused 14 desk)
    ∷ replies one (write_proposal_to []) (refused 20 desk) ∷ replies one (write_proposal_to (whole 193)) (refused 20 desk)
    ∷ replies asked (write_proposal_to (whole 192)) (refused 15 desk) ∷ replies asked (write_proposal_to (whole 193)) (said (wrote 4))
    ∷ replies asked_none (write_proposal_to (whole 193)) (said (wrote 1)) ∷ []

pub holds_said : (ch : Choices) → Answered ch replied
unfolding numbers_from group_of listed edges_of instance_of plan_bytes_by state_refusal answer_of
holds_said ch = (refl, (refl, (refl, (refl, (refl, (refl, (refl, (refl, (refl, (refl, (refl, (refl, tt))))))))))))

abbrev lent : List Lent
lent =
    lends asked holds holds ∷ lends one (write_proposal_to (whole 193)) (write_proposal_to (whole 193))
    ∷ lends asked (write_proposal_to (whole 192)) (write_proposal_to (whole 192))
    ∷ lends asked (write_proposal_to (whole 194)) (write_proposal_to (bytes "1 2 1 1" ++ replicate 190 7)) ∷ []

pub proposal_written : (ch : Choices) → Each (LentThen ch) lent
unfolding numbers_from group_of listed edges_of instance_of plan_bytes_by state_refusal lent_after
proposal_written ch = (refl, (refl, (refl, (refl, tt))))

pub still_held : Each HeldThen (turns asked holds asked ∷ turns asked (write_proposal_to (whole 193)) asked ∷ turns nothing holds nothing ∷ [])
unfolding state_refusal desk_after
still_held = (refl, (refl, (refl, tt)))
