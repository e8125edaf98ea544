-- What an answer's numbers are, read off the model's answer. 0 is no refusal, and what an answer does not have.
use Rattle.std.specs.Prelude.{ℕ, ◌≡◌, refl, pos, Result, ⊤}
use Rattle.std.specs.declared.result.Result.TheVariants.{Ok, Err}
use Rattle.std.proofs.Common.{ap}
use Rattle.lists.specs.Test.{bit}
use Rattle.model.specs.Reading as reading
use Rattle.model.specs.Reading.{Reading, accepted}
use Rattle.model.specs.Refusal as model
use Rattle.model_desk.specs.Desk.{Topic, writes, finds, judges, blocks, proposes, bounds, NoneKind, left, rivalled, Answer, refused, said}
use Rattle.model_desk.specs.Desk.{wrote, plan, none, strong, popular, beaten, blocked_by, unblocked, both_votes, least_vote}
use Rattle.model_desk.specs.Desk.{Level, bare, a_roster, a_plan, a_proposal}
use Rattle.model_files.specs.Profile as profile
use Rattle.answers.specs.declared.Refusal.{Refusal}
use Rattle.answers.specs.RefusalCases.{reading_of, code_of}
use Rattle.answers.specs.FileCases.{file_shown, file_read}
use Rattle.answers.specs.ProposalCases.{commit_shown}
use Rattle.abi_numbers.specs.declared.Outcome.{Outcome}
use Rattle.abi_numbers.specs.declared.Judged.{Judged}
use Rattle.abi_numbers.specs.declared.Blocker.{Blocker}
use Rattle.abi_numbers.specs.declared.Proposed.{Proposed}
use Rattle.abi_numbers.specs.declared.LeastNumbers.{LeastNumbers}
use Rattle.abi_numbers.specs.declared.FoundNumbers.{FoundNumbers}
use Rattle.abi_numbers.specs.declared.OffersNumbers.{OffersNumbers}

-- the groups as numbers
abbrev pub group_number : model.Group → ℕ
group_number model.form = 1
group_number model.content = 2
group_number model.plan = 3
group_number model.desk = 4

-- a refusal's number, 0 for none
abbrev pub refusal_in : {k : Topic} → Answer k → ℕ
refusal_in (refused n g) = n
refusal_in (said x) = 0

-- a refusal, or 0 and the length written
abbrev pub outcome_in : Answer writes → Outcome
outcome_in (refused n g) = record { refusal = n; length = 0 }
outcome_in (said (wrote n)) = record { refusal = 0; length = n }

-- the verdict: 1 strong, 2 popular, 3 beaten; and the vote against the rival, of which k bytes are written
abbrev pub judged_in : (k : ℕ) → Answer judges → Judged
judged_in k (refused n g) = record { refusal = n; verdict = 0; vote = pos 0; rival_length = k }
judged_in k (said strong) = record { refusal = 0; verdict = 1; vote = pos 0; rival_length = k }
judged_in k (said (popular v)) = record { refusal = 0; verdict = 2; vote = v; rival_length = k }
judged_in k (said (beaten v)) = record { refusal = 0; verdict = 3; vote = v; rival_length = k }

-- the numbers of a blocking pair: surveyor, stand, shift
abbrev pub blocker_in : Answer blocks → Blocker
blocker_in (refused n g) = record { refusal = n; surveyor = 0; stand = 0; shift = 0 }
blocker_in (said (blocked_by s t k)) = record { refusal = 0; surveyor = s; stand = t; shift = k }
blocker_in (said unblocked) = record { refusal = 0; surveyor = 0; stand = 0; shift = 0 }

-- W-207: both votes of a proposal, its own first
abbrev pub proposed_in : Answer proposes → Proposed
proposed_in (refused n g) = record { refusal = n; proposal_vote = pos 0; held_vote = pos 0 }
proposed_in (said (both_votes v w)) = record { refusal = 0; proposal_vote = v; held_vote = w }

-- W-211: the least vote, and the length of the choice written
abbrev pub least_in : Answer bounds → LeastNumbers
least_in (refused n g) = record { refusal = n; vote = pos 0; length = 0 }
least_in (said (least_vote v n)) = record { refusal = 0; vote = v; length = n }

-- what the finder found
abbrev pub none_in : ℕ → NoneKind → FoundNumbers
none_in n (left k) = record { kind = 2; refusal = 0; vote = pos 0; steps = n; left = k }
none_in n (rivalled v) = record { kind = 3; refusal = 0; vote = v; steps = n; left = 0 }

-- by the kind of the answer
abbrev pub found_in : Answer finds → FoundNumbers
found_in (refused n g) = record { kind = 4; refusal = n; vote = pos 0; steps = 0; left = 0 }
found_in (said (plan n)) = record { kind = 1; refusal = 0; vote = pos 0; steps = n; left = 0 }
found_in (said (none n k)) = none_in n k

-- how much is held
abbrev pub level_number : Level → ℕ
level_number bare = 0
level_number a_roster = 1
level_number a_plan = 2
level_number a_proposal = 3

-- W-212: whether the plan of the offers is strong, and the length written
abbrev pub offers_in : profile.Answer → OffersNumbers
offers_in (profile.offers s n) = record { refusal = 0; strong = bit s; length = n }
offers_in (profile.refused n g) = record { refusal = n; strong = 0; length = 0 }

-- ---- the refusal of a reading, 0 for none
abbrev pub refusal_of : {A : Type 0} → Reading A → ℕ
refusal_of (accepted a) = 0
refusal_of (reading.refused n) = n

-- of the result that shows a reading
pub reading_number : {A : Type 0} (r : Result ⊤ Refusal) (x : Reading A) → reading_of r ≡ file_read x → code_of r ≡ refusal_of x
reading_number (Ok u) (accepted a) e = refl
reading_number (Ok u) (reading.refused n) e = ap refusal_of e
reading_number (Err q) (accepted a) e = ap refusal_of e
reading_number (Err q) (reading.refused n) e = ap refusal_of e

-- of the answer that shows a result
pub loaded_number : (r : Result ⊤ Refusal) → code_of r ≡ refusal_in (file_shown r)
loaded_number (Ok u) = refl
loaded_number (Err q) = refl

pub commit_number : (r : Result ⊤ Refusal) → code_of r ≡ refusal_in (commit_shown r)
commit_number (Ok u) = refl
commit_number (Err q) = refl
