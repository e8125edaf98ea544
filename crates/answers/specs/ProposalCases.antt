-- What each case of the code's answer says, in document 02's words: a proposal (W-207), and the commit of one.
use Rattle.std.specs.Prelude.{⊤}
use Rattle.std.specs.Prelude.{Result}
use Rattle.std.specs.declared.result.Result.TheVariants.{Ok, Err}
use Rattle.model_desk.specs.Desk as model
use Rattle.answers.specs.declared.Proposal.{Proposal}
use Rattle.answers.specs.declared.Refusal.{Refusal}
use Rattle.answers.specs.RefusalCases.{number_of}

-- both votes, the proposal's against the held plan first, or the refusal
abbrev pub proposal_shown : Result Proposal Refusal → model.Answer model.proposes
proposal_shown (Ok p) = model.said (model.both_votes p.proposal p.held)
proposal_shown (Err r) = model.refusal (number_of r)

-- committed, or the refusal
abbrev pub commit_shown : Result ⊤ Refusal → model.Answer model.commits
commit_shown (Ok a) = model.said model.committed
commit_shown (Err r) = model.refusal (number_of r)
