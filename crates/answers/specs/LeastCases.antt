-- What each case of the code's answer says, in document 02's words: the least vote over rankings not yet settled (W-211).
use Rattle.std.specs.Prelude.{Result}
use Rattle.std.specs.declared.result.Result.TheVariants.{Ok, Err}
use Rattle.model_desk.specs.Desk as model
use Rattle.answers.specs.declared.LeastVote.{LeastVote}
use Rattle.answers.specs.declared.Refusal.{Refusal}
use Rattle.answers.specs.RefusalCases.{number_of}

-- the least vote and how many bytes of the choice are written, or the refusal
abbrev pub least_shown : Result LeastVote Refusal → model.Answer model.bounds
least_shown (Ok a) = model.said (model.least_vote a.vote a.length)
least_shown (Err r) = model.refusal (number_of r)
