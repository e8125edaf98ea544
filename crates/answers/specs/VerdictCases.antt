-- What each case of the code's answer says, in document 01's words: the verdict on a plan, with the vote against the rival.
use Rattle.std.specs.Prelude.{Result}
use Rattle.std.specs.declared.result.Result.TheVariants.{Ok, Err}
use Rattle.model_desk.specs.Desk as model
use Rattle.answers.specs.declared.Verdict.{Verdict}
use Rattle.answers.specs.declared.Verdict.TheVariants.{Strong, Popular, Beaten}
use Rattle.answers.specs.declared.Refusal.{Refusal}
use Rattle.answers.specs.RefusalCases.{number_of}

-- strong, or popular or beaten with the vote against the rival, or the refusal
abbrev pub verdict_shown : Result Verdict Refusal → model.Answer model.judges
verdict_shown (Ok Strong) = model.said model.strong
verdict_shown (Ok (Popular v)) = model.said (model.popular v)
verdict_shown (Ok (Beaten v)) = model.said (model.beaten v)
verdict_shown (Err r) = model.refusal (number_of r)
