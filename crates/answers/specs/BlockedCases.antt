-- What each case of the code's answer says, in document 01's words: "yes with some such pair, or no".
use Rattle.std.specs.Prelude.{Option}
use Rattle.std.specs.declared.option.Option.TheVariants.{None, Some}
use Rattle.std.specs.Prelude.{Result}
use Rattle.std.specs.declared.result.Result.TheVariants.{Ok, Err}
use Rattle.model_desk.specs.Desk as model
use Rattle.answers.specs.declared.Blocking.{Blocking}
use Rattle.answers.specs.declared.Refusal.{Refusal}
use Rattle.answers.specs.RefusalCases.{number_of}

-- yes with the pair's surveyor, stand and shift, or no, or the refusal
abbrev pub blocked_shown : Result (Option Blocking) Refusal → model.Answer model.blocks
blocked_shown (Ok (Some b)) = model.said (model.blocked_by b.surveyor b.stand b.shift)
blocked_shown (Ok None) = model.said model.unblocked
blocked_shown (Err r) = model.refusal (number_of r)
