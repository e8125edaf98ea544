-- What each case of the code's answer says, in document 02's words (W-212): whether the plan of the offers is strong, and how many bytes of it are
-- written.
use Rattle.std.specs.Prelude.{Result}
use Rattle.std.specs.declared.result.Result.TheVariants.{Ok, Err}
use Rattle.model_files.specs.Profile as model
use Rattle.answers.specs.declared.Offers.{Offers}
use Rattle.answers.specs.declared.Refusal.{Refusal}
use Rattle.answers.specs.RefusalCases.{number_of}

-- whether the plan is strong and how many bytes of it are written, or the refusal
abbrev pub offers_shown : Result Offers Refusal → model.Answer
offers_shown (Ok a) = model.offers a.strong a.length
offers_shown (Err r) = model.refusal (number_of r)
