-- What each case of the code's answer says: how much a desk holds.
use Rattle.model_desk.specs.Desk as model
use Rattle.answers.specs.declared.Holding.{Holding}
use Rattle.answers.specs.declared.Holding.TheVariants.{Nothing, Roster, Plan, Proposal}

-- nothing, a roster, a plan with it, or a proposal beside these
abbrev pub holding_shown : Holding → model.Level
holding_shown Nothing = model.bare
holding_shown Roster = model.a_roster
holding_shown Plan = model.a_plan
holding_shown Proposal = model.a_proposal
