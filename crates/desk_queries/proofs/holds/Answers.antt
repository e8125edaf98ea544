-- `desk_queries::holds` meets its contract. Assumes nothing.
use Rattle.std.proofs.Common.{sym, ap, ◌∙◌}
use Rattle.answers.specs.RefusalCases.{code_of}
use Rattle.desk_files.specs.Held.{held_of}
use Rattle.desk_queries.specs.Holding.{level_bare, level_roster, level_plan, level_proposal, holds_reply}
use Rattle.desk_queries.proofs.holds.Goals as goal

pub returns-in-Ok : goal.returns-in-Ok
returns-in-Ok c =
    holds_reply c.args.files (level_proposal (held_of c.args.files) (sym (ap code_of c.in-Ok.is) ∙ c.check_open.ensures.refusal))

pub returns-in-NoRoster : goal.returns-in-NoRoster
returns-in-NoRoster c =
    holds_reply c.args.files (level_bare c.in-Err.refusal (held_of c.args.files) c.in-NoRoster.is (sym (ap code_of c.in-Err.is) ∙ c.check_open.ensures.refusal))

pub returns-in-NoPlan : goal.returns-in-NoPlan
returns-in-NoPlan c =
    holds_reply c.args.files (level_roster c.in-Err.refusal (held_of c.args.files) c.in-NoPlan.is (sym (ap code_of c.in-Err.is) ∙ c.check_open.ensures.refusal))

pub returns-in_default : goal.returns-in_default
returns-in_default c =
    holds_reply c.args.files (level_plan c.in-Err.refusal (held_of c.args.files) c.in_default.not-NoRoster c.in_default.not-NoPlan
    (sym (ap code_of c.in-Err.is) ∙ c.check_open.ensures.refusal))
