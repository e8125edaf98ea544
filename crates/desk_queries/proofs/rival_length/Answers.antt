-- `desk_queries::rival_length` meets its contract: case by case of the verdict. Assumes nothing.
use Rattle.std.proofs.Common.{sym, ap, ◌∙◌, Ok}
use Rattle.desk_queries.specs.Judging.{rival_in}
use Rattle.desk_queries.proofs.rival_length.Goals as goal

pub returns-in-Popular : goal.returns-in-Popular
returns-in-Popular c =
    c.plan_length.ensures ∙ ap (λ v. rival_in (Ok v) c.args.pairs) (sym c.in-Popular.is)

pub returns-in-Beaten : goal.returns-in-Beaten
returns-in-Beaten c =
    c.plan_length-in-Beaten.ensures ∙ ap (λ v. rival_in (Ok v) c.args.pairs) (sym c.in-Beaten.is)
