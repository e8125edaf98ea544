-- `desk_changes::found_on` meets its contract. Assumes nothing.
use Rattle.std.proofs.Common.{arith, refl, sym, ap, subst}
use Rattle.answers.specs.RefusalCases.{code_of, number_some}
use Rattle.desk_find.specs.Outcomes.{Kept}
use Rattle.desk_changes.proofs.found_on.Goals as goal

pub returns-in-Err : goal.returns-in-Err
returns-in-Err c =
    let a = c.args in
    record {
      refuses = λ h. (
        refl,
        subst (λ x. Kept (code_of x) a.left.now a.plan.now a.rival.now c.refused.result a.left.now a.plan.now a.rival.now) (sym c.in-Err.is)
            (record { refuses = c.refused.ensures; left = refl; plan = refl; rival = refl }),
      );
      finds = λ z. absurd (let e = ap code_of c.in-Err.is in let h = number_some c.in-Err.refusal in let z : ⊥ = omega arith in z);
    }

pub search_changed-requires : goal.search_changed-requires
search_changed-requires c = c.requires (let e = ap code_of c.in-Ok.is in omega arith)

pub returns-in-Ok : goal.returns-in-Ok
returns-in-Ok c =
    record {
      refuses = λ h. absurd (let e = ap code_of c.in-Ok.is in let z : ⊥ = omega arith in z);
      finds = λ z. c.search_changed.ensures;
    }
