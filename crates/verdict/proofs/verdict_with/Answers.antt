-- The verdict on a plan that has a rival, with the vote as it was handed over.
use Rattle.std.proofs.Common.{◌≡◌, sym, ap, ◌∙◌, refl, Bool, false, cond, w16, to_z-of_z, rules}
use Rattle.answers.specs.declared.Verdict.TheVariants.{Popular, Beaten}
use Rattle.rival_verdict.specs.declared.Standing.TheVariants as standing
use Rattle.rival_verdict.specs.declared.Standing.{Standing}
use Rattle.rival_verdict.specs.Judged.{is_beaten}
use Rattle.verdict.proofs.verdict_with.Goals as goal

pub returns-in-Beaten : goal.returns-in-Beaten
returns-in-Beaten c =
    let a = c.args in
    ap Beaten (to_z-of_z {w = w16} {z = a.vote} (search rules)) ∙ ap (λ (s : Standing). cond (is_beaten s) (Beaten a.vote) (Popular a.vote)) (sym c.in-Beaten.is)

unbeaten : (s : Standing) → (s ≡ standing.Beaten → ⊥) → is_beaten s ≡ false
unbeaten standing.Beaten h = absurd (h refl)
unbeaten standing.Popular h = refl
unbeaten standing.Strong h = refl

pub returns-in_default : goal.returns-in_default
returns-in_default c =
    let a = c.args in
    ap Popular (to_z-of_z {w = w16} {z = a.vote} (search rules))
    ∙ ap (λ (b : Bool). cond b (Beaten a.vote) (Popular a.vote)) (sym (unbeaten a.standing c.in_default.not-Beaten))
