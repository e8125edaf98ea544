-- One record a turn.
use Rattle.std.proofs.Common.{◌≡◌, ℕ, List, refl, ap, ◌∙◌, zero-le, arith, add-one, set}
use Rattle.diary.specs.declared.Step.{Step}
use Rattle.diary_records.proofs.Filled.{filled, filled_onto}
use Rattle.diary_records.proofs.fill.Goals as goal

pub loop-i-init : goal.loop-i-init
loop-i-init c = (zero-le, refl)

pub loop-i-preserved : goal.loop-i-preserved
loop-i-preserved c =
    let a = c.args in
    let l = c.loop-i in (
      omega arith,
      rw add-one (ap (λ (d : List Step). set d l.i c.step_at.result) l.invariant.1
          ∙ ap (λ (s : Step). set (filled l.i a.flat a.diary.now) l.i s) c.step_at.ensures),
    )

pub returns : goal.returns
returns c =
    let a = c.args in
    let l = c.loop-i in
    let e : l.i ≡ a.n = omega arith in
    l.invariant.1 ∙ ap (λ (k : ℕ). filled k a.flat a.diary.now) e ∙ filled_onto a.n a.flat a.diary.now c.requires.1
