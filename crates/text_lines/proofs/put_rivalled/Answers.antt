-- `text_lines::put_rivalled` meets its contract: the vote, and two plans.
use Rattle.std.proofs.Common.{◌≤◌, arith, ap, [], ◌∷◌, ◌++◌, length, w16, to_z, of_z}
use mir.ValLaws.{to_z-of_z}
use Rattle.model.specs.Text.{text}
use Rattle.model.specs.Printed.{signed}
use Rattle.text_lines.specs.Appended.{append_as, append_then}
use Rattle.text_lines.specs.Votes.{vote_length}
use Rattle.text_lines.specs.Room.{plan_length}
use Rattle.text_lines.proofs.put_rivalled.Goals as goal

pub put_plan-next-requires : goal.put_plan-next-requires
put_plan-next-requires c =
    omega (
      arith,
      c.requires,
      c.put_word-next.ensures.place,
      c.put_vote-next.ensures.place,
      vote_length (to_z w16 (of_z w16 c.args.vote)),
    )

pub put_plan-requires : goal.put_plan-requires
unfolding text
put_plan-requires c =
    let a = c.args in
    omega (
      arith,
      c.requires,
      c.put_word-next.ensures.place,
      c.put_vote-next.ensures.place,
      vote_length (to_z w16 (of_z w16 a.vote)),
      c.put_plan-next.ensures.place,
      plan_length (text "candidate ") a.plan.now c.requires.0,
    )

pub returns : goal.returns
unfolding text
returns c =
    let a = c.args in
    let h : a.at ≤ length a.out.now = omega (arith, c.requires) in
    append_then a.out.now a.at h
    (append_then a.out.now a.at h
    (append_then a.out.now a.at h
    c.put_word-next.ensures
    (append_as (ap (λ v. signed v ++ 10 ∷ []) (to_z-of_z w16 a.vote c.ranges.vote))
    c.put_vote-next.ensures))
    c.put_plan-next.ensures)
    c.put_plan.ensures
