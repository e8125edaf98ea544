-- The numbers of a reply: those of its answer, beside the desk and the lengths.
use Rattle.std.proofs.Common.{ap, ◌∙◌, w16, to_z-of_z, rules}
use lib.IntN.{ℤ}
use Rattle.abi.specs.Finds.{with_desk, numbers_of}
use Rattle.abi.specs.declared.finds.DeskFound.{DeskFound}
use Rattle.abi.proofs.finds.numbers_of.Goals as goal

pub returns : goal.returns
unfolding numbers_of
returns c =
    let r = c.args.r in
    let d = r.desk in
    let w = r.lengths in
    let n = c.found_numbers-n.result in
    ap {B = DeskFound} (λ (z : ℤ). record {
      desk = d;
      kind = n.kind;
      refusal = n.refusal;
      vote = z;
      steps = n.steps;
      left = n.left;
      plan_length = w.plan;
      rival_length = w.rival;
    }) (to_z-of_z {w = w16} {z = n.vote} (search rules)) ∙ ap (with_desk d w) c.found_numbers-n.ensures
