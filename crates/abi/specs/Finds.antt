-- What the calls for C that are lent the finder's buffers answer: the numbers of a reply of which the desk's call says its promise, demand 3 in it.
use Rattle.std.specs.Prelude.{◌≡◌}
use Rattle.answers.specs.FinderCases.{found_shown}
use Rattle.abi_numbers.specs.declared.FoundNumbers.{FoundNumbers}
use Rattle.abi_numbers.specs.Numbers.{found_in}
use Rattle.desk_find.specs.declared.Lengths.{Lengths}
use Rattle.desk.specs.declared.Desk.{Desk}
use Rattle.desk.specs.declared.FindReply.{FindReply}
use Rattle.abi.specs.declared.finds.DeskFound.{DeskFound}

-- the desk of a reply, the lengths of what was written, and the numbers of its answer
abbrev pub with_desk : Desk → Lengths → FoundNumbers → DeskFound
with_desk d w n = record {
  desk = d;
  kind = n.kind;
  refusal = n.refusal;
  vote = n.vote;
  steps = n.steps;
  left = n.left;
  plan_length = w.plan;
  rival_length = w.rival;
}

unfoldable pub numbers_of : FindReply → DeskFound
numbers_of r = with_desk r.desk r.lengths (found_in (found_shown r.answer))

-- what is promised of the reply that the numbers are of
pub record Numbered (Promised : FindReply → Type 0) (n : DeskFound) : Type 0 where
  pub reply : FindReply
  pub numbers : n ≡ numbers_of reply
  pub promised : Promised reply
