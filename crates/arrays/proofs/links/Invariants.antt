use Rattle.std.proofs.Common.{◌≡◌, ◌≤◌, length}
use Rattle.arrays.specs.Linked.{LinkedFrom}
use Rattle.arrays.proofs.links.Given as goal

abbrev pub invariant-loop-i : goal.invariant-loop-i
invariant-loop-i l = (l.i ≤ l.m) × (length l.next ≡ length l.initial.next) × (length l.head ≡ 32) × LinkedFrom l.m l.end l.i l.head l.next
