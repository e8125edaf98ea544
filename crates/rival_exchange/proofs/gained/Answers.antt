-- An edge is marked, or there is none.
use Rattle.std.proofs.Common.{arith, ◌≡◌, length, rules}
use Rattle.rival_exchange.specs.Swaps.{mark_one, mark_none}
use Rattle.rival_exchange.proofs.gained.Goals as goal

pub returns-then-c-m : goal.returns-then-c-m
returns-then-c-m c =
    let a = c.args in
    let l : length a.g ≡ 1024 = search rules in
    mark_one a.g a.m a.c c.if-c-m.true (omega arith)

pub returns-else-c-m : goal.returns-else-c-m
returns-else-c-m c = mark_none c.args.g c.args.m c.args.c c.if-c-m.false
