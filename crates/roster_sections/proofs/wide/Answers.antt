-- `roster_sections::wide` meets its contract: two bytes make a number below 65,536. Assumes nothing.
use Rattle.std.proofs.Common.{◌+◌, arith}
use Rattle.roster_sections.proofs.wide.Goals as goal

pub overflow_cast-a : goal.overflow_cast-a
overflow_cast-a c = let a = c.args in omega (arith, c.type_inv.file a.at, c.type_inv.file (a.at + 1))

pub overflow_cast-b : goal.overflow_cast-b
overflow_cast-b c = let a = c.args in omega (arith, c.type_inv.file a.at, c.type_inv.file (a.at + 1))

pub overflow_mul-result : goal.overflow_mul-result
overflow_mul-result c = let a = c.args in omega (arith, c.type_inv.file a.at, c.type_inv.file (a.at + 1))

pub overflow_add-result : goal.overflow_add-result
overflow_add-result c = let a = c.args in omega (arith, c.type_inv.file a.at, c.type_inv.file (a.at + 1))
