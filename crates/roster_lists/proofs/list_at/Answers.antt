-- `roster_lists::list_at` meets its contract: its length byte, then its entries. Assumes nothing.
use Rattle.std.proofs.Common.{arith, get_or}
use Rattle.roster_reading.specs.Row.{entries_first}
use Rattle.roster_reading.specs.Lists.{list_end, list_long, list_goes}
use Rattle.roster_lists.proofs.list_at.Goals as goal

pub returns-then-file-at : goal.returns-then-file-at
returns-then-file-at c = let a = c.args in list_end a.shifts a.longest a.other a.file.now a.at c.if-file-at.true

pub returns-then-longest-n : goal.returns-then-longest-n
returns-then-longest-n c =
    let a = c.args in
    list_long a.shifts a.longest a.other a.file.now a.at (omega arith) c.if-longest-n.true

pub returns : goal.returns
returns c =
    let a = c.args in
    list_goes a.shifts a.longest a.other a.file.now a.at (omega arith) (omega arith)
    (entries_first a.shifts a.other (get_or a.file.now a.at 0) a.row.now c.requires.1 c.entries_at.ensures)
