-- `desk_changes::join` meets its contract; the list lent to it is bytes. Assumes nothing.
use Rattle.roster_reading.specs.Place.{bytes_of}
use Rattle.desk_changes.specs.AfterChange.{change_done, join_settled}
use Rattle.desk_changes.proofs.join.Goals as goal

pub found_on-requires : goal.found_on-requires
found_on-requires c =
    let a = c.args in
    join_settled a.files a.quota a.list.now (bytes_of a.list.now (λ i. c.type_inv.list i)) c.joined-c.result a.room
    a.left.now a.plan.now a.rival.now c.finder_short-short.ensures c.joined-c.ensures

pub returns : goal.returns
returns c = (
  bytes_of c.args.list.now (λ i. c.type_inv.list i),
  change_done c.finder_short-short.ensures c.joined-c.ensures c.found_on.ensures,
)
