-- `desk_writes::turned` meets its contract: the state's refusal, or what the plan's reading gives. Assumes nothing.
use Rattle.std.proofs.Common.{◌≡◌, le_refl, sym, subst, Err, rules}
use Rattle.model.specs.Limits.{plan_size}
use Rattle.roster_reading.specs.Place.{bytes_of}
use Rattle.instance.specs.Decoded.{shown_by}
use Rattle.desk_files.specs.State.{arrays_are, long_enough}
use Rattle.desk_writes.specs.Seasons.{TurnsBy, turns_not, turns}
use Rattle.desk_writes.proofs.turned.Goals as goal

pub read_against-read-requires : goal.read_against-read-requires
read_against-read-requires c = arrays_are c.args.files c.in_ok-l.ensures (le_refl 0)

pub turn-requires : goal.turn-requires
turn-requires c =
    let a = c.args in
    let g = arrays_are a.files c.in_ok-l.ensures (le_refl 0) in (
      (shown_by c.in_ok-l.l.g, (g.fileable, c.read_against-read.ensures.answer)),
      long_enough a.out.now plan_size c.in_ok-l.ensures (le_refl 0),
    )

pub returns : goal.returns
returns c =
    let a = c.args in
    let g = arrays_are a.files c.in_ok-l.ensures (le_refl 0) in
    turns a.shifts a.files a.file.now a.out.now (bytes_of a.file.now (λ i. c.type_inv.file i)) c.in_ok-l.ensures
    (c.turn.ensures (shown_by c.in_ok-l.l.g) (g.fileable, c.read_against-read.ensures.answer))

pub returns-in_err-l : goal.returns-in_err-l
returns-in_err-l c =
    let a = c.args in
    let told : c.from_residual.result ≡ Err c.in_err-l.field-0.0 = search rules in
    subst (λ r. TurnsBy a.shifts a.files a.file.now a.out.now r a.out.now) (sym told)
    (turns_not a.shifts a.files a.file.now a.out.now c.in_err-l.ensures)
