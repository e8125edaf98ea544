-- `seasons::settled` meets its contract: another shift is 19, and else the array's front is copied. Assumes nothing.
use Rattle.std.proofs.Common.{arith, ap, length, T}
use Rattle.model.specs.Reading.{is_bytes}
use Rattle.theory_files.specs.Reads.{bytes_are}
use Rattle.roster_turned.specs.Turning.{counts_few}
use Rattle.roster_parts.specs.Growth.{written_few}
use Rattle.seasons.specs.Converting.{other_turned, front_copied}
use Rattle.seasons.proofs.settled.Goals.{After-byte_at-nt}
use Rattle.seasons.proofs.settled.Goals as goal

-- the file is bytes
file_bytes : (p : After-byte_at-nt) → T (is_bytes p.args.file.now)
file_bytes p = bytes_are p.args.file.now (λ i. omega (arith, p.type_inv.file i))

pub turn-t-requires : goal.turn-t-requires
turn-t-requires c =
    let a = c.args in
    let (R, e) = c.requires.0 in
    counts_few a.shifts a.file.now (file_bytes (goal.at.turn-t-requires c).After-byte_at-nt) R e c.byte_at-ns.result c.byte_at-nt.result
    c.byte_at-ns.ensures c.byte_at-nt.ensures

pub copy-requires : goal.copy-requires
copy-requires c = omega (arith, ap length c.bytes.ensures, written_few c.turn-t.result.roster, c.requires.1)

pub returns : goal.returns
returns c =
    let a = c.args in
    let (R, e) = c.requires.0 in
    front_copied a.shifts a.file.now (file_bytes (goal.at.returns c).After-byte_at-nt) R e c.byte_at-ns.result c.byte_at-nt.result
    c.byte_at-ns.ensures c.byte_at-nt.ensures c.turn-t.result c.turn-t.ensures a.out.now c.bytes.result.now c.copy.result c.copy.new.to
    c.if-not-t.false c.bytes.ensures c.copy.ensures.0 c.copy.ensures.1

pub returns-then-not-t : goal.returns-then-not-t
returns-then-not-t c =
    let a = c.args in
    let (R, e) = c.requires.0 in
    other_turned a.shifts a.file.now (file_bytes (goal.at.returns-then-not-t c).After-byte_at-nt) R e c.byte_at-ns.result c.byte_at-nt.result
    c.byte_at-ns.ensures c.byte_at-nt.ensures c.turn-t.result c.turn-t.ensures a.out.now
    c.if-not-t.true
