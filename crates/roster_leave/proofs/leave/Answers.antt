-- `roster_leave::leave` meets its contract: the number is outside the surveyors, or its surveyor leaves. Assumes nothing.
use Rattle.std.proofs.Common.{◌<◌, arith}
use Rattle.theory_files.specs.Reads.{bytes_are}
use Rattle.theory_files.specs.Rosters.{read_write, read_fits}
use Rattle.roster_parts.specs.Places.{counts_small}
use Rattle.roster_leave.specs.Departing.{leaves_none, leaves_above, leaves}
use Rattle.roster_leave.proofs.leave.Goals as goal

pub returns-then-number-eq0 : goal.returns-then-number-eq0
returns-then-number-eq0 c =
    let f = c.args.file.now in
    let is_b = bytes_are f (λ i. omega (arith, c.type_inv.file i)) in
    λ R a. leaves_none f is_b R a c.byte_at-ns.result c.byte_at-ns.ensures c.args.number c.if-number-eq0.true

pub returns-then-ns-number : goal.returns-then-ns-number
returns-then-ns-number c =
    let f = c.args.file.now in
    let is_b = bytes_are f (λ i. omega (arith, c.type_inv.file i)) in
    λ R a. leaves_above f is_b R a c.byte_at-ns.result c.byte_at-ns.ensures c.args.number c.if-ns-number.true

pub left-requires : goal.left-requires
left-requires c =
    let f = c.args.file.now in
    let is_b = bytes_are f (λ i. omega (arith, c.type_inv.file i)) in
    let (R, a) = c.requires in
    let (ns, nt) = counts_small f R (read_write f R is_b a) c.byte_at-ns.result c.byte_at-ns.ensures
    (read_fits f R is_b a) c.byte_at-n.result
    c.byte_at-n.ensures in
    (ns, nt, omega (arith, c.if-number-eq0.false), c.if-ns-number.false)

pub returns : goal.returns
returns c =
    let f = c.args.file.now in
    let is_b = bytes_are f (λ i. omega (arith, c.type_inv.file i)) in
    λ R a. leaves f is_b R a c.byte_at-ns.result c.byte_at-ns.ensures
    c.args.number
    (let h : 0 < c.args.number = omega (arith, c.if-number-eq0.false) in h)
    c.if-ns-number.false c.byte_at-n.result c.byte_at-n.ensures c.left.ensures
