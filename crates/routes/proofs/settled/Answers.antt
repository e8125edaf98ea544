-- `routes::settled` meets its contract: 23, or the route and the renumbered roster. Assumes nothing.
use Rattle.std.proofs.Common.{◌+◌, arith, ap, subst, length, T}
use Rattle.model.specs.Reading.{is_bytes}
use Rattle.theory_files.specs.Reads.{bytes_are}
use Rattle.routes.specs.Reading.{WrittenBoth}
use Rattle.routes.specs.Storing.{route_few, counts_few, route_turned, orders, room, route_stored}
use Rattle.routes.proofs.settled.Goals.{After-byte_at-nt}
use Rattle.routes.proofs.settled.Goals as goal

-- the file is bytes
file_bytes : (p : After-byte_at-nt) → T (is_bytes p.args.file.now)
file_bytes p = bytes_are p.args.file.now
    (λ i. omega (arith, p.type_inv.file i))

pub route_of-requires : goal.route_of-requires
route_of-requires p =
    let (R, (r, e)) = p.requires.0 in
    (counts_few p.args.back p.args.file.now (file_bytes (goal.at.route_of-requires p).After-byte_at-nt) p.args.k R r e p.part-route.result.now
    p.part-roster.result.now p.part-route.ensures p.part-roster.ensures p.byte_at-ns.result
    p.byte_at-nt.result p.byte_at-ns.ensures p.byte_at-nt.ensures).1

pub returns-in_default : goal.returns-in_default
returns-in_default c =
    let (R, (r, e)) = c.requires.0 in
    route_turned c.args.back c.args.file.now (file_bytes (goal.at.returns-in_default c).After-byte_at-nt) c.args.k R r e c.part-route.result.now
    c.part-roster.result.now c.part-route.ensures c.part-roster.ensures c.byte_at-ns.result
    c.byte_at-nt.result c.byte_at-ns.ensures c.byte_at-nt.ensures c.args.out.now c.in_default.ensures

pub places_of-places-requires : goal.places_of-places-requires
places_of-places-requires c =
    let (R, (r, e)) = c.requires.0 in
    route_few c.args.back c.args.file.now (file_bytes (goal.at.places_of-places-requires c).After-byte_at-nt) c.args.k R r e c.part-route.result.now
    c.part-roster.result.now c.part-route.ensures c.part-roster.ensures c.byte_at-ns.result
    c.byte_at-nt.result c.byte_at-ns.ensures c.byte_at-nt.ensures

pub turned-made-requires : goal.turned-made-requires
turned-made-requires c =
    let (R, (r, e)) = c.requires.0 in
    let few = counts_few c.args.back c.args.file.now (file_bytes (goal.at.turned-made-requires c).After-byte_at-nt) c.args.k R r e c.part-route.result.now
    c.part-roster.result.now c.part-route.ensures c.part-roster.ensures c.byte_at-ns.result
    c.byte_at-nt.result c.byte_at-ns.ensures c.byte_at-nt.ensures in
    let both = orders c.args.back c.args.file.now (file_bytes (goal.at.turned-made-requires c).After-byte_at-nt) c.args.k R r e c.part-route.result.now
    c.part-roster.result.now c.part-route.ensures c.part-roster.ensures c.byte_at-ns.result
    c.byte_at-nt.result c.byte_at-ns.ensures c.byte_at-nt.ensures c.in-Some.numbers c.places_of-places.result c.in-Some.ensures
    c.places_of-places.ensures in
    (few.0, few.1, both.0, both.1)

pub overflow_add-k-2 : goal.overflow_add-k-2
overflow_add-k-2 c =
    omega (arith, c.requires.0.0.few)

pub written-requires : goal.written-requires
written-requires c =
    let (R, (r, e)) = c.requires.0 in
    omega (
      arith,
      ap length c.bytes.ensures,
      room c.args.back c.args.file.now (file_bytes (goal.at.written-requires c).After-byte_at-nt) c.args.k R r e c.part-route.result.now
          c.part-roster.result.now c.part-route.ensures c.part-roster.ensures c.byte_at-ns.result
          c.byte_at-nt.result c.byte_at-ns.ensures c.byte_at-nt.ensures c.in-Some.numbers c.places_of-places.result c.in-Some.ensures
          c.places_of-places.ensures c.turned-made.result c.turned-made.ensures c.args.out.now c.requires.1,
    )

pub returns : goal.returns
returns c =
    let (R, (r, e)) = c.requires.0 in
    route_stored c.args.back c.args.file.now (file_bytes (goal.at.returns c).After-byte_at-nt) c.args.k R r e c.part-route.result.now
    c.part-roster.result.now c.part-route.ensures c.part-roster.ensures c.byte_at-ns.result
    c.byte_at-nt.result c.byte_at-ns.ensures c.byte_at-nt.ensures c.in-Some.numbers c.places_of-places.result c.in-Some.ensures
    c.places_of-places.ensures c.turned-made.result c.turned-made.ensures c.args.out.now c.written.result c.written.new.out
    (subst (λ z. WrittenBoth c.args.file.now (c.args.k + 1) z c.args.out.now c.written.result c.written.new.out) c.bytes.ensures c.written.ensures)
