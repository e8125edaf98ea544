-- `ranges_least::second_judged` meets its contract: the second file is read against the same arrays, then the ranges. Assumes nothing.
use Rattle.std.proofs.Common.{◌≡◌, sym, subst, T, Err, rules}
use Rattle.instance.specs.Decoded.{shown_by}
use Rattle.model.specs.PlanFile.{read_plan}
use Rattle.theory_files.specs.Reads.{is_bytes}
use Rattle.roster_reading.specs.Place.{bytes_of}
use Rattle.plan_reader.specs.Planned.{read_planned}
use Rattle.ranges_least.specs.Asked.{Asked, second_on, second_refused, second_accepted}
use Rattle.ranges_least.proofs.second_judged.Goals as goal

pub ranges_judged-requires : goal.ranges_judged-requires
ranges_judged-requires c =
    let f = c.args.second.now in
    let is_b : T (is_bytes f) = bytes_of f (λ i. c.type_inv.second i) in
    let P = read_planned c.args.g f c.read_against.result c.read_against.ensures c.requires.loaded.0 is_b
    c.in_ok-read.was in
    record {
      loaded = (c.requires.loaded.0, c.requires.loaded.1, P, c.requires.loaded.2);
      in_order_law = c.requires.in_order_law;
    }

pub returns-in_err-read : goal.returns-in_err-read
returns-in_err-read c =
    let a = c.args in
    let told : c.from_residual.result ≡ Err c.in_err-read.field-0.0 = search rules in
    subst (λ v. Asked (shown_by a.g) (second_on (shown_by a.g) a.p.now (read_plan (shown_by a.g) a.second.now) a.ranges.now) a.out.now v a.out.now) (sym told)
    (second_refused c.read_against.ensures a.out.now a.p.now a.ranges.now c.in_err-read.was)

pub returns : goal.returns
returns c =
    let a = c.args in
    second_accepted c.read_against.ensures a.out.now a.p.now a.ranges.now c.in_ok-read.was c.ranges_judged.ensures
