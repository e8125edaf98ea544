-- `ranges_least::least` meets its contract: the first file is read, then the second, then the ranges. Assumes nothing.
use Rattle.std.proofs.Common.{◌≡◌, sym, subst, T, Err, rules}
use Rattle.instance.specs.Decoded.{shown_by}
use Rattle.theory_files.specs.Reads.{is_bytes}
use Rattle.roster_reading.specs.Place.{bytes_of}
use Rattle.plan_reader.specs.Planned.{read_planned}
use Rattle.ranges_least.specs.Asked.{Asked, question_on, first_refused, first_accepted}
use Rattle.ranges_least.proofs.least.Goals as goal

pub second_judged-requires : goal.second_judged-requires
second_judged-requires c =
    let f = c.args.first.now in
    let is_b : T (is_bytes f) = bytes_of f (λ i. c.type_inv.first i) in
    let P = read_planned c.args.g f c.read_against.result c.read_against.ensures c.requires.0 is_b
    c.in_ok-read.was in
    record {
      loaded = (c.requires.0, P, c.requires.2);
      in_order_law = c.requires.1;
    }

pub returns-in_err-read : goal.returns-in_err-read
returns-in_err-read c =
    let a = c.args in
    let told : c.from_residual.result ≡ Err c.in_err-read.field-0.0 = search rules in
    subst (λ v. Asked (shown_by a.g) (question_on (shown_by a.g) a.first.now a.second.now a.ranges.now) a.out.now v a.out.now) (sym told)
    (first_refused c.read_against.ensures a.out.now a.second.now a.ranges.now c.in_err-read.was)

pub returns : goal.returns
returns c =
    let a = c.args in
    first_accepted c.read_against.ensures a.out.now a.second.now a.ranges.now c.in_ok-read.was c.second_judged.ensures
