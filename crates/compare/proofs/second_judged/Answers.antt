-- `compare::second_judged` meets its contract: the second file is read against the same arrays. Assumes nothing.
use Rattle.std.proofs.Common.{◌≡◌, ap, ◌∙◌, T, Err, rules}
use Rattle.theory_files.specs.Reads.{is_bytes}
use Rattle.roster_reading.specs.Place.{bytes_of}
use Rattle.answers.specs.ComparisonCases.{compared_shown}
use Rattle.plan_reader.specs.Planned.{read_planned}
use Rattle.compare.specs.TwoPlans.{second_refused, second_accepted}
use Rattle.compare.proofs.second_judged.Goals as goal

pub voted-requires : goal.voted-requires
voted-requires c =
    let f = c.args.second.now in
    let is_b : T (is_bytes f) = bytes_of f (λ i. c.type_inv.second i) in record {
      loaded = (
        c.requires.loaded.0,
        c.requires.loaded.1,
        read_planned c.args.g f c.read_against.result c.read_against.ensures c.requires.loaded.0 is_b
            c.in_ok-read.was,
      );
      pairing_size_in_bounds = c.requires.pairing_size_in_bounds;
    }

pub returns-in_err-read : goal.returns-in_err-read
returns-in_err-read c =
    let told : c.from_residual.result ≡ Err c.in_err-read.field-0.0 = search rules in
    let said = second_refused c.read_against.ensures c.args.p.now c.in_err-read.was in
    record { value = ap compared_shown told ∙ said.0; paired = said.1 }

pub returns : goal.returns
returns c =
    let said = second_accepted c.read_against.ensures c.args.p.now c.in_ok-read.was c.voted.result (c.voted.ensures.value, c.voted.ensures.paired) in
    record { value = said.0; paired = said.1 }
