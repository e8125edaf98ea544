-- `compare::compare` meets its contract: the first file is read, then the second, against the same arrays. Assumes nothing.
use Rattle.std.proofs.Common.{◌≡◌, ap, ◌∙◌, T, Err, rules}
use Rattle.theory_files.specs.Reads.{is_bytes}
use Rattle.roster_reading.specs.Place.{bytes_of}
use Rattle.answers.specs.ComparisonCases.{compared_shown}
use Rattle.plan_reader.specs.Planned.{read_planned}
use Rattle.compare.specs.TwoPlans.{first_refused, first_accepted}
use Rattle.compare.proofs.compare.Goals as goal

pub second_judged-requires : goal.second_judged-requires
second_judged-requires c =
    let f = c.args.first.now in
    let is_b : T (is_bytes f) = bytes_of f (λ i. c.type_inv.first i) in record {
      loaded = (
        c.requires.loaded,
        read_planned c.args.g f c.read_against.result c.read_against.ensures c.requires.loaded is_b
            c.in_ok-read.was,
      );
      pairing_size_in_bounds = c.requires.pairing_size_in_bounds;
    }

pub returns-in_err-read : goal.returns-in_err-read
returns-in_err-read c =
    let told : c.from_residual.result ≡ Err c.in_err-read.field-0.0 = search rules in
    let said = first_refused c.read_against.ensures c.args.second.now c.in_err-read.was in
    record { value = ap compared_shown told ∙ said.0; paired = said.1 }

pub returns : goal.returns
returns c =
    let said = first_accepted c.read_against.ensures c.args.second.now c.in_ok-read.was c.second_judged.result (c.second_judged.ensures.value, c.second_judged.ensures.paired) in
    record { value = said.0; paired = said.1 }
