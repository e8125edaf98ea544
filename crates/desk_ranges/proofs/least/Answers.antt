-- `desk_ranges::least` meets its contract. Assumes nothing.
use Rattle.std.proofs.Common.{◌≡◌, refl, le_refl, sym, subst, T, length, ltb, false, Err, rules}
use Rattle.model.specs.Limits.{choice_size}
use Rattle.model_desk.specs.Desk.{least}
use Rattle.theory_files.specs.Reads.{is_bytes}
use Rattle.roster_reading.specs.Place.{bytes_of}
use Rattle.answers.specs.RefusalCases.{number_some}
use Rattle.desk_files.specs.State.{by_state, state_refuses, arrays_are, long_enough}
use Rattle.desk_ranges.specs.Asking.{Asks, roster_in_order, asks, asks_not, least_reply}
use Rattle.desk_ranges.proofs.least.Goals.{After-loaded}
use Rattle.desk_ranges.proofs.least.Goals as goal

-- both plans' files are bytes
first_bytes : (l : After-loaded) → T (is_bytes l.args.first.now)
first_bytes l = bytes_of l.args.first.now (λ i. l.type_inv.first i)

second_bytes : (l : After-loaded) → T (is_bytes l.args.second.now)
second_bytes l = bytes_of l.args.second.now (λ i. l.type_inv.second i)

pub returns-in_err-l : goal.returns-in_err-l
returns-in_err-l c =
    let d = c.args in
    let n = c.in_err-l.field-0.0 in
    let F = c.in_err-l.ensures in
    let told : c.from_residual.result ≡ Err n = search rules in
    subst (λ a. Asks d.files d.first.now d.second.now d.ranges.now d.out.now a d.out.now d.files) (sym told)
    (asks_not d.files d.first.now d.second.now d.ranges.now d.out.now (first_bytes (goal.at.returns-in_err-l c).After-loaded) (second_bytes (goal.at.returns-in_err-l c).After-loaded) F
    (by_state d.files (least d.first.now d.second.now d.ranges.now d.out.now) tt tt (state_refuses d.files false (ltb (length d.out.now) choice_size) F) (number_some n) refl))

pub least-requires : goal.least-requires
least-requires c =
    let d = c.args in
    let F = c.in_ok-l.ensures in
    (arrays_are d.files F (le_refl 0), roster_in_order d.files F, long_enough d.out.now choice_size F (le_refl 0))

pub returns : goal.returns
returns c =
    let d = c.args in
    let F = c.in_ok-l.ensures in
    asks d.files d.first.now d.second.now d.ranges.now d.out.now (first_bytes (goal.at.returns c).After-loaded) (second_bytes (goal.at.returns c).After-loaded) F c.least.result
    (least_reply d.files d.first.now d.second.now d.ranges.now d.out.now (first_bytes (goal.at.returns c).After-loaded) (second_bytes (goal.at.returns c).After-loaded) F c.least.result
    c.least.ensures)
