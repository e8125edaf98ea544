-- `desk_queries::compare_votes` meets its contract. Assumes nothing.
use Rattle.std.proofs.Common.{◌≡◌, refl, le_refl, sym, subst, ◌||◌, Err, false, length, ltb, rules}
use Rattle.model.specs.Limits.{pairing_size}
use Rattle.model_desk.specs.Desk.{compare}
use Rattle.answers.specs.RefusalCases.{number_some}
use Rattle.answers.specs.ComparisonCases.{comparison_shown}
use Rattle.desk_files.specs.Replies.{Replied}
use Rattle.desk_files.specs.State.{by_state, state_refuses, arrays_are, both_long}
use Rattle.desk_queries.specs.Calls.{compare_reply}
use Rattle.desk_queries.proofs.compare_votes.Goals as goal

pub compare-requires : goal.compare-requires
compare-requires c =
    let d = c.args in record {
      loaded = arrays_are d.files c.in_ok-l.ensures (le_refl 0);
      pairing_size_in_bounds = both_long d.forward.now d.back.now pairing_size pairing_size c.in_ok-l.ensures (le_refl 0);
    }

pub returns : goal.returns
returns c =
    let d = c.args in
    compare_reply d.files d.first.now d.second.now d.forward.now d.back.now c.in_ok-l.ensures c.compare.result
    c.compare.ensures.value c.compare.ensures.paired

pub returns-in_err-l : goal.returns-in_err-l
returns-in_err-l c =
    let d = c.args in
    let n = c.in_err-l.field-0.0 in
    let told : c.from_residual.result ≡ Err n = search rules in
    subst (λ a. Replied d.files (compare d.first.now d.second.now d.forward.now d.back.now) (comparison_shown a)
    (compare d.first.now d.second.now d.forward.now d.back.now) d.files) (sym told)
    (by_state d.files (compare d.first.now d.second.now d.forward.now d.back.now) tt tt
    (state_refuses d.files false (ltb (length d.forward.now) pairing_size || ltb (length d.back.now) pairing_size) c.in_err-l.ensures) (number_some n) refl)
