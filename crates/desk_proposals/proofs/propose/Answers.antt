-- `desk_proposals::propose` meets its contract. Assumes nothing.
use Rattle.std.proofs.Common.{refl, le_refl, ◌∙◌, ◌||◌, T, w16, to_z-of_z, true, length, ltb, rules}
use Rattle.lists.specs.Test.{given}
use Rattle.model.specs.Limits.{pairing_size}
use Rattle.model_desk.specs.Desk.{propose}
use Rattle.theory_files.specs.Reads.{is_bytes}
use Rattle.roster_reading.specs.Place.{bytes_of}
use Rattle.answers.specs.RefusalCases.{number_of, number_some}
use Rattle.plan_reader.specs.Answers.{accepted_read, refused_read}
use Rattle.plan_reader.specs.Planned.{read_planned}
use Rattle.desk_files.specs.State.{by_state, state_refuses, arrays_are, both_long}
use Rattle.desk_proposals.specs.Proposals.{held_planned, propose_refused, proposal_small, propose_taken}
use Rattle.desk_proposals.proofs.propose.Goals as goal

pub read_against-a-requires : goal.read_against-a-requires
read_against-a-requires c = arrays_are c.args.files c.in-Ok.ensures (le_refl 0)

pub both_votes-both-requires : goal.both_votes-both-requires
both_votes-both-requires c =
    let d = c.args in
    let F = c.in-Ok.ensures in
    let L = arrays_are d.files F (le_refl 0) in
    let is_b : T (is_bytes d.file.now) = bytes_of d.file.now (λ i. c.type_inv.file i) in record {
      loaded = (
        L,
        read_planned c.in-Ok.l.g d.file.now c.read_against-a.result c.read_against-a.ensures L is_b
            c.in-Ok-a.is,
        held_planned d.files d.file.now d.forward.now d.back.now F,
      );
      pairing_size_in_bounds = both_long d.forward.now d.back.now pairing_size pairing_size F (le_refl 0);
    }

pub with_proposal-beside-requires : goal.with_proposal-beside-requires
with_proposal-beside-requires c =
    let d = c.args in
    let is_b : T (is_bytes d.file.now) = bytes_of d.file.now (λ i. c.type_inv.file i) in
    given (accepted_read c.read_against-a.ensures c.in-Ok-a.is) (λ (N, y, s).
    proposal_small d.files d.file.now d.forward.now d.back.now c.in-Ok.ensures N y
    c.in-Ok-a.p.chosen s is_b)

pub returns-in-Err-a : goal.returns-in-Err-a
returns-in-Err-a c =
    let d = c.args in
    propose_refused d.files d.file.now d.forward.now d.back.now c.in-Ok.ensures (number_of c.in-Err-a.refusal)
    (refused_read c.read_against-a.ensures c.in-Err-a.is)

pub returns-in-Ok-a : goal.returns-in-Ok-a
returns-in-Ok-a c =
    let d = c.args in
    let b = c.both_votes-both in
    given (accepted_read c.read_against-a.ensures c.in-Ok-a.is) (λ (N, y, s).
    propose_taken d.files d.file.now d.forward.now d.back.now c.in-Ok.ensures N y
    c.in-Ok-a.p.chosen s
    (to_z-of_z {w = w16} {z = b.result.first} (search rules) ∙ b.ensures.first_value.0)
    (to_z-of_z {w = w16} {z = b.result.second} (search rules) ∙ b.ensures.first_value.1)
    b.ensures.paired c.with_proposal-beside.result c.with_proposal-beside.ensures)

pub returns-in-Err : goal.returns-in-Err
returns-in-Err c =
    let d = c.args in
    by_state d.files (propose d.file.now d.forward.now d.back.now) tt tt
    (state_refuses d.files true (ltb (length d.forward.now) pairing_size || ltb (length d.back.now) pairing_size) c.in-Err.ensures) (number_some c.in-Err.refusal) refl
