-- An accepted roster: 22 where the test fails, else the plan of the offers.
use Rattle.std.proofs.Common.{arith, sym, ◌∙◌, T, ap, not}
use borrow.Author.Tests.{not-true, not-false}
use Rattle.model.specs.Reading.{is_bytes}
use Rattle.theory_files.specs.Reads.{bytes_are}
use Rattle.profile.specs.Profiles.{ready, settles_not, settles_offers}
use Rattle.profile.proofs.settled.Goals.{After-slice_known-1}
use Rattle.profile.proofs.settled.Goals as goal

-- the file is bytes
file_bytes : (p : After-slice_known-1) → T (is_bytes p.args.file.now)
file_bytes p = bytes_are p.args.file.now (λ i. omega (arith, p.type_inv.file i))

pub returns-then-not-one_to_one : goal.returns-then-not-one_to_one
returns-then-not-one_to_one c =
    let a = c.args in
    let (R, e) = c.requires.0 in
    settles_not a.file.now (file_bytes (goal.at.returns-then-not-one_to_one c).After-slice_known-1) R e c.instance_of-g.result c.instance_of-g.ensures a.out.now
    (sym c.one_to_one.ensures ∙ not-true c.one_to_one.result (ap not c.if-not-one_to_one.true))

pub offered-requires : goal.offered-requires
offered-requires c =
    let a = c.args in
    let (R, e) = c.requires.0 in (
      ready a.file.now (file_bytes (goal.at.offered-requires c).After-slice_known-1) R e c.instance_of-g.result c.instance_of-g.ensures
          (sym c.one_to_one.ensures ∙ not-false c.one_to_one.result (ap not c.if-not-one_to_one.false)),
      c.requires.1,
    )

pub returns : goal.returns
returns c =
    let a = c.args in
    let (R, e) = c.requires.0 in
    settles_offers a.file.now (file_bytes (goal.at.returns c).After-slice_known-1) R e c.instance_of-g.result c.instance_of-g.ensures a.out.now
    (sym c.one_to_one.ensures ∙ not-false c.one_to_one.result (ap not c.if-not-one_to_one.false)) c.offered.ensures
