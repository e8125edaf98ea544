-- `roster_districts::counts_of_both` meets its contract: the counts, then the quotas, then what joins the two. Assumes nothing.
use Rattle.std.proofs.Common.{arith, T}
use Rattle.model.specs.Reading.{is_bytes}
use Rattle.theory_files.specs.Reads.{bytes_are}
use Rattle.roster_districts.specs.Joining.{many_surveyors, many_stands, surveyors_past, stands_past, side_by_side_law}
use Rattle.roster_districts.proofs.counts_of_both.Goals.{After-byte_at-mt}
use Rattle.roster_districts.proofs.counts_of_both.Goals as goal

-- both files are bytes
first_bytes : (p : After-byte_at-mt) → T (is_bytes p.args.first.now)
first_bytes p = bytes_are p.args.first.now
    (λ i. omega (arith, p.type_inv.first i))

second_bytes : (p : After-byte_at-mt) → T (is_bytes p.args.second.now)
second_bytes p = bytes_are p.args.second.now
    (λ i. omega (arith, p.type_inv.second i))

pub returns-then-ns-ms : goal.returns-then-ns-ms
returns-then-ns-ms c =
    let a = c.args in
    λ r q d e. many_surveyors a.first.now a.second.now (first_bytes (goal.at.returns-then-ns-ms c).After-byte_at-mt) (second_bytes (goal.at.returns-then-ns-ms c).After-byte_at-mt) r q d e
    c.byte_at-ns.result c.byte_at-nt.result c.byte_at-ms.result c.byte_at-mt.result
    c.byte_at-ns.ensures c.byte_at-nt.ensures c.byte_at-ms.ensures c.byte_at-mt.ensures
    c.if-ns-ms.true

pub returns-then-nt-mt : goal.returns-then-nt-mt
returns-then-nt-mt c =
    let a = c.args in
    λ r q d e. many_stands a.first.now a.second.now (first_bytes (goal.at.returns-then-nt-mt c).After-byte_at-mt) (second_bytes (goal.at.returns-then-nt-mt c).After-byte_at-mt) r q d e
    c.byte_at-ns.result c.byte_at-nt.result c.byte_at-ms.result c.byte_at-mt.result
    c.byte_at-ns.ensures c.byte_at-nt.ensures c.byte_at-ms.ensures c.byte_at-mt.ensures
    c.if-nt-mt.true

pub returns-then-s : goal.returns-then-s
returns-then-s c =
    let a = c.args in
    λ r q d e. surveyors_past a.first.now a.second.now (first_bytes (goal.at.returns-then-s c).After-byte_at-mt) (second_bytes (goal.at.returns-then-s c).After-byte_at-mt) r q d e
    c.byte_at-ns.result c.byte_at-nt.result c.byte_at-ms.result c.byte_at-mt.result
    c.byte_at-ns.ensures c.byte_at-nt.ensures c.byte_at-ms.ensures c.byte_at-mt.ensures
    c.if-ns-ms.false c.if-nt-mt.false
    c.quotas_of_both-s.result c.quotas_of_both-s.ensures c.if-s.true

pub returns-then-t : goal.returns-then-t
returns-then-t c =
    let a = c.args in
    λ r q d e. stands_past a.first.now a.second.now (first_bytes (goal.at.returns-then-t c).After-byte_at-mt) (second_bytes (goal.at.returns-then-t c).After-byte_at-mt) r q d e
    c.byte_at-ns.result c.byte_at-nt.result c.byte_at-ms.result c.byte_at-mt.result
    c.byte_at-ns.ensures c.byte_at-nt.ensures c.byte_at-ms.ensures c.byte_at-mt.ensures
    c.if-ns-ms.false c.if-nt-mt.false
    c.quotas_of_both-t.result c.quotas_of_both-t.ensures c.if-t.true

pub returns : goal.returns
returns c =
    let a = c.args in
    record {
      surveyors = c.if-ns-ms.false;
      stands = c.if-nt-mt.false;
      joined = λ b h r q d e. side_by_side_law a.first.now a.second.now (first_bytes (goal.at.returns c).After-byte_at-mt) (second_bytes (goal.at.returns c).After-byte_at-mt) r q d e
          c.byte_at-ns.result c.byte_at-nt.result c.byte_at-ms.result c.byte_at-mt.result
          c.byte_at-ns.ensures c.byte_at-nt.ensures c.byte_at-ms.ensures c.byte_at-mt.ensures
          c.if-ns-ms.false c.if-nt-mt.false
          b c.quotas_of_both-s.result c.quotas_of_both-t.result c.quotas_of_both-s.ensures c.quotas_of_both-t.ensures
          c.if-s.false c.if-t.false h;
    }
