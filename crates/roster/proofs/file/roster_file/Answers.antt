-- `roster::file::roster_file` meets its contract: the nodes of both sides, and their lists behind them. Assumes nothing.
use Rattle.std.proofs.Common.{◌<◌, ◌≡◌, zero-le, arith, sym, ap, ◌∙◌, length, T, rules}
use Rattle.theory_files.specs.Reads.{is_bytes}
use Rattle.model.specs.Reading.{refused}
use Rattle.answers.specs.RefusalCases.{number_of, reading_of}
use Rattle.roster_reading.specs.Place.{bytes_of}
use Rattle.roster_reading.specs.Whole.{Nodes, nodes_found, nodes_refused, stands_refused, roster_read}
use Rattle.roster.proofs.file.roster_file.Goals.{After-nodes_at, In_ok-a, In_ok-b}
use Rattle.roster.proofs.file.roster_file.Goals as goal

-- the file's elements are bytes
is_b : (p : After-nodes_at) → T (is_bytes p.args.file.now)
is_b p = bytes_of p.args.file.now (λ i. p.type_inv.file i)

-- the surveyors' section was read, and the stands'
surveyors : (p : In_ok-a) → let n = p in Nodes n.args.file.now 0 p.in_ok-a.a
surveyors p =
    let is_b : T (is_bytes p.args.file.now) =
    bytes_of p.args.file.now (λ i. p.type_inv.file i) in
    nodes_found p.args.file.now 0 (is_b) zero-le (sym (ap reading_of p.in_ok-a.was) ∙ p.nodes_at.ensures)

stands : (p : In_ok-b) → let k = p in
    Nodes k.args.file.now k.in_ok-a.a p.in_ok-b.b
stands p =
    let surveyors : Nodes p.args.file.now 0 p.in_ok-a.a =
    nodes_found p.args.file.now 0 (is_b (goal.at.In_ok-b p).After-nodes_at) zero-le (sym (ap reading_of p.in_ok-a.was) ∙ p.nodes_at.ensures) in
    let is_b : T (is_bytes p.args.file.now) =
    bytes_of p.args.file.now (λ i. p.type_inv.file i) in
    nodes_found p.args.file.now p.in_ok-a.a (is_b) (surveyors).within
    (sym (ap reading_of p.in_ok-b.was) ∙ p.nodes_at-2.ensures)

pub returns-in_err-a : goal.returns-in_err-a
returns-in_err-a c =
    let a = c.args in
    let was = ap reading_of c.in_err-a.was in
    let told : reading_of c.from_residual.result ≡ refused (number_of c.in_err-a.field-0.0) = search rules in
    told ∙ sym was ∙ nodes_refused a.shifts a.file.now c.nodes_at.ensures was

pub returns-in_err-b : goal.returns-in_err-b
returns-in_err-b c =
    let a = c.args in
    let was = ap reading_of c.in_err-b.was in
    let told : reading_of c.from_residual-in_err-b.result ≡ refused (number_of c.in_err-b.field-0.0) = search rules in
    told ∙ sym was ∙ stands_refused a.shifts a.file.now (surveyors (goal.at.returns-in_err-b c).In_ok-a) c.nodes_at-2.ensures was

pub bounds-file-0 : goal.bounds-file-0
bounds-file-0 c =
    let h : 0 < length c.args.file.now = omega (arith, (surveyors (goal.at.bounds-file-0 c).In_ok-a).room, (surveyors (goal.at.bounds-file-0 c).In_ok-a).within) in
    h

pub bounds-file-a : goal.bounds-file-a
bounds-file-a c =
    let h : c.in_ok-a.a < length c.args.file.now = omega (arith, (stands (goal.at.bounds-file-a c).In_ok-b).room, (stands (goal.at.bounds-file-a c).In_ok-b).within) in
    h

pub lists_to_end-requires : goal.lists_to_end-requires
lists_to_end-requires c =
    let ns = surveyors (goal.at.lists_to_end-requires c).In_ok-a in
    let nt = stands (goal.at.lists_to_end-requires c).In_ok-b in
    (nt.within, omega (arith, ns.count, ns.few), omega (arith, nt.count, nt.few))

pub returns : goal.returns
returns c =
    let a = c.args in
    roster_read a.shifts a.file.now (surveyors (goal.at.returns c).In_ok-a) (stands (goal.at.returns c).In_ok-b) c.lists_to_end.ensures
