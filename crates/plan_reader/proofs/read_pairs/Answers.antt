-- `plan_reader::read_pairs` meets its contract: the pairs that are left have the answer of all.
use Rattle.std.proofs.Common.{◌≡◌, sym, ap, subst, ◌∙◌, ◌≤◌, ◌<◌, zero-le, arith, Err, rules}
use Rattle.arrays.specs.ArrayInstance.{at}
use Rattle.lists.specs.Search.{low}
use Rattle.model.specs.Limits.{node_limit}
use Rattle.model.specs.PlanFile.{edge_of_pair}
use Rattle.answers.specs.declared.Refusal.TheVariants.{CutShort, BytesLeft}
use Rattle.answers.specs.RefusalCases.{number_of, code_of, number_some}
use Rattle.pair_bytes.specs.declared.Pair.{Pair}
use Rattle.pair_bytes.specs.PairAt.{named_at, width_most}
use Rattle.plan_lookup.specs.PairEdge.{Names}
use Rattle.plan_reader.specs.Answers.{ReadFor}
use Rattle.plan_reader.specs.ReadInvariant.{G, for_all, invariant_first, invariant_cut, invariant_refused, invariant_passed, invariant_on, invariant_long, invariant_accepted, refused_for, used_few}
use Rattle.plan_reader.proofs.read_pairs.Goals.{After-edge_of-e, In_ok-check_pair}
use Rattle.plan_reader.proofs.read_pairs.Goals as goal

-- the edge found is the model's
found : (c : After-edge_of-e) → let a = c.args in
    c.edge_of-e.result ≡ edge_of_pair (G a.shifts a.m a.sv.now a.st.now a.sh.now a.qs.now a.qt.now a.file.now)
    (named_at a.shifts a.file.now c.loop-k.at)
unfolding edge_of_pair
found c =
    let a = c.args in
    c.edge_of-e.ensures ∙ ap (λ (p : Pair). low (Names a.sv.now a.st.now a.sh.now p.surveyor p.stand p.shift) a.m)
    c.get-p.ensures

-- and behind the test of its refusal
found_passing : (c : In_ok-check_pair) → let a = c.args in
    c.edge_of-e.result ≡ edge_of_pair (G a.shifts a.m a.sv.now a.st.now a.sh.now a.qs.now a.qt.now a.file.now)
    (named_at a.shifts a.file.now c.loop-k.at)
unfolding edge_of_pair
found_passing c =
    let a = c.args in
    c.edge_of-e.ensures ∙ ap (λ (p : Pair). low (Names a.sv.now a.st.now a.sh.now p.surveyor p.stand p.shift) a.m)
    c.get-p.ensures

-- a pair that is not refused names an edge
passing : (c : In_ok-check_pair) → let a = c.args in
    let e = c.edge_of-e.result in
    (e < a.m) × (c.loop-k.from ≤ e) × (at c.loop-k.us (at a.sv.now e) < at a.qs.now (at a.sv.now e))
    × (at c.loop-k.ut (at a.st.now e) < at a.qt.now (at a.st.now e))
passing c =
    let a = c.args in
    invariant_passed a.shifts a.m a.sv.now a.st.now a.sh.now a.qs.now
    a.qt.now a.file.now a.n c.loop-k.k c.loop-k.at c.loop-k.from c.loop-k.chosen
    c.loop-k.edges c.loop-k.us c.loop-k.ut c.loop-k.invariant.1 c.loop-k-test.true
    c.width-width.result c.width-width.ensures
    c.requires.m_le_entry_limit.1 c.requires.m_le_entry_limit.2 c.if-file-at.false c.edge_of-e.result (found_passing c)
    (code_of c.check_pair.result) c.check_pair.ensures (ap code_of c.in_ok-check_pair.was)

-- its ends are nodes, and neither has more pairs than were read
ends : (c : In_ok-check_pair) → let a = c.args in
    let e = c.edge_of-e.result in
    (at a.sv.now e < node_limit) × (at a.st.now e < node_limit)
ends c =
    let e = c.edge_of-e.result in
    (c.requires.m_le_entry_limit.1 e (passing c).0, c.requires.m_le_entry_limit.2 e (passing c).0)

used : (c : In_ok-check_pair) → let a = c.args in
    let e = c.edge_of-e.result in
    (at c.loop-k.us (at a.sv.now e) ≤ c.loop-k.k) × (at c.loop-k.ut (at a.st.now e) ≤ c.loop-k.k)
used c =
    let a = c.args in
    let e = c.edge_of-e.result in
    let few =
    used_few a.shifts a.m a.sv.now a.st.now a.sh.now a.qs.now a.qt.now a.file.now a.n
    c.loop-k.k c.loop-k.at c.loop-k.from c.loop-k.chosen c.loop-k.edges c.loop-k.us c.loop-k.ut c.loop-k.invariant.1 in
    ((few (at a.sv.now e)).0, (few (at a.st.now e)).1)

pub loop-k-init : goal.loop-k-init
loop-k-init c =
    let a = c.args in (
      zero-le,
      invariant_first a.shifts a.m a.sv.now a.st.now a.sh.now
          a.qs.now a.qt.now a.file.now a.n c.requires.n_le_plan_limit.1 c.requires.n_le_plan_limit.2 c.requires.n_le_plan_limit.0,
    )

pub overflow_add-at : goal.overflow_add-at
overflow_add-at c =
    omega (arith, c.loop-k.invariant.1.early, c.width-width.ensures, width_most c.args.shifts)

pub returns-then-file-at : goal.returns-then-file-at
returns-then-file-at c =
    let a = c.args in
    refused_for a.shifts a.m a.sv.now a.st.now a.sh.now a.qs.now a.qt.now a.file.now CutShort
    (invariant_cut a.shifts a.m a.sv.now a.st.now a.sh.now a.qs.now
    a.qt.now a.file.now a.n c.loop-k.k c.loop-k.at c.loop-k.from
    c.loop-k.chosen c.loop-k.edges c.loop-k.us c.loop-k.ut c.loop-k.invariant.1
    c.loop-k-test.true c.width-width.result c.width-width.ensures c.if-file-at.true)

pub edge_of-e-requires : goal.edge_of-e-requires
edge_of-e-requires c = (c.loop-k.invariant.1.small, c.requires.m_le_entry_limit.0, c.requires.m_le_entry_limit.3)

pub check_pair-requires : goal.check_pair-requires
check_pair-requires c = (c.requires.m_le_entry_limit.0, c.requires.m_le_entry_limit.1, c.requires.m_le_entry_limit.2)

pub returns-in_err-check_pair : goal.returns-in_err-check_pair
returns-in_err-check_pair c =
    let a = c.args in
    let n = c.in_err-check_pair.field-0.0 in
    let was : code_of c.check_pair.result ≡ number_of n = ap code_of c.in_err-check_pair.was in
    let told : c.from_residual.result ≡ Err n = search rules in
    subst (ReadFor a.shifts a.m a.sv.now a.st.now a.sh.now a.qs.now a.qt.now a.file.now) (sym told)
    (refused_for a.shifts a.m a.sv.now a.st.now a.sh.now a.qs.now a.qt.now a.file.now n
    (invariant_refused a.shifts a.m a.sv.now a.st.now a.sh.now
    a.qs.now a.qt.now a.file.now a.n c.loop-k.k c.loop-k.at c.loop-k.from
    c.loop-k.chosen c.loop-k.edges c.loop-k.us c.loop-k.ut c.loop-k.invariant.1
    c.loop-k-test.true c.width-width.result c.width-width.ensures
    c.requires.m_le_entry_limit.1 c.requires.m_le_entry_limit.2
    c.if-file-at.false c.edge_of-e.result (found (goal.at.returns-in_err-check_pair c).After-edge_of-e)
    (number_of n) (sym was ∙ c.check_pair.ensures) (number_some n)))

pub loop-k-preserved : goal.loop-k-preserved
loop-k-preserved c =
    let a = c.args in (
      omega arith,
      invariant_on a.shifts a.m a.sv.now a.st.now a.sh.now a.qs.now
          a.qt.now a.file.now a.n c.loop-k.k c.loop-k.at c.loop-k.from c.loop-k.chosen
          c.loop-k.edges c.loop-k.us c.loop-k.ut c.loop-k.invariant.1
          c.loop-k-test.true c.width-width.result c.width-width.ensures
          c.requires.m_le_entry_limit.1 c.requires.m_le_entry_limit.2
          c.if-file-at.false c.edge_of-e.result (found (goal.at.loop-k-preserved c).After-edge_of-e)
          (code_of c.check_pair.result) c.check_pair.ensures (ap code_of c.in_ok-check_pair.was) (omega arith) c.requires.m_le_entry_limit.0,
    )

pub returns-then-at-file : goal.returns-then-at-file
returns-then-at-file c =
    let a = c.args in
    refused_for a.shifts a.m a.sv.now a.st.now a.sh.now a.qs.now a.qt.now a.file.now BytesLeft
    (invariant_long a.shifts a.m a.sv.now a.st.now a.sh.now a.qs.now
    a.qt.now a.file.now a.n c.loop-k.k c.loop-k.at c.loop-k.from
    c.loop-k.chosen c.loop-k.edges c.loop-k.us c.loop-k.ut c.loop-k.invariant.1 (omega arith) (omega arith))

pub returns : goal.returns
returns c =
    let a = c.args in
    for_all a.shifts a.m a.sv.now a.st.now a.sh.now a.qs.now a.qt.now a.file.now _
    (invariant_accepted a.shifts a.m a.sv.now a.st.now a.sh.now
    a.qs.now a.qt.now a.file.now a.n c.loop-k.k c.loop-k.at c.loop-k.from
    c.loop-k.chosen c.loop-k.edges c.loop-k.us c.loop-k.ut c.loop-k.invariant.1 (omega arith) (omega arith))

-- the pair's bytes are there
pub get-p-requires : goal.get-p-requires
get-p-requires c = omega (arith, c.width-width.ensures, c.if-file-at.false)

pub overflow_add-at-in-loop-k : goal.overflow_add-at-in-loop-k
overflow_add-at-in-loop-k c =
    omega (arith, c.loop-k.invariant.1.early, c.width-width.ensures, width_most c.args.shifts)

pub bounds-sv-e : goal.bounds-sv-e
bounds-sv-e c = omega (arith, (passing (goal.at.bounds-sv-e c).In_ok-check_pair).0)

pub overflow_cast-i : goal.overflow_cast-i
overflow_cast-i c = omega (arith, ends (goal.at.overflow_cast-i c).In_ok-check_pair)

pub bounds-st-e : goal.bounds-st-e
bounds-st-e c = omega (arith, (passing (goal.at.bounds-st-e c).In_ok-check_pair).0)

pub overflow_cast-j : goal.overflow_cast-j
overflow_cast-j c = omega (arith, ends (goal.at.overflow_cast-j c).In_ok-check_pair)

pub bounds-us-i : goal.bounds-us-i
bounds-us-i c = omega (arith, ends (goal.at.bounds-us-i c).In_ok-check_pair)

pub overflow_add-us : goal.overflow_add-us
overflow_add-us c = omega (arith, used (goal.at.overflow_add-us c).In_ok-check_pair)

pub bounds-us-i-in-loop-k : goal.bounds-us-i-in-loop-k
bounds-us-i-in-loop-k c = omega (arith, ends (goal.at.bounds-us-i-in-loop-k c).In_ok-check_pair)

pub bounds-ut-j : goal.bounds-ut-j
bounds-ut-j c = omega (arith, ends (goal.at.bounds-ut-j c).In_ok-check_pair)

pub overflow_add-ut : goal.overflow_add-ut
overflow_add-ut c = omega (arith, used (goal.at.overflow_add-ut c).In_ok-check_pair)

pub bounds-ut-j-in-loop-k : goal.bounds-ut-j-in-loop-k
bounds-ut-j-in-loop-k c = omega (arith, ends (goal.at.bounds-ut-j-in-loop-k c).In_ok-check_pair)

pub bounds-chosen-e : goal.bounds-chosen-e
bounds-chosen-e c = omega (arith, (passing (goal.at.bounds-chosen-e c).In_ok-check_pair).0)

pub overflow_cast-edges : goal.overflow_cast-edges
overflow_cast-edges c = omega (arith, (passing (goal.at.overflow_cast-edges c).In_ok-check_pair).0)

pub overflow_add-from : goal.overflow_add-from
overflow_add-from c = omega (arith, (passing (goal.at.overflow_add-from c).In_ok-check_pair).0)
