-- `plan_reader::read_plan` meets its contract.
use Rattle.std.proofs.Common.{arith}
use Rattle.answers.specs.declared.Refusal.TheVariants.{CutShort, TooMany}
use Rattle.plan_reader.specs.ReadInvariant.{refused_for, empty_file, long_count}
use Rattle.plan_reader.proofs.read_plan.Goals as goal

pub returns-then-file-eq0 : goal.returns-then-file-eq0
returns-then-file-eq0 c =
    let a = c.args in
    refused_for a.shifts a.m a.sv.now a.st.now a.sh.now a.qs.now a.qt.now a.file.now CutShort
    (empty_file a.shifts a.m a.sv.now a.st.now a.sh.now a.qs.now a.qt.now a.file.now (omega arith))

pub returns-then-n : goal.returns-then-n
returns-then-n c =
    let a = c.args in
    refused_for a.shifts a.m a.sv.now a.st.now a.sh.now a.qs.now a.qt.now a.file.now TooMany
    (long_count a.shifts a.m a.sv.now a.st.now a.sh.now a.qs.now a.qt.now a.file.now (omega arith) c.if-n.true)
