-- `plan_lookup::edge_of` meets its contract: found from `from` on, or before it, or nowhere.
use Rattle.std.proofs.Common.{◌-◌, arith}
use Rattle.plan_lookup.specs.PairEdge.{found_later, found_before, found_not, none_zero, none_zero_2}
use Rattle.plan_lookup.proofs.edge_of.Goals as goal

pub returns-then-x-eq0 : goal.returns-then-x-eq0
returns-then-x-eq0 c = let a = c.args in none_zero a.m a.sv.now a.st.now a.sh.now a.x a.y a.k c.if-x-eq0.true

pub returns-then-y-eq0 : goal.returns-then-y-eq0
returns-then-y-eq0 c = let a = c.args in none_zero_2 a.m a.sv.now a.st.now a.sh.now a.x a.y a.k c.if-y-eq0.true

pub returns-in-Some : goal.returns-in-Some
returns-in-Some c =
    let a = c.args in
    let S = c.in-Some.ensures in
    found_later a.m a.sv.now a.st.now a.sh.now a.x a.y a.k (a.x - 1) (a.y - 1) (omega arith) (omega arith) c.requires.2 a.from
    c.in-Some.e S.scanned S.inside

pub returns-in-Some-scan : goal.returns-in-Some-scan
returns-in-Some-scan c =
    let a = c.args in
    let S = c.in_default.ensures.scanned in
    let D = c.in-Some-scan.ensures in
    found_before a.m a.sv.now a.st.now a.sh.now a.x a.y a.k (a.x - 1) (a.y - 1) (omega arith) (omega arith) a.from a.m
    c.in-Some-scan.d c.requires.0 S (omega arith) D.scanned D.inside

pub returns : goal.returns
returns c =
    let a = c.args in
    found_not a.m a.sv.now a.st.now a.sh.now a.x a.y a.k (a.x - 1) (a.y - 1) (omega arith) (omega arith) a.from a.m
    a.from c.requires.0 c.in_default.ensures.scanned (omega arith) c.in_default-scan.ensures.scanned (omega arith)
