-- The state at the beginning, and its arrows.
use Rattle.std.proofs.Common.{rules}
use Rattle.reduction_start.specs.Beginning.{shown_first}
use Rattle.reduction_start.proofs.begun.Goals as goal

pub start-state-requires : goal.start-state-requires
start-state-requires c = let p = c.requires in (p.2.edges, p.0, p.1)

pub painted-s-requires : goal.painted-s-requires
painted-s-requires c = let p = c.requires in (p.2, p.1)

pub painted-t-requires : goal.painted-t-requires
painted-t-requires c = let p = c.requires in (p.3, p.0)

pub returns : goal.returns
returns c =
    let x = c.start-state.result in record {
      shown = λ rs rt K F. shown_first K F x c.start-state.ensures c.painted-s.result c.painted-t.result c.painted-s.ensures c.painted-t.ensures;
      sized = record { fixed = search rules; qs = search rules; qt = search rules; ds = search rules; dt = search rules };
      size_s = search rules;
      size_t = search rules;
    }
