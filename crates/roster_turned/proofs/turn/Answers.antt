-- `roster_turned::turn` meets its contract: the counts and quotas, the surveyors' lists, the second count and the stands' lists, one behind the
-- other. Assumes nothing.
use Rattle.roster_turned.specs.Blocks.{turned_whole}
use Rattle.roster_turned.proofs.turn.Goals as goal

pub returns : goal.returns
returns c =
    let a = c.args in
    let l = c.append_lists-s.ensures in
    record {
      bytes = turned_whole a.shifts a.ns a.nt a.file.now c.part-nodes.ensures l.end c.part-total.ensures c.new-out.ensures c.append.ensures l.grown
          c.append-2.ensures c.append_lists.ensures.grown;
      first = l.first;
    }
