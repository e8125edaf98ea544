-- The state at the beginning.
use Rattle.reduction_state.proofs.Flags.{no_flags}
use Rattle.reduction_state.proofs.start.Goals as goal

pub returns : goal.returns
returns c =
    record {
      all = c.all-rem.ensures;
      none = no_flags 1024;
      deg_s = c.tally-ds.ensures;
      deg_t = c.tally-dt.ensures;
      cut_s = c.cuts-qs.ensures;
      cut_t = c.cuts-qt.ensures;
    }
