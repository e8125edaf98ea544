-- The state after a step, and what it tells of itself.
use Rattle.std.proofs.Common.{refl}
use Rattle.reduction_state.proofs.act.Goals as goal

pub returns : goal.returns
returns c =
    record {
      state_after = simp (
        c.fixes-fix.ensures,
        c.saturating_sub-left.ensures,
        c.lowered.ensures,
        c.saturating_sub-more.ensures,
        c.lowered-2.ensures,
      );
      value = refl;
    }
