-- Where a run is: its arrays show the model's state, and the arrows there.
use Rattle.std.specs.Prelude.{ℕ, ◌<◌, ◌≡◌, Bool, List}
use Rattle.model.specs.Instance.{Instance}
use Rattle.model.specs.Reduction.{arrow_s, arrow_t}
use Rattle.arrays.specs.ArrayInstance.{flag}
use Rattle.reduction_nodes.specs.NodeLaws.{Seen}
use Rattle.reduction_state.specs.declared.State as arrays
use Rattle.reduction_state.specs.declared.Trace.{Trace}
use Rattle.reduction_state.specs.RunState.{Stands, state_at}

-- the arrays show a state of the run and its arrows
pub record Shown (G : Instance) (x : arrays.State) (fs ft : List Bool) (t : Trace) : Type 0 where
  pub stood : Stands G x t
  pub from_s : (d : ℕ) → d < G.m → flag fs d ≡ arrow_s G (state_at stood) d
  pub from_t : (d : ℕ) → d < G.m → flag ft d ≡ arrow_t G (state_at stood) d

-- so the rules see that state
pub seen : {G : Instance} {x : arrays.State} {fs ft : List Bool} {t : Trace} (S : Shown G x fs ft t) → Seen G (state_at S.stood) fs ft x.qs x.qt
seen S = record { from_s = S.from_s; from_t = S.from_t; quota_s = S.stood.holds.at_s.cut_is; quota_t = S.stood.holds.at_t.cut_is }
