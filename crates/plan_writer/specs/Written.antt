-- What is promised of a plan written: its bytes in the buffer's front, and behind them what stood there.
use Rattle.std.specs.Prelude.{ℕ, ◌≤◌, ◌<◌, ◌≡◌, Bool, List}
use Rattle.lists.specs.Keep.{gather}
use Rattle.model.specs.Limits.{entry_limit, node_limit}
use Rattle.model.specs.Plans.{Plan, on}
use Rattle.model.specs.PlanFile.{plan_bytes}
use Rattle.model_desk.specs.Desk.{onto}
use Rattle.arrays.specs.ArrayInstance.{at, flag, shown}
use Rattle.arrays.specs.Passes.{Low}
use Rattle.pair_bytes.specs.PairAt.{pair_of}
use Rattle.plan_lookup.specs.PlanEdges.{Listed}

-- the bytes of some edges' pairs
abbrev pub pairs_of : (sv st sh : List ℕ) → List ℕ → List ℕ
pairs_of sv st sh es = gather (λ e. pair_of (at sv e) (at st e) (at sh e)) es

-- for the instance that the arrays show, whatever its node counts, ranks, ties and quotas, and the plan that the flags show
abbrev pub WrittenFor : (m : ℕ) (sv st sh : List ℕ) (chosen : List Bool) (before after : List ℕ) → Type 0
WrittenFor m sv st sh chosen before after = (ns nt : ℕ) (rank_s rank_t : List ℕ) (tied : List Bool) (quota_s quota_t : List ℕ) (M : Plan)
    → ((e : ℕ) → e < m → on M e ≡ flag chosen e) → after ≡ onto (plan_bytes (shown m ns nt sv st rank_s rank_t sh tied quota_s quota_t) M) before

-- what a plan is written from: the list of its edges, and the ends of all edges
pub record Writable (m : ℕ) (sv st : List ℕ) (chosen : List Bool) (n : ℕ) (es : List ℕ) : Type 0 where
  pub edges : m ≤ entry_limit
  pub low_sv : Low m sv node_limit
  pub low_st : Low m st node_limit
  pub list : Listed m chosen n es
