-- Where a run is: the numbers that it carries are those of its arrays, and the arrays show the model's state and its arrows. So it is at the beginning,
-- and after each step.
use Rattle.std.specs.Prelude.{ℕ, ◌<◌, ◌≡◌, Bool, true, false, List, [], length, replicate, T}
use Rattle.std.proofs.Common.{arith, sym, ap, ◌∙◌, subst}
use Rattle.std.proofs.lemmas.List.{length-replicate, get_or-replicate}
use Rattle.model.specs.Limits.{node_limit, entry_limit}
use Rattle.arrays.specs.ArrayInstance.{flag}
use Rattle.reduction_cells.specs.Cells.{Empty}
use Rattle.reduction_nodes.specs.Known.{Edges}
use Rattle.reduction_nodes.specs.Numbers.{row, Rows}
use Rattle.reduction_nodes.specs.Kept.{NodeLists, looks, later, Leads, Lates, SizedL}
use Rattle.reduction_state.specs.declared.State as arrays
use Rattle.reduction_state.specs.RunState.{Sized}
use Rattle.reduction_turn.specs.Onward.{SizedN}

-- ---- the numbers that a run carries, and the sizes of its arrays
pub record Running (A : Edges) (L : NodeLists) (x : arrays.State) (fs ft : List Bool) (lead lates latet : List (List ℕ))
    (loose olds oldt : List Bool) : Type 0 where
  pub leads : Leads A L (looks x.rem fs ft x.qs x.qt) (row lead 0) (row lead 1) (row lead 2)
  pub late : Lates A L (looks x.rem fs ft x.qs x.qt) (later lates latet loose olds oldt)
  pub sized : Sized x
  pub sized_n : SizedN lead olds oldt
  pub sized_l : SizedL lates latet loose olds oldt
  pub size_s : length fs ≡ entry_limit
  pub size_t : length ft ≡ entry_limit

-- every node is marked old at the beginning
pub all_marked : (v : ℕ) → v < node_limit → flag (replicate node_limit true) v ≡ false → ⊥
all_marked v w h = subst T (sym (get_or-replicate node_limit v true false w) ∙ h) tt

-- rows of noughts
pub rows_none : (n : ℕ) → Rows n (replicate n (replicate node_limit 0))
rows_none n = record {
  rows = length-replicate n (replicate {A = ℕ} node_limit 0);
  size = λ k l. ap length (get_or-replicate n k (replicate {A = ℕ} node_limit 0) [] l) ∙ length-replicate {A = ℕ} node_limit 0;
}

-- a table in which nothing is yet
pub table_none : (n m : ℕ) → Empty m (replicate n m)
table_none n m k l = get_or-replicate n k m 0 (omega (arith, l, length-replicate {A = ℕ} n m))
