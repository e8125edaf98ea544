-- The beginning of a run: its arrays show the model's first state and its arrows; and what is read at every node of a list of all nodes.
use Rattle.std.specs.Prelude.{ℕ, suc, ◌+◌, ◌<◌, ◌≡◌, Bool, true, cond, List, length, set}
use Rattle.std.proofs.Common.{arith, sym, ap, ◌∙◌}
use Rattle.std.proofs.Math.Decide.{dec_lt}
use Rattle.std.proofs.Math.Logic.{by_cases}
use Rattle.lists.specs.Test.{by-eq}
use Rattle.model.specs.Limits.{node_limit, entry_limit}
use Rattle.model.specs.Instance.{surveyors, stands}
use Rattle.model.specs.Reduction.{cut_s, cut_t}
use Rattle.arrays.specs.Passes.{Low}
use Rattle.arrays.specs.Filled.{Made}
use Rattle.reduction_cells.specs.Painted.{AllPainted, among}
use Rattle.reduction_cells.specs.CellLaws.{all_arrows}
use Rattle.reduction_nodes.specs.Renewed.{among_own, among_other}
use Rattle.reduction_nodes.specs.Numbers.{row, row_own, row_other, Rows}
use Rattle.reduction_nodes.specs.Known.{Edges, Known, instance_of}
use Rattle.reduction_nodes.specs.Kept.{NodeLists, Filled, edges, cells_s, cells_t}
use Rattle.reduction_state.specs.declared.State as arrays
use Rattle.reduction_state.specs.Trace.{blank}
use Rattle.reduction_state.specs.RunState as state
use Rattle.reduction_state.specs.RunState.{Sized, Started, state_at}
use Rattle.reduction_state.specs.RunArrows.{Shown}
use Rattle.reduction_start.specs.declared.Start.{Start}

-- ---- a list of all nodes has each
all_among : (list : List ℕ) (n v : ℕ) → v < n → Made 0 list (λ u. u) n → among list n v ≡ true
all_among list Prim.Native.Nat.zero v h M = elim h [ ]
all_among list (suc n) v h M = ap (λ k. among list k v) (let z : suc n ≡ n + 1 = omega arith in z) ∙ by-eq v n
    (λ q t. among_own list n v (q ∙ sym (M n (omega arith))))
    (λ k t. among_other list n v (λ z. k (z ∙ M n (omega arith)))
    ∙ all_among list n v (by_cases (dec_lt v n) (λ l. l) (λ l. absurd (k (omega arith)))) (λ u l. M u (omega arith)))

pub all_low : (list : List ℕ) → Made 0 list (λ u. u) node_limit → Low node_limit list node_limit
all_low list M i h = omega (arith, M i h)

pub all_read : (list : List ℕ) → Made 0 list (λ u. u) node_limit → (new old xs : ℕ → ℕ)
    → ((v : ℕ) → xs v ≡ cond (among list node_limit v) (new v) (old v)) → (v : ℕ) → v < node_limit → xs v ≡ new v
all_read list M new old xs R v w = R v ∙ ap (λ b. cond b (new v) (old v)) (all_among list node_limit v w M)

-- three rows are written, one after the other
pub rows_three : (lead : List (List ℕ)) {x y z : List ℕ} → Rows 3 lead → Rows 3 (set lead 0 x) → Rows 3 (set (set lead 0 x) 1 y)
    → Rows 3 (set (set (set lead 0 x) 1 y) 2 z) → (row (set (set (set lead 0 x) 1 y) 2 z) 0 ≡ x) × (row (set (set (set lead 0 x) 1 y) 2 z) 1 ≡ y)
    × (row (set (set (set lead 0 x) 1 y) 2 z) 2 ≡ z)
rows_three lead {x} {y} {z} R R₁ R₂ R₃ = (
  row_other (set (set lead 0 x) 1 y) 2 0 z (λ (q : 0 ≡ 2). absurd (omega arith)) ∙ row_other (set lead 0 x) 1 0 y (λ (q : 0 ≡ 1). absurd (omega arith))
      ∙ row_own lead 0 x (omega (arith, R.rows)),
  row_other (set (set lead 0 x) 1 y) 2 1 z (λ (q : 1 ≡ 2). absurd (omega arith)) ∙ row_own (set lead 0 x) 1 y (omega (arith, R₁.rows)),
  row_own (set (set lead 0 x) 1 y) 2 z (omega (arith, R₂.rows)),
)

-- ---- the beginning
pub record Begun (m : ℕ) (sv st : List ℕ) (L : NodeLists) (quota_s quota_t : List ℕ) (b : Start) : Type 0 where
  pub shown : (rs rt : List ℕ) (K : Known (edges m sv st rs rt) quota_s quota_t) → Filled (edges m sv st rs rt) K.tied L → Shown (instance_of K)
      b.state b.arrows.surveyors b.arrows.stands blank
  pub sized : Sized b.state
  pub size_s : length b.arrows.surveyors ≡ entry_limit
  pub size_t : length b.arrows.stands ≡ entry_limit

pub shown_first : {A : Edges} {L : NodeLists} {quota_s quota_t : List ℕ} (K : Known A quota_s quota_t) → Filled A K.tied L →
    (x : arrays.State) → Started A.m A.sv A.st quota_s quota_t x → (fs ft : List Bool) → AllPainted A.m L.table_s x.rem x.qs node_limit fs
    → AllPainted A.m L.table_t x.rem x.qt node_limit ft → Shown (instance_of K) x fs ft blank
shown_first {A} {L} K F x S fs ft PS PT =
    let G = instance_of K in
    let Z = state.stands_first K x S in record {
      stood = Z;
      from_s = all_arrows (surveyors G) K.law.at_s L.table_s (cells_s K F) x.rem fs x.qs PS (cut_s G (state_at Z)) Z.holds.at_s.cut_is;
      from_t = all_arrows (stands G) K.law.at_t L.table_t (cells_t K F) x.rem ft x.qt PT (cut_t G (state_at Z)) Z.holds.at_t.cut_is;
    }
