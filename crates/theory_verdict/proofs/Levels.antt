-- The theorems that rest on specs/Levels.antt. They stand here so that a wrong definition there is refused by a proof.
use Prim.Native.Nat.{ℕ, suc, ◌+◌, ◌*◌, ◌≤◌, ◌<◌}
use Rattle.std.proofs.Common.{arith}
use Rattle.std.specs.Prelude.{refl}
use Rattle.std.proofs.Math.Bool.{Bool}
use mathlib.Core.List.{[]}
use Rattle.std.proofs.Math.Dec.{ltb, ltb→lt, nltb→le}
use Rattle.lists.specs.First.{Answer, first_answer}
use Rattle.model.specs.Instance.{Instance}
use Rattle.theory_instance.specs.Lawful.{Lawful, Matching}
use Rattle.theory_instance.specs.Walk.{Old}
use Rattle.theory_verdict.specs.LemmaX.{Rival}
use Rattle.theory_verdict.specs.LemmaW.{NoDirect, CostAtLeastTo}
use Rattle.theory_verdict.specs.Search.{Hit, loop, rival_by, olds, terminal, walk_price, trace, as_path, alone_at}
use Rattle.theory_verdict.specs.CostAtLeast.{PathsCostAtLeast}
use Rattle.theory_verdict.specs.Table.{terminal_price_law, alone_done, loop_found, path_found}
use Rattle.theory_verdict.specs.Cells.{old_∈, ∈_old}
use Rattle.theory_verdict.proofs.Cells.{terminals, layers}

module _ (G : Instance) (M : ℕ → Bool) where
  module _ (law : Lawful G) (plan : Matching G M) (lid k : ℕ) where
    abbrev Beats : Hit → Type 0
    Beats h = Rival G M (rival_by M h) 1 k

    -- ---- no edge has room at both ends
    module _ (none : NoDirect G M) where
      pub alone_ok : Answer Beats (PathsCostAtLeast G M k 1) (alone_at G M lid k)
      unfolding alone_at
      alone_ok = first_answer (λ x. ltb (terminal G M x x).0 (4 + k)) (λ x. as_path G M x x []) (olds G M)
          (λ x m t. let (a, b, d, c) = (terminals G M).hit x x in
          path_found G M k law plan {n = 0} (terminal G M x x).1.0 x [] x (terminal G M x x).1.1 none (λ x w q p h. absurd (omega arith))
          (λ x w y q h. absurd (omega arith)) (omega arith)
          (record { old = ∈_old G M m; walk = refl; start = a; stop = b; apart = d })
          (omega (arith, c, ltb→lt (terminal G M x x).0 (4 + k) t, terminal_price_law G x x (terminal G M x x).1.0 (terminal G M x x).1.1)))
          (λ none. alone_done G M k (terminals G M) (λ x o. nltb→le (terminal G M x x).0 (4 + k) (none x (old_∈ G M o))))

      -- an alternating path that the tables show
      pub path_ok : (n : ℕ) → 2 * suc n + 4 + k ≤ lid → CostAtLeastTo G M k (suc (suc n)) → PathsCostAtLeast G M k (suc n)
          → (x y : ℕ) → Old G M x → Old G M y → walk_price G M lid n x y + (terminal G M x y).0 < 2 * suc n + 4 + k → Beats (as_path G M x y (trace G M lid n x y))
      path_ok n h cl cw x y ox oy c =
          let (w, p, l, d) = (layers G M lid n).hit x y ox oy (omega arith) in
          let (s, e, a, q) = (terminals G M).hit x y in
          path_found G M k law plan (terminal G M x y).1.0 x (trace G M lid n x y) y (terminal G M x y).1.1 none cl
          (cw (terminal G M x y).1.0 (terminal G M x y).1.1) l
          (record { old = ox; walk = w; start = s; stop = e; apart = a })
          (omega (arith, d, q, terminal_price_law G x y (terminal G M x y).1.0 (terminal G M x y).1.1))

      pub loop_ok : (n : ℕ) → 2 * suc n + 4 + k ≤ lid → CostAtLeastTo G M k (suc n) → (x : ℕ) → Old G M x → walk_price G M lid n x x < 2 * suc n + k
          → Beats (loop x (trace G M lid n x x))
      loop_ok n h cl x o c =
          let (w, p, l, d) = (layers G M lid n).hit x x o o (omega arith) in
          loop_found G M k law plan x (trace G M lid n x x) cl p l w (omega (arith, d))
