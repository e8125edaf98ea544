-- The levels one after the other, and the whole search: on Levels.
use Prim.Native.Nat.{ℕ, zero, suc, ◌+◌, ◌*◌, ◌≤◌}
use Rattle.std.proofs.Common.{arith}
use Rattle.std.specs.Prelude.{◌≡◌, length}
use Rattle.std.proofs.Math.Bool.{Bool}
use Rattle.lists.specs.First.{Answer, nothing, answer_map, or_answer}
use Rattle.model.specs.Instance.{Instance}
use Rattle.theory_instance.specs.Lawful.{Lawful, Matching}
use Rattle.theory_votes.specs.Score.{tally, quotas}
use Rattle.theory_verdict.specs.Strong.{Holds}
use Rattle.theory_verdict.specs.LemmaX.{Rival}
use Rattle.theory_verdict.specs.LemmaW.{NoDirect, CostAtLeastTo}
use Rattle.theory_verdict.specs.Search.{Hit, rival_by, olds}
use Rattle.theory_verdict.specs.Search.{levels, search}
use Rattle.theory_verdict.specs.CostAtLeast.{PathsCostAtLeast, CostAtLeastBelow}
use Rattle.theory_verdict.specs.Cutting.{cutting, unbeaten}
use Rattle.theory_verdict.specs.Table.{loops_done, paths_done}
use Rattle.theory_verdict.proofs.Cells.{terminals, layers}
use Rattle.theory_verdict.specs.Levels.{directs_ok, loop_at_answer, olds_count, path_at_answer}
use Rattle.theory_verdict.proofs.Levels.{alone_ok, loop_ok, path_ok}

module _ (G : Instance) (M : ℕ → Bool) where
  module _ (law : Lawful G) (plan : Matching G M) (lid k : ℕ) where
    abbrev Beats : Hit → Type 0
    Beats h = Rival G M (rival_by M h) 1 k

    module _ (none : NoDirect G M) where
      levels_ok : (B j n : ℕ) → j + n ≡ B → 2 * B + 4 + k ≤ lid → PathsCostAtLeast G M k 1 → CostAtLeastTo G M k (suc n)
          → PathsCostAtLeast G M k (suc n) → Answer Beats (CostAtLeastBelow G M k (suc B)) (levels G M lid k j n)
      unfolding levels
      levels_ok B zero n e h alone cl cw =
          nothing (record { direct = none; loops = λ x w q. cl x w (omega arith); paths = λ a b x w y q. cw a b x w y (omega arith) })
      levels_ok B (suc j) n e h alone cl cw = or_answer (loop_at_answer G M lid k n (loop_ok G M law plan lid k none n (omega arith) cl)) (λ no_loop.
          let cl' = loops_done G M k (layers G M lid n) no_loop in
          or_answer (path_at_answer G M lid k n (path_ok G M law plan lid k none n (omega arith) cl' cw)) (λ no-path.
          levels_ok B j (suc n) (omega arith) h alone cl' (paths_done G M k (layers G M lid n) (terminals G M) alone no-path)))

    -- ---- the search
    pub search_ok : (B : ℕ) → length (olds G M) ≤ B → 2 * B + 4 + k ≤ lid
        → Answer Beats (Holds G k M × ((N : ℕ → Bool) → Matching G N → quotas G ≤ tally G M N)) (search G M lid k B)
    unfolding search
    search_ok B few h = or_answer (directs_ok G M law plan lid k) (λ none. or_answer (alone_ok G M law plan lid k none) (λ alone.
        answer_map (λ h r. r) (λ d. (
          cutting G M law plan k (suc B) d (omega (arith, olds_count G M)),
          unbeaten G M law plan k (suc B) d
              (omega (arith, olds_count G M)),
        ))
        (levels_ok none B B 0 (omega arith) h alone (λ x w q p. absurd (omega arith)) alone)))
