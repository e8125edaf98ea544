-- How long a plan's bytes are, told by the count byte in front of its pairs.
use Rattle.std.specs.Prelude.{ℕ, ◌+◌, ◌*◌, ◌≡◌, List, length, get_or}
use Rattle.std.proofs.Common.{arith}
use Rattle.model.specs.Limits.{pair_width}
use Rattle.model.specs.Instance.{Instance}
use Rattle.model.specs.Plans.{Plan, on}
use Rattle.model.specs.PlanFile.{edges_in, plan_bytes_by, plan_bytes}
use Rattle.model_desk.specs.Desk.{onto}
use Rattle.theory_files.specs.PlanFiles.{pairs_size}

-- by the number of pairs: a byte for it, and three a pair
abbrev pub length_of : ℕ → ℕ
length_of k = pair_width * k + 1

-- of a plan that was written to the front of a buffer
pub length_told : (G : Instance) (M : Plan) (p : List ℕ) → length_of (get_or (onto (plan_bytes G M) p) 0 0) ≡ length (plan_bytes G M)
unfolding plan_bytes_by
length_told G M p = omega (arith, pairs_size G (edges_in G.m (on M)))
