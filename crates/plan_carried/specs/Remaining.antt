-- What is promised of the plan that remains: the bytes of the pairs whose surveyor has another number than the leaver's.
use Rattle.std.specs.Prelude.{ℕ, suc, ◌+◌, ◌*◌, ◌≤◌, ◌<◌, ◌≡◌, Bool, false, not, ◌&&◌, List, length, take, replicate, eqb}
use Rattle.std.proofs.Common.{arith, sym, ◌∙◌, subst}
use Rattle.std.proofs.Math.Path.{ap}
use Rattle.std.proofs.Math.Seq.{take-append_seam}
use Rattle.lists.specs.Test.{bit, and_l, bit_le}
use Rattle.lists.specs.Sum.{range, sum_mono}
use Rattle.lists.specs.Keep.{keep_length}
use Rattle.model.specs.Limits.{plan_limit, plan_size, pair_width}
use Rattle.model.specs.Instance.{Instance}
use Rattle.model.specs.Plans.{Plan, on}
use Rattle.model.specs.PlanFile.{edges_in, plan_of, plan_bytes_by, plan_bytes}
use Rattle.model_desk.specs.Desk.{onto}
use Rattle.theory_files.specs.Chosen.{on_plan_of, edges_in_cong}
use Rattle.theory_files.specs.PlanFiles.{pairs_size}
use Rattle.theory_files.specs.Carried.{besides}
use Rattle.arrays.specs.ArrayInstance.{at, flag}
use Rattle.arrays.specs.Passes.{Shows, shows_at}
use Rattle.instance.specs.declared.Instance as arrays
use Rattle.instance.specs.Decoded.{shown_by}
use Rattle.plan_writer.specs.Written.{WrittenFor}
use Rattle.plan_carried.specs.declared.CarriedPlan.{CarriedPlan}

-- the plan M by its flags
abbrev pub InFlags : Instance → List Bool → Plan → Type 0
InFlags G plan M = (e : ℕ) → e < G.m → flag plan e ≡ on M e

-- at most 64 of them
abbrev pub Few : ℕ → List Bool → Type 0
Few m plan = length (edges_in m (flag plan)) ≤ plan_limit

-- the array's front is the bytes of the plan besides the surveyor's pairs, for any plan that the flags show
abbrev pub CarriedFor : Instance → List Bool → (number : ℕ) → CarriedPlan → Type 0
CarriedFor G plan s r = (M : Plan) → InFlags G plan M → (r.len ≤ plan_size) × (take r.len r.bytes ≡ plan_bytes G (besides G M s))

-- ---- how it follows
abbrev pub stays : (sv : List ℕ) (plan : List Bool) (number : ℕ) → ℕ → Bool
stays sv plan s e = flag plan e && not (eqb (suc (at sv e)) s)

pub few_stay : (m : ℕ) (sv : List ℕ) (plan : List Bool) (s : ℕ) (kept : List Bool) → Shows false kept m (stays sv plan s) → Few m plan → Few m kept
few_stay m sv plan s kept h few =
    let e = edges_in_cong m (flag kept) (stays sv plan s) (λ e l. shows_at false kept (stays sv plan s) m e h l) in
    let a = keep_length (stays sv plan s) (range 0 m) in
    let b = keep_length (flag plan) (range 0 m) in
    let c = sum_mono (λ e. bit (stays sv plan s e)) (λ e. bit (flag plan e)) (range 0 m)
    (λ e k. bit_le (stays sv plan s e) (flag plan e) (and_l (flag plan e) (not (eqb (suc (at sv e)) s)))) in
    subst (λ es. length es ≤ plan_limit) (sym e) (omega arith)

-- what is written, by its first byte
module _ (g : arrays.Instance) (kept : List Bool) (out : List ℕ) (w : WrittenFor g.m g.sv g.st g.sh kept (replicate plan_size 0) out) where
  abbrev G : Instance
  G = shown_by g

  abbrev es : Plan → List ℕ
  es N = edges_in g.m (on N)

  -- for a plan that the flags show
  module _ (N : Plan) (k : (e : ℕ) → e < g.m → on N e ≡ flag kept e) where
    is_plan_law : out ≡ onto (plan_bytes G N) (replicate plan_size 0)
    is_plan_law = w g.ns g.nt g.rank_s g.rank_t g.tied g.quota_s g.quota_t N k

    count_is : at out 0 ≡ length (es N)
    unfolding plan_bytes_by
    count_is = ap (λ o. at o 0) is_plan_law

    size_is : length (plan_bytes G N) ≡ at out 0 * pair_width + 1
    unfolding plan_bytes_by
    size_is = let c = count_is in omega (arith, pairs_size G (es N))

    front_is : take (at out 0 * pair_width + 1) out ≡ plan_bytes G N
    front_is = ap (λ n. take n out) (sym size_is) ∙ ap (take (length (plan_bytes G N))) is_plan_law ∙ take-append_seam (plan_bytes G N) _

  count_few : Few g.m kept → at out 0 ≤ plan_limit
  count_few few =
      let N = plan_of g.m (flag kept) in
      let k = on_plan_of g.m (flag kept) in
      subst (λ n. n ≤ plan_limit) (ap length (edges_in_cong g.m (flag kept) (on N) (λ e l. sym (k e l))) ∙ sym (count_is N k)) few

module _ (g : arrays.Instance) (plan : List Bool) (s : ℕ) (few : Few g.m plan) (kept : List Bool) (h : Shows false kept g.m (stays g.sv plan s))
    (out : List ℕ) (w : WrittenFor g.m g.sv g.st g.sh kept (replicate plan_size 0) out) where
  pub count_small : at out 0 ≤ plan_limit
  count_small = count_few g kept out w (few_stay g.m g.sv plan s kept h few)

  pub carried_is : CarriedFor (shown_by g) plan s (record { len = at out 0 * pair_width + 1; bytes = out })
  carried_is M f = (
    omega (arith, count_small),
    front_is g kept out w (besides (shown_by g) M s) (λ e l. on_plan_of g.m (λ e. on M e && not (eqb (suc (at g.sv e)) s)) e l
        ∙ ap (λ b. b && not (eqb (suc (at g.sv e)) s)) (sym (f e l)) ∙ sym (shows_at false kept (stays g.sv plan s) g.m e h l)),
  )
