-- The search is right: what it finds makes a rival whose vote is below k, and if it finds nothing, the vote against every other plan is
-- at least k.
use Prim.Native.Nat.{ℕ, suc, ◌+◌, ◌*◌, ◌≤◌, ◌<◌}
use Rattle.std.proofs.Common.{arith, lt→ltb}
use Rattle.std.specs.Prelude.{◌≡◌, ◌&&◌, length}
use Rattle.std.proofs.Math.Bool.{Bool, not}
use Rattle.std.proofs.Math.Dec.{ltb, ltb→lt, nltb→le, T_not}
use Rattle.lists.specs.Test.{and_l, and_r, and_i, bit}
use Rattle.lists.specs.Sum.{range, sum_range, count}
use Rattle.lists.specs.Keep.{keep_length, product, product_∈, ∈_product}
use Rattle.lists.specs.First.{Answer, first_answer}
use Rattle.model.specs.Instance.{Instance, surveyors, stands, deg}
use Rattle.theory_instance.specs.Lawful.{Lawful, Matching}
use Rattle.theory_instance.specs.Walk.{Old}
use Rattle.theory_verdict.specs.LemmaX.{Rival, rival_cast}
use Rattle.theory_verdict.specs.AlternatingPath.{simple_direct}
use Rattle.theory_verdict.specs.LemmaW.{NoDirect}
use Rattle.theory_verdict.specs.Search.{Hit, direct, loop, rival_by, olds, room?, terminal, walk_price, trace, as_path, directs, loop_at}
use Rattle.theory_verdict.specs.Search.{path_at}
use Rattle.theory_verdict.specs.Cells.{below_∈, ∈_below, old_∈, ∈_old}

pub olds_count : (G : Instance) (M : ℕ → Bool) → length (olds G M) ≡ count M G.m
unfolding count
olds_count G M = omega (arith, keep_length M (range 0 G.m), sum_range (λ e. bit (M e)) G.m)

module _ (G : Instance) (M : ℕ → Bool) where
  -- ---- what the tests of a level say
  module _ (lid k n : ℕ) {P : Hit → Type 0} where
    pub loop_at_answer : ((x : ℕ) → Old G M x → walk_price G M lid n x x < 2 * suc n + k → P (loop x (trace G M lid n x x)))
        → Answer P ((x : ℕ) → Old G M x → 2 * suc n + k ≤ walk_price G M lid n x x) (loop_at G M lid k n)
    unfolding loop_at
    loop_at_answer h = first_answer (λ x. ltb (walk_price G M lid n x x) (2 * suc n + k)) (λ x. loop x (trace G M lid n x x)) (olds G M)
        (λ x m t. h x (∈_old G M m) (ltb→lt (walk_price G M lid n x x) (2 * suc n + k) t))
        (λ none x o. nltb→le (walk_price G M lid n x x) (2 * suc n + k) (none x (old_∈ G M o)))

    pub path_at_answer : ((x y : ℕ) → Old G M x → Old G M y → walk_price G M lid n x y + (terminal G M x y).0 < 2 * suc n + 4 + k
        → P (as_path G M x y (trace G M lid n x y)))
        → Answer P ((x y : ℕ) → Old G M x → Old G M y → 2 * suc n + 4 + k ≤ walk_price G M lid n x y + (terminal G M x y).0) (path_at G M lid k n)
    unfolding path_at
    path_at_answer h = first_answer (λ p. ltb (walk_price G M lid n p.0 p.1 + (terminal G M p.0 p.1).0) (2 * suc n + 4 + k))
        (λ p. as_path G M p.0 p.1 (trace G M lid n p.0 p.1))
        (product (olds G M) (olds G M))
        (λ p m t. let (i, j) = ∈_product p (olds G M) (olds G M) m in
        h p.0 p.1 (∈_old G M i) (∈_old G M j) (ltb→lt (walk_price G M lid n p.0 p.1 + (terminal G M p.0 p.1).0) (2 * suc n + 4 + k) t))
        (λ none x y ox oy. nltb→le (walk_price G M lid n x y + (terminal G M x y).0) (2 * suc n + 4 + k)
        (none (x, y) (product_∈ (olds G M) (olds G M) (old_∈ G M ox) (old_∈ G M oy))))

  module _ (law : Lawful G) (plan : Matching G M) (lid k : ℕ) where
    abbrev pub Beats : Hit → Type 0
    Beats h = Rival G M (rival_by M h) 1 k

    pub directs_ok : Answer Beats (NoDirect G M) (directs G M)
    unfolding directs
    directs_ok = first_answer (λ f. not (M f) && (room_s f && room_t f)) direct (range 0 G.m)
        (λ f m t. let r = and_r (not (M f)) (room_s f && room_t f) t in
        rival_cast (simple_direct G M law plan f (∈_below G M m, and_l (not (M f)) (room_s f && room_t f) t)
        (ltb→lt (deg (surveyors G) M (G.sv f)) (G.quota_s (G.sv f)) (and_l (room_s f) (room_t f) r))
        (ltb→lt (deg (stands G) M (G.st f)) (G.quota_t (G.st f)) (and_r (room_s f) (room_t f) r)))
        (omega arith))
        (λ none f n rs rt. T_not (not (M f) && (room_s f && room_t f)) (none f (below_∈ G M n.0))
        (and_i (not (M f)) (room_s f && room_t f) n.1 (and_i (room_s f) (room_t f)
        (lt→ltb (deg (surveyors G) M (G.sv f)) (G.quota_s (G.sv f)) rs)
        (lt→ltb (deg (stands G) M (G.st f)) (G.quota_t (G.st f)) rt))))
      where
        room_s : ℕ → Bool
        room_s = room? M (surveyors G)

        room_t : ℕ → Bool
        room_t = room? M (stands G)
