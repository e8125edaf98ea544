-- Alternating paths: a start, a walk and an end. Lemma W (theory_instance, NoBad) in the forms that the rules use, and no blocking edge: no edge outside
-- a plan that Lemma W holds of is welcome at both its ends. Arcs and ends are those of the whole instance; `rem` only says where
-- starts and losses lie.
use Rattle.std.specs.Prelude.{ℕ, ◌+◌, ◌≤◌, ◌<◌, ◌≡◌, ◌⊎◌, Bool, [], ◌∷◌, length, T}
use Rattle.std.proofs.Common.{arith}
use Rattle.std.proofs.Math.Decide.{ℕ_discrete}
use Rattle.std.proofs.Math.Logic.{by_cases}
use Rattle.model.specs.Instance.{Instance, Side, deg}
use Rattle.theory_instance.specs.Walk.{up, up_one, up_no, Steps, New, Walk, RoomS, RoomT, plus, minus, NoBad}
use Rattle.theory_reduction.specs.Reach.{Reach, arc, join, loosen}
use Rattle.theory_reduction.specs.PlanAgainstArrows.{In}

module _ (G : Instance) (M rem : ℕ → Bool) where
  -- a loss at `from`, a way to `at`, and the stand's vote of `at` against f: way and vote cost at most a - b
  pub record Arrival (f a b : ℕ) : Type 0 where
    pub from : ℕ
    pub at : ℕ
    pub c : ℕ
    pub d : ℕ
    pub from_in : In G.m M rem from
    pub way : Reach G M 0 from at c d
    pub stand : G.st f ≡ G.st at
    pub cost : c + up (G.rank_t at) (G.rank_t f) + b ≤ d + up (G.rank_t f) (G.rank_t at) + a

  -- a loss and a way to x, together at most 0
  pub record Back (x : ℕ) : Type 0 where
    pub from : ℕ
    pub from_in : In G.m M rem from
    pub way : Reach G M 0 from x 0 1

  -- a way from x and an end: a loss, together at most 0, or a gain, together at most -1
  pub data Forth (x : ℕ) : Type 0 where
    lost : (y : ℕ) → In G.m M rem y → Reach G M 0 x y 0 1 → Forth x
    gained : (y f c d : ℕ) → New G M f → RoomS G M f → G.st f ≡ G.st y → Reach G M 0 x y c d
        → c + up (G.rank_t y) (G.rank_t f) ≤ d + up (G.rank_t f) (G.rank_t y) → Forth x

module _ {G : Instance} {M rem : ℕ → Bool} where
  -- one arc of cost at most a - b
  pub hop : {x f z : ℕ} (a b : ℕ) → New G M f → In G.m M rem z → G.st f ≡ G.st x → G.sv f ≡ G.sv z
      → up (G.rank_t x) (G.rank_t f) + up (G.rank_s z) (G.rank_s f) + b ≤ up (G.rank_t f) (G.rank_t x) + up (G.rank_s f) (G.rank_s z) + a → Reach G M 1 x z a b
  hop {x} {f} {z} a b nf iz t s h = arc x f z a b (nf, (iz.lt, iz.mem), t, s) h

  -- an arc, or a walk, of cost at most 0 in front of an end, behind a start
  pub before : {x y : ℕ} → Reach G M 1 x y 0 0 → Forth G M rem y → Forth G M rem x
  before r (lost y iy s) = lost y iy (loosen 0 0 1 (join r s) (omega arith) (omega arith))
  before r (gained y f c d nf rm i s h) = gained y f c d nf rm i (loosen 0 c d (join r s) (omega arith) (omega arith)) h

  pub after : {x y : ℕ} → Back G M rem y → Reach G M 1 y x 0 0 → Back G M rem x
  after b h = record { from = b.from; from_in = b.from_in; way = loosen 0 0 1 (join b.way h) (omega arith) (omega arith) }

  -- a walk back to x, and f, which the stand of x likes no less
  pub arrive : {x f : ℕ} → Back G M rem x → G.st f ≡ G.st x → G.rank_t f ≤ G.rank_t x → Arrival G M rem f 0 1
  arrive {x} {f} b i h = record {
    from = b.from;
    at = x;
    c = 0;
    d = 1;
    from_in = b.from_in;
    way = b.way;
    stand = i;
    cost = omega
        (arith, up_no (G.rank_t x) (G.rank_t f) h);
  }

  -- ---- alternating paths that Lemma W refuses
  module _ (W : NoBad G M) where
    pub no_loop : {x : ℕ} → In G.m M rem x → Reach G M 1 x x 0 0 → ⊥
    no_loop {x} ix r = go r.steps r.walk r.long r.cost
      where
        go : (w : Steps) → Walk G M x w x → 1 ≤ length w → plus G x w + 0 ≤ minus G x w + 0 → ⊥
        go [] a l h = omega arith
        go (s ∷ w) a l h = omega (arith, W.closed x s w (ix.lt, ix.mem) a)

    pub no_lL : {x y : ℕ} → In G.m M rem x → Reach G M 0 x y 0 2 → ⊥
    no_lL {x} {y} ix r = omega (arith, W.LL x r.steps y (ix.lt, ix.mem) r.walk)

    -- loss and gain: where both are at one surveyor the alternating path closes to a loop, and f's vote there comes in
    pub no_lG : (f k : ℕ) → New G M f → RoomS G M f → (A : Arrival G M rem f 0 k)
        → (G.sv f ≡ G.sv A.from → up (G.rank_s A.from) (G.rank_s f) ≤ k + up (G.rank_s f) (G.rank_s A.from)) → ⊥
    no_lG f k nf rm A h = by_cases (ℕ_discrete (G.sv f) (G.sv A.from))
        (λ e. no_loop A.from_in (loosen 1 0 0 (join A.way
        (hop (up (G.rank_t A.at) (G.rank_t f) + up (G.rank_s A.from) (G.rank_s f))
        (up (G.rank_t f) (G.rank_t A.at) + up (G.rank_s f) (G.rank_s A.from)) nf A.from_in A.stand e (omega arith)))
        (omega arith) (omega (arith, h e))))
        (λ n. omega (arith, W.LG A.from A.way.steps A.at f (A.from_in.lt, A.from_in.mem) A.way.walk nf A.stand rm n, A.way.cost))

    -- gain and loss, likewise at a stand
    pub no_gL : (f k x y c d : ℕ) → New G M f → RoomT G M f → In G.m M rem x → G.sv f ≡ G.sv x → Reach G M 0 x y c d
        → c + up (G.rank_s x) (G.rank_s f) + k ≤ d + up (G.rank_s f) (G.rank_s x)
        → (G.st f ≡ G.st y → up (G.rank_t y) (G.rank_t f) ≤ k + up (G.rank_t f) (G.rank_t y)) → ⊥
    no_gL f k x y c d nf rm ix i r h v = by_cases (ℕ_discrete (G.st f) (G.st y))
        (λ e. no_loop ix (loosen 1 0 0 (join r
        (hop (up (G.rank_t y) (G.rank_t f) + up (G.rank_s x) (G.rank_s f)) (up (G.rank_t f) (G.rank_t y) + up (G.rank_s f) (G.rank_s x)) nf ix e i
        (omega arith)))
        (omega arith) (omega (arith, v e))))
        (λ n. omega (arith, W.GL f x r.steps y nf rm (ix.lt, ix.mem) i r.walk n, r.cost))

    -- a gain by f into x, where nothing of the plan at f's stand is better than f
    pub no_gain : (f x : ℕ) → New G M f → RoomT G M f → In G.m M rem x → G.sv f ≡ G.sv x
        → ((y : ℕ) → In G.m M rem y → G.st f ≡ G.st y → G.rank_t f ≤ G.rank_t y) → Forth G M rem x → ⊥
    no_gain f x nf rm ix i best (lost y iy r) = no_gL f 0 x y 0 1 nf rm ix i r (omega (arith, up_one (G.rank_s x) (G.rank_s f)))
        (λ e. omega (arith, up_no (G.rank_t y) (G.rank_t f) (best y iy e)))
    no_gain f x nf rm ix i best (gained y g c d ng rg j r h) = omega (
      arith,
      up_one (G.rank_s x) (G.rank_s f),
      r.cost,
      W.GG f x r.steps y g nf rm ng rg (ix.lt, ix.mem) i r.walk j,
    )

-- ---- the same for the whole instance, by its own words
-- the node of f has room, or an edge of the plan there is worse than f
abbrev pub Welcome : (K : Side) (M : ℕ → Bool) → ℕ → Type 0
Welcome K M f = (deg K M (K.end f) < K.quota (K.end f)) ⊎ ((x : ℕ) × (x < K.m) × T (M x) × (K.end f ≡ K.end x) × (K.rank f < K.rank x))
