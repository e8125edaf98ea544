-- A plan against the arrows of one side, surveyors or stands, at a state of the reduction: what is said of a node is proved once
-- for both. The plan consists of the fixed edges and of some remaining ones, and the cut quotas have their closed form; no vote
-- comes in yet.
use Rattle.std.specs.Prelude.{ℕ, ◌+◌, ◌-◌, ◌≤◌, ◌<◌, min, ◌≡◌, refl, ◌⊎◌, Bool, true, false, not, ◌&&◌, T}
use Rattle.std.proofs.Common.{arith, eq-or-lt_of_le, sym, subst, inl, inr, ⊎_elim, T_not}
use Rattle.std.proofs.Math.Decide.{dec_lt}
use Rattle.std.proofs.Math.Logic.{by_cases}
use Rattle.std.proofs.Math.Dec.{not_T}
use Rattle.lists.specs.Test.{given, and_l, and_r, and_i, nand_l, nand_i, bit}
use Rattle.model.specs.Instance.{Side, deg}
use Rattle.model.specs.Reduction.{ahead, arrow}
use Rattle.theory_instance.specs.Lawful.{Ranked, Within}
use Rattle.theory_instance.specs.Degree.{deg_sub, deg_add, deg_lt, deg_swap, deg_some}
use Rattle.theory_reduction.specs.Arrows.{better, better_is, arrow_rem, spare_all, spare_last, arrow_better, arrows_fit, none_ahead_best}

-- an edge of the plan that remains
pub record In (m : ℕ) (M rem : ℕ → Bool) (x : ℕ) : Type 0 where
  pub lt : x < m
  pub mem : T (M x)
  pub left : T (rem x)

-- the node of f has room, or a remaining edge of the plan there is worse than f
abbrev pub Blocks : (K : Side) (M rem : ℕ → Bool) → ℕ → Type 0
Blocks K M rem f = (deg K M (K.end f) < K.quota (K.end f)) ⊎ ((x : ℕ) × In K.m M rem x × (K.end f ≡ K.end x) × (K.rank f < K.rank x))

-- one side, a state and a plan within the quotas, which is the fixed edges and some of the remaining ones
pub record PlanAgainstArrows : Type 0 where
  pub K : Side
  pub law : Ranked K
  pub M : ℕ → Bool
  pub plan : Within K M
  pub rem : ℕ → Bool
  pub fixed : ℕ → Bool
  pub kept : (e : ℕ) → e < K.m → T (fixed e) → T (M e)
  pub rest : (e : ℕ) → e < K.m → T (M e) → T (not (fixed e)) → T (rem e)
  pub apart : (e : ℕ) → e < K.m → T (fixed e) → T (not (rem e))
  pub q : ℕ → ℕ  -- the quotas after the cut
  pub q_is : (v : ℕ) → q v ≡ min (K.quota v - deg K fixed v) (deg K rem v)

-- an edge of the plan remains or is fixed, and not both
bit_parts : (a r f : Bool) → (T f → T a) → (T a → T (not f) → T r) → (T f → T (not r)) → bit a ≡ bit (a && r) + bit f
bit_parts true true true h k n = absurd (n tt)
bit_parts true true false h k n = refl
bit_parts true false true h k n = refl
bit_parts true false false h k n = absurd (k tt tt)
bit_parts false r true h k n = absurd (h tt)
bit_parts false r false h k n = refl

module _ (A : PlanAgainstArrows) where
  abbrev K : Side
  K = A.K

  abbrev M : ℕ → Bool
  M = A.M

  abbrev rem : ℕ → Bool
  rem = A.rem

  abbrev q : ℕ → ℕ
  q = A.q

  abbrev Mem : ℕ → Type 0
  Mem = In A.K.m A.M A.rem

  -- an edge that is not in the plan
  abbrev Fresh : ℕ → Type 0
  Fresh f = (f < A.K.m) × T (not (A.M f))

  -- the part of the plan that remains
  abbrev pub both : ℕ → Bool
  both e = A.M e && A.rem e

  abbrev a : ℕ → Bool
  a = arrow A.K A.rem A.q

  both_in : (x : ℕ) → x < K.m → T (both x) → Mem x
  both_in x l t = record { lt = l; mem = and_l (M x) (rem x) t; left = and_r (M x) (rem x) t }

  split : (v : ℕ) → deg K M v ≡ deg K both v + deg K A.fixed v
  split v = deg_add K both A.fixed M v (λ e l. bit_parts (M e) (rem e) (A.fixed e) (A.kept e l) (A.rest e l) (A.apart e l))

  both_le : (v : ℕ) → deg K both v ≤ deg K rem v
  both_le v = deg_sub K both rem v (λ e l i t. and_r (M e) (rem e) t)

  -- ---- the plan and the cut quota
  pub fits : (v : ℕ) → deg K both v ≤ q v
  fits v = omega (arith, A.q_is v, split v, A.plan v, both_le v)

  pub room : (v : ℕ) → deg K both v < q v → deg K M v < K.quota v
  room v h = omega (arith, A.q_is v, split v)

  pub no_room : (f : ℕ) → ¬ Blocks K M rem f → q (K.end f) ≤ deg K both (K.end f)
  no_room f n = by_cases (dec_lt (deg K both (K.end f)) (q (K.end f))) (λ h. absurd (n (inl (room (K.end f) h)))) (λ h. omega arith)

  pub some_or_room : (v : ℕ) → 0 < q v → ((x : ℕ) × Mem x) ⊎ (deg K M v < K.quota v)
  some_or_room v h = by_cases (dec_lt 0 (deg K both v))
      (λ k. given (deg_some K both v k) (λ (x, l, t, i). inl (x, both_in x l t)))
      (λ k. inr (room v (omega arith)))

  -- ---- the plan and any set p of edges at a node, by their numbers
  -- an edge of the plan outside p
  pub plan_beyond : (p : ℕ → Bool) (v : ℕ) → deg K p v < deg K both v → (x : ℕ) × Mem x × T (not (p x)) × (v ≡ K.end x)
  plan_beyond p v h = given (deg_lt K p both v h) (λ (x, l, t, n, i). (x, both_in x l t, n, sym i))

  pub plan_instead : (p : ℕ → Bool) (f : ℕ) → Fresh f → T (p f) → deg K p (K.end f) ≤ deg K both (K.end f)
      → (x : ℕ) × Mem x × T (not (p x)) × (K.end f ≡ K.end x)
  plan_instead p f nf t h = given (deg_swap K p both (K.end f) h f nf.0 refl t (nand_i (M f) (rem f) nf.1))
      (λ (x, l, s, n, i). (x, both_in x l s, n, sym i))

  -- an edge of p that is not in the plan
  pub beyond_plan : (p : ℕ → Bool) (v : ℕ) → ((e : ℕ) → T (p e) → T (rem e)) → deg K both v < deg K p v → (f : ℕ) × Fresh f × T (p f) × (K.end f ≡ v)
  beyond_plan p v sub h = given (deg_lt K both p v h) (λ (f, l, t, n, i). (f, (l, nand_l (M f) (rem f) n (sub f t)), t, i))

  pub instead_of_plan : (p : ℕ → Bool) (x : ℕ) → ((e : ℕ) → T (p e) → T (rem e)) → Mem x → T (not (p x)) → deg K both (K.end x) ≤ deg K p (K.end x)
      → (f : ℕ) × Fresh f × T (p f) × (K.end f ≡ K.end x)
  instead_of_plan p x sub ix n h = given (deg_swap K both p (K.end x) h x ix.lt refl (and_i (M x) (rem x) ix.mem ix.left) n)
      (λ (f, l, t, k, i). (f, (l, nand_l (M f) (rem f) k (sub f t)), t, i))

  -- at least as many better edges of p as the quota: one of them is not in the plan, if e is
  pub better_beyond : (p : ℕ → Bool) (e : ℕ) → ((d : ℕ) → T (p d) → T (rem d)) → Mem e → q (K.end e) ≤ deg K (better K p e) (K.end e)
      → (g : ℕ) × Fresh g × T (p g) × (K.end g ≡ K.end e) × (K.rank g < K.rank e)
  better_beyond p e sub ie h = given (instead_of_plan (better K p e) e (λ d t. sub d (better_is K p e d t).0) ie
      (not_T (better K p e e) (λ t. omega (arith, (better_is K p e e t).1))) (omega (arith, fits (K.end e))))
      (λ (g, ng, t, i). (g, ng, (better_is K p e g t).0, i, (better_is K p e g t).1))

  -- ---- the plan and the arrows
  -- an edge outside the plan and one in it differ in rank, where the first is strict
  pub sharp : (f x : ℕ) → Fresh f → T (not (K.tie f)) → Mem x → K.end f ≡ K.end x → K.rank f ≤ K.rank x → K.rank f < K.rank x
  sharp f x nf s ix i h = ⊎_elim
      (λ k. absurd (T_not (M f) nf.1 (subst (λ z. T (M z)) (sym (A.law.strict f x nf.0 ix.lt i k s)) ix.mem)))
      (λ k. k)
      (eq-or-lt_of_le h)

  -- an arrow outside the plan is better than an edge of the plan without one
  pub arrow_beats : (f x : ℕ) → Fresh f → T (a f) → Mem x → T (not (a x)) → K.end f ≡ K.end x → K.rank f < K.rank x
  arrow_beats f x nf t ix n i = arrow_better K rem q A.law f x nf.0 ix.lt i t ix.left n

  -- where a node sends fewer arrows than its quota, the edges of the plan without one are no better than any edge
  pub spare_beats : (f x : ℕ) → Fresh f → Mem x → T (not (a x)) → K.end f ≡ K.end x → deg K a (K.end f) < q (K.end f) → K.rank f ≤ K.rank x
  spare_beats f x nf ix n i few = spare_last K rem q A.law (K.end f) few x ix.lt (sym i) ix.left n f nf.0 refl

  -- an edge with none ahead is no worse than the edges of the plan
  pub first_beats_law : (f x : ℕ) → Fresh f → ahead K rem (K.end f) (K.rank f) ≡ 0 → Mem x → K.end f ≡ K.end x → K.rank f ≤ K.rank x
  first_beats_law f x nf z ix i = none_ahead_best K rem A.law f nf.0 z x ix.lt ix.left i

  -- an arrow outside the plan: where the node is full, the plan has an edge without an arrow there, which is worse
  pub arrow_out_worse : (f : ℕ) → Fresh f → T (a f) → q (K.end f) ≤ deg K both (K.end f)
      → (x : ℕ) × Mem x × T (not (a x)) × (K.end f ≡ K.end x) × (K.rank f < K.rank x)
  arrow_out_worse f nf t h = given (plan_instead a f nf t (omega (arith, arrows_fit K rem q A.law (K.end f))))
      (λ (x, ix, n, i). (x, ix, n, i, arrow_beats f x nf t ix n i))

  pub arrow_blocks : (f : ℕ) → Fresh f → T (a f) → Blocks K M rem f
  arrow_blocks f nf t = by_cases (dec_lt (deg K both (K.end f)) (q (K.end f)))
      (λ h. inl (room (K.end f) h))
      (λ h. given (arrow_out_worse f nf t (omega arith)) (λ (x, ix, n, i, w). inr (x, ix, i, w)))

  -- where no edge is tied: as many arrows as the quota, so an edge of the plan without one has a better arrow outside the plan
  arrows_all : ((e : ℕ) → T (not (K.tie e))) → (v : ℕ) → q v ≤ deg K a v
  arrows_all s v = by_cases (dec_lt (deg K a v) (q v))
      (λ h. absurd (omega (arith, A.q_is v, deg_sub K rem a v (λ e l i r. spare_all K rem q v h e l i r (s e)))))
      (λ h. omega arith)

  pub better_arrow : ((e : ℕ) → T (not (K.tie e))) → (x : ℕ) → Mem x → T (not (a x))
      → (f : ℕ) × Fresh f × T (a f) × (K.end f ≡ K.end x) × (K.rank f < K.rank x)
  better_arrow s x ix n = given (instead_of_plan a x (arrow_rem K rem q) ix n (omega (arith, fits (K.end x), arrows_all s (K.end x))))
      (λ (f, nf, t, i). (f, nf, t, i, arrow_beats f x nf t ix n i))
