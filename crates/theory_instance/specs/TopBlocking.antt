-- The blocking pair that is named (request W-201): it blocks if any pair does, and every other blocking pair comes after it. Edges are
-- compared by one number, the surveyor's and then the rank, as ranks stay below that of an empty place.
use Rattle.std.specs.Prelude.{ℕ, ◌+◌, ◌*◌, ◌≤◌, ◌<◌, ◌≡◌, ◌⊎◌, Bool, true, false, not, ◌&&◌, T, eqb, ltb}
use native.Mathlib.Omega.{arith}
use Rattle.std.proofs.Math.Decide.{dec_lt}
use Rattle.std.proofs.Common.{ap, ap₂, inl, inr, ⊎_elim, lt→ltb, eqb→eq, T_not}
use Rattle.std.proofs.Math.Logic.{by_cases}
use Rattle.std.proofs.Math.Dec.{ltb→lt}
use Rattle.lists.specs.Test.{given, by-test, T_true, T_false, and_l, and_r, and_i, nand_i, or_case, or_l, or_r, eq→eqb}
use Rattle.lists.specs.Sum.{up_to, up_to_∈, up_to_<}
use Rattle.lists.specs.Keep.{any?, any_cong, any_or, any_∈, none_∈}
use Rattle.lists.specs.Search.{low, least_by, low_is, low_hit, low_cong, low_none}
use Rattle.model.specs.Limits.{empty_rank}
use Rattle.model.specs.Instance.{Instance}
use Rattle.model.specs.Blocking.{blocks, some_blocks, above, is_top, top_of, top_blocking}
use Rattle.theory_instance.specs.Lawful.{Lawful}

-- an edge's place in the order in which blocking pairs are named: by surveyor, then by the rank there
abbrev pub key : (sv rank : ℕ → ℕ) → ℕ → ℕ
key sv rank e = sv e * empty_rank + rank e

-- ---- of the edges below m that pass a test
-- what passes above m does not matter
pub top_cong : (sv rank : ℕ → ℕ) (m : ℕ) (p q : ℕ → Bool) → ((e : ℕ) → e < m → p e ≡ q e) → top_of sv rank m p ≡ top_of sv rank m q
top_cong sv rank m p q h = low_cong (is_top sv rank m p) (is_top sv rank m q) m
    (λ e l. ap₂ (λ a b. a && not b) (h e l)
    (any_cong (λ d. p d && above sv rank d e) (λ d. q d && above sv rank d e) (up_to m) (λ d k. ap (λ b. b && above sv rank d e) (h d (up_to_< m k)))))

module _ (sv rank : ℕ → ℕ) (m : ℕ) (p : ℕ → Bool) (placed : (e : ℕ) → e < m → rank e < empty_rank) where
  above_key : (d e : ℕ) → d < m → e < m → T (above sv rank d e) → key sv rank d < key sv rank e
  above_key d e k l t = ⊎_elim
      (λ a. let h = ltb→lt (sv d) (sv e) a in omega (arith, placed d k))
      (λ b. let q = eqb→eq (sv d) (sv e) (and_l (eqb (sv d) (sv e)) (ltb (rank d) (rank e)) b) in
      let h = ltb→lt (rank d) (rank e) (and_r (eqb (sv d) (sv e)) (ltb (rank d) (rank e)) b) in
      omega arith)
      (or_case (ltb (sv d) (sv e)) (eqb (sv d) (sv e) && ltb (rank d) (rank e)) t)

  pub key_above : (d e : ℕ) → d < m → e < m → key sv rank d < key sv rank e → T (above sv rank d e)
  key_above d e k l h = by_cases (dec_lt (sv d) (sv e))
      (λ a. or_l (ltb (sv d) (sv e)) (eqb (sv d) (sv e) && ltb (rank d) (rank e)) (lt→ltb (sv d) (sv e) a))
      (λ n. let q : sv d ≡ sv e = omega (arith, placed e l) in
      or_r (ltb (sv d) (sv e)) (eqb (sv d) (sv e) && ltb (rank d) (rank e))
      (and_i (eqb (sv d) (sv e)) (ltb (rank d) (rank e)) (eq→eqb (sv d) (sv e) q) (lt→ltb (rank d) (rank e) (omega arith))))

  abbrev before : ℕ → ℕ → Bool
  before e d = p d && above sv rank d e

  abbrev tops : ℕ → Bool
  tops = is_top sv rank m p

  -- one of the least key
  top_here : (e : ℕ) → e < m → T (p e) → ((d : ℕ) → d < m → T (p d) → key sv rank e ≤ key sv rank d) → T (is_top sv rank m p e)
  top_here e l t least = and_i (p e) (not (any? (before e) (up_to m))) t (⊎_elim
      (λ (s, (d, k, b)).
      let j = up_to_< m k in
      let h = above_key d e j l (and_r (p d) (above sv rank d e) b) in
      let g = least d j (and_l (p d) (above sv rank d e) b) in
      absurd (let z : ⊥ = omega arith in z))
      (λ n. n.0)
      (any_or (before e) (up_to m)))

  least_key : (e : ℕ) → e < m → T (is_top sv rank m p e) → (d : ℕ) → d < m → T (p d) → key sv rank e ≤ key sv rank d
  least_key e l t d k b = by_cases (dec_lt (key sv rank d) (key sv rank e))
      (λ h. absurd (T_not (before e d) (none_∈ (before e) (up_to m) (and_r (p e) (not (any? (before e) (up_to m))) t) d (up_to_∈ m d k))
      (and_i (p d) (above sv rank d e) b (key_above d e k l h))))
      (λ n. omega arith)

  -- and the lowest of these is the top
  pub top_is : (e : ℕ) → e < m → T (p e) → ((d : ℕ) → d < m → T (p d) → key sv rank e ≤ key sv rank d)
      → ((d : ℕ) → d < e → T (p d) → key sv rank e < key sv rank d) → top_of sv rank m p ≡ e
  top_is e l t least lowest = low_hit tops e m (low_none tops e (λ d k. T_false (by-test (tops d)
      (λ y.
      let h = least_key d (omega arith) y e l t in
      let g = lowest d k (and_l (p d) (not (any? (before d) (up_to m))) y) in
      absurd (let z : ⊥ = omega arith in z))
      (λ n. n))))
      (T_true (top_here e l t least)) l

  -- where no edge passes, m is named, the number behind all edges
  pub top_none : ((d : ℕ) → d < m → T (not (p d))) → top_of sv rank m p ≡ m
  top_none none = low_none tops m (λ d l. T_false (nand_i (p d) (not (any? (before d) (up_to m))) (none d l)))

  -- there is one if any edge passes
  pub top_found : (e : ℕ) → e < m → T (p e)
      → (top_of sv rank m p < m) × T (p (top_of sv rank m p)) × ((d : ℕ) → d < m → T (p d) → key sv rank (top_of sv rank m p) ≤ key sv rank d)
  top_found e l t = given (least_by (key sv rank) p m e l t) (λ (i, k, b, least). given (low_is tops m) (λ (a, none, is).
      by_cases (dec_lt (low tops m) m)
      (λ h. (h, and_l (p (low tops m)) (not (any? (before (low tops m)) (up_to m))) (is h), least_key (low tops m) h (is h)))
      (λ n. absurd (T_not (tops i) (none i (omega arith)) (top_here i k b least)))))

-- ---- of the blocking edges
module _ (G : Instance) (M : ℕ → Bool) (placed : (e : ℕ) → e < G.m → G.rank_s e < empty_rank) where
  abbrev top : ℕ
  top = top_blocking G M

  inside : (e : ℕ) → T (blocks G M e) → e < G.m
  unfolding blocks
  inside e t = ltb→lt e G.m (and_l (ltb e G.m) _ t)

  found : (e : ℕ) → T (blocks G M e)
      → (top < G.m) × T (blocks G M top) × ((d : ℕ) → d < G.m → T (blocks G M d) → key G.sv G.rank_s top ≤ key G.sv G.rank_s d)
  unfolding top_blocking
  found e b = top_found G.sv G.rank_s G.m (blocks G M) placed e (inside e b) b

  -- "Yes and no remain as before": an edge is named exactly if some edge blocks
  pub top_below : top < G.m → some_blocks G M ≡ true
  unfolding some_blocks top_blocking
  top_below h =
      let t = (low_is (is_top G.sv G.rank_s G.m (blocks G M)) G.m).2 h in
      T_true (⊎_elim (λ y. y.0) (λ n. absurd (T_not (blocks G M top) (n.1 top (up_to_∈ G.m top h)) (and_l (blocks G M top) _ t)))
      (any_or (blocks G M) (up_to G.m)))

  -- what is named is no edge: then no edge blocks
  pub top_behind : G.m ≤ top → some_blocks G M ≡ false
  unfolding some_blocks
  top_behind h = T_false (⊎_elim
      (λ (t, (e, k, b)). given (found e b) (λ (l, t, least). absurd (let z : ⊥ = omega arith in z)))
      (λ n. n.0)
      (any_or (blocks G M) (up_to G.m)))

  some_edge : T (some_blocks G M)
      → (top < G.m) × T (blocks G M top) × ((d : ℕ) → T (blocks G M d) → (d < G.m) × (key G.sv G.rank_s top ≤ key G.sv G.rank_s d))
  unfolding some_blocks
  some_edge s = given (any_∈ (blocks G M) (up_to G.m) s) (λ (e, k, b). given (found e b) (λ (l, t, least). (
    l,
    t,
    λ d c. (inside d c, least d (inside d c) c),
  )))

module _ (G : Instance) (L : Lawful G) (M : ℕ → Bool) where
  -- the pair named blocks
  pub top_blocks : T (some_blocks G M) → T (blocks G M (top_blocking G M))
  top_blocks s = (some_edge G M L.at_s.placed s).1

  -- "the first": every other blocking pair comes after it
  pub top_above : T (some_blocks G M) → (d : ℕ) → T (blocks G M d) → (d ≡ top_blocking G M) ⊎ T (above G.sv G.rank_s (top_blocking G M) d)
  top_above s d b = given (some_edge G M L.at_s.placed s) (λ (l, t, least). given (least d b) (λ (k, h).
      let e = top_blocking G M in
      by_cases (dec_lt (key G.sv G.rank_s e) (key G.sv G.rank_s d))
      (λ y. inr (key_above G.sv G.rank_s G.m (blocks G M) L.at_s.placed e d l k y))
      (λ n.
      let q : (G.sv d ≡ G.sv e) × (G.rank_s d ≡ G.rank_s e) = omega (arith, L.at_s.placed d k, L.at_s.placed e l) in
      inl (L.at_s.strict d e k l q.0 q.1 tt))))
