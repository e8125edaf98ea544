-- The tables of the search by what they must satisfy, whatever computes them: the least prices of arcs, of walks of at most n arcs, of
-- starts with ends. From such tables: if they show nothing below k, nothing of so few arcs costs less than k; and what they show first
-- repeats nothing, so that it makes a rival. Prices are those of Search, 2 more than the cost for an arc and for an end.
use Rattle.std.specs.Prelude.{ℕ, suc, ◌+◌, ◌*◌, ◌≤◌, ◌<◌, ◌≡◌, refl, ◌⊎◌, Bool, [], ◌∷◌, length}
use Rattle.std.proofs.Common.{arith, sym, ap, subst, inl, inr, ⊎_elim}
use Rattle.std.proofs.Math.Decide.{dec_lt}
use Rattle.std.proofs.Math.Logic.{by_cases}
use Rattle.lists.specs.Occur.{Once}
use Rattle.model.specs.Instance.{Instance}
use Rattle.theory_instance.specs.Lawful.{Lawful, Matching}
use Rattle.theory_instance.specs.Walk.{Steps, Old, Arc, Walk, plus, minus}
use Rattle.theory_votes.specs.Score.{rate_up}
use Rattle.theory_verdict.specs.LemmaX.{swapped, Rival, rival_cast}
use Rattle.theory_verdict.specs.Arcs.{fs, zs}
use Rattle.theory_verdict.specs.Ends.{Way, lose, gain, end_plus, end_minus}
use Rattle.theory_verdict.specs.AlternatingPath.{Start, Stop, Apart, AlternatingPath, start_plus, start_minus, stop_plus, stop_minus, comers}
use Rattle.theory_verdict.specs.AlternatingPath.{simple, simple_loop}
use Rattle.theory_verdict.specs.LemmaW.{CostAtLeast, PathCostAtLeast, NoDirect, CostAtLeastTo, PathCostAtLeastTo, closed_step, path_step, first_∈}
use Rattle.theory_verdict.specs.Search.{kept, price, end_price, terminal_price}
use Rattle.theory_verdict.specs.CostAtLeast.{PathsCostAtLeast}

end_price_law : (rank : ℕ → ℕ) (z : ℕ) (b : Way) → end_price rank z b + end_minus rank z b ≡ end_plus rank z b + 2
end_price_law rank z lose = omega arith
end_price_law rank z (gain f) = omega (arith, rate_up (rank z) (rank f))

pub terminal_price_law : (G : Instance) (x y : ℕ) (a b : Way)
    → terminal_price G x y (a, b) + (start_minus G a x + stop_minus G y b) ≡ start_plus G a x + stop_plus G y b + 4
terminal_price_law G x y a b = omega (arith, end_price_law G.rank_s x a, end_price_law G.rank_t y b)

module _ (G : Instance) (M : ℕ → Bool) where
  -- ---- the tables; `low` says that nothing is cheaper, `hit` that what is shown is there
  -- the least price of an arc, and its edge
  pub record Arcs (lid : ℕ) (a : ℕ → ℕ → ℕ × ℕ) : Type 0 where
    pub low : (x f z : ℕ) → Old G M x → Arc G M x f z → (a x z).0 ≤ price G x f z
    pub hit : (x z : ℕ) → Old G M x → Old G M z → (a x z).0 < lid → Arc G M x (a x z).1 z × (price G x (a x z).1 z ≡ (a x z).0)

  -- the least price of a walk of 1 to n arcs, 2 for each arc fewer; tr is such a walk
  pub record Layer (lid n : ℕ) (d : ℕ → ℕ → ℕ) (tr : ℕ → ℕ → Steps) : Type 0 where
    pub low : (x : ℕ) (w : Steps) (y : ℕ) → Old G M x → Walk G M x w y → 0 < length w → length w ≤ n → d x y + minus G x w ≤ plus G x w + 2 * n
    pub hit : (x y : ℕ) → Old G M x → Old G M y → d x y < lid
        → Walk G M x (tr x y) y × (0 < length (tr x y)) × (length (tr x y) ≤ n) × (plus G x (tr x y) + 2 * n ≤ d x y + minus G x (tr x y))

  -- the next table: an arc first, or nothing
  pub record Next (lid : ℕ) (a : ℕ → ℕ → ℕ × ℕ) (d : ℕ → ℕ → ℕ) (tr : ℕ → ℕ → Steps) (d' : ℕ → ℕ → ℕ) (tr' : ℕ → ℕ → Steps) : Type 0 where
    pub stay : (x z : ℕ) → Old G M x → Old G M z → d' x z ≤ d x z + 2
    pub via : (x y z : ℕ) → Old G M x → Old G M y → Old G M z → d' x z ≤ (a x y).0 + d y z
    pub from : (x z : ℕ) → Old G M x → Old G M z → d' x z < lid
        → ((d' x z ≡ d x z + 2) × (tr' x z ≡ tr x z)) ⊎ ((y : ℕ) × Old G M y × (d' x z ≡ (a x y).0 + d y z) × (tr' x z ≡ (((a x y).1, y) ∷ tr y z)))

  -- the least price of a start at x with an end at y, and these two
  pub record Terminals (t : ℕ → ℕ → ℕ × (Way × Way)) : Type 0 where
    pub low : (a : Way) (x y : ℕ) (b : Way) → Start G M a x → Stop G M y b → Apart G a x y b → (t x y).0 ≤ terminal_price G x y (a, b)
    pub hit : (x y : ℕ) → Start G M (t x y).1.0 x × Stop G M y (t x y).1.1 × Apart G (t x y).1.0 x y (t x y).1.1
        × (terminal_price G x y (t x y).1 ≡ (t x y).0)

  -- ---- layer after layer
  walk_last : (x : ℕ) (w : Steps) (y : ℕ) → Old G M x → Walk G M x w y → Old G M y
  walk_last x [] y o h = subst (Old G M) h o
  walk_last x ((f, z) ∷ w) y o h = walk_last z w y h.0.1 h.1

  pub first_layer : {lid : ℕ} {a : ℕ → ℕ → ℕ × ℕ} → Arcs lid a → Layer lid 1 (λ x z. (a x z).0) (λ x z. ((a x z).1, z) ∷ [])
  first_layer {lid} {a} t = record {
    low = low;
    hit = λ x y ox oy h. let q = t.hit x y ox oy h in
        ((q.0, refl), omega arith, omega arith, omega (arith, q.1, rate_up (G.rank_t x) (G.rank_t (a x y).1), rate_up (G.rank_s y) (G.rank_s (a x y).1)));
  }
    where
      low : (x : ℕ) (w : Steps) (y : ℕ) → Old G M x → Walk G M x w y → 0 < length w → length w ≤ 1 → (a x y).0 + minus G x w ≤ plus G x w + 2 * 1
      low x [] y o h p q = absurd (omega arith)
      low x ((f, z) ∷ []) y o h p q =
          omega (arith, t.low x f z o h.0, ap (λ u. (a x u).0) h.1, rate_up (G.rank_t x) (G.rank_t f), rate_up (G.rank_s z) (G.rank_s f))
      low x ((f, z) ∷ s ∷ w) y o h p q = absurd (omega arith)

  pub next_layer : {lid n : ℕ} {a : ℕ → ℕ → ℕ × ℕ} {d d' : ℕ → ℕ → ℕ} {tr tr' : ℕ → ℕ → Steps}
      → 0 < n → Arcs lid a → Layer lid n d tr → Next lid a d tr d' tr' → Layer lid (suc n) d' tr'
  next_layer {lid} {n} {a} {d} {d'} {tr} {tr'} pn t l nx = record { low = low; hit = hit }
    where
      low : (x : ℕ) (w : Steps) (y : ℕ) → Old G M x → Walk G M x w y → 0 < length w → length w ≤ suc n → d' x y + minus G x w ≤ plus G x w + 2 * suc n
      low x [] y o h p q = absurd (omega arith)
      low x ((f, z) ∷ []) y o h p q = omega (arith, nx.stay x y o (walk_last x ((f, z) ∷ []) y o h), l.low x ((f, z) ∷ []) y o h (omega arith) (omega arith))
      low x ((f, z) ∷ s ∷ w) y o h p q = omega (
        arith,
        nx.via x z y o h.0.1 (walk_last x ((f, z) ∷ s ∷ w) y o h),
        l.low z (s ∷ w) y h.0.1 h.1 (omega arith) (omega arith),
        t.low x f z o h.0,
        rate_up (G.rank_t x) (G.rank_t f),
        rate_up (G.rank_s z) (G.rank_s f),
      )

      Good : ℕ → ℕ → Steps → Type 0
      Good x y w = Walk G M x w y × (0 < length w) × (length w ≤ suc n) × (plus G x w + 2 * suc n ≤ d' x y + minus G x w)

      hit : (x y : ℕ) → Old G M x → Old G M y → d' x y < lid → Good x y (tr' x y)
      hit x y ox oy h = ⊎_elim
          (λ (q, e). subst (Good x y) (sym e) (let r = l.hit x y ox oy (omega (arith, q)) in (r.0, r.1, omega (arith, r.2), omega (arith, q, r.3))))
          (λ (u, ou, q, e). subst (Good x y) (sym e) (
          let r = l.hit u y ou oy (omega (arith, q)) in
          let s = t.hit x u ox ou (omega (arith, q)) in (
            (s.0, r.0),
            omega arith,
            omega (arith, r.2),
            omega
                (arith, q, r.3, s.1, rate_up (G.rank_t x) (G.rank_t (a x u).1), rate_up (G.rank_s u) (G.rank_s (a x u).1)),
          )))
          (nx.from x y ox oy h)

  -- ---- nothing below k
  module _ (k : ℕ) where
    loop_old : (x : ℕ) (w : Steps) → 0 < length w → Walk G M x w x → Old G M x
    loop_old x [] p h = absurd (omega arith)
    loop_old x ((f, z) ∷ w) p h = walk_last z w x h.0.1 h.1

    pub loops_done : {lid n : ℕ} {d : ℕ → ℕ → ℕ} {tr : ℕ → ℕ → Steps} → Layer lid n d tr → ((x : ℕ) → Old G M x → 2 * n + k ≤ d x x)
        → CostAtLeastTo G M k (suc n)
    loops_done l h x w q p wk = let o = loop_old x w p wk in omega (arith, l.low x w x o wk p (omega arith), h x o)

    pub alone_done : {t : ℕ → ℕ → ℕ × (Way × Way)} → Terminals t → ((x : ℕ) → Old G M x → 4 + k ≤ (t x x).0) → PathsCostAtLeast G M k 1
    alone_done {t} terminals h a b x [] y q wh = omega (
      arith,
      terminals.low a x y b wh.start wh.stop wh.apart,
      h x wh.old,
      ap (λ z. (t x z).0) wh.walk,
      terminal_price_law G x y a b,
    )
    alone_done terminals h a b x (s ∷ w) y q wh = absurd (omega arith)

    pub paths_done : {lid n : ℕ} {d : ℕ → ℕ → ℕ} {tr : ℕ → ℕ → Steps} {t : ℕ → ℕ → ℕ × (Way × Way)} → Layer lid n d tr → Terminals t → PathsCostAtLeast G M k 1
        → ((x y : ℕ) → Old G M x → Old G M y → 2 * n + 4 + k ≤ d x y + (t x y).0) → PathsCostAtLeast G M k (suc n)
    paths_done l terminals alone h a b x [] y q wh = alone a b x [] y (omega arith) wh
    paths_done l terminals alone h a b x (s ∷ w) y q wh = omega (
      arith,
      l.low x (s ∷ w) y wh.old wh.walk (omega arith) (omega arith),
      terminals.low a x y b wh.start wh.stop wh.apart,
      h x y wh.old (walk_last x (s ∷ w) y wh.old wh.walk),
      terminal_price_law G x y a b,
    )

    -- ---- what is found first repeats nothing: it makes a rival with a vote below k
    module _ (law : Lawful G) (plan : Matching G M) where
      pub loop_found : {n : ℕ} (x : ℕ) (w : Steps) → CostAtLeastTo G M k n → 0 < length w → length w ≤ n → Walk G M x w x
          → plus G x w < minus G x w + k → Rival G M (swapped M (zs w) (fs w)) 1 k
      loop_found x w cl p q wk c = go (closed_step G M k x w (λ x' w' r. cl x' w' (omega arith)) wk)
        where
          go : CostAtLeast G k x w ⊎ (Once (zs w) × Once (fs w)) → Rival G M (swapped M (zs w) (fs w)) 1 k
          go (inl d) = absurd (omega arith)
          go (inr (u, v)) = let (e, m) = first_∈ w p in rival_cast (simple_loop G M law plan x w wk u v e m) (omega arith)

      pub path_found : {n : ℕ} (a : Way) (x : ℕ) (w : Steps) (y : ℕ) (b : Way) → NoDirect G M → CostAtLeastTo G M k (suc n)
          → PathCostAtLeastTo G M k a b n → length w ≤ n → AlternatingPath G M a x w y b
          → plus G x w + (start_plus G a x + stop_plus G y b) < minus G x w + (start_minus G a x + stop_minus G y b) + k
          → Rival G M (swapped M (x ∷ zs w) (comers a w b)) 1 k
      path_found a x w y b none cl ih q wh c =
          go (path_step G M k a x w y b none (λ x' w' r. cl x' w' (omega arith)) (λ x' w' y' r. ih x' w' y' (omega arith)) wh)
        where
          go : PathCostAtLeast G k a x w y b ⊎ (Once (x ∷ zs w) × Once (comers a w b)) → Rival G M (swapped M (x ∷ zs w) (comers a w b)) 1 k
          go (inl d) = absurd (omega arith)
          go (inr (u, v)) = rival_cast (simple G M law plan a x w y b wh u v) (omega arith)

  -- ---- a table that the next one leaves as it is, is left so for ever
  abbrev pub Still : ℕ → (ℕ → ℕ → ℕ) → (ℕ → ℕ → ℕ) → Type 0
  Still lid d d' = (x z : ℕ) → Old G M x → Old G M z → kept lid (d x z) ≤ d' x z

  pub still_next : {lid : ℕ} {a : ℕ → ℕ → ℕ × ℕ} {d d' d'' : ℕ → ℕ → ℕ} {tr tr' tr'' : ℕ → ℕ → Steps}
      → Next lid a d tr d' tr' → Next lid a d' tr' d'' tr'' → Still lid d d' → Still lid d' d''
  still_next {lid} {d'' = d''} p q h x z ox oz = by_cases (dec_lt (d'' x z) lid)
      (λ l. ⊎_elim
      (λ e. omega (arith, e.0))
      (λ (y, oy, e, t). omega (arith, e, p.via x y z ox oy oz, h y z oy oz))
      (q.from x z ox oz l))
      (λ l. omega arith)
