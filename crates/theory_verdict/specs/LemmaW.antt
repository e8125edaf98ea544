-- Lemma W: if the vote of a plan M against every other plan is at least k, every closed walk and every whole costs at least k, repeats
-- or not, and no edge has room at both ends. By induction on the length: where something comes twice, a closed walk is cut out, and it
-- and the rest obey the lemma; else the walk is an exchange (Lemma X). First for closed walks, then with them for alternating paths: an edge of M
-- that is lost at both ends and comes round to itself leaves, when cut, a closed walk with no fewer arcs.
-- `no_bad_law` is what the reduction uses. To believe it: the model's votes (Vote), a strong plan (Strong.antt), a lawful instance and
-- walks (theory_instance, Lawful and Walk).
use Rattle.std.specs.Prelude.{ℕ, suc, ◌+◌, ◌≤◌, ◌<◌, ◌≡◌, refl, ◌⊎◌, ◌≢◌, Bool, [], ◌∷◌, ◌++◌, length, eqb}
use Rattle.std.proofs.Common.{arith, not-suc-le-zero, sym, ap, ◌∙◌, subst, inl, inr, ⊎_elim, length-append}
use Rattle.std.proofs.Math.Logic.{⊎_map}
use mathlib.Core.List.Memᴰ
use Rattle.lists.specs.Test.{bit, eqb_no}
use Rattle.lists.specs.Sum.{◌∈◌, sum_append, occ}
use Rattle.lists.specs.Occur.{Once, once_cons, once_snoc}
use Rattle.lists.specs.Twice.{At, find_at}
use Rattle.lists.specs.Search.{strong}
use Rattle.model.specs.Instance.{Instance}
use Rattle.theory_instance.specs.Lawful.{Lawful}
use Rattle.theory_instance.specs.Walk.{Steps, New, Walk, RoomS, RoomT, plus, minus, NoBad}
use Rattle.theory_instance.specs.Append.{walk_append, walk_split, plus_append, minus_append}
use Rattle.theory_verdict.specs.Strong.{Strong, Holds, strong_holds}
use Rattle.theory_verdict.specs.LemmaX.{holds_cost}
use Rattle.theory_verdict.specs.Arcs.{fs, zs}
use Rattle.theory_verdict.specs.Ends.{Way, lose, gain, fresh}
use Rattle.theory_verdict.specs.AlternatingPath.{start_plus, start_minus, stop_plus, stop_minus, comers, Start, Stop, Apart, AlternatingPath}
use Rattle.theory_verdict.specs.AlternatingPath.{simple, simple_loop, simple_direct}
use Rattle.theory_verdict.specs.Cut.{Cut, repeats, repeats_open}

-- ---- nothing comes twice
-- what is gained at an end does not come in the walk
abbrev Free : Way → Steps → Type 0
Free lose w = Unit {0}
Free (gain f) w = occ f (fs w) ≡ 0

abbrev Distinct : Way → Way → Type 0
Distinct lose b = Unit {0}
Distinct (gain f) lose = Unit {0}
Distinct (gain f) (gain g) = f ≢ g

once_all : (a : Way) (w : Steps) (b : Way) → Once (fs w) → Free a w → Free b w → Distinct a b → Once (comers a w b)
once_all a w b u fa fb d = front a fa d
  where
    back : (b : Way) → Free b w → Once (fs w ++ fresh b)
    back lose fb = λ e. omega (arith, sum_append (λ x. bit (eqb x e)) (fs w) [], u e)
    back (gain g) fb = once_snoc g (fs w) fb u

    absent : (f : ℕ) (b : Way) → occ f (fs w) ≡ 0 → Distinct (gain f) b → occ f (fs w ++ fresh b) ≡ 0
    absent f lose fa d = omega (arith, sum_append (λ x. bit (eqb x f)) (fs w) [])
    absent f (gain g) fa d = omega (arith, sum_append (λ x. bit (eqb x f)) (fs w) (g ∷ []), ap bit (eqb_no g f (λ e. d (sym e))))

    front : (a : Way) → Free a w → Distinct a b → Once (comers a w b)
    front lose fa d = back b fb
    front (gain f) fa d = once_cons f (fs w ++ fresh b) (absent f b fa d) (back b fb)

pub first_∈ : (w : Steps) → 0 < length w → (e : ℕ) × (e ∈ zs w)
first_∈ [] h = absurd (not-suc-le-zero h)
first_∈ ((f, z) ∷ w) h = (z, Memᴰ.head refl)

-- ---- costs of at least k
module _ (G : Instance) (k : ℕ) where
  abbrev pub CostAtLeast : ℕ → Steps → Type 0
  CostAtLeast x w = k + minus G x w ≤ plus G x w

  abbrev pub PathCostAtLeast : Way → ℕ → Steps → ℕ → Way → Type 0
  PathCostAtLeast a x w y b = k + (minus G x w + (start_minus G a x + stop_minus G y b)) ≤ plus G x w + (start_plus G a x + stop_plus G y b)

abbrev pub NoDirect : Instance → (ℕ → Bool) → Type 0
NoDirect G M = (f : ℕ) → New G M f → RoomS G M f → RoomT G M f → ⊥

module _ (G : Instance) (M : ℕ → Bool) (k : ℕ) where
  -- all closed walks, all alternating paths with these two ends, of less than n arcs
  abbrev pub CostAtLeastTo : ℕ → Type 0
  CostAtLeastTo n = (x : ℕ) (w : Steps) → length w < n → 0 < length w → Walk G M x w x → CostAtLeast G k x w

  abbrev pub PathCostAtLeastTo : Way → Way → ℕ → Type 0
  PathCostAtLeastTo a b n = (x : ℕ) (w : Steps) (y : ℕ) → length w < n → AlternatingPath G M a x w y b → PathCostAtLeast G k a x w y b

  -- a closed walk costs at least k if all shorter ones do, or nothing comes twice in it
  pub closed_step : (x : ℕ) (w : Steps) → CostAtLeastTo (length w) → Walk G M x w x → CostAtLeast G k x w ⊎ (Once (zs w) × Once (fs w))
  closed_step x w ih h = go (repeats G M x w x h)
    where
      go : (Once (zs w) × Once (fs w)) ⊎ ((c : Cut G M x w x) × (0 < length c.rest)) → CostAtLeast G k x w ⊎ (Once (zs w) × Once (fs w))
      go (inl u) = inr u
      go (inr (c, r)) =
          let k₁ = ih c.z c.loop (omega (arith, c.size)) c.loop_pos c.loop_walk in
          let k₂ = ih x c.rest (omega (arith, c.size, c.loop_pos)) r c.rest_walk in
          inl (omega (arith, c.plus_eq, c.minus_eq))

  -- f is gained at the start and comes again: from x round to x by it, and in by it at z
  cut_start : (f x : ℕ) (pre : Steps) (z : ℕ) (post : Steps) (y : ℕ) (b : Way)
      → CostAtLeastTo (suc (length (pre ++ ((f, z) ∷ post)))) → PathCostAtLeastTo (gain f) b (length (pre ++ ((f, z) ∷ post)))
      → AlternatingPath G M (gain f) x (pre ++ ((f, z) ∷ post)) y b → PathCostAtLeast G k (gain f) x (pre ++ ((f, z) ∷ post)) y b
  cut_start f x pre z post y b cl ih h = go (walk_split G M x y pre ((f, z) ∷ post) h.walk)
    where
      still : (b : Way) → Apart G (gain f) x y b → Apart G (gain f) z y b
      still lose n = n
      still (gain g) n = n

      go : (u : ℕ) × Walk G M x pre u × Walk G M u ((f, z) ∷ post) y → PathCostAtLeast G k (gain f) x (pre ++ ((f, z) ∷ post)) y b
      go (u, hp, q) =
          let a = q.0 in
          let s = h.start in
          let l₁ = length-append pre ((f, x) ∷ []) in
          let l₂ = length-append pre ((f, z) ∷ post) in
          let loop = cl x (pre ++ ((f, x) ∷ [])) (omega arith) (omega arith) (walk_append G M x u x pre ((f, x) ∷ []) hp ((a.0, h.old, a.2, s.2), refl)) in
          let rest = ih z post y (omega arith) (record { old = a.1; walk = q.1; start = (s.0, s.1, a.3); stop = h.stop; apart = still b h.apart }) in
          omega (
            arith,
            plus_append G M x u pre ((f, z) ∷ post) hp,
            minus_append G M x u pre ((f, z) ∷ post) hp,
            plus_append G M x u pre ((f, x) ∷ []) hp,
            minus_append G M x u pre ((f, x) ∷ []) hp,
          )

  -- g is gained at the end and came before: out by it there, and from z round to z by it
  cut_stop : (a : Way) (x : ℕ) (pre : Steps) (z : ℕ) (post : Steps) (y g : ℕ)
      → CostAtLeastTo (suc (length (pre ++ ((g, z) ∷ post)))) → PathCostAtLeastTo a (gain g) (length (pre ++ ((g, z) ∷ post)))
      → AlternatingPath G M a x (pre ++ ((g, z) ∷ post)) y (gain g) → PathCostAtLeast G k a x (pre ++ ((g, z) ∷ post)) y (gain g)
  cut_stop a x pre z post y g cl ih h = go (walk_split G M x y pre ((g, z) ∷ post) h.walk)
    where
      still : (u : ℕ) (a : Way) → Apart G a x y (gain g) → Apart G a x u (gain g)
      still u lose n = n
      still u (gain f) n = n

      go : (u : ℕ) × Walk G M x pre u × Walk G M u ((g, z) ∷ post) y → PathCostAtLeast G k a x (pre ++ ((g, z) ∷ post)) y (gain g)
      go (u, hp, q) =
          let c = q.0 in
          let s = h.stop in
          let l₁ = length-append post ((g, z) ∷ []) in
          let l₂ = length-append pre ((g, z) ∷ post) in
          let loop = cl z (post ++ ((g, z) ∷ [])) (omega arith) (omega arith)
          (walk_append G M z y z post ((g, z) ∷ []) q.1 ((c.0, c.1, s.2, c.3), refl)) in
          let rest = ih x pre u (omega arith) (record { old = h.old; walk = hp; start = h.start; stop = (s.0, s.1, c.2); apart = still u a h.apart }) in
          omega (
            arith,
            plus_append G M x u pre ((g, z) ∷ post) hp,
            minus_append G M x u pre ((g, z) ∷ post) hp,
            plus_append G M z y post ((g, z) ∷ []) q.1,
            minus_append G M z y post ((g, z) ∷ []) q.1,
          )

  start_free : (a : Way) (x : ℕ) (w : Steps) (y : ℕ) (b : Way) → CostAtLeastTo (suc (length w)) → PathCostAtLeastTo a b (length w)
      → AlternatingPath G M a x w y b → Free a w ⊎ PathCostAtLeast G k a x w y b
  start_free lose x w y b cl ih h = inl tt
  start_free (gain f) x w y b cl ih h = ⊎_map (λ n. n) found (find_at (λ s. s.0) f w)
    where
      found : At (λ s. s.0) f w → PathCostAtLeast G k (gain f) x w y b
      found t = subst (λ w. CostAtLeastTo (suc (length w)) → PathCostAtLeastTo (gain f) b (length w) → AlternatingPath G M (gain f) x w y b
          → PathCostAtLeast G k (gain f) x w y b)
          (sym (t.eq ∙ ap (λ g. t.pre ++ ((g, t.x.1) ∷ t.post)) t.is)) (cut_start f x t.pre t.x.1 t.post y b) cl ih h

  stop_free : (a : Way) (x : ℕ) (w : Steps) (y : ℕ) (b : Way) → CostAtLeastTo (suc (length w)) → PathCostAtLeastTo a b (length w)
      → AlternatingPath G M a x w y b → Free b w ⊎ PathCostAtLeast G k a x w y b
  stop_free a x w y lose cl ih h = inl tt
  stop_free a x w y (gain g) cl ih h = ⊎_map (λ n. n) found (find_at (λ s. s.0) g w)
    where
      found : At (λ s. s.0) g w → PathCostAtLeast G k a x w y (gain g)
      found t = subst (λ w. CostAtLeastTo (suc (length w)) → PathCostAtLeastTo a (gain g) (length w) → AlternatingPath G M a x w y (gain g)
          → PathCostAtLeast G k a x w y (gain g))
          (sym (t.eq ∙ ap (λ f. t.pre ++ ((f, t.x.1) ∷ t.post)) t.is)) (cut_stop a x t.pre t.x.1 t.post y g) cl ih h

  -- there is no direct edge, so what is gained at the two ends differs
  distinct : NoDirect G M → (a : Way) (x y : ℕ) (b : Way) → Start G M a x → Stop G M y b → Distinct a b
  distinct none lose x y b s e = tt
  distinct none (gain f) x y lose s e = tt
  distinct none (gain f) x y (gain g) s e = λ p. none f s.0 (subst (RoomS G M) (sym p) e.1) s.1

  -- an alternating path costs at least k if all alternating paths with the same two ends and fewer arcs and all closed walks of no more arcs do, or nothing
  -- comes twice in it
  pub path_step : (a : Way) (x : ℕ) (w : Steps) (y : ℕ) (b : Way) → NoDirect G M → CostAtLeastTo (suc (length w)) → PathCostAtLeastTo a b (length w)
      → AlternatingPath G M a x w y b
      → PathCostAtLeast G k a x w y b ⊎ (Once (x ∷ zs w) × Once (comers a w b))
  path_step a x w y b none cl ih h = go (repeats_open G M x w y h.walk) (start_free a x w y b cl ih h) (stop_free a x w y b cl ih h)
    where
      go : (Once (x ∷ zs w) × Once (fs w)) ⊎ Cut G M x w y → Free a w ⊎ PathCostAtLeast G k a x w y b → Free b w ⊎ PathCostAtLeast G k a x w y b
          → PathCostAtLeast G k a x w y b ⊎ (Once (x ∷ zs w) × Once (comers a w b))
      go (inr c) r s =
          let k₁ = cl c.z c.loop (omega (arith, c.size)) c.loop_pos c.loop_walk in
          let k₂ = ih x c.rest y (omega (arith, c.size, c.loop_pos))
          (record { old = h.old; walk = c.rest_walk; start = h.start; stop = h.stop; apart = h.apart }) in
          inl (omega (arith, c.plus_eq, c.minus_eq))
      go (inl u) (inr r) s = inl r
      go (inl u) (inl r) (inr s) = inl s
      go (inl u) (inl r) (inl s) = inr (u.0, once_all a w b u.1 r s (distinct none a x y b h.start h.stop))

  -- ---- a plan whose vote against every other is at least k
  module _ (law : Lawful G) (st : Holds G k M) where
    pub closed : (x : ℕ) (w : Steps) → 0 < length w → Walk G M x w x → CostAtLeast G k x w
    closed x w p h = strong (λ n. (x : ℕ) (w : Steps) → length w ≡ n → 0 < length w → Walk G M x w x → CostAtLeast G k x w) step (length w) x w refl p h
      where
        step : (n : ℕ) → ((m : ℕ) → m < n → (x : ℕ) (w : Steps) → length w ≡ m → 0 < length w → Walk G M x w x → CostAtLeast G k x w)
            → (x : ℕ) (w : Steps) → length w ≡ n → 0 < length w → Walk G M x w x → CostAtLeast G k x w
        step n ih x w l p h = ⊎_elim (λ d. d)
            (λ u. let t = first_∈ w p in holds_cost st (simple_loop G M law st.plan x w h u.0 u.1 t.0 t.1))
            (closed_step x w (λ x' w' q. ih (length w') (omega arith) x' w' refl) h)

    pub no_direct : NoDirect G M
    no_direct f nf rs rt = omega (arith, holds_cost st (simple_direct G M law st.plan f nf rs rt))

    pub path : (a : Way) (x : ℕ) (w : Steps) (y : ℕ) (b : Way) → AlternatingPath G M a x w y b → PathCostAtLeast G k a x w y b
    path a x w y b h = strong (λ n. (x : ℕ) (w : Steps) (y : ℕ) → length w ≡ n → AlternatingPath G M a x w y b → PathCostAtLeast G k a x w y b) step
        (length w) x w y refl h
      where
        step : (n : ℕ) → ((m : ℕ) → m < n → (x : ℕ) (w : Steps) (y : ℕ) → length w ≡ m → AlternatingPath G M a x w y b → PathCostAtLeast G k a x w y b)
            → (x : ℕ) (w : Steps) (y : ℕ) → length w ≡ n → AlternatingPath G M a x w y b → PathCostAtLeast G k a x w y b
        step n ih x w y l h = ⊎_elim (λ d. d)
            (λ u. holds_cost st (simple G M law st.plan a x w y b h u.0 u.1))
            (path_step a x w y b no_direct (λ x' w' q p. closed x' w' p) (λ x' w' y' q. ih (length w') (omega arith) x' w' y' refl) h)

-- ---- Lemma W for a strong plan
pub no_bad_law : (G : Instance) (M : ℕ → Bool) → Lawful G → Strong G M → NoBad G M
no_bad_law G M law s =
    let st = strong_holds G M s in
    let ends = path G M 1 law st in
    record {
      closed = λ x s w o h. omega (arith, closed G M 1 law st x (s ∷ w) (omega arith) h);
      LL = λ x w y o h. omega (arith, ends lose x w y lose (record { old = o; walk = h; start = tt; stop = tt; apart = tt }));
      LG = λ x w y f o h nf e r n. omega (arith, ends lose x w y (gain f) (record { old = o; walk = h; start = tt; stop = (nf, r, e); apart = n }));
      GL = λ f x w y nf r o e h n. omega (arith, ends (gain f) x w y lose (record { old = o; walk = h; start = (nf, r, e); stop = tt; apart = n }));
      GG = λ f x w y g nf rf ng rg o e h d. omega (
        arith,
        ends (gain f) x w y (gain g) (record { old = o; walk = h; start = (nf, rf, e); stop = (ng, rg, d); apart = tt }),
      );
      direct = no_direct G M 1 law st;
    }
