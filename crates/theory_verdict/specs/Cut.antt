-- A walk in which something comes twice is cut in two: a closed walk, and the rest with the same two ends, whose votes add up. What a
-- walk is, graph says (Walk).
use Rattle.std.specs.Prelude.{ℕ, ◌+◌, ◌<◌, ◌≡◌, refl, ◌⊎◌, Bool, [], ◌∷◌, ◌++◌, length}
use Rattle.std.proofs.Common.{arith, sym, ap, ◌∙◌, subst, inl, inr, length-append}
use Rattle.lists.specs.Test.{given}
use Rattle.lists.specs.Sum.{occ}
use Rattle.lists.specs.Occur.{Once, once_cons}
use Rattle.lists.specs.Twice.{At, Twice, find_at, find_twice}
use Rattle.model.specs.Instance.{Instance}
use Rattle.theory_instance.specs.Walk.{up, Steps, Arc, Walk, plus, minus}
use Rattle.theory_instance.specs.Append.{walk_append, walk_split, plus_append, minus_append}
use Rattle.theory_verdict.specs.Arcs.{fs, zs}

module _ (G : Instance) (M : ℕ → Bool) where
  pub record Cut (x : ℕ) (w : Steps) (y : ℕ) : Type 0 where
    pub z : ℕ
    pub loop : Steps
    pub rest : Steps
    pub loop_walk : Walk G M z loop z
    pub rest_walk : Walk G M x rest y
    pub loop_pos : 0 < length loop
    pub size : length loop + length rest ≡ length w
    pub plus_eq : plus G x w ≡ plus G x rest + plus G z loop
    pub minus_eq : minus G x w ≡ minus G x rest + minus G z loop

  -- two arcs, by f to z and by g to y, that go to one edge or by one edge, can change their ends for the same votes
  record Crossed (f z g y : ℕ) : Type 0 where
    to_z : G.sv g ≡ G.sv z
    to_y : G.sv f ≡ G.sv y
    ups : up (G.rank_s z) (G.rank_s f) + up (G.rank_s y) (G.rank_s g) ≡ up (G.rank_s y) (G.rank_s f) + up (G.rank_s z) (G.rank_s g)
    downs : up (G.rank_s f) (G.rank_s z) + up (G.rank_s g) (G.rank_s y) ≡ up (G.rank_s f) (G.rank_s y) + up (G.rank_s g) (G.rank_s z)

  cross : (f z g y : ℕ) → G.sv f ≡ G.sv z → G.sv g ≡ G.sv y → (y ≡ z) ⊎ (g ≡ f) → Crossed f z g y
  cross f z g y p q (inl e) = record {
    to_z = q ∙ ap G.sv e;
    to_y = p ∙ sym (ap G.sv e);
    ups = omega (arith, ap (λ k. up (G.rank_s k) (G.rank_s f)) e, ap (λ k. up (G.rank_s k) (G.rank_s g)) e);
    downs = omega (arith, ap (λ k. up (G.rank_s f) (G.rank_s k)) e, ap (λ k. up (G.rank_s g) (G.rank_s k)) e);
  }
  cross f z g y p q (inr e) = record {
    to_z = ap G.sv e ∙ p;
    to_y = sym (ap G.sv e) ∙ q;
    ups = omega (arith, ap (λ k. up (G.rank_s y) (G.rank_s k)) e, ap (λ k. up (G.rank_s z) (G.rank_s k)) e);
    downs = omega (arith, ap (λ k. up (G.rank_s k) (G.rank_s y)) e, ap (λ k. up (G.rank_s k) (G.rank_s z)) e);
  }

  -- the arcs s and t of the walk go to one edge of M, or by one edge: mid and t lead from s's end to it, and s leads to t's end
  cut_two : (x : ℕ) (pre : Steps) (s : ℕ × ℕ) (mid : Steps) (t : ℕ × ℕ) (post : Steps) (y : ℕ) → (t.1 ≡ s.1) ⊎ (t.0 ≡ s.0)
      → Walk G M x (pre ++ (s ∷ (mid ++ (t ∷ post)))) y → (c : Cut x (pre ++ (s ∷ (mid ++ (t ∷ post)))) y) × (0 < length c.rest)
  cut_two x pre (f, z) mid (g, z') post y one h = given (walk_split G M x y pre ((f, z) ∷ (mid ++ ((g, z') ∷ post))) h)
      (λ (u, hp, p). given (walk_split G M z y mid ((g, z') ∷ post) p.1) (λ (u', hm, q). fin u u' hp p.0 hm q.0 q.1))
    where
      fin : (u u' : ℕ) → Walk G M x pre u → Arc G M u f z → Walk G M z mid u' → Arc G M u' g z' → Walk G M z' post y
          → (c : Cut x (pre ++ ((f, z) ∷ (mid ++ ((g, z') ∷ post)))) y) × (0 < length c.rest)
      fin u u' hp a hm b hq =
          let c = cross f z g z' a.3 b.3 one in (
            record {
              z = z;
              loop = mid ++ ((g, z) ∷ []);
              rest = pre ++ ((f, z') ∷ post);
              loop_walk = walk_append G M z u' z mid ((g, z) ∷ []) hm ((b.0, a.1, b.2, c.to_z), refl);
              rest_walk = walk_append G M x u y pre ((f, z') ∷ post) hp ((a.0, b.1, a.2, c.to_y), hq);
              loop_pos = omega (arith, length-append mid ((g, z) ∷ []));
              size = omega (
                arith,
                length-append mid ((g, z) ∷ []),
                length-append pre ((f, z') ∷ post),
                length-append pre ((f, z) ∷ (mid ++ ((g, z') ∷ post))),
                length-append mid ((g, z') ∷ post),
              );
              plus_eq = omega (
                arith,
                c.ups,
                plus_append G M x u pre ((f, z) ∷ (mid ++ ((g, z') ∷ post))) hp,
                plus_append G M z u' mid ((g, z') ∷ post) hm,
                plus_append G M z u' mid ((g, z) ∷ []) hm,
                plus_append G M x u pre ((f, z') ∷ post) hp,
              );
              minus_eq = omega (
                arith,
                c.downs,
                minus_append G M x u pre ((f, z) ∷ (mid ++ ((g, z') ∷ post))) hp,
                minus_append G M z u' mid ((g, z') ∷ post) hm,
                minus_append G M z u' mid ((g, z) ∷ []) hm,
                minus_append G M x u pre ((f, z') ∷ post) hp,
              );
            },
            omega (arith, length-append pre ((f, z') ∷ post)),
          )

  -- the walk comes back to its first edge
  cut_back : (x : ℕ) (pre : Steps) (s : ℕ × ℕ) (post : Steps) (y : ℕ) → s.1 ≡ x → Walk G M x (pre ++ (s ∷ post)) y → Cut x (pre ++ (s ∷ post)) y
  cut_back x pre (f, z) post y e h = given (walk_split G M x y pre ((f, z) ∷ post) h) (λ (u, hp, p). record {
    z = x;
    loop = pre ++ ((f, z) ∷ []);
    rest = post;
    loop_walk = walk_append G M x u x pre ((f, z) ∷ []) hp (p.0, e);
    rest_walk = subst (λ k. Walk G M k post y) e p.1;
    loop_pos = omega (arith, length-append pre ((f, z) ∷ []));
    size = omega (arith, length-append pre ((f, z) ∷ []), length-append pre ((f, z) ∷ post));
    plus_eq = omega (arith, plus_append G M x u pre ((f, z) ∷ []) hp, plus_append G M x u pre ((f, z) ∷ post) hp, ap (λ k. plus G k post) e);
    minus_eq = omega (arith, minus_append G M x u pre ((f, z) ∷ []) hp, minus_append G M x u pre ((f, z) ∷ post) hp, ap (λ k. minus G k post) e);
  })

  -- nothing comes twice in the steps, or there is a cut
  pub repeats : (x : ℕ) (w : Steps) (y : ℕ) → Walk G M x w y → (Once (zs w) × Once (fs w)) ⊎ ((c : Cut x w y) × (0 < length c.rest))
  repeats x w y h = go (find_twice (λ s. s.1) w) (find_twice (λ s. s.0) w)
    where
      Goal : Steps → Type 0
      Goal w = Walk G M x w y → (c : Cut x w y) × (0 < length c.rest)

      go : Once (zs w) ⊎ Twice (λ s. s.1) w → Once (fs w) ⊎ Twice (λ s. s.0) w → (Once (zs w) × Once (fs w)) ⊎ ((c : Cut x w y) × (0 < length c.rest))
      go (inl u) (inl v) = inl (u, v)
      go (inl u) (inr t) = inr (subst Goal (sym t.eq) (cut_two x t.pre t.x t.mid t.y t.post y (inr t.is)) h)
      go (inr t) r = inr (subst Goal (sym t.eq) (cut_two x t.pre t.x t.mid t.y t.post y (inl t.is)) h)

  -- the same with the first edge
  pub repeats_open : (x : ℕ) (w : Steps) (y : ℕ) → Walk G M x w y → (Once (x ∷ zs w) × Once (fs w)) ⊎ Cut x w y
  repeats_open x w y h = go (repeats x w y h) (find_at (λ s. s.1) x w)
    where
      go : (Once (zs w) × Once (fs w)) ⊎ ((c : Cut x w y) × (0 < length c.rest)) → (occ x (zs w) ≡ 0) ⊎ At (λ s. s.1) x w
          → (Once (x ∷ zs w) × Once (fs w)) ⊎ Cut x w y
      go (inr t) r = inr t.0
      go (inl u) (inl n) = inl (once_cons x (zs w) n u.0, u.1)
      go (inl u) (inr t) = inr (subst (λ w. Walk G M x w y → Cut x w y) (sym t.eq) (cut_back x t.pre t.x t.post y t.is) h)
