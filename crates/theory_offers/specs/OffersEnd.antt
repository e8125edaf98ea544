-- The offers end (W-212): each pair is offered at most once, so after m offers nobody has one left to make. And then no pair blocks: one that was
-- turned away has a better one at its stand; one that was not is behind the pair of its surveyor, who would else have offered it.
use Prim.Native.Nat.{ℕ, ◌≤◌, ◌<◌}
use native.Mathlib.Omega.{arith}
use Rattle.std.proofs.Math.Decide.{dec_lt}
use Rattle.std.specs.Prelude.{◌≡◌, refl, Bool, not, ◌&&◌, T, eqb, ltb}
use Rattle.std.proofs.Common.{sym, ap, ◌∙◌, ⊎_elim, T_not, eqb→eq, ltb→lt}
use Rattle.std.proofs.Math.Logic.{by_cases}
use Rattle.std.proofs.Math.Dec.{eqb_refl}
use Rattle.lists.specs.Test.{by-test, and_l, and_r, and_i, or_case, eq→eqb}
use Rattle.lists.specs.Search.{least_by}
use Rattle.lists.specs.Sum.{up_to, up_to_∈, up_to_<}
use Rattle.lists.specs.Keep.{any?, any_∈, any_or}
use Rattle.model.specs.Instance.{Instance, Side, surveyors, stands, deg}
use Rattle.model.specs.Blocking.{yields}
use Rattle.model_files.specs.Offers.{Offers, next_offer}
use Rattle.theory_instance.specs.Lawful.{Lawful}
use Rattle.theory_instance.specs.Degree.{deg_pos}
use Rattle.theory_offers.specs.NextOffer.{In, →next}
use Rattle.theory_offers.specs.KeptOffers.{Kept}

module _ (G : Instance) (L : Lawful G) (strict : (e : ℕ) → e < G.m → T (not (G.tied e))) where
  abbrev pub Ended : Offers → Type 0
  Ended z = Kept G L strict z × ((e : ℕ) → e < G.m → T (not (next_offer G z e)))

  -- ---- no blocking pair
  module _ (z : Offers) (E : Ended z) (one_s : (v : ℕ) → G.quota_s v ≤ 1) (one_t : (v : ℕ) → G.quota_t v ≤ 1) where
    H : Kept G L strict z
    H = E.0

    -- a node with a kept edge that is not worse does not yield
    module _ (K : Side) (em : K.m ≡ G.m) (one : (d e : ℕ) → In G z d → In G z e → K.end d ≡ K.end e → d ≡ e) (q : (v : ℕ) → K.quota v ≤ 1) where
      abbrev worse : ℕ → ℕ → Bool
      worse f d = z.kept d && (eqb (K.end d) (K.end f) && ltb (K.rank f) (K.rank d))

      holds : (f x : ℕ) → In G z x → K.end x ≡ K.end f → K.rank x ≤ K.rank f → T (yields K z.kept f) → ⊥
      holds f x i at h t = ⊎_elim
          (λ s. omega (
            arith,
            ltb→lt (deg K z.kept (K.end f)) (K.quota (K.end f)) s,
            q (K.end f),
            deg_pos K z.kept (K.end f) x (omega (arith, i.0)) at i.1,
          ))
          (λ s. let (y, m, w) = any_∈ (worse f) (up_to K.m) s in
          let r = and_r (z.kept y) (eqb (K.end y) (K.end f) && ltb (K.rank f) (K.rank y)) w in
          not_worse y (omega (arith, up_to_< K.m m)) (and_l (z.kept y) (eqb (K.end y) (K.end f) && ltb (K.rank f) (K.rank y)) w)
          (eqb→eq (K.end y) (K.end f) (and_l (eqb (K.end y) (K.end f)) (ltb (K.rank f) (K.rank y)) r))
          (ltb→lt (K.rank f) (K.rank y) (and_r (eqb (K.end y) (K.end f)) (ltb (K.rank f) (K.rank y)) r)))
          (or_case (ltb (deg K z.kept (K.end f)) (K.quota (K.end f))) (any? (worse f) (up_to K.m)) t)
        where
          not_worse : (y : ℕ) → y < G.m → T (z.kept y) → K.end y ≡ K.end f → K.rank f < K.rank y → ⊥
          not_worse y l k e r = omega (arith, ap K.rank (one y x (l, k) i (e ∙ sym at)))

    -- a surveyor with a pair left to offer has a stand
    abbrev left : ℕ → ℕ → Bool
    left f d = not (z.away d) && eqb (G.sv d) (G.sv f)

    no_free : (f : ℕ) → f < G.m → T (not (z.away f)) → ((d : ℕ) → In G z d → G.sv d ≡ G.sv f → ⊥) → ⊥
    no_free f l g s =
        let (e, le, te, best) = least_by G.rank_s (left f) G.m f l (and_i (not (z.away f)) (eqb (G.sv f) (G.sv f)) g (eqb_refl (G.sv f))) in
        let q : G.sv e ≡ G.sv f = eqb→eq (G.sv e) (G.sv f) (and_r (not (z.away e)) (eqb (G.sv e) (G.sv f)) te) in
        T_not (next_offer G z e) (E.1 e le) (→next G z e (record {
          unasked = λ a. T_not (z.away e) (and_l (not (z.away e)) (eqb (G.sv e) (G.sv f)) te) a;
          alone = λ d i r. s d i (r ∙ q);
          first = λ d k r h. by-test (z.away d) (λ a. a) (λ n. absurd (let b =
              best d k (and_i (not (z.away d)) (eqb (G.sv d) (G.sv f)) n (eq→eqb (G.sv d) (G.sv f) (r ∙ q))) in omega arith));
        }))

    abbrev own : ℕ → ℕ → Bool
    own f d = z.kept d && eqb (G.sv d) (G.sv f)

    pub unblocked : (f : ℕ) → f < G.m → T (not (z.kept f)) → T (yields (surveyors G) z.kept f) → T (yields (stands G) z.kept f) → ⊥
    unblocked f l n ys yt = by-test (z.away f)
        (λ g. let (x, i, q, h) = H.better f l g in holds (stands G) refl H.one_t one_t f x i q (omega arith) yt)
        (λ g. ⊎_elim
        (λ (t, (x, m, w)).
        let i : In G z x = (up_to_< G.m m, and_l (z.kept x) (eqb (G.sv x) (G.sv f)) w) in
        let q : G.sv x ≡ G.sv f = eqb→eq (G.sv x) (G.sv f) (and_r (z.kept x) (eqb (G.sv x) (G.sv f)) w) in
        by_cases (dec_lt (G.rank_s f) (G.rank_s x))
        (λ h. T_not (z.away f) g (H.ahead x f i l (sym q) h))
        (λ h. holds (surveyors G) refl H.one_s one_s f x i q (omega arith) ys))
        (λ (t, none). no_free f l g (λ d (k, s) q. T_not (own f d) (none d (up_to_∈ G.m d k))
        (and_i (z.kept d) (eqb (G.sv d) (G.sv f)) s (eq→eqb (G.sv d) (G.sv f) q))))
        (any_or (own f) (up_to G.m)))
