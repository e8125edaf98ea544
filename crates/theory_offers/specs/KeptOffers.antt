-- What holds after every offer (W-212), where no pair is tied: a surveyor and a stand have at most one kept pair; a stand keeps a better pair than
-- any that it turned away; a surveyor was turned away along every pair ranked before the kept one. One offer keeps this, and one more pair
-- was offered.
use Rattle.std.specs.Prelude.{ℕ, ◌≤◌, ◌<◌, ◌≡◌, refl, ◌≢◌, ◌⊎◌, Bool, ◌&&◌, ◌||◌, T}
use Rattle.std.proofs.Common.{arith, sym, ap, ◌∙◌, subst, inl, inr, T_not, eqb→eq}
use Rattle.std.proofs.Math.Decide.{ℕ_discrete, dec_lt}
use Rattle.std.proofs.Math.Logic.{⊎_elim, by_cases}
use Rattle.std.proofs.Math.Bool.{not}
use Rattle.std.proofs.Math.Dec.{not_T, eqb, eqb_refl}
use Rattle.lists.specs.Test.{and_l, and_r, and_i, or_l, or_r, or_case, nor_i, eq→eqb}
use Rattle.lists.specs.Sum.{count}
use Rattle.model.specs.Instance.{Instance}
use Rattle.model_files.specs.Offers.{Offers, kept_at, no_offers}
use Rattle.theory_instance.specs.Lawful.{Lawful}
use Rattle.theory_offers.specs.NextOffer.{In, Next}

module _ (G : Instance) (L : Lawful G) (strict : (e : ℕ) → e < G.m → T (not (G.tied e))) where
  -- what holds after every offer of the pairs that are kept and of those turned away
  pub record Kept (z : Offers) : Type 0 where
    pub one_s : (d e : ℕ) → In G z d → In G z e → G.sv d ≡ G.sv e → d ≡ e
    pub one_t : (d e : ℕ) → In G z d → In G z e → G.st d ≡ G.st e → d ≡ e
    pub better : (g : ℕ) → g < G.m → T (z.away g) → (x : ℕ) × In G z x × (G.st x ≡ G.st g) × (G.rank_t x < G.rank_t g)
    pub ahead : (e d : ℕ) → In G z e → d < G.m → G.sv d ≡ G.sv e → G.rank_s d < G.rank_s e → T (z.away d)
    pub apart : (e : ℕ) → T (z.away e) → T (z.kept e) → ⊥

  -- before the first offer
  pub begun : Kept (no_offers G)
  begun = record {
    one_s = λ d e (l, s) i q. absurd s;
    one_t = λ d e (l, s) i q. absurd s;
    better = λ g l s. absurd s;
    ahead = λ e d (l, s) k q h. absurd s;
    apart = λ e g s. s;
  }

  -- ---- e is offered
  module _ (z : Offers) (H : Kept z) (e : ℕ) (le : e < G.m) (N : Next G z e) where
    pub not_kept : T (z.kept e) → ⊥
    not_kept s = N.alone e (le, s) refl

    -- kept after e has come: as before, if some test passes, or e; at one node at most one
    abbrev One : (ℕ → ℕ) → (ℕ → Type 0) → Type 0
    One end P = (c d : ℕ) → In G z c → In G z d → P c → P d → end c ≡ end d → c ≡ d

    two : (end : ℕ → ℕ) (P : ℕ → Type 0) → One end P → ((x : ℕ) → In G z x → P x → end x ≡ end e → ⊥) → (c d : ℕ)
        → (In G z c × P c) ⊎ (c ≡ e) → (In G z d × P d) ⊎ (d ≡ e) → end c ≡ end d → c ≡ d
    two end P one nay c d (inl a) (inl b) q = one c d a.0 b.0 a.1 b.1 q
    two end P one nay c d (inl a) (inr b) q = absurd (nay c a.0 a.1 (q ∙ ap end b))
    two end P one nay c d (inr a) (inl b) q = absurd (nay d b.0 b.1 (sym q ∙ ap end a))
    two end P one nay c d (inr a) (inr b) q = a ∙ sym b

    -- the stand keeps none: it keeps e
    module _ (none : (d : ℕ) → In G z d → G.st d ≡ G.st e → ⊥) where
      was_kept : (d : ℕ) → d < G.m → T (z.kept d || eqb d e) → (In G z d × Unit {0}) ⊎ (d ≡ e)
      was_kept d l s = ⊎_elim (λ k. inl ((l, k), tt)) (λ k. inr (eqb→eq d e k)) (or_case (z.kept d) (eqb d e) s)

      pub kept_with : Kept (record { away = z.away; kept = λ x. z.kept x || eqb x e })
      kept_with = record {
        one_s = λ c d (lc, tc) (ld, td) q. two G.sv (λ x. Unit {0}) (λ c d i j u v. H.one_s c d i j) (λ x i u r. N.alone x i r) c d
            (was_kept c lc tc) (was_kept d ld td) q;
        one_t = λ c d (lc, tc) (ld, td) q. two G.st (λ x. Unit {0}) (λ c d i j u v. H.one_t c d i j) (λ x i u r. none x i r) c d
            (was_kept c lc tc) (was_kept d ld td) q;
        better = λ g l s. let (x, (lx, kx), q, h) = H.better g l s in (x, (lx, or_l (z.kept x) (eqb x e) kx), q, h);
        ahead = λ c d (lc, tc) ld q h. ⊎_elim (λ (k, u). H.ahead c d k ld q h)
            (λ r. N.first d ld (q ∙ ap G.sv r) (subst (λ y. G.rank_s d < G.rank_s y) r h)) (was_kept c lc tc);
        apart = λ c g s. ⊎_elim (H.apart c g) (λ k. N.unasked (subst (λ y. T (z.away y)) (eqb→eq c e k) g)) (or_case (z.kept c) (eqb c e) s);
      }

    -- it keeps d
    module _ (d : ℕ) (ind : In G z d) (at : G.st d ≡ G.st e) where
      other : d ≢ e
      other q = not_kept (subst (λ y. T (z.kept y)) q ind.1)

      -- e is better: d is turned away
      module _ (h : G.rank_t e < G.rank_t d) where
        abbrev instead : ℕ → Bool
        instead c = (z.kept c && not (eqb c d)) || eqb c e

        was : (c : ℕ) → T (instead c) → (T (z.kept c) × (c ≢ d)) ⊎ (c ≡ e)
        was c s = ⊎_elim
            (λ k. inl (and_l (z.kept c) (not (eqb c d)) k, λ q. T_not (eqb c d) (and_r (z.kept c) (not (eqb c d)) k) (eq→eqb c d q)))
            (λ k. inr (eqb→eq c e k)) (or_case (z.kept c && not (eqb c d)) (eqb c e) s)

        was_in : (c : ℕ) → c < G.m → T (instead c) → (In G z c × (c ≢ d)) ⊎ (c ≡ e)
        was_in c l s = ⊎_elim (λ (k, n). inl ((l, k), n)) (λ r. inr r) (was c s)

        stays : (x : ℕ) → T (z.kept x) → x ≢ d → T (instead x)
        stays x k n = or_l (z.kept x && not (eqb x d)) (eqb x e) (and_i (z.kept x) (not (eqb x d)) k (not_T (eqb x d) (λ s. n (eqb→eq x d s))))

        comes : T (instead e)
        comes = or_r (z.kept e && not (eqb e d)) (eqb e e) (eqb_refl e)

        pub kept_instead_law : Kept (record { away = λ x. z.away x || eqb x d; kept = λ x. (z.kept x && not (eqb x d)) || eqb x e })
        kept_instead_law = record {
          one_s = λ c x (lc, tc) (lx, tx) q. two G.sv (λ y. y ≢ d) (λ c d i j u v. H.one_s c d i j) (λ y i n r. N.alone y i r) c x
              (was_in c lc tc) (was_in x lx tx) q;
          one_t = λ c x (lc, tc) (lx, tx) q. two G.st (λ y. y ≢ d) (λ c d i j u v. H.one_t c d i j) (λ y i n r. n (H.one_t y d i ind (r ∙ sym at))) c x
              (was_in c lc tc) (was_in x lx tx) q;
          better = λ g l s. ⊎_elim
              (λ k. let (x, (lx, kx), q, r) = H.better g l k in by_cases (ℕ_discrete x d)
              (λ w. (e, (le, comes), sym at ∙ ap G.st (sym w) ∙ q, omega (arith, ap G.rank_t w)))
              (λ n. (x, (lx, stays x kx n), q, r)))
              (λ k. let w = eqb→eq g d k in (e, (le, comes), sym at ∙ ap G.st (sym w), omega (arith, ap G.rank_t w)))
              (or_case (z.away g) (eqb g d) s);
          ahead = λ c x (lc, tc) lx q r. or_l (z.away x) (eqb x d) (⊎_elim (λ (k, n). H.ahead c x (lc, k) lx q r)
              (λ w. N.first x lx (q ∙ ap G.sv w) (subst (λ y. G.rank_s x < G.rank_s y) w r)) (was c tc));
          apart = λ c g s. ⊎_elim
              (λ k. ⊎_elim (λ (i, n). H.apart c k i) (λ w. N.unasked (subst (λ y. T (z.away y)) w k)) (was c s))
              (λ k. ⊎_elim (λ (i, n). n (eqb→eq c d k)) (λ w. other (sym (eqb→eq c d k) ∙ w)) (was c s))
              (or_case (z.away c) (eqb c d) g);
        }

      -- e is not better, so that d is, as no pair is tied: e is turned away
      module _ (h : G.rank_t d ≤ G.rank_t e) where
        wins : G.rank_t d < G.rank_t e
        wins = by_cases (dec_lt (G.rank_t d) (G.rank_t e)) (λ l. l)
            (λ n. absurd (other (L.at_t.strict d e ind.0 le at (omega arith) (strict d ind.0))))

        pub kept_still : Kept (record { away = λ x. z.away x || eqb x e; kept = z.kept })
        kept_still = record {
          one_s = H.one_s;
          one_t = H.one_t;
          better = λ g l s. ⊎_elim (H.better g l)
              (λ k. let w = eqb→eq g e k in (d, ind, at ∙ ap G.st (sym w), omega (arith, wins, ap G.rank_t w))) (or_case (z.away g) (eqb g e) s);
          ahead = λ c x i lx q r. or_l (z.away x) (eqb x e) (H.ahead c x i lx q r);
          apart = λ c g s. ⊎_elim (λ k. H.apart c k s) (λ k. not_kept (subst (λ y. T (z.kept y)) (eqb→eq c e k) s)) (or_case (z.away c) (eqb c e) g);
        }

  -- ---- so many pairs were offered
  unfoldable pub tried : Offers → ℕ → Bool
  tried z x = z.away x || z.kept x

  abbrev pub Further : Offers → Offers → Type 0
  Further z y = Kept y × (count (tried z) G.m < count (tried y) G.m)

  pub not_tried : (z : Offers) → Kept z → (e : ℕ) → e < G.m → Next G z e → T (not (tried z e))
  unfolding tried
  not_tried z H e le N = nor_i (z.away e) (z.kept e) (not_T (z.away e) N.unasked) (not_T (z.kept e) (not_kept z H e le N))

  module _ (z : Offers) (H : Kept z) (e : ℕ) (le : e < G.m) (N : Next G z e) where
    abbrev d : ℕ
    d = kept_at G z e
