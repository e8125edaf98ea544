-- The theorems that rest on specs/KeptOffers.antt. They stand here so that a wrong definition there is refused by a proof.
use Rattle.std.specs.Prelude.{ℕ, ◌<◌, ◌&&◌, ◌||◌, T, leb, ltb}
use Rattle.std.proofs.Common.{ltb→lt, nltb→le}
use Rattle.std.proofs.Math.Logic.{⊎_elim}
use Rattle.std.proofs.Math.Bool.{not}
use Rattle.std.proofs.Math.Dec.{eqb, eqb_refl}
use Rattle.lists.specs.Test.{by-test, if-ind, and_i, or_l, or_r, or_case}
use Rattle.lists.specs.Sum.{count, count_sub_lt}
use Rattle.model.specs.Instance.{Instance}
use Rattle.model_files.specs.Offers.{Offers, kept_at, offered}
use Rattle.theory_instance.specs.Lawful.{Lawful}
use Rattle.theory_offers.specs.NextOffer.{Next, keeps_none, keeps_some}
use Rattle.theory_offers.specs.KeptOffers.{Kept, kept_instead_law, kept_still, kept_with, not_tried, tried}

module _ (G : Instance) (L : Lawful G) (strict : (e : ℕ) → e < G.m → T (not (G.tied e))) where
  abbrev Further : Offers → Offers → Type 0
  Further z y = Kept G L strict y × (count (tried G L strict z) G.m < count (tried G L strict y) G.m)

  module _ (z : Offers) (H : (Kept G L strict) z) (e : ℕ) (le : e < G.m) (N : Next G z e) where
    grows : (y : Offers) → ((x : ℕ) → T (z.away x) → T (tried G L strict y x)) → ((x : ℕ) → T (z.kept x) → T (tried G L strict y x)) → T (tried G L strict y e)
        → count (tried G L strict z) G.m < count (tried G L strict y) G.m
    unfolding tried
    grows y a k s = count_sub_lt (tried G L strict z) (tried G L strict y) G.m (λ x l t. ⊎_elim (a x) (k x) (or_case (z.away x) (z.kept x) t)) e le s (not_tried G L strict z H e le N)

    abbrev d : ℕ
    d = kept_at G z e

    -- an offer keeps this, and more pairs were offered than before it
    pub further : Further z (offered G z e)
    unfolding tried
    further = if-ind (Further z) (leb G.m d)
        (λ s. (
          (kept_with G L strict) z H e le N (keeps_none G z e s),
          grows (record { away = z.away; kept = λ x. z.kept x || eqb x e })
              (λ x a. or_l (z.away x) (z.kept x || eqb x e) a)
              (λ x k. or_r (z.away x) (z.kept x || eqb x e) (or_l (z.kept x) (eqb x e) k))
              (or_r (z.away e) (z.kept e || eqb e e) (or_r (z.kept e) (eqb e e) (eqb_refl e))),
        ))
        (λ s. let (ind, at) = keeps_some G z e s in if-ind (Further z) (ltb (G.rank_t e) (G.rank_t d))
        (λ r. (
          (kept_instead_law G L strict) z H e le N d ind at (ltb→lt (G.rank_t e) (G.rank_t d) r),
          grows (record { away = λ x. z.away x || eqb x d; kept = λ x. (z.kept x && not (eqb x d)) || eqb x e })
              (λ x a. or_l (z.away x || eqb x d) ((z.kept x && not (eqb x d)) || eqb x e) (or_l (z.away x) (eqb x d) a))
              (λ x k. by-test (eqb x d)
              (λ b. or_l (z.away x || eqb x d) ((z.kept x && not (eqb x d)) || eqb x e) (or_r (z.away x) (eqb x d) b))
              (λ b. or_r (z.away x || eqb x d) ((z.kept x && not (eqb x d)) || eqb x e)
              (or_l (z.kept x && not (eqb x d)) (eqb x e) (and_i (z.kept x) (not (eqb x d)) k b))))
              (or_r (z.away e || eqb e d) ((z.kept e && not (eqb e d)) || eqb e e) (or_r (z.kept e && not (eqb e d)) (eqb e e) (eqb_refl e))),
        ))
        (λ r. (
          (kept_still G L strict) z H e le N d ind at (nltb→le (G.rank_t e) (G.rank_t d) r),
          grows (record { away = λ x. z.away x || eqb x e; kept = z.kept })
              (λ x a. or_l (z.away x || eqb x e) (z.kept x) (or_l (z.away x) (eqb x e) a))
              (λ x k. or_r (z.away x || eqb x e) (z.kept x) k)
              (or_l (z.away e || eqb e e) (z.kept e) (or_r (z.away e) (eqb e e) (eqb_refl e))),
        )))
