-- The theorems that rest on specs/Unbeaten.antt. They stand here so that a wrong definition there is refused by a proof.
use Rattle.std.specs.Prelude.{ℕ, ◌+◌, ◌*◌, ◌≤◌, ◌<◌, ◌≡◌, refl, Bool, true, false, not, ◌&&◌, List, [], ◌∷◌, T, eqb}
use native.Mathlib.Omega.{arith}
use Rattle.std.proofs.Common.{sym, ap, ◌∙◌, eqb→eq}
use Rattle.lists.specs.Test.{bit, pk, nand_l}
use Rattle.lists.specs.Sum.{◌∈◌, sum, sum_add, sum_mono, sum_cong, up_to, up_to_<, occ}
use Rattle.lists.specs.Keep.{∈_keep}
use Rattle.lists.specs.Occur.{sum_by}
use Rattle.model.specs.Instance.{Instance, Side, surveyors, stands}
use Rattle.model.specs.Blocking.{yields}
use Rattle.theory_instance.specs.Lawful.{Ranked, Lawful, Within, Matching}
use Rattle.theory_votes.specs.Score.{score, tally, quotas}
use Rattle.theory_votes.specs.Exchange.{for, against}
use Rattle.theory_votes.specs.Converse.{goers, cost_of}
use Rattle.theory_offers.specs.Unbeaten.{came, couple, cs, moves}

-- two lists of numbers in which each comes as often
times : {A : Type 0} (f : A → ℕ) (e : ℕ) (φ : ℕ → ℕ) (xs : List A) → sum (λ x. pk (eqb (f x) e) (φ (f x))) xs ≡ sum (λ x. bit (eqb (f x) e)) xs * φ e
times f e φ [] = omega arith
times f e φ (x ∷ xs) = go (eqb (f x) e) (λ t. ap φ (eqb→eq (f x) e t)) (times f e φ xs)
  where
    go : (b : Bool) → (T b → φ (f x) ≡ φ e) → sum (λ x. pk (eqb (f x) e) (φ (f x))) xs ≡ sum (λ x. bit (eqb (f x) e)) xs * φ e
        → pk b (φ (f x)) + sum (λ x. pk (eqb (f x) e) (φ (f x))) xs ≡ (bit b + sum (λ x. bit (eqb (f x) e)) xs) * φ e
    go true h ih = omega (arith, h tt)
    go false h ih = omega arith

same_by : {A : Type 0} (m : ℕ) (f : A → ℕ) (xs : List A) (ys : List ℕ) (φ : ℕ → ℕ) → ((x : A) → x ∈ xs → f x < m) → ((y : ℕ) → y ∈ ys → y < m)
    → ((e : ℕ) → sum (λ x. bit (eqb (f x) e)) xs ≡ occ e ys) → sum (λ x. φ (f x)) xs ≡ sum φ ys
same_by m f xs ys φ hx hy h = sym (sum_by m f (λ x. φ (f x)) xs hx)
    ∙ sum_cong (λ e. sum (λ x. pk (eqb (f x) e) (φ (f x))) xs) (λ e. sum (λ y. pk (eqb y e) (φ y)) ys) (up_to m)
    (λ e k. times f e φ xs ∙ ap (λ n. n * φ e) (h e) ∙ sym (times (λ y. y) e φ ys))
    ∙ sum_by m (λ y. y) φ ys hy

module _ (K : Side) (R : Ranked K) (M N : ℕ → Bool) (hM : Within K M) (hN : Within K N) (strict : (e : ℕ) → e < K.m → T (not (K.tie e))) where
  abbrev fs : List ℕ
  fs = goers K.m N M

  -- the sum over the couples of what belongs to the edge that comes
  comers : (φ : ℕ → ℕ) → sum (λ c. φ c.1) (cs K R M N hM hN strict) ≡ sum φ fs
  comers φ = same_by K.m (λ c. c.1) (cs K R M N hM hN strict) fs φ (λ c k. (came K R M N hM hN strict c k).2)
      (λ e k. up_to_< K.m (∈_keep (λ e. N e && not (M e)) (up_to K.m) k).0) (moves K R M N hM hN strict).come

  side : (w : ℕ → Bool) → ((f : ℕ) → f < K.m → M f ≡ false → T (yields K M f) → T (w f))
      → sum K.quota (up_to K.n) + sum (λ f. bit (not (w f))) fs ≤ sum (score K M N) (up_to K.n) + sum (λ f. bit (w f)) fs
  unfolding cs
  side w h = omega (
    arith,
    comers (λ f. bit (w f)),
    comers (λ f. bit (not (w f))),
    sum_mono (λ c. against K.rank c + bit (not (w c.1))) (λ c. for K.rank c + bit (w c.1)) (cs K R M N hM hN strict)
        (λ c k. couple K R M N hM hN strict w c k (h c.1 (came K R M N hM hN strict c k).2 (came K R M N hM hN strict c k).1)),
    sum_add (against K.rank) (λ c. bit (not (w c.1))) (cs K R M N hM hN strict),
    sum_add (for K.rank) (λ c. bit (w c.1)) (cs K R M N hM hN strict),
    cost_of K M N hM hN R,
  )

-- ---- both sides
module _ (G : Instance) (L : Lawful G) (strict : (e : ℕ) → e < G.m → T (not (G.tied e))) (M N : ℕ → Bool) (hM : Matching G M) (hN : Matching G N)
    (unblocked : (f : ℕ) → f < G.m → M f ≡ false → T (not (yields (surveyors G) M f && yields (stands G) M f))) where
  abbrev wanted : ℕ → Bool
  wanted f = yields (surveyors G) M f

  pub unbeaten : quotas G ≤ tally G M N
  unbeaten = omega (
    arith,
    side (surveyors G) L.at_s M N hM.at_s hN.at_s (λ e l. tt) wanted (λ f l n t. t),
    side (stands G) L.at_t M N hM.at_t hN.at_t strict (λ f. not (wanted f)) (λ f l n t. nand_l (wanted f) (yields (stands G) M f) (unblocked f l n) t),
    sum_cong (λ f. bit (not (not (wanted f)))) (λ f. bit (wanted f)) (goers G.m N M) (λ f k. ap bit (twice (wanted f))),
  )
    where
      twice : (b : Bool) → not (not b) ≡ b
      twice true = refl
      twice false = refl
