-- The theorems that rest on specs/OffersEnd.antt. They stand here so that a wrong definition there is refused by a proof.
use Prim.Native.Nat.{ℕ, zero, suc, ◌+◌, ◌≤◌, ◌<◌}
use native.Mathlib.Omega.{arith}
use Rattle.std.specs.Prelude.{true, not, T, leb}
use Rattle.std.proofs.Math.Dec.{not_T, leb→le, nleb→lt}
use Rattle.lists.specs.Test.{if-ind}
use Rattle.lists.specs.Search.{low, low_is}
use Rattle.lists.specs.Sum.{count, count_sub_lt, count_≤}
use Rattle.model.specs.Instance.{Instance}
use Rattle.model_files.specs.Offers.{Offers, next_offer, offered, offers_from, no_offers}
use Rattle.theory_instance.specs.Lawful.{Lawful}
use Rattle.theory_offers.specs.NextOffer.{next→}
use Rattle.theory_offers.specs.KeptOffers.{Kept, begun, tried, not_tried}
use Rattle.theory_offers.proofs.KeptOffers.{further}

module _ (G : Instance) (L : Lawful G) (strict : (e : ℕ) → e < G.m → T (not (G.tied e))) where
  abbrev Ended : Offers → Type 0
  Ended z = Kept G L strict z × ((e : ℕ) → e < G.m → T (not (next_offer G z e)))

  end_from : (n : ℕ) (z : Offers) → Kept G L strict z → G.m ≤ n + count (tried G L strict z) G.m → Ended (offers_from G n z)
  unfolding offers_from
  end_from zero z H l = (
    H,
    λ e le. not_T (next_offer G z e) (λ t.
        let c = count_sub_lt (tried G L strict z) (λ x. true) G.m (λ x k s. tt) e le tt (not_tried G L strict z H e le (next→ G z e t)) in
        let b = count_≤ (λ x. true) G.m in
        absurd (let n : ⊥ = omega arith in n)),
  )
  end_from (suc n) z H l = if-ind Ended (leb G.m e)
      (λ s. (H, λ x k. (low_is (next_offer G z) G.m).1 x (omega (arith, leb→le G.m e s))))
      (λ s. let k = nleb→lt G.m e s in
      let w = further G L strict z H e k (next→ G z e ((low_is (next_offer G z) G.m).2 k)) in
      end_from n (offered G z e) w.0 (omega (arith, w.1)))
    where
      e : ℕ
      e = low (next_offer G z) G.m

  pub offers_end : Ended (offers_from G G.m (no_offers G))
  offers_end = end_from G.m (no_offers G) (begun G L strict) (omega arith)
