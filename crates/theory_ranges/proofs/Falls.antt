-- The theorems that rest on specs/Falls.antt. They stand here so that a wrong definition there is refused by a proof.
use Rattle.std.specs.Prelude.{ℕ, ◌<◌, ◌≡◌, Bool, true, false}
use native.Mathlib.Omega.{arith}
use Rattle.lists.specs.Integer.{≤_antisym}
use Rattle.model.specs.Instance.{Instance}
use Rattle.model.specs.Vote.{vote}
use Rattle.theory_instance.specs.Lawful.{Matching}
use Rattle.theory_ranges.specs.Falls.{Placed, Worse, vote_falls, with_ranks}

module _ (G : Instance) (M N : ℕ → Bool) (p : Matching G M) (q : Matching G N) where
  -- the same ranks for the edges that one plan has alone: the same vote
  abbrev Alike : (rank w : ℕ → ℕ) → Type 0
  Alike rank w = ((d : ℕ) → d < G.m → M d ≡ true → N d ≡ false → rank d ≡ w d) × ((f : ℕ) → f < G.m → N f ≡ true → M f ≡ false → rank f ≡ w f)

  -- ranks that agree on the edges which one of the two plans has alone give the same vote
  pub vote_alike : (rS rT wS wT : ℕ → ℕ) → Placed G.m rS → Placed G.m rT → Placed G.m wS → Placed G.m wT → Alike rS wS → Alike rT wT
      → vote (with_ranks G wS wT) M N ≡ vote (with_ranks G rS rT) M N
  vote_alike rS rT wS wT pS pT q_s q_t hS hT = ≤_antisym (vote (with_ranks G wS wT) M N) (vote (with_ranks G rS rT) M N)
      (vote_falls G M N p q rS rT wS wT pS pT q_s q_t (worse rS wS hS) (worse rT wT hT))
      (vote_falls G M N p q wS wT rS rT q_s q_t pS pT (back rS wS hS) (back rT wT hT))
    where
      worse : (rank w : ℕ → ℕ) → Alike rank w → Worse G.m M N rank w
      worse rank w h = record { own = λ d l a b. omega (arith, h.0 d l a b); other = λ f l a b. omega (arith, h.1 f l a b) }

      back : (rank w : ℕ → ℕ) → Alike rank w → Worse G.m M N w rank
      back rank w h = record { own = λ d l a b. omega (arith, h.0 d l a b); other = λ f l a b. omega (arith, h.1 f l a b) }
