-- What the search says in the model's votes, for a set M within the quotas of at most B edges and a lid of at least 2 B + 5. Below 0: a hit
-- makes another plan that beats M, no hit means that none does. Below 1: a hit makes another plan that beats M or draws with it, no
-- hit means that M beats every other. So the verdict by the two searches is right, and so is the rival that they give.
-- To believe it: the model's votes (Vote), what a matching is (theory_instance, Lawful), the search (Search).
use Rattle.std.specs.Prelude.{ℕ, ◌≡◌, Bool, ℤ, ◌≤ℤ◌, ◌<ℤ◌}
use Rattle.std.proofs.Math.IntN.{pos}
use Rattle.model.specs.Instance.{Instance}
use Rattle.model.specs.Vote.{vote}
use Rattle.model.specs.Plans.{Verdict, strong, popular, beaten}
use Rattle.theory_instance.specs.Lawful.{Matching, Same}

module _ (G : Instance) (M : ℕ → Bool) where
  -- N is another set within the quotas, and the vote of M against it has the property
  pub record Against (P : ℤ → Type 0) (N : ℕ → Bool) : Type 0 where
    pub plan : Matching G N
    pub other : Same G M N → ⊥
    pub vote : P (vote G M N)

  -- no set within the quotas beats M; M beats every other
  abbrev pub Unbeaten : Type 0
  Unbeaten = (N : ℕ → Bool) → Matching G N → pos 0 ≤ℤ vote G M N

  abbrev pub Strongest : Type 0
  Strongest = (N : ℕ → Bool) → Matching G N → (Same G M N → ⊥) → pos 0 <ℤ vote G M N

  -- the verdict with the rival
  abbrev pub Judged : Verdict → (ℕ → Bool) → Type 0
  Judged strong N = Strongest
  Judged popular N = Unbeaten × Against (λ z. z ≡ pos 0) N
  Judged beaten N = Against (λ z. z <ℤ pos 0) N
