-- The theorems that rest on specs/Verdict.antt. They stand here so that a wrong definition there is refused by a proof.
use Rattle.std.specs.Prelude.{ℕ, ◌+◌, ◌*◌, ◌≤◌, ◌≡◌, Bool, length, ◌≤ℤ◌, ◌<ℤ◌}
use Rattle.std.proofs.Common.{arith}
use Rattle.std.proofs.Math.Option.{Option, or_else, Option-elim}
use Rattle.std.proofs.Math.IntN.{pos}
use Rattle.lists.specs.First.{Answer, nothing, found, answer_map}
use Rattle.lists.specs.Integer.{≤_antisym, sub_≤, sub_<}
use Rattle.model.specs.Instance.{Instance}
use Rattle.model.specs.Vote.{vote}
use Rattle.model.specs.Plans.{Verdict, strong, popular, beaten}
use Rattle.theory_instance.specs.Lawful.{Lawful, Matching, Same}
use Rattle.theory_votes.specs.Score.{tally, quotas}
use Rattle.theory_votes.specs.Signed.{vote_tally}
use Rattle.theory_verdict.specs.Strong.{holds_strong}
use Rattle.theory_verdict.specs.Search.{Hit, rival_by, olds, search, judge, verdict_by, rival_edges}
use Rattle.theory_verdict.proofs.LevelsOk.{search_ok}
use Rattle.theory_verdict.specs.Verdict.{Against}

module _ (G : Instance) (M : ℕ → Bool) where
  -- no set within the quotas beats M; M beats every other
  abbrev Unbeaten : Type 0
  Unbeaten = (N : ℕ → Bool) → Matching G N → pos 0 ≤ℤ vote G M N

  abbrev Strongest : Type 0
  Strongest = (N : ℕ → Bool) → Matching G N → (Same G M N → ⊥) → pos 0 <ℤ vote G M N

  -- the verdict with the rival
  abbrev Judged : Verdict → (ℕ → Bool) → Type 0
  Judged strong N = Strongest
  Judged popular N = Unbeaten × Against G M (λ z. z ≡ pos 0) N
  Judged beaten N = Against G M (λ z. z <ℤ pos 0) N

  module _ (law : Lawful G) (plan : Matching G M) (lid B : ℕ) (few : length (olds G M) ≤ B) (high : 2 * B + 5 ≤ lid) where
    pub beaten_or_not : Answer (λ h. Against G M (λ z. z <ℤ pos 0) (rival_by M h)) Unbeaten (search G M lid 0 B)
    beaten_or_not = answer_map
        (λ h r. record {
          plan = r.plan;
          other = r.other;
          vote = rw (vote_tally G M (rival_by M h) plan r.plan) (sub_< (tally G M (rival_by M h)) (quotas G) 0 0 (omega (arith, r.vote)));
        })
        (λ (h, u) N p. rw (vote_tally G M N plan p) (sub_≤ 0 0 (tally G M N) (quotas G) (omega (arith, u N p))))
        (search_ok G M law plan lid 0 B few (omega arith))

    pub strong_or_not : Answer (λ h. Against G M (λ z. z ≤ℤ pos 0) (rival_by M h)) Strongest (search G M lid 1 B)
    strong_or_not = answer_map
        (λ h r. record {
          plan = r.plan;
          other = r.other;
          vote = rw (vote_tally G M (rival_by M h) plan r.plan) (sub_≤ (tally G M (rival_by M h)) (quotas G) 0 0 (omega (arith, r.vote)));
        })
        (λ (h, u). (holds_strong G M h).wins)
        (search_ok G M law plan lid 1 B few (omega arith))

    -- the two together
    pub judged : Judged (verdict_by G M lid B) (rival_edges G M lid B)
    unfolding verdict_by rival_edges Option-elim or_else
    judged = go beaten_or_not strong_or_not
      where
        go : {o p : Option Hit} → Answer (λ h. Against G M (λ z. z <ℤ pos 0) (rival_by M h)) Unbeaten o
            → Answer (λ h. Against G M (λ z. z ≤ℤ pos 0) (rival_by M h)) Strongest p
            → Judged (judge o p) (Option-elim (or_else o p) M (rival_by M))
        go (nothing u) (nothing s) = s
        go (nothing u) (found {a = h} r) =
            (u, record { plan = r.plan; other = r.other; vote = ≤_antisym (vote G M (rival_by M h)) (pos 0) r.vote (u (rival_by M h) r.plan) })
        go (found r) p = r
