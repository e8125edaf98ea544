-- Laws of the model's votes, for any ranks: a valid pairing always exists, a node's vote lies between -b and b, a plan's vote
-- against itself is 0, the two votes of two plans add to at most zero, and a vote depends on nothing but which edges are in the sets.
-- Of the model, Vote is to be believed; of graph, what a matching is (Lawful).
use Rattle.std.specs.Prelude.{ℕ, ◌+◌, ◌≤◌, ◌<◌, ◌≡◌, refl, Bool, not, ◌&&◌, ◌||◌, map, eqb, pos, neg_ℤ, ◌+ℤ◌, ◌≤ℤ◌}
use Rattle.std.proofs.Common.{arith, ◌∙◌}
use Rattle.std.proofs.Math.Path.{ap, ap₂}
use Rattle.std.proofs.Math.IntN.{sub_ℕ}
use Rattle.lists.specs.Test.{bit, pk_le}
use Rattle.lists.specs.Sum.{◌∈◌, sum, sum_add, sum_mono, sum_cong, sum_mem, up_to, up_to_<, occ}
use Rattle.lists.specs.Keep.{keep, keep_cong, all_cong, any?}
use Rattle.lists.specs.Occur.{occ_<}
use Rattle.lists.specs.Integer.{pos_sub, neg_sub, sub_self, sub_add, sub_≤}
use Rattle.model.specs.Instance.{Instance, Side, surveyors, stands, deg}
use Rattle.model.specs.Vote.{Place, edge, empty, same, here, places, Pairing, pairings, shared, faces, pair_faces_empty, empty_faces_pair, valid, sumℤ}
use Rattle.model.specs.Vote.{least_ofℤ, place_vote, node_vote, vote, places_at}
use Rattle.theory_instance.specs.Lawful.{Within, Matching, Same}
use Rattle.theory_votes.specs.Score.{score, tally, quotas}
use Rattle.theory_votes.specs.Places.{same_refl, times, here_occ, times_edge, pairing_left, pairing_right_≤}
use Rattle.theory_votes.specs.Signed.{sumℤ_cong, node_vote_score, vote_tally}
use Rattle.theory_votes.specs.Bounds.{score_≤_two, score_both, score_self}
-- Attained.some_valid: two sets within the quota have a valid pairing at every node
pub use Rattle.theory_votes.specs.Attained.{some_valid}

-- ---- one node
module _ (K : Side) (M N : ℕ → Bool) (v : ℕ) (hM : deg K M v ≤ K.quota v) (hN : deg K N v ≤ K.quota v) where
  pub node_vote_least : neg_ℤ (pos (K.quota v)) ≤ℤ node_vote K M N v
  node_vote_least = rw (neg_sub (K.quota v), node_vote_score K M N v hM hN) (sub_≤ 0 (K.quota v) (score K M N v) (K.quota v) (omega arith))

  pub node_vote_most : node_vote K M N v ≤ℤ pos (K.quota v)
  node_vote_most = rw (pos_sub (K.quota v), node_vote_score K M N v hM hN)
      (sub_≤ (score K M N v) (K.quota v) (K.quota v) 0 (omega (arith, score_≤_two K M N v hM hN)))

  pub node_vote_both : (node_vote K M N v +ℤ node_vote K N M v) ≤ℤ pos 0
  node_vote_both = rw (node_vote_score K M N v hM hN, node_vote_score K N M v hN hM, sub_add (score K M N v) (K.quota v) (score K N M v) (K.quota v))
      (sub_≤ (score K M N v + score K N M v) (K.quota v + K.quota v) 0 0 (omega (arith, score_both K M N v hM hN)))

pub node_vote_self : (K : Side) (M : ℕ → Bool) (v : ℕ) → deg K M v ≤ K.quota v → node_vote K M M v ≡ pos 0
node_vote_self K M v h = node_vote_score K M M v h h ∙ ap (λ z. sub_ℕ z (K.quota v)) (score_self K M v h) ∙ sub_self (K.quota v)

-- ---- all nodes
module _ (G : Instance) where
  -- the vote of a set within the quotas against itself is 0
  pub vote_self : (M : ℕ → Bool) → Matching G M → vote G M M ≡ pos 0
  vote_self M p = vote_tally G M M p p ∙ ap (λ z. sub_ℕ z (quotas G)) even ∙ sub_self (quotas G)
    where
      even : tally G M M ≡ quotas G
      even = omega (
        arith,
        sum_cong (score (surveyors G) M M) G.quota_s (up_to G.ns) (λ v k. score_self (surveyors G) M v (p.at_s v)),
        sum_cong (score (stands G) M M) G.quota_t (up_to G.nt) (λ v k. score_self (stands G) M v (p.at_t v)),
      )

  -- the two votes of two sets within the quotas add to at most zero
  pub vote_both : (M N : ℕ → Bool) → Matching G M → Matching G N → (vote G M N +ℤ vote G N M) ≤ℤ pos 0
  vote_both M N p q = rw (vote_tally G M N p q, vote_tally G N M q p, sub_add (tally G M N) (quotas G) (tally G N M) (quotas G))
      (sub_≤ (tally G M N + tally G N M) (quotas G + quotas G) 0 0 (omega (arith, side (surveyors G) p.at_s q.at_s, side (stands G) p.at_t q.at_t)))
    where
      side : (K : Side) → Within K M → Within K N
          → sum (score K M N) (up_to K.n) + sum (score K N M) (up_to K.n) ≤ sum K.quota (up_to K.n) + sum K.quota (up_to K.n)
      side K a b = omega (
        arith,
        sum_mono (λ v. score K M N v + score K N M v) (λ v. K.quota v + K.quota v) (up_to K.n) (λ v k. omega (arith, score_both K M N v (a v) (b v))),
        sum_add (score K M N) (score K N M) (up_to K.n),
        sum_add K.quota K.quota (up_to K.n),
      )

-- ---- the same edges, the same votes
module _ (K : Side) (M N M' N' : ℕ → Bool) (v : ℕ) (sM : (e : ℕ) → e < K.m → M e ≡ M' e) (sN : (e : ℕ) → e < K.m → N e ≡ N' e) where
  here_same : (A B : ℕ → Bool) → ((e : ℕ) → e < K.m → A e ≡ B e) → here K A v ≡ here K B v
  here_same A B h = keep_cong (λ e. A e && eqb (K.end e) v) (λ e. B e && eqb (K.end e) v) (up_to K.m)
      (λ e k. ap (λ b. b && eqb (K.end e) v) (h e (up_to_< K.m k)))

  shared_same : (A : ℕ → Bool) (p : Place) → 0 < times p (places_at K A v) → shared M N p ≡ shared M' N' p
  shared_same A (edge d) h = let l =
      occ_< K.m d (omega (
        arith,
        times_edge (K.quota v) d (here K A v),
        here_occ K A v d,
        pk_le (A d && eqb (K.end d) v)
            (occ d (up_to K.m)),
      )) in ap₂ ◌&&◌ (sM d l) (sN d l)
  shared_same A empty h = refl

  valid_same : (r : Pairing) → r ∈ pairings (places_at K M v) (places_at K N v) → valid M N r ≡ valid M' N' r
  valid_same r m = ap (λ b. b && not (any? pair_faces_empty r && any? empty_faces_pair r)) (all_cong (faces M N) (faces M' N') r faces_same)
    where
      faces_same : (c : Place × Place) → c ∈ r → faces M N c ≡ faces M' N' c
      faces_same c k = ap₂ (λ x y. same c.0 c.1 || not (x || y))
          (shared_same M c.0 (omega (
            arith,
            pairing_left (λ p. bit (same p c.0)) (places_at K M v) (places_at K N v) r m,
            sum_mem
                (λ b. bit (same b.0 c.0)) k,
            same_refl c.0,
          )))
          (shared_same N c.1 (omega (
            arith,
            pairing_right_≤ (λ p. bit (same p c.1)) (places_at K M v) (places_at K N v) r m,
            sum_mem
                (λ b. bit (same b.1 c.1)) k,
            same_refl c.1,
          )))

  pub node_vote_same : node_vote K M N v ≡ node_vote K M' N' v
  unfolding node_vote
  node_vote_same = ap (λ rs. least_ofℤ (map (sumℤ (place_vote K.rank)) rs))
      (keep_cong (valid M N) (valid M' N') (pairings (places_at K M v) (places_at K N v)) valid_same
      ∙ ap₂ (λ xs ys. keep (valid M' N') (pairings (places (K.quota v) xs) (places (K.quota v) ys))) (here_same M M' sM) (here_same N N' sN))

-- sets of the same edges have the same vote
pub vote_same : (G : Instance) (M N M' N' : ℕ → Bool) → Same G M M' → Same G N N' → vote G M N ≡ vote G M' N'
unfolding vote
vote_same G M N M' N' sM sN = ap₂ ◌+ℤ◌ (side (surveyors G) sM sN) (side (stands G) sM sN)
  where
    side : (K : Side) → ((e : ℕ) → e < K.m → M e ≡ M' e) → ((e : ℕ) → e < K.m → N e ≡ N' e)
        → sumℤ (node_vote K M N) (up_to K.n) ≡ sumℤ (node_vote K M' N') (up_to K.n)
    side K a b = sumℤ_cong (node_vote K M N) (node_vote K M' N') (up_to K.n) (λ v k. node_vote_same K M N M' N' v a b)
