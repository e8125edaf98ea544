-- What a node's score can be: at most twice the quota, the quota itself for a set against itself, and for two sets either way round
-- no more than twice the quota in sum. Laws.antt says it of the model's votes.
use Rattle.std.specs.Prelude.{ℕ, ◌+◌, ◌*◌, ◌≤◌, ◌≡◌, refl, Bool, true, false, not, ◌&&◌, ◌||◌, List, map, T}
use native.Mathlib.Omega.{arith}
use Rattle.std.proofs.Math.Path.{sym, ap}
use Rattle.std.proofs.Common.{◌∙◌}
use Rattle.std.proofs.Math.Logic.{inl, inr}
use Rattle.std.proofs.Math.Bool.{and_comm, or_comm, or-false}
use Rattle.lists.specs.Test.{bit, eqb_sym, true_t}
use Rattle.lists.specs.Sum.{◌∈◌, sum_add, sum_map, sum_cong, sum_mono}
use Rattle.model.specs.Instance.{Side, deg}
use Rattle.model.specs.Vote.{Place, edge, empty, same, Pairing, shared, faces, pair_faces_empty, empty_faces_pair, places_at}
use Rattle.theory_votes.specs.Score.{mark, mark_same, mark_flip, score}
use Rattle.theory_votes.specs.Places.{same→, node_places, pairing_length}
use Rattle.theory_votes.specs.Fair.{NotBoth, Fair, fair_faces, score_≤, left_here, right_here}
use Rattle.theory_votes.specs.Attained.{attained}

-- ---- a pairing turned round
same_sym : (p q : Place) → same p q ≡ same q p
same_sym (edge d) (edge e) = eqb_sym d e
same_sym (edge d) empty = refl
same_sym empty (edge e) = refl
same_sym empty empty = refl

flip : Place × Place → Place × Place
flip c = (c.1, c.0)

module _ (M N : ℕ → Bool) where
  shared_comm : (p : Place) → shared N M p ≡ shared M N p
  shared_comm (edge e) = and_comm (N e) (M e)
  shared_comm empty = refl

  faces_flip : (c : Place × Place) → faces N M (c.1, c.0) ≡ faces M N c
  faces_flip c =
      ap (λ b. b || not (shared N M c.1 || shared N M c.0)) (same_sym c.1 c.0)
      ∙ ap (λ b. same c.0 c.1 || not b)
      (or_comm (shared N M c.1) (shared N M c.0) ∙ ap (λ b. b || shared N M c.1) (shared_comm c.0)
      ∙ ap (λ b. shared M N c.0 || b) (shared_comm c.1))

  fair_flip : (ps qs : List Place) (r : Pairing) → Fair M N ps qs r → Fair N M qs ps (map flip r)
  unfolding flip
  fair_flip ps qs r f = record {
    on_left = λ a. f.on_right a ∙ sym (sum_map (λ c. bit (same c.0 a)) flip r);
    on_right = λ a. f.on_left a ∙ sym (sum_map (λ c. bit (same c.1 a)) flip r);
    own = sum_map (λ c. bit (not (faces N M c))) flip r
        ∙ sum_cong (λ c. bit (not (faces N M (c.1, c.0)))) (λ c. bit (not (faces M N c))) r (λ c m. ap (λ b. bit (not b)) (faces_flip c)) ∙ f.own;
    not_both = go f.not_both;
  }
    where
      go : NotBoth r → NotBoth (map flip r)
      go (inl e) = inr (sum_map (λ c. bit (empty_faces_pair c)) flip r
          ∙ sum_cong (λ c. bit (empty_faces_pair (c.1, c.0))) (λ c. bit (pair_faces_empty c)) r
          (λ c m. ap bit (and_comm (same c.1 empty) (not (same c.0 empty)))) ∙ e)
      go (inr e) = inl (sum_map (λ c. bit (pair_faces_empty c)) flip r
          ∙ sum_cong (λ c. bit (pair_faces_empty (c.1, c.0))) (λ c. bit (empty_faces_pair c)) r
          (λ c m. ap bit (and_comm (not (same c.1 empty)) (same c.0 empty))) ∙ e)

-- ---- bounds
module _ (K : Side) (M N : ℕ → Bool) (v : ℕ) (hM : deg K M v ≤ K.quota v) (hN : deg K N v ≤ K.quota v) where
  pub score_≤_two : score K M N v ≤ 2 * K.quota v
  score_≤_two =
      let t = attained K M N v hM hN in
      omega (
        arith,
        t.3,
        sum_mono (mark K.rank) (λ c. 2) t.0 (λ c m. omega (arith, mark_flip K.rank c)),
        sum_add (λ c. 1) (λ c. 1) t.0,
        pairing_length (places_at K M v) (places_at K N v) t.0 t.1,
        node_places K M v hM,
      )

  pub score_both : score K M N v + score K N M v ≤ 2 * K.quota v
  unfolding flip
  score_both =
      let t = attained K M N v hM hN in
      omega (
        arith,
        t.3,
        score_≤ K N M v (map flip t.0) (fair_flip M N (places_at K M v) (places_at K N v) t.0 t.2),
        sum_map (mark K.rank) flip t.0,
        sum_add (mark K.rank) (λ c. mark K.rank (c.1, c.0)) t.0,
        sum_cong (λ c. mark K.rank c + mark K.rank (c.1, c.0)) (λ c. 1 + 1) t.0 (λ c m. mark_flip K.rank c),
        sum_add (λ c. 1) (λ c. 1) t.0,
        pairing_length (places_at K M v) (places_at K N v) t.0 t.1,
        node_places K M v hM,
      )

-- a set against itself: every edge is shared, so each place faces its like
pub score_self : (K : Side) (M : ℕ → Bool) (v : ℕ) → deg K M v ≤ K.quota v → score K M M v ≡ K.quota v
score_self K M v h =
    let t = attained K M M v h h in
    omega (
      arith,
      t.3,
      sum_cong (mark K.rank) (λ c. 1) t.0 (even t.0 t.2),
      pairing_length (places_at K M v) (places_at K M v) t.0 t.1,
      node_places K M v h,
    )
  where
    alike : (s x y : Bool) → x ≡ true → T (s || not ((x && x) || y)) → T s
    alike true x y h t = tt
    alike false true y h t = absurd t
    alike false false y h t = true_t h

    facing : (r : Pairing) → Fair M M (places_at K M v) (places_at K M v) r → (c : Place × Place) → c ∈ r → T (faces M M c)
    facing r = fair_faces M M (places_at K M v) (places_at K M v) r

    even : (r : Pairing) → Fair M M (places_at K M v) (places_at K M v) r → (c : Place × Place) → c ∈ r → mark K.rank c ≡ 1
    even r f (edge d, q) k =
        let e = same→ (edge d) q (alike (same (edge d) q) (M d) (shared M M q) (left_here K M M v r f (edge d, q) k d refl).0 (facing r f (edge d, q) k)) in
        ap (λ p. mark K.rank (edge d, p)) (sym e) ∙ mark_same K.rank (edge d)
    even r f (empty, edge d) k = absurd
        (alike false (M d) false (right_here K M M v r f (empty, edge d) k d refl).0 (rw (or-false (M d && M d)) (facing r f (empty, edge d) k)))
    even r f (empty, empty) k = mark_same K.rank empty
