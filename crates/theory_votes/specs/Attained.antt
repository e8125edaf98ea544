-- Two sets within the quota have a valid pairing at the node, so the node's vote is never the least of nothing; and the node's score is
-- what one of them comes to. What is a pairing and what is valid is the model's (Vote).
use Prim.Native.Nat.{ℕ, ◌+◌, ◌-◌, ◌*◌, ◌≤◌, max}
use native.Mathlib.Omega.{arith}
use Rattle.std.proofs.Math.Decide.{dec_le}
use Rattle.std.specs.Prelude.{◌≡◌, refl, Bool, true, false, not, ◌&&◌, List, [], ◌∷◌, ◌++◌, map, replicate, T, eqb}
use Rattle.std.proofs.Math.Path.{sym}
use Rattle.std.proofs.Common.{ap, ◌∙◌, inl, inr}
use Rattle.std.proofs.Math.Logic.{by_cases}
use Rattle.std.proofs.Math.Bool.{and_comm}
use mathlib.Core.List.Memᴰ
use Rattle.std.proofs.Math.ListN.{length, length-append, length-map}
use Rattle.lists.specs.Test.{bit, pk, and_l}
use Rattle.lists.specs.Sum.{◌∈◌, sum, sum_zero, sum_zeros, sum_append, sum_map, sum_length, sum_replicate, up_to, occ}
use Rattle.lists.specs.Keep.{keep, ∈_keep, sum_keep_add}
use Rattle.lists.specs.Least.{least_of_∈}
use Rattle.model.specs.Instance.{Side, deg}
use Rattle.model.specs.Vote.{Place, edge, empty, same, here, places, Pairing, pairings, faces, pair_faces_empty, empty_faces_pair, valid, places_at, valid_pairings}
use Rattle.theory_votes.specs.Score.{mark, score}
use Rattle.theory_votes.specs.Places.{times, left, right, here_deg, times_edge, times_empty, node_places}
use Rattle.theory_votes.specs.Fair.{faces_self, faces_apart, Fair, valid_fair, fair_valid}

-- ---- some edges against others, as far as they go; what is over on one side faces empty places
abbrev match : List ℕ → List ℕ → Pairing
match [] [] = []
match [] (y ∷ ys) = (empty, edge y) ∷ match [] ys
match (x ∷ xs) [] = (edge x, empty) ∷ match xs []
match (x ∷ xs) (y ∷ ys) = (edge x, edge y) ∷ match xs ys

record Sizes (xs ys : List ℕ) : Type 0 where
  size : length (match xs ys) ≡ max (length xs) (length ys)
  no_left : left empty (match xs ys) ≡ length ys - length xs
  no_right : right empty (match xs ys) ≡ length xs - length ys
  losses : sum (λ c. bit (pair_faces_empty c)) (match xs ys) ≡ length xs - length ys
  gains : sum (λ c. bit (empty_faces_pair c)) (match xs ys) ≡ length ys - length xs

sizes : (xs ys : List ℕ) → Sizes xs ys
sizes [] [] = record { size = refl; no_left = refl; no_right = refl; losses = refl; gains = refl }
sizes [] (y ∷ ys) = let t = sizes [] ys in omega arith
sizes (x ∷ xs) [] = let t = sizes xs [] in omega arith
sizes (x ∷ xs) (y ∷ ys) = let t = sizes xs ys in omega arith

match_edges : (e : ℕ) (xs ys : List ℕ) → (left (edge e) (match xs ys) ≡ occ e xs) × (right (edge e) (match xs ys) ≡ occ e ys)
match_edges e [] [] = (refl, refl)
match_edges e [] (y ∷ ys) = let t = match_edges e [] ys in omega arith
match_edges e (x ∷ xs) [] = let t = match_edges e xs [] in omega arith
match_edges e (x ∷ xs) (y ∷ ys) = let t = match_edges e xs ys in omega arith

module _ (M N : ℕ → Bool) where
  -- no edge of these is shared
  abbrev Own : List ℕ → Type 0
  Own xs = (e : ℕ) → e ∈ xs → (M e && N e) ≡ false

  own_tail : {x : ℕ} {xs : List ℕ} → Own (x ∷ xs) → Own xs
  own_tail h e m = h e (Memᴰ.tail m)

  match_own : (xs ys : List ℕ) → Own xs → Own ys → sum (λ c. bit (not (faces M N c))) (match xs ys) ≡ 0
  match_own [] [] h k = refl
  match_own [] (y ∷ ys) h k = omega (arith, match_own [] ys h (own_tail k), faces_apart M N empty (edge y) refl (k y (Memᴰ.head refl)))
  match_own (x ∷ xs) [] h k = omega (arith, match_own xs [] (own_tail h) k, faces_apart M N (edge x) empty (h x (Memᴰ.head refl)) refl)
  match_own (x ∷ xs) (y ∷ ys) h k = omega (
    arith,
    match_own xs ys (own_tail h) (own_tail k),
    faces_apart M N (edge x) (edge y) (h x (Memᴰ.head refl)) (k y (Memᴰ.head refl)),
  )

module _ (K : Side) (v : ℕ) where
  -- the edges at v that are in both sets, and those in A alone
  abbrev pub common : (ℕ → Bool) → (ℕ → Bool) → List ℕ
  common A B = keep (λ e. (A e && B e) && eqb (K.end e) v) (up_to K.m)

  -- the edges at v that A has and B lacks
  abbrev pub alone : (ℕ → Bool) → (ℕ → Bool) → List ℕ
  alone A B = keep (λ e. (A e && not (B e)) && eqb (K.end e) v) (up_to K.m)

  pub alone_own : (A B : ℕ → Bool) (e : ℕ) → e ∈ alone A B → (A e && B e) ≡ false
  alone_own A B e k = go (A e) (B e) (and_l (A e && not (B e)) (eqb (K.end e) v) (∈_keep (λ e. (A e && not (B e)) && eqb (K.end e) v) (up_to K.m) k).1)
    where
      go : (x y : Bool) → T (x && not y) → (x && y) ≡ false
      go true true t = absurd t
      go true false t = refl
      go false y t = refl

module _ (K : Side) (M N : ℕ → Bool) (v : ℕ) where
  -- M's edges at v are the common ones and its own, N's likewise
  pub parts : (g : ℕ → ℕ) → (sum g (common K v M N) + sum g (alone K v M N) ≡ sum g (here K M v))
      × (sum g (common K v M N) + sum g (alone K v N M) ≡ sum g (here K N v))
  parts g = (split M N (λ e. refl), split N M (λ e. and_comm (M e) (N e)))
    where
      one : (x y a : Bool) (n : ℕ) → pk ((x && y) && a) n + pk ((x && not y) && a) n ≡ pk (x && a) n
      one true true a n = omega arith
      one true false a n = omega arith
      one false y a n = omega arith

      split : (A B : ℕ → Bool) → ((e : ℕ) → (M e && N e) ≡ (A e && B e)) → sum g (common K v M N) + sum g (alone K v A B) ≡ sum g (here K A v)
      split A B h = sum_keep_add g (λ e. (M e && N e) && eqb (K.end e) v) (λ e. (A e && not (B e)) && eqb (K.end e) v)
          (λ e. A e && eqb (K.end e) v) (up_to K.m)
          (λ e n. ap (λ b. pk (b && eqb (K.end e) v) n + pk ((A e && not (B e)) && eqb (K.end e) v) n) (h e) ∙ one (A e) (B e) (eqb (K.end e) v) n)

  -- the common edges against themselves, the others as far as they go, then empty places
  base : Pairing
  base = map (λ e. (edge e, edge e)) (common K v M N) ++ match (alone K v M N) (alone K v N M)

  some : Pairing
  some = base ++ replicate (K.quota v - length base) (empty, empty)

  some_sum : (g : Place × Place → ℕ)
      → sum g some ≡ sum (λ e. g (edge e, edge e)) (common K v M N) + sum g (match (alone K v M N) (alone K v N M)) + (K.quota v - length base) * g
      (empty, empty)
  unfolding base some
  some_sum g = omega (
    arith,
    sum_append g base (replicate (K.quota v - length base) (empty, empty)),
    sum_append g (map (λ e. (edge e, edge e)) (common K v M N)) (match (alone K v M N) (alone K v N M)),
    sum_map g (λ e. (edge e, edge e)) (common K v M N),
    sum_replicate g (K.quota v - length base) (empty, empty),
  )

  base_length : length base ≡ length (common K v M N) + length (match (alone K v M N) (alone K v N M))
  unfolding base
  base_length = omega (
    arith,
    length-append (map (λ e. (edge e, edge e)) (common K v M N)) (match (alone K v M N) (alone K v N M)),
    length-map {B = Place × Place} (common K v M N) (λ e. (edge e, edge e)),
  )

  -- the common edges at v and those that M has alone are as many as M has there; likewise for N
  pub counts : (length (common K v M N) + length (alone K v M N) ≡ deg K M v) × (length (common K v M N) + length (alone K v N M) ≡ deg K N v)
  counts =
      let t = parts (λ e. 1) in
      let b = sum_length (common K v M N) in (
        omega (arith, sum_length (alone K v M N), sum_length (here K M v), here_deg K M v),
        omega
            (arith, sum_length (alone K v N M), sum_length (here K N v), here_deg K N v),
      )

  module _ (hM : deg K M v ≤ K.quota v) (hN : deg K N v ≤ K.quota v) where
    some_fair : Fair M N (places_at K M v) (places_at K N v) some
    some_fair = record {
      on_left = on_left;
      on_right = on_right;
      own = own;
      not_both = by_cases (dec_le (length (alone K v M N)) (length (alone K v N M))) (λ h. inl (loss h)) (λ h. inr (gain (omega arith)));
    }
      where
        sz : Sizes (alone K v M N) (alone K v N M)
        sz = sizes (alone K v M N) (alone K v N M)

        on_left : (a : Place) → times a (places_at K M v) ≡ left a some
        on_left (edge e) = omega (
          arith,
          some_sum (λ c. bit (same c.0 (edge e))),
          (match_edges e (alone K v M N) (alone K v N M)).0,
          times_edge (K.quota v) e (here K M v),
          (parts (λ x. bit (eqb x e))).0,
        )
        on_left empty = omega (
          arith,
          some_sum (λ c. bit (same c.0 empty)),
          sum_zero (common K v M N),
          sz.no_left,
          sz.size,
          base_length,
          counts,
          times_empty (K.quota v) (here K M v),
          here_deg K M v,
        )

        on_right : (a : Place) → times a (places_at K N v) ≡ right a some
        on_right (edge e) = omega (
          arith,
          some_sum (λ c. bit (same c.1 (edge e))),
          (match_edges e (alone K v M N) (alone K v N M)).1,
          times_edge (K.quota v) e (here K N v),
          (parts (λ x. bit (eqb x e))).1,
        )
        on_right empty = omega (
          arith,
          some_sum (λ c. bit (same c.1 empty)),
          sum_zero (common K v M N),
          sz.no_right,
          sz.size,
          base_length,
          counts,
          times_empty (K.quota v) (here K N v),
          here_deg K N v,
        )

        own : sum (λ c. bit (not (faces M N c))) some ≡ 0
        own = omega (
          arith,
          some_sum (λ c. bit (not (faces M N c))),
          sum_zeros (λ e. bit (not (faces M N (edge e, edge e)))) (common K v M N) (λ e k. faces_self M N e),
          match_own M N (alone K v M N) (alone K v N M) (alone_own K v M N) (λ e k. and_comm (M e) (N e) ∙ alone_own K v N M e k),
        )

        loss : length (alone K v M N) ≤ length (alone K v N M) → sum (λ c. bit (pair_faces_empty c)) some ≡ 0
        loss h = omega (arith, some_sum (λ c. bit (pair_faces_empty c)), sum_zero (common K v M N), sz.losses)

        gain : length (alone K v N M) ≤ length (alone K v M N) → sum (λ c. bit (empty_faces_pair c)) some ≡ 0
        gain h = omega (arith, some_sum (λ c. bit (empty_faces_pair c)), sum_zero (common K v M N), sz.gains)

    pub some_valid : (r : Pairing) × (r ∈ keep (valid M N) (pairings (places (K.quota v) (here K M v)) (places (K.quota v) (here K N v))))
    some_valid = let t = fair_valid M N (places_at K M v) (places_at K N v) some some_fair in (t.0, t.1)

    -- some pairing of the two sets' places at the node obeys the rules and comes to the node's score
    pub attained : (r : Pairing) × (r ∈ pairings (places_at K M v) (places_at K N v)) × Fair M N (places_at K M v) (places_at K N v) r
        × (score K M N v ≡ sum (mark K.rank) r)
    unfolding score
    attained =
        let total : Pairing → ℕ = sum (mark K.rank) in
        let (r, m, e) = Memᴰ.of_map total (valid_pairings K M N v) (least_of_∈ (map total (valid_pairings K M N v)) (Memᴰ.map total some_valid.1)) in
        let q = ∈_keep (valid M N) (pairings (places_at K M v) (places_at K N v)) m in
        (r, q.0, valid_fair M N (places_at K M v) (places_at K N v) r (node_places K M v hM ∙ sym (node_places K N v hN)) q.0 q.1, sym e)
