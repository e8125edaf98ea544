-- The theorems that rest on specs/PairingPairs.antt. They stand here so that a wrong definition there is refused by a proof.
use Rattle.std.specs.Prelude.{ℕ, ◌+◌, ◌-◌, ◌*◌, ◌≤◌, ◌<◌, ◌≡◌, Bool, not, List, [], ◌∷◌, map, replicate}
use native.Mathlib.Omega.{arith}
use Rattle.std.proofs.Math.Path.{refl, sym, ap}
use Rattle.std.proofs.Common.{ap₂, ◌∙◌, subst, inl, inr}
use Rattle.std.proofs.Math.Bool.{true, false, ◌&&◌, and_comm}
use Rattle.std.proofs.Math.ListN.{length}
use Rattle.std.proofs.Math.Dec.{T, eqb}
use Rattle.lists.specs.Test.{bit, pk}
use Rattle.lists.specs.Sum.{◌∈◌, sum, sum_add, sum_append, sum_map, sum_cong, sum_length, sum_replicate, up_to}
use Rattle.lists.specs.Keep.{keep, sum_keep}
use Rattle.model.specs.Limits.{empty_rank}
use Rattle.model.specs.Instance.{Side, deg}
use Rattle.model.specs.Vote.{Place, edge, empty, same, place_rank, here, places_at, Pairing, pairings, pair_faces_empty, empty_faces_pair}
use Rattle.model.specs.Facing.{rank_pair}
use Rattle.theory_votes.specs.Places.{times_empty, here_deg, pairing_left, pairing_right, node_places}
use Rattle.theory_votes.specs.Fair.{Fair, NotBoth}
use Rattle.theory_votes.specs.Attained.{common, alone, counts}
use Rattle.theory_votes.specs.Couples.{Kind, shares, swaps, loses, gets, void, kind}
use Rattle.theory_votes.specs.Rotation.{Columns}
use Rattle.theory_votes.specs.NodeByRotation.{fill, fill_sum, unshared, both_empty, empty_left, empty_right, unshared_sum, most}
use Rattle.theory_votes.specs.PairingPairs.{fixed, fixed_sum, plain, u}

many : {A : Type 0} (b : A → Bool) (n : ℕ) (xs : List A) → sum (λ x. pk (b x) n) xs ≡ sum (λ x. bit (b x)) xs * n
many b n [] = omega arith
many b n (x ∷ xs) = go (b x) (many b n xs)
  where
    go : (t : Bool) → sum (λ x. pk (b x) n) xs ≡ sum (λ x. bit (b x)) xs * n → pk t n + sum (λ x. pk (b x) n) xs ≡ (bit t + sum (λ x. bit (b x)) xs) * n
    go true ih = omega arith
    go false ih = omega arith

and_false : (a b : Bool) → b ≡ false → (a && b) ≡ false
and_false true b e = e
and_false false b e = refl

module _ (K : Side) (M N : ℕ → Bool) (v : ℕ) where
  abbrev pairs_of : Pairing → List (ℕ × ℕ)
  pairs_of r = map (rank_pair K.rank) r

  abbrev k : ℕ
  k = most K M N v

  abbrev d : ℕ
  d = K.quota v - (length (common K v M N) + k)

  void? : Place × Place → Bool
  void? c = same c.0 empty && same c.1 empty

  module _ (placed : (e : ℕ) → e < K.m → K.rank e < empty_rank) (hM : deg K M v ≤ K.quota v) (hN : deg K N v ≤ K.quota v) where
    module _ (r : Pairing) (m : r ∈ pairings (places_at K M v) (places_at K N v)) (f : Fair M N (places_at K M v) (places_at K N v) r) where
      -- how many couples of each kind of empty place
      kinds : (sum (λ c. bit (void? c)) r ≡ d) × (sum (λ c. bit (empty_faces_pair c)) r ≡ k - length (alone K v M N))
          × (sum (λ c. bit (pair_faces_empty c)) r ≡ k - length (alone K v N M))
      unfolding void? most both_empty
      kinds = go f.not_both
        where
          on_left : sum (λ c. bit (same c.0 empty && same c.1 empty)) r + sum (λ c. bit (empty_faces_pair c)) r ≡ K.quota v - deg K M v
          on_left = omega (
            arith,
            sum_cong (λ c. bit (same c.0 empty)) (λ c. both_empty K M N v c + bit (empty_faces_pair c)) r (λ c i. empty_left K M N v c),
            sum_add (both_empty K M N v) (λ c. bit (empty_faces_pair c)) r,
            f.on_left empty,
            times_empty (K.quota v) (here K M v),
            here_deg K M v,
          )

          on_right : sum (λ c. bit (same c.0 empty && same c.1 empty)) r + sum (λ c. bit (pair_faces_empty c)) r ≡ K.quota v - deg K N v
          on_right = omega (
            arith,
            sum_cong (λ c. bit (same c.1 empty)) (λ c. both_empty K M N v c + bit (pair_faces_empty c)) r (λ c i. empty_right K M N v c),
            sum_add (both_empty K M N v) (λ c. bit (pair_faces_empty c)) r,
            f.on_right empty,
            times_empty (K.quota v) (here K N v),
            here_deg K N v,
          )

          go : NotBoth r
              → (sum (λ c. bit (same c.0 empty && same c.1 empty)) r ≡ d) × (sum (λ c. bit (empty_faces_pair c)) r ≡ k - length (alone K v M N))
              × (sum (λ c. bit (pair_faces_empty c)) r ≡ k - length (alone K v N M))
          go (inl z) = (
            omega (arith, on_left, on_right, counts K M N v),
            omega (arith, on_left, on_right, counts K M N v),
            omega
                (arith, on_left, on_right, counts K M N v),
          )
          go (inr z) = (
            omega (arith, on_left, on_right, counts K M N v),
            omega (arith, on_left, on_right, counts K M N v),
            omega
                (arith, on_left, on_right, counts K M N v),
          )

      kind_of : (c : Place × Place) → c ∈ r → Kind M N c
      kind_of = kind K M N v r f

      -- a shared edge on the left, with what belongs to it
      twin : (ℕ × ℕ → ℕ) → Place → ℕ
      twin φ (edge e) = pk (M e && N e) (φ (K.rank e, K.rank e))
      twin φ empty = 0

      yes_shared : (b : Bool) (x y : ℕ) → b ≡ true → x ≡ y → x ≡ pk (not b && true) x + (pk b y + 0)
      yes_shared true x y e h = omega arith
      yes_shared false x y e h = absurd (subst T (sym e) tt)

      not_shared : (b : Bool) (x y : ℕ) → b ≡ false → x ≡ pk (not b && true) x + (pk b y + 0)
      not_shared true x y e = absurd (subst T e tt)
      not_shared false x y e = omega arith

      one : (φ : ℕ × ℕ → ℕ) (c : Place × Place) → Kind M N c
          → φ (rank_pair K.rank c) ≡ pk (plain K M N v c) (φ (rank_pair K.rank c)) + (twin φ c.0 + pk (void? c) (φ (empty_rank, empty_rank)))
      unfolding plain void? twin
      one φ c (shares {d = a} {f = b} p mf nd) = yes_shared (M a && N a) (φ (K.rank a, K.rank b)) (φ (K.rank a, K.rank a)) (ap₂ ◌&&◌ (ap M p ∙ mf) nd)
          (ap (λ z. φ (K.rank a, K.rank z)) (sym p))
      one φ c (swaps {d = a} {f = b} mf nd) = not_shared (M a && N a) (φ (K.rank a, K.rank b)) (φ (K.rank a, K.rank a)) (and_false (M a) (N a) nd)
      one φ c (loses {d = a} nd) = not_shared (M a && N a) (φ (K.rank a, empty_rank)) (φ (K.rank a, K.rank a)) (and_false (M a) (N a) nd)
      one φ c (gets {f = b} mf) = omega arith
      one φ c void = omega arith

      twins : (φ : ℕ × ℕ → ℕ) → sum (λ c. twin φ c.0) r ≡ sum (λ e. φ (K.rank e, K.rank e)) (common K v M N)
      unfolding twin
      twins φ = omega (
        arith,
        pairing_left (twin φ) (places_at K M v) (places_at K N v) r m,
        sum_append (twin φ) (map edge (here K M v)) (replicate (K.quota v - length (here K M v)) empty),
        sum_map (twin φ) edge (here K M v),
        sum_replicate (twin φ) (K.quota v - length (here K M v)) empty,
        sum_keep (λ e. pk (M e && N e) (φ (K.rank e, K.rank e))) (λ e. M e && eqb (K.end e) v) (up_to K.m),
        sum_keep (λ e. φ (K.rank e, K.rank e)) (λ e. (M e && N e) && eqb (K.end e) v) (up_to K.m),
        sum_cong (λ e. pk (M e && eqb (K.end e) v) (pk (M e && N e) (φ (K.rank e, K.rank e))))
            (λ e. pk ((M e && N e) && eqb (K.end e) v) (φ (K.rank e, K.rank e))) (up_to K.m)
            (λ e i. both (M e) (N e) (eqb (K.end e) v) (φ (K.rank e, K.rank e))),
      )
        where
          both : (x y a : Bool) (n : ℕ) → pk (x && a) (pk (x && y) n) ≡ pk ((x && y) && a) n
          both true true true n = refl
          both true true false n = refl
          both true false true n = refl
          both true false false n = refl
          both false y a n = refl

      -- its pairs: the fixed ones and those of u
      pub split : (φ : ℕ × ℕ → ℕ) → sum φ (pairs_of r) ≡ sum φ (fixed K M N v) + sum φ (u K M N v placed hM hN r m f)
      unfolding u
      split φ = omega (
        arith,
        sum_map φ (rank_pair K.rank) r,
        sum_map φ (rank_pair K.rank) (keep (plain K M N v) r),
        sum_keep (λ c. φ (rank_pair K.rank c)) (plain K M N v) r,
        sum_cong (λ c. φ (rank_pair K.rank c)) (λ c. pk (plain K M N v c) (φ (rank_pair K.rank c)) + (twin φ c.0 + pk (void? c) (φ (empty_rank, empty_rank))))
            r (λ c i. one φ c (kind_of c i)),
        sum_add (λ c. pk (plain K M N v c) (φ (rank_pair K.rank c))) (λ c. twin φ c.0 + pk (void? c) (φ (empty_rank, empty_rank))) r,
        sum_add (λ c. twin φ c.0) (λ c. pk (void? c) (φ (empty_rank, empty_rank))) r,
        twins φ,
        many void? (φ (empty_rank, empty_rank)) r,
        ap (λ n. n * φ (empty_rank, empty_rank)) kinds.0,
        (fixed_sum K M N v) φ,
      )

      -- ---- the columns of u
      module _ (xs ys : List ℕ) (hx : (φ : ℕ → ℕ) → sum φ xs ≡ sum (λ e. φ (K.rank e)) (alone K v M N))
          (hy : (φ : ℕ → ℕ) → sum φ ys ≡ sum (λ e. φ (K.rank e)) (alone K v N M)) where
        keeps : (b : Bool) (x y : ℕ) → x ≡ y → pk (not b && true) x ≡ pk (not b) y + 0
        keeps true x y h = refl
        keeps false x y h = omega arith

        left_one : (φ : ℕ → ℕ) (c : Place × Place) → Kind M N c
            → pk (plain K M N v c) (φ (place_rank K.rank c.0)) ≡ unshared K M N v φ c.0 + pk (empty_faces_pair c) (φ empty_rank)
        unfolding plain unshared
        left_one φ c (shares {d = a} {f = b} p mf nd) = keeps (M a && N a) (φ (K.rank a)) (φ (K.rank a)) refl
        left_one φ c (swaps {d = a} {f = b} mf nd) = keeps (M a && N a) (φ (K.rank a)) (φ (K.rank a)) refl
        left_one φ c (loses {d = a} nd) = keeps (M a && N a) (φ (K.rank a)) (φ (K.rank a)) refl
        left_one φ c (gets {f = b} mf) = omega arith
        left_one φ c void = refl

        -- a shared edge is shared on both sides; an edge that is not faces one that is not
        right_same : (b e : Bool) (x : ℕ) → b ≡ e → pk (not b && true) x ≡ pk (not e) x + 0
        right_same true true x h = refl
        right_same true false x h = absurd (subst T h tt)
        right_same false true x h = absurd (subst T (sym h) tt)
        right_same false false x h = omega arith

        right_one : (φ : ℕ → ℕ) (c : Place × Place) → Kind M N c
            → pk (plain K M N v c) (φ (place_rank K.rank c.1)) ≡ unshared K M N v φ c.1 + pk (pair_faces_empty c) (φ empty_rank)
        unfolding plain unshared
        right_one φ c (shares {d = a} {f = b} p mf nd) = right_same (M a && N a) (M b && N b) (φ (K.rank b)) (ap (λ z. M z && N z) p)
        right_one φ c (swaps {d = a} {f = b} mf nd) = right_same (M a && N a) (M b && N b) (φ (K.rank b))
            (and_false (M a) (N a) nd ∙ sym (and_comm (M b) (N b) ∙ and_false (N b) (M b) mf))
        right_one φ c (loses {d = a} nd) = lone (M a && N a) (φ empty_rank) (and_false (M a) (N a) nd)
          where
            lone : (b : Bool) (x : ℕ) → b ≡ false → pk (not b && true) x ≡ 0 + x
            lone true x h = absurd (subst T h tt)
            lone false x h = omega arith
        right_one φ c (gets {f = b} mf) = free (M b && N b) (φ (K.rank b)) (and_comm (M b) (N b) ∙ and_false (N b) (M b) mf)
          where
            free : (e : Bool) (x : ℕ) → e ≡ false → x ≡ pk (not e) x + 0
            free true x h = absurd (subst T h tt)
            free false x h = omega arith
        right_one φ c void = refl

        sizes : (length xs ≡ length (alone K v M N)) × (length ys ≡ length (alone K v N M))
        sizes = (omega (arith, hx (λ a. 1), sum_length xs, sum_length (alone K v M N)), omega (arith, hy (λ a. 1), sum_length ys, sum_length (alone K v N M)))

        pub columns : Columns (λ a. a) (fill k xs) (fill k ys) (u K M N v placed hM hN r m f)
        unfolding u
        columns = record {
          on_left = λ φ. omega (
            arith,
            sum_map (λ c. φ c.0) (rank_pair K.rank) (keep (plain K M N v) r),
            sum_keep (λ c. φ (place_rank K.rank c.0)) (plain K M N v) r,
            sum_cong (λ c. pk (plain K M N v c) (φ (place_rank K.rank c.0))) (λ c. unshared K M N v φ c.0 + pk (empty_faces_pair c) (φ empty_rank)) r
                (λ c i. left_one φ c (kind_of c i)),
            sum_add (λ c. unshared K M N v φ c.0) (λ c. pk (empty_faces_pair c) (φ empty_rank)) r,
            pairing_left (unshared K M N v φ) (places_at K M v) (places_at K N v) r m,
            unshared_sum K M N v M N (λ e. refl) φ,
            many empty_faces_pair (φ empty_rank) r,
            ap (λ n. n * φ empty_rank) kinds.1,
            hx φ,
            fill_sum φ k xs,
            ap (λ n. (k - n) * φ empty_rank) sizes.0,
          );
          on_right = λ φ. omega (
            arith,
            sum_map (λ c. φ c.1) (rank_pair K.rank) (keep (plain K M N v) r),
            sum_keep (λ c. φ (place_rank K.rank c.1)) (plain K M N v) r,
            sum_cong (λ c. pk (plain K M N v c) (φ (place_rank K.rank c.1))) (λ c. unshared K M N v φ c.1 + pk (pair_faces_empty c) (φ empty_rank)) r
                (λ c i. right_one φ c (kind_of c i)),
            sum_add (λ c. unshared K M N v φ c.1) (λ c. pk (pair_faces_empty c) (φ empty_rank)) r,
            pairing_right (unshared K M N v φ) (places_at K M v) (places_at K N v) r (node_places K M v hM ∙ sym (node_places K N v hN)) m,
            unshared_sum K M N v N M (λ e. and_comm (M e) (N e)) φ,
            many pair_faces_empty (φ empty_rank) r,
            ap (λ n. n * φ empty_rank) kinds.2,
            hy φ,
            fill_sum φ k ys,
            ap (λ n. (k - n) * φ empty_rank) sizes.1,
          );
        }
