-- A list of couples, in any order, that has M's places on the left and N's on the right and obeys the two rules of a valid pairing
-- is as good as a valid pairing: the node's score is at most what its couples come to. `Fair` says it by counting; what is valid is
-- the model's (Vote).
use Rattle.std.specs.Prelude.{ℕ, ◌≤◌, ◌<◌, ◌≡◌, refl, ◌⊎◌, Bool, true, false, not, ◌&&◌, ◌||◌, List, [], ◌∷◌, map, length, T, eqb}
use native.Mathlib.Omega.{arith}
use Rattle.std.proofs.Common.{sym, ap, ◌∙◌, subst, inl, inr, eqb→eq}
use mathlib.Core.List.Memᴰ
use Rattle.lists.specs.Test.{bit, bit_pos, pk, true_t, false_t, by_bool, eqb_yes, and_l, and_r, and_i, nand_i, nand_ir, nand_r}
use Rattle.lists.specs.Sum.{◌∈◌, sum, sum_pos, sum_mem, up_to, occ}
use Rattle.lists.specs.Keep.{keep, keep_∈, all?, any?, zero_all, all_zero, zero_none, none_zero, remove, sum_remove, picks, remove_picks, ∈_gather}
use Rattle.lists.specs.Least.{least_of_≤}
use Rattle.lists.specs.Occur.{occ_<}
use Rattle.model.specs.Instance.{Side}
use Rattle.model.specs.Vote.{Place, edge, same, here, Pairing, pairings, shared, faces, pair_faces_empty, empty_faces_pair, valid, places_at, valid_pairings}
use Rattle.theory_votes.specs.Score.{mark, score}
use Rattle.theory_votes.specs.Places.{same→, same_refl, times, times_∈, left, right, here_occ, times_edge, pairing_left, pairing_right}

-- ---- the couples r, in the order of ps
record Reordered (ps qs : List Place) (r : Pairing) : Type 0 where
  to : Pairing
  is : to ∈ pairings ps qs
  sums : (g : Place × Place → ℕ) → sum g to ≡ sum g r

reorder : (ps qs : List Place) (r : Pairing) → ((a : Place) → times a ps ≡ left a r) → ((a : Place) → times a qs ≡ right a r) → Reordered ps qs r
reorder [] qs [] hl hr = record { to = []; is = Memᴰ.head refl; sums = λ g. refl }
reorder [] qs (c ∷ r) hl hr = absurd (omega (arith, hl c.0, same_refl c.0))
reorder (p ∷ ps) qs r hl hr = go (reorder ps) (sum_pos (λ c. bit (same c.0 p)) r (omega (arith, hl p, same_refl p)))
  where
    next : (c : Place × Place) (m : c ∈ r) (e : c.0 ≡ p) (k : c.1 ∈ qs) → Reordered ps (remove k) (remove m) → Reordered (p ∷ ps) qs r
    next c m e k t = record {
      to = (p, c.1) ∷ t.to;
      is = ∈_gather (λ k. map (λ r. (p, k.0) ∷ r) (pairings ps k.1)) (picks qs) (remove_picks k) (Memᴰ.map (λ r. (p, c.1) ∷ r) t.is);
      sums = λ g. omega (arith, t.sums g, sum_remove g m, ap (λ z. g (z, c.1)) e);
    }

    go : ((qs : List Place) (r : Pairing) → ((a : Place) → times a ps ≡ left a r) → ((a : Place) → times a qs ≡ right a r) → Reordered ps qs r)
        → (c : Place × Place) × (c ∈ r) × (0 < bit (same c.0 p)) → Reordered (p ∷ ps) qs r
    go ih (c, m, h) =
        let e : c.0 ≡ p = same→ c.0 p (bit_pos (same c.0 p) h) in
        let k : c.1 ∈ qs = times_∈ c.1 qs (omega (arith, hr c.1, sum_mem (λ d. bit (same d.1 c.1)) m, same_refl c.1)) in
        next c m e k (ih (remove k) (remove m)
        (λ a. omega (arith, hl a, sum_remove (λ d. bit (same d.0 a)) m, ap (λ z. bit (same z a)) e))
        (λ a. omega (arith, hr a, sum_remove (λ d. bit (same d.1 a)) m, sum_remove (λ d. bit (same d a)) k)))

-- ---- valid, by counting
-- an edge may face itself
pub faces_self : (M N : ℕ → Bool) (e : ℕ) → bit (not (faces M N (edge e, edge e))) ≡ 0
faces_self M N e = ap (λ b. bit (not (b || not (shared M N (edge e) || shared M N (edge e))))) (eqb_yes e e refl)

-- two places that are not shared may face each other
pub faces_apart : (M N : ℕ → Bool) (p q : Place) → shared M N p ≡ false → shared M N q ≡ false → bit (not (faces M N (p, q))) ≡ 0
faces_apart M N p q h k = go (same p q) (shared M N p) (shared M N q) h k
  where
    go : (s x y : Bool) → x ≡ false → y ≡ false → bit (not (s || not (x || y))) ≡ 0
    go true x y h k = refl
    go false true y h k = absurd (subst T h tt)
    go false false true h k = absurd (subst T k tt)
    go false false false h k = refl

abbrev pub NotBoth : Pairing → Type 0
NotBoth r = (sum (λ c. bit (pair_faces_empty c)) r ≡ 0) ⊎ (sum (λ c. bit (empty_faces_pair c)) r ≡ 0)

pub record Fair (M N : ℕ → Bool) (ps qs : List Place) (r : Pairing) : Type 0 where
  pub on_left : (a : Place) → times a ps ≡ left a r
  pub on_right : (a : Place) → times a qs ≡ right a r
  pub own : sum (λ c. bit (not (faces M N c))) r ≡ 0
  pub not_both : NotBoth r

module _ (M N : ℕ → Bool) (ps qs : List Place) (r : Pairing) where
  pub valid_fair : length ps ≡ length qs → r ∈ pairings ps qs → T (valid M N r) → Fair M N ps qs r
  valid_fair l m t = record {
    on_left = λ a. sym (pairing_left (λ p. bit (same p a)) ps qs r m);
    on_right = λ a. sym (pairing_right (λ p. bit (same p a)) ps qs r l m);
    own = all_zero (faces M N) r (and_l (all? (faces M N) r) (not (any? pair_faces_empty r && any? empty_faces_pair r)) t);
    not_both = by_bool (any? pair_faces_empty r)
        (λ e. inr (none_zero empty_faces_pair r
        (nand_r (any? pair_faces_empty r) (any? empty_faces_pair r)
        (and_r (all? (faces M N) r) (not (any? pair_faces_empty r && any? empty_faces_pair r)) t) (true_t e))))
        (λ e. inl (none_zero pair_faces_empty r (false_t e)));
  }

  pub fair_valid : Fair M N ps qs r → (t : Pairing) × (t ∈ keep (valid M N) (pairings ps qs)) × ((g : Place × Place → ℕ) → sum g t ≡ sum g r)
  fair_valid f = (t.to, keep_∈ (valid M N) (pairings ps qs) t.is ok, t.sums)
    where
      t : Reordered ps qs r
      t = reorder ps qs r f.on_left f.on_right

      apart : NotBoth r → T (not (any? pair_faces_empty t.to && any? empty_faces_pair t.to))
      apart (inl e) = nand_i (any? pair_faces_empty t.to) (any? empty_faces_pair t.to)
          (zero_none pair_faces_empty t.to (t.sums (λ c. bit (pair_faces_empty c)) ∙ e))
      apart (inr e) = nand_ir (any? pair_faces_empty t.to) (any? empty_faces_pair t.to)
          (zero_none empty_faces_pair t.to (t.sums (λ c. bit (empty_faces_pair c)) ∙ e))

      ok : T (valid M N t.to)
      ok = and_i (all? (faces M N) t.to) (not (any? pair_faces_empty t.to && any? empty_faces_pair t.to))
          (zero_all (faces M N) t.to (t.sums (λ c. bit (not (faces M N c))) ∙ f.own)) (apart f.not_both)

  pub fair_faces : Fair M N ps qs r → (c : Place × Place) → c ∈ r → T (faces M N c)
  fair_faces f c k = go (faces M N c) (omega (arith, f.own, sum_mem (λ c. bit (not (faces M N c))) k))
    where
      go : (b : Bool) → bit (not b) ≡ 0 → T b
      go true h = tt
      go false h = absurd (omega arith)

-- ---- at a node
-- an edge of the set lies there
abbrev pub Here : Side → ℕ → (ℕ → Bool) → ℕ → Type 0
Here K v S d = (S d ≡ true) × (K.end d ≡ v) × (d < K.m)

is_here : (K : Side) (v : ℕ) (S : ℕ → Bool) (d : ℕ) → 0 < pk (S d && eqb (K.end d) v) (occ d (up_to K.m)) → Here K v S d
is_here K v S d h = go (S d) (eqb (K.end d) v) (eqb→eq (K.end d) v) h
  where
    go : (x y : Bool) → (T y → K.end d ≡ v) → 0 < pk (x && y) (occ d (up_to K.m)) → (x ≡ true) × (K.end d ≡ v) × (d < K.m)
    go true true e h = (refl, e tt, occ_< K.m d h)
    go true false e h = absurd (omega arith)
    go false y e h = absurd (omega arith)

module _ (K : Side) (M N : ℕ → Bool) (v : ℕ) (r : Pairing) (f : Fair M N (places_at K M v) (places_at K N v) r) where
  -- the node's score is at most what the couples come to
  pub score_≤ : score K M N v ≤ sum (mark K.rank) r
  unfolding score
  score_≤ =
      let t = fair_valid M N (places_at K M v) (places_at K N v) r f in
      omega (
        arith,
        least_of_≤ (map (sum (mark K.rank)) (valid_pairings K M N v)) (sum (mark K.rank) t.0) (Memᴰ.map (sum (mark K.rank)) t.1),
        t.2 (mark K.rank),
      )

  pub fair_left : (e : ℕ) → left (edge e) r ≡ pk (M e && eqb (K.end e) v) (occ e (up_to K.m))
  fair_left e = sym (f.on_left (edge e)) ∙ times_edge (K.quota v) e (here K M v) ∙ here_occ K M v e

  pub fair_right : (e : ℕ) → right (edge e) r ≡ pk (N e && eqb (K.end e) v) (occ e (up_to K.m))
  fair_right e = sym (f.on_right (edge e)) ∙ times_edge (K.quota v) e (here K N v) ∙ here_occ K N v e

  -- on the left of a couple stand edges of M at the node, on the right edges of N
  pub left_here : (c : Place × Place) → c ∈ r → (d : ℕ) → c.0 ≡ edge d → Here K v M d
  left_here c k d e = is_here K v M d
      (omega (arith, fair_left d, sum_mem (λ b. bit (same b.0 (edge d))) k, ap (λ p. bit (same p (edge d))) e, same_refl (edge d)))

  -- an edge on the right of a couple is one of N at the node
  pub right_here : (c : Place × Place) → c ∈ r → (d : ℕ) → c.1 ≡ edge d → Here K v N d
  right_here c k d e = is_here K v N d
      (omega (arith, fair_right d, sum_mem (λ b. bit (same b.1 (edge d))) k, ap (λ p. bit (same p (edge d))) e, same_refl (edge d)))
