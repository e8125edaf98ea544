-- A node's places and their pairings (model, Vote), by counting: how often a place comes among a node's places, on the left and on the
-- right of some couples. Two lists of places are the same, in some order, if each place comes as often in both.
use Rattle.std.specs.Prelude.{ℕ, ◌+◌, ◌-◌, ◌≤◌, ◌<◌, ◌≡◌, refl, Bool, ◌&&◌, List, [], ◌∷◌, map, length, replicate, T}
use Rattle.std.proofs.Common.{arith, ◌∙◌, length-append, eqb→eq}
use Rattle.std.proofs.Math.Path.{sym, ap}
use mathlib.Core.List.Memᴰ
use Rattle.std.proofs.lemmas.List.{length-replicate, length-map}
use Rattle.std.proofs.Math.Dec.{eqb}
use Rattle.lists.specs.Test.{bit, bit_pk, bit_pos, pk, eqb_yes}
use Rattle.lists.specs.Sum.{◌∈◌, sum, sum_zero, sum_add, sum_append, sum_map, sum_cong, sum_pos, sum_length, sum_replicate, sum_swap, sum_one, up_to}
use Rattle.lists.specs.Sum.{up_to_<, occ, count}
use Rattle.lists.specs.Keep.{sum_keep, picks, picks_sum, gather_∈}
use Rattle.lists.specs.Occur.{occ_up_to, sum_at}
use Rattle.model.specs.Instance.{Side, deg}
use Rattle.model.specs.Vote.{Place, edge, empty, same, here, places, Pairing, pairings, places_at}

-- places that the test calls the same are equal
pub same→ : (p q : Place) → T (same p q) → p ≡ q
same→ (edge d) (edge e) t = ap edge (eqb→eq d e t)
same→ (edge d) empty t = absurd t
same→ empty (edge e) t = absurd t
same→ empty empty t = refl

-- a place is the same as itself to the test
pub same_refl : (p : Place) → bit (same p p) ≡ 1
same_refl (edge d) = ap bit (eqb_yes d d refl)
same_refl empty = refl

abbrev pub times : Place → List Place → ℕ
times a xs = sum (λ p. bit (same p a)) xs

pub times_∈ : (a : Place) (xs : List Place) → 0 < times a xs → a ∈ xs
times_∈ a xs h = let t = sum_pos (λ p. bit (same p a)) xs h in Memᴰ.cast (sym (same→ t.0 a (bit_pos (same t.0 a) t.2))) t.1

-- on the left, on the right of some couples
abbrev pub left : Place → Pairing → ℕ
left a r = sum (λ c. bit (same c.0 a)) r

abbrev pub right : Place → Pairing → ℕ
right a r = sum (λ c. bit (same c.1 a)) r

-- ---- every place is an edge's or empty
place_one : (m : ℕ) (p : Place) → ((d : ℕ) → p ≡ edge d → d < m) → sum (λ e. bit (same p (edge e))) (up_to m) + bit (same p empty) ≡ 1
place_one m (edge d) h = omega (arith, sum_cong (λ e. bit (eqb d e)) (λ e. pk (eqb d e) 1) (up_to m) (λ e k. bit_pk (eqb d e)), sum_one (λ u. 1) m d (h d refl))
place_one m empty h = omega (arith, sum_zero (up_to m))

-- whatever holds a place holds one edge or an empty place: counted edge by edge, with the empty ones, it is all of them
pub census : {A : Type 0} (m : ℕ) (f : A → Place) (xs : List A) → ((x : A) → x ∈ xs → (d : ℕ) → f x ≡ edge d → d < m)
    → sum (λ e. sum (λ x. bit (same (f x) (edge e))) xs) (up_to m) + sum (λ x. bit (same (f x) empty)) xs ≡ length xs
census m f xs h = omega (
  arith,
  sum_swap (λ e x. bit (same (f x) (edge e))) (up_to m) xs,
  sum_add (λ x. sum (λ e. bit (same (f x) (edge e))) (up_to m)) (λ x. bit (same (f x) empty)) xs,
  sum_cong (λ x. sum (λ e. bit (same (f x) (edge e))) (up_to m) + bit (same (f x) empty)) (λ x. 1) xs (λ x k. place_one m (f x) (h x k)),
  sum_length xs,
)

-- ---- the places of a node
module _ (K : Side) (M : ℕ → Bool) (v : ℕ) where
  pub here_occ : (e : ℕ) → occ e (here K M v) ≡ pk (M e && eqb (K.end e) v) (occ e (up_to K.m))
  here_occ e = sum_keep (λ d. bit (eqb d e)) (λ d. M d && eqb (K.end d) v) (up_to K.m) ∙ sum_at (λ d. M d && eqb (K.end d) v) e (up_to K.m)

  pub here_deg : length (here K M v) ≡ deg K M v
  unfolding deg count
  here_deg =
      sum_length (here K M v) ∙ sum_keep (λ d. 1) (λ d. M d && eqb (K.end d) v) (up_to K.m)
      ∙ sum_cong (λ d. pk (M d && eqb (K.end d) v) 1) (λ d. bit (M d && eqb (K.end d) v)) (up_to K.m) (λ d k. sym (bit_pk (M d && eqb (K.end d) v)))

  pub deg_occ : sum (λ e. pk (M e && eqb (K.end e) v) (occ e (up_to K.m))) (up_to K.m) ≡ deg K M v
  unfolding deg count
  deg_occ = sum_cong (λ e. pk (M e && eqb (K.end e) v) (occ e (up_to K.m))) (λ e. bit (M e && eqb (K.end e) v)) (up_to K.m)
      (λ e k. ap (λ z. pk (M e && eqb (K.end e) v) z) (occ_up_to K.m e (up_to_< K.m k)) ∙ sym (bit_pk (M e && eqb (K.end e) v)))

pub times_edge : (b e : ℕ) (es : List ℕ) → times (edge e) (places b es) ≡ occ e es
times_edge b e es = omega (
  arith,
  sum_append (λ p. bit (same p (edge e))) (map edge es) (replicate (b - length es) empty),
  sum_map (λ p. bit (same p (edge e))) edge es,
  sum_replicate (λ p. bit (same p (edge e))) (b - length es) empty,
)

pub times_empty : (b : ℕ) (es : List ℕ) → times empty (places b es) ≡ b - length es
times_empty b es = omega (
  arith,
  sum_append (λ p. bit (same p empty)) (map edge es) (replicate (b - length es) empty),
  sum_map (λ p. bit (same p empty)) edge es,
  sum_replicate (λ p. bit (same p empty)) (b - length es) empty,
  sum_zero es,
)

places_length : (b : ℕ) (es : List ℕ) → length es ≤ b → length (places b es) ≡ b
places_length b es h = omega (arith, length-append (map edge es) (replicate (b - length es) empty), length-map es edge, length-replicate (b - length es) empty)

pub node_places : (K : Side) (M : ℕ → Bool) (v : ℕ) → deg K M v ≤ K.quota v → length (places_at K M v) ≡ K.quota v
node_places K M v h = places_length (K.quota v) (here K M v) (omega (arith, here_deg K M v))

-- ---- the two columns of a pairing
pub pairing_left : (φ : Place → ℕ) (ps qs : List Place) (r : Pairing) → r ∈ pairings ps qs → sum (λ c. φ c.0) r ≡ sum φ ps
pairing_left φ [] qs r (Memᴰ.head e) = ap (λ r. sum (λ c. φ c.0) r) e
pairing_left φ [] qs r (Memᴰ.tail m) = absurd (Memᴰ.not-nil m)
pairing_left φ (p ∷ ps) qs r m =
    let t = gather_∈ (λ k. map (λ r. (p, k.0) ∷ r) (pairings ps k.1)) (picks qs) m in
    let u = Memᴰ.of_map (λ r. (p, t.0.0) ∷ r) (pairings ps t.0.1) t.2 in
    omega (arith, ap (λ r. sum (λ c. φ c.0) r) u.2, pairing_left φ ps t.0.1 u.0 u.1)

pub pairing_right : (ψ : Place → ℕ) (ps qs : List Place) (r : Pairing) → length ps ≡ length qs → r ∈ pairings ps qs → sum (λ c. ψ c.1) r ≡ sum ψ qs
pairing_right ψ [] [] r l (Memᴰ.head e) = ap (λ r. sum (λ c. ψ c.1) r) e
pairing_right ψ [] [] r l (Memᴰ.tail m) = absurd (Memᴰ.not-nil m)
pairing_right ψ [] (q ∷ qs) r l m = absurd (omega arith)
pairing_right ψ (p ∷ ps) qs r l m =
    let t = gather_∈ (λ k. map (λ r. (p, k.0) ∷ r) (pairings ps k.1)) (picks qs) m in
    let u = Memᴰ.of_map (λ r. (p, t.0.0) ∷ r) (pairings ps t.0.1) t.2 in
    omega (
      arith,
      ap (λ r. sum (λ c. ψ c.1) r) u.2,
      picks_sum ψ qs t.0 t.1,
      pairing_right ψ ps t.0.1 u.0 (omega (arith, picks_sum (λ q. 1) qs t.0 t.1, sum_length qs, sum_length t.0.1)) u.1,
    )

pub pairing_right_≤ : (ψ : Place → ℕ) (ps qs : List Place) (r : Pairing) → r ∈ pairings ps qs → sum (λ c. ψ c.1) r ≤ sum ψ qs
pairing_right_≤ ψ [] qs r (Memᴰ.head e) = omega (arith, ap (λ r. sum (λ c. ψ c.1) r) e)
pairing_right_≤ ψ [] qs r (Memᴰ.tail m) = absurd (Memᴰ.not-nil m)
pairing_right_≤ ψ (p ∷ ps) qs r m =
    let t = gather_∈ (λ k. map (λ r. (p, k.0) ∷ r) (pairings ps k.1)) (picks qs) m in
    let u = Memᴰ.of_map (λ r. (p, t.0.0) ∷ r) (pairings ps t.0.1) t.2 in
    omega (arith, ap (λ r. sum (λ c. ψ c.1) r) u.2, picks_sum ψ qs t.0 t.1, pairing_right_≤ ψ ps t.0.1 u.0 u.1)

-- as many couples as places
pub pairing_length : (ps qs : List Place) (r : Pairing) → r ∈ pairings ps qs → sum (λ c. 1) r ≡ length ps
pairing_length ps qs r m = pairing_left (λ p. 1) ps qs r m ∙ sym (sum_length ps)
