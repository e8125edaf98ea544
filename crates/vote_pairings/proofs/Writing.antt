-- What a turn of each loop writes. Assumes nothing.
use Prim.Native.Nat.{ℕ, ◌+◌, ◌*◌, ◌/◌, ◌%◌, ◌≤◌, ◌<◌, zero-le}
use native.Mathlib.Omega.{arith}
use native.Mathlib.Numerals.{add-one}
use mathlib.Core.Path.{◌≡◌, refl, sym, ap, ap₂, ◌∙◌}
use mathlib.Core.List.{List, [], ◌∷◌}
use lib.ListN.{length, get_or, set, take}
use lib.Seq.{length-take-le}
use Rattle.lists.specs.Sum.{sum, up_to}
use Rattle.arrays.specs.ArrayInstance.{at}
use Rattle.theory_votes.specs.Keys.{key_bytes}
use Rattle.vote_own_ranks.specs.declared.Ranked.{Ranked}
use Rattle.vote_pairings.specs.SideBytes.{written, written_none, written_length, written_more, written_two, key_bytes_length, key_bytes_next}
use Rattle.vote_pairings.specs.SideBytes.{node_out, side_out, NodeReady, side_none, side_next, node_length, side_length, sum_part}

-- ---- one pair more
module _ (out₀ keys : List ℕ) (from i : ℕ) (more : i < length keys) (room : from + 2 * i + 2 ≤ length out₀) (out : List ℕ)
    (e : out ≡ written from (key_bytes (take i keys)) out₀) where
  so_far : length (key_bytes (take i keys)) ≡ 2 * i
  so_far = key_bytes_length (take i keys) ∙ ap (λ n. 2 * n) (length-take-le i keys (omega arith))

  pub pair_length : length out ≡ length out₀
  pair_length = ap length e ∙ written_length from (key_bytes (take i keys)) out₀ (omega (arith, so_far))

  pub pair_next : set (set out (from + 2 * i) (get_or keys i 0 / 64)) (from + 2 * i + 1) (get_or keys i 0 % 64) ≡ written from (key_bytes (take (i + 1) keys)) out₀
  pair_next =
      let two = get_or keys i 0 / 64 ∷ get_or keys i 0 % 64 ∷ [] in
      written_two (from + 2 * i) (get_or keys i 0 / 64) (get_or keys i 0 % 64) out (omega (arith, pair_length))
      ∙ ap₂ (λ n d. written (from + n) two d) (sym so_far) e
      ∙ written_more from (key_bytes (take i keys)) two out₀ (omega (arith, so_far))
      ∙ ap (λ bs. written from bs out₀) (sym (key_bytes_next keys i more))

-- ---- one node more
module _ (n : ℕ) (a b shared : List Ranked) (quota out₀ : List ℕ) (from : ℕ) where
  abbrev place : ℕ → ℕ
  place v = from + 2 * sum (at quota) (up_to v)

  pub record Writing (out : List ℕ) (p v : ℕ) : Type 0 where
    pub low : v ≤ n
    pub behind : p ≡ place v
    pub are : out ≡ written from (side_out a b shared quota v) out₀
    pub size : length out ≡ length out₀

  pub writing_first : Writing out₀ from 0
  writing_first = record {
    low = zero-le;
    behind = omega arith;
    are = sym (ap (λ bs. written from bs out₀) (side_none a b shared quota) ∙ written_none from out₀);
    size = refl;
  }

  module _ (R : (v : ℕ) → v < n → NodeReady a b shared quota v) (room : from + 2 * sum (at quota) (up_to n) ≤ length out₀)
      (out : List ℕ) (p v : ℕ) (G : Writing out p v) (more : v < n) where
    place_next : p + 2 * at quota v ≡ place (v + 1)
    place_next = omega (arith, G.behind, ap (λ k. sum (at quota) (up_to k)) (add-one v))

    part : sum (at quota) (up_to (v + 1)) ≤ sum (at quota) (up_to n)
    part = sum_part (at quota) (v + 1) n (omega arith)

    pub place_room : p + 2 * at quota v ≤ length out
    place_room = omega (arith, place_next, part, G.size)

    pub writing_next : (out' : List ℕ) → out' ≡ written p (node_out a b shared quota v) out → Writing out' (p + 2 * at quota v) (v + 1)
    writing_next out' e =
        let long = side_length a b shared quota n v R G.low in
        let many = node_length a b shared quota v (R v more) in
        let there : p ≡ from + length (side_out a b shared quota v) = omega (arith, G.behind, long) in
        record {
          low = omega arith;
          behind = place_next;
          are = e ∙ ap₂ (λ k d. written k (node_out a b shared quota v) d) there G.are
              ∙ written_more from (side_out a b shared quota v) (node_out a b shared quota v) out₀ (omega (arith, long, many, place_next, G.behind, part))
              ∙ ap (λ bs. written from bs out₀) (sym (side_next a b shared quota v));
          size = ap length e ∙ written_length p (node_out a b shared quota v) out (omega (arith, many, place_room)) ∙ G.size;
        }
