-- A roster has no more edges than its surveyors' lists have entries, so within the limits at most 1,024: each entry is the pair of one
-- stand and one shift.
use Rattle.std.specs.Prelude.{ℕ, zero, suc, ◌+◌, ◌≤◌, ◌≡◌, refl, Bool, true, false, cond, ◌&&◌, ◌||◌, List, [], ◌∷◌, map, length, get_or, T, eqb}
use Rattle.std.proofs.Common.{arith, sym, ap, ◌∙◌, eqb→eq, leb→le}
use Rattle.std.proofs.Math.Nat.{suc_inj}
use Rattle.std.proofs.lemmas.List.{length-map}
use Rattle.lists.specs.Test.{given, by-test, bit, bit_yes, bit_no}
use Rattle.lists.specs.Sum.{sum, sum_add, sum_cong, sum_mono, sum_zeros, sum_length, sum_map, sum_range, sum_places, up_to, up_to_<, range, ∈_range}
use Rattle.lists.specs.Keep.{gather, sum_gather}
use Rattle.lists.specs.Ranges.{map_at}
use Rattle.model.specs.Limits.{entry_limit}
use Rattle.model.specs.Roster.{Entry, Roster, surveyor_count, stand_count, list_s, same, has, shifts, listed, total_s, fits}
use Rattle.model.specs.Edges.{Edge, pair_edge, edges_of}
use Rattle.theory_files.specs.Rosters.{fits_parts}

-- at most one number of a row meets a test that tells numbers apart
at_most_one : (p : ℕ → Bool) → ((j k : ℕ) → T (p j) → T (p k) → j ≡ k) → (i n : ℕ) → sum (λ k. bit (p k)) (range i n) ≤ 1
at_most_one p h i zero = omega arith
at_most_one p h i (suc n) = by-test (p i)
    (λ t. omega (
      arith,
      bit_yes (p i) t,
      sum_zeros (λ k. bit (p k)) (range (suc i) n) (λ k m. by-test (p k)
          (λ u. given (∈_range n (suc i) m).0 (λ l. absurd (omega (arith, h i k t u))))
          (λ u. bit_no (p k) u)),
    ))
    (λ t. omega (arith, bit_no (p i) t, at_most_one p h (suc i) n))

abbrev entry : ℕ → ℕ → Entry
entry j k = record { number = suc j; shift = k }

-- an entry is the pair of one stand and one shift
one_shift : (a : Bool) (b : ℕ) → sum (λ k. bit (a && eqb k b)) shifts ≤ bit a
one_shift true b = at_most_one (λ k. eqb k b) (λ j k t u. eqb→eq j b t ∙ sym (eqb→eq k b u)) 1 3
one_shift false b = omega arith

one_cell : (y : Entry) (n : ℕ) → sum (λ j. sum (λ k. bit (same (entry j k) y)) shifts) (range 0 n) ≤ 1
one_cell y n = omega (
  arith,
  sum_mono (λ j. sum (λ k. bit (same (entry j k) y)) shifts) (λ j. bit (eqb (suc j) y.number)) (range 0 n)
      (λ j m. one_shift (eqb (suc j) y.number) y.shift),
  at_most_one (λ j. eqb (suc j) y.number)
      (λ j k t u. suc_inj (eqb→eq (suc j) y.number t ∙ sym (eqb→eq (suc k) y.number u))) 0 n,
)

-- so a list is met at no more pairs than it has entries
pairs_few : (xs : List Entry) (n : ℕ) → sum (λ j. sum (λ k. bit (has (entry j k) xs)) shifts) (range 0 n) ≤ length xs
pairs_few [] n = omega (arith, sum_zeros (λ j. sum (λ k. bit (has (entry j k) [])) shifts) (range 0 n) (λ j m. refl))
pairs_few (y ∷ xs) n = omega (
  arith,
  one_cell y n,
  pairs_few xs n,
  sum_add (λ j. sum (λ k. bit (same (entry j k) y)) shifts) (λ j. sum (λ k. bit (has (entry j k) xs)) shifts) (range 0 n),
  sum_mono (λ j. sum (λ k. bit (has (entry j k) (y ∷ xs))) shifts)
      (λ j. sum (λ k. bit (same (entry j k) y)) shifts + sum (λ k. bit (has (entry j k) xs)) shifts) (range 0 n)
      (λ j m. omega (
        arith,
        sum_mono (λ k. bit (has (entry j k) (y ∷ xs))) (λ k. bit (same (entry j k) y) + bit (has (entry j k) xs)) shifts
            (λ k l. either (same (entry j k) y) (has (entry j k) xs)),
        sum_add (λ k. bit (same (entry j k) y)) (λ k. bit (has (entry j k) xs)) shifts,
      )),
)
  where
    either : (a b : Bool) → bit (a || b) ≤ bit a + bit b
    either true b = omega arith
    either false b = omega arith

-- a sum over a list, place by place
pub sum_by_place : {A : Type 0} (f : A → ℕ) (a : A) (xs : List A) → sum (λ i. f (get_or xs i a)) (up_to (length xs)) ≡ sum f xs
sum_by_place f a xs =
    sum_cong (λ i. f (get_or xs i a)) (λ i. get_or (map f xs) i 0) (up_to (length xs)) (λ i m. sym (map_at f xs i a 0 (up_to_< (length xs) m)))
    ∙ ap (λ n. sum (λ i. get_or (map f xs) i 0) (up_to n)) (sym (length-map xs f))
    ∙ sum_places (map f xs)
    ∙ sum_map (λ n. n) f xs

module _ (r : Roster) where
  abbrev ns : ℕ
  ns = surveyor_count r

  abbrev nt : ℕ
  nt = stand_count r

  abbrev one : ℕ → ℕ → ℕ → List Edge
  one i j k = cond (listed r i j k) (pair_edge r i j k ∷ []) []

  one_bit : (b : Bool) (e : Edge) → sum (λ e. 1) (cond b (e ∷ []) []) ≡ bit b
  one_bit true e = refl
  one_bit false e = refl

  edge_count : length (edges_of r) ≡ sum (λ i. sum (λ j. sum (λ k. bit (listed r i j k)) shifts) (range 0 nt)) (range 0 ns)
  unfolding edges_of
  edge_count =
      sum_length (gather (λ i. gather (λ j. gather (one i j) shifts) (range 0 nt)) (range 0 ns))
      ∙ sum_gather (λ e. 1) (λ i. gather (λ j. gather (one i j) shifts) (range 0 nt)) (range 0 ns)
      ∙ sum_cong (λ i. sum (λ e. 1) (gather (λ j. gather (one i j) shifts) (range 0 nt)))
      (λ i. sum (λ j. sum (λ k. bit (listed r i j k)) shifts) (range 0 nt)) (range 0 ns) (λ i m.
      sum_gather (λ e. 1) (λ j. gather (one i j) shifts) (range 0 nt)
      ∙ sum_cong (λ j. sum (λ e. 1) (gather (one i j) shifts)) (λ j. sum (λ k. bit (listed r i j k)) shifts) (range 0 nt) (λ j l.
      sum_gather (λ e. 1) (one i j) shifts
      ∙ sum_cong (λ k. sum (λ e. 1) (one i j k)) (λ k. bit (listed r i j k)) shifts (λ k o. one_bit (listed r i j k) (pair_edge r i j k))))

  list_few : (i : ℕ) → sum (λ j. sum (λ k. bit (listed r i j k)) shifts) (range 0 nt) ≤ length (list_s r i)
  unfolding listed
  list_few i = pairs_few (list_s r i) nt

  -- a roster within the limits has at most 1,024 edges
  pub edges_few : T (fits r) → length (edges_of r) ≤ entry_limit
  edges_few ok = given (fits_parts r ok) (λ ((q, u, (l, a, k), v), n). omega (
    arith,
    edge_count,
    sum_mono (λ i. sum (λ j. sum (λ k. bit (listed r i j k)) shifts) (range 0 nt)) (λ i. length (list_s r i)) (range 0 ns) (λ i m. list_few i),
    sum_range (λ i. length (list_s r i)) ns,
    ap (λ n. sum (λ i. length (list_s r i)) (up_to n)) (sym l),
    sum_by_place length [] r.lists_s,
    leb→le (total_s r.lists_s) entry_limit k,
  ))
