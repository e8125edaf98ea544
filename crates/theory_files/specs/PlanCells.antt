-- The pairs of a plan by their numbers alone: row by row, the listed pairs that a test of the three numbers names. Plans of two rosters can so
-- be compared: with the same pairs they have the same bytes and the same number of pairs at each node.
use Rattle.std.specs.Prelude.{ℕ, suc, ◌+◌, ◌≤◌, ◌<◌, ◌≡◌, refl, Bool, true, false, cond, ◌&&◌, List, [], ◌∷◌, ◌++◌, map, length, get_or, T, eqb}
use native.Mathlib.Omega.{arith}
use Rattle.std.proofs.Common.{sym, ap₂, ◌∙◌, subst, append-nil}
use Rattle.std.proofs.Math.Path.{ap}
use Rattle.std.proofs.lemmas.List.{length-map}
use Rattle.std.proofs.Math.Dec.{eqb-suc-suc}
use Rattle.lists.specs.Test.{given, bit}
use Rattle.lists.specs.Sum.{sum, sum_cong, sum_map, range, ∈_range}
use Rattle.lists.specs.Keep.{keep, gather}
use Rattle.lists.specs.Ranges.{range_add, keep_append, gather_append, gather_cong, gather_none, map_gather}
use Rattle.model.specs.Instance.{Instance, Side, surveyors, stands, deg}
use Rattle.model.specs.Roster.{Roster, surveyor_count, stand_count, listed, shifts}
use Rattle.model.specs.Edges.{Edge, pair_edge, edges_of, no_edge, edge_at, instance_of}
use Rattle.model.specs.Plans.{Plan, on}
use Rattle.model.specs.PlanFile.{Named, name_of, shifted_pair, edges_in, plan_bytes_by, plan_bytes}
use Rattle.model_desk.specs.History.{plan_pairs}
use Rattle.theory_files.specs.Layouts.{in_shifted_pair}
use Rattle.theory_files.specs.Chosen.{deg_at_node}
use Rattle.theory_files.specs.PlanFiles.{bytes_are}

-- ---- plans of two instances with the same pairs
plan_bytes_law : (G : Instance) (M : Plan) → plan_bytes G M ≡ length (plan_pairs G M) ∷ gather shifted_pair.bytes (plan_pairs G M)
unfolding plan_bytes_by
plan_bytes_law G M = let es = edges_in G.m (on M) in ap₂ (λ n zs. n ∷ zs) (sym (length-map es (name_of G))) (bytes_are G shifted_pair in_shifted_pair es)

pub same_bytes_law : (G H : Instance) (M N : Plan) → plan_pairs G M ≡ plan_pairs H N → plan_bytes G M ≡ plan_bytes H N
same_bytes_law G H M N e = plan_bytes_law G M ∙ ap (λ ps. length ps ∷ gather shifted_pair.bytes ps) e ∙ sym (plan_bytes_law H N)

-- at a node are as many pairs as have its number in this place
degree : (G : Instance) (M : Plan) (v : ℕ) (K : Side) (number : Named → ℕ) → ((d : ℕ) → suc (K.end d) ≡ number (name_of G d))
    → deg K (on M) v ≡ sum (λ p. bit (eqb (number p) (suc v))) (map (name_of G) (edges_in K.m (on M)))
degree G M v K number is =
    let es = edges_in K.m (on M) in
    deg_at_node K (on M) v
    ∙ sum_cong (λ d. bit (eqb (K.end d) v)) (λ d. bit (eqb (number (name_of G d)) (suc v))) es
    (λ d m. ap bit (sym (eqb-suc-suc (K.end d) v) ∙ ap (λ n. eqb n (suc v)) (is d)))
    ∙ sym (sum_map (λ p. bit (eqb (number p) (suc v))) (name_of G) es)

pub same_degrees : (G H : Instance) (M N : Plan) → plan_pairs G M ≡ plan_pairs H N → (v : ℕ)
    → (deg (surveyors G) (on M) v ≡ deg (surveyors H) (on N) v) × (deg (stands G) (on M) v ≡ deg (stands H) (on N) v)
same_degrees G H M N e v = (
  degree G M v (surveyors G) (λ p. p.surveyor) (λ d. refl) ∙ ap (sum (λ p. bit (eqb p.surveyor (suc v)))) e
      ∙ sym (degree H N v (surveyors H) (λ p. p.surveyor) (λ d. refl)),
  degree G M v (stands G) (λ p. p.stand) (λ d. refl) ∙ ap (sum (λ p. bit (eqb p.stand (suc v)))) e
      ∙ sym (degree H N v (stands H) (λ p. p.stand) (λ d. refl)),
)

-- ---- lists of lists
keep_gather : {A B : Type 0} (p : B → Bool) (h : A → List B) (xs : List A) → keep p (gather h xs) ≡ gather (λ x. keep p (h x)) xs
keep_gather p h [] = refl
keep_gather p h (x ∷ xs) = keep_append p (h x) (gather h xs) ∙ ap (λ z. keep p (h x) ++ z) (keep_gather p h xs)

-- the elements at the places that a test names
places : {A B : Type 0} (d : A) (f : A → B) (p : A → Bool) (g : ℕ → B) (q : ℕ → Bool) (es : List A) (k : ℕ)
    → ((e : ℕ) → e < length es → (g (k + e) ≡ f (get_or es e d)) × (q (k + e) ≡ p (get_or es e d)))
    → map g (keep q (range k (length es))) ≡ map f (keep p es)
places d f p g q [] k h = refl
places {A} {B} d f p g q (x ∷ es) k h =
    given (h 0 (omega arith)) (λ (a, b).
    go (q k) (p x) (ap q (sym (plus_zero k)) ∙ b) (ap g (sym (plus_zero k)) ∙ a)
    (places d f p g q es (suc k) (λ e l. given (h (suc e) (omega arith)) (λ (a, b). (ap g (move k e) ∙ a, ap q (move k e) ∙ b)))))
  where
    plus_zero : (k : ℕ) → k + 0 ≡ k
    plus_zero k = omega arith

    move : (k e : ℕ) → suc k + e ≡ k + suc e
    move k e = omega arith

    go : (a b : Bool) → a ≡ b → g k ≡ f x → map g (keep q (range (suc k) (length es))) ≡ map f (keep p es)
        → map g (cond a (k ∷ keep q (range (suc k) (length es))) (keep q (range (suc k) (length es)))) ≡ map f (cond b (x ∷ keep p es) (keep p es))
    go true true e u ih = ap₂ (λ y ys. y ∷ ys) u ih
    go true false e u ih = absurd (subst T e tt)
    go false true e u ih = absurd (subst T (sym e) tt)
    go false false e u ih = ih

-- ---- the pairs row by row: a surveyor's, by stand and shift
abbrev pub Test : Type 0
Test = ℕ → ℕ → ℕ → Bool

abbrev cell : Bool → ℕ → ℕ → ℕ → List Named
cell b i j k = cond b (record { surveyor = suc i; stand = suc j; shift = k } ∷ []) []

abbrev stand : Test → ℕ → ℕ → List Named
stand b i j = gather (λ k. cell (b i j k) i j k) shifts

abbrev row : Test → (nt i : ℕ) → List Named
row b nt i = gather (stand b i) (range 0 nt)

abbrev pub cells : Test → (ns nt : ℕ) → List Named
cells b ns nt = gather (row b nt) (range 0 ns)

pub cells_cong : (a b : Test) (ns nt : ℕ) → ((i j k : ℕ) → i < ns → a i j k ≡ b i j k) → cells a ns nt ≡ cells b ns nt
cells_cong a b ns nt h = gather_cong (row a nt) (row b nt) (range 0 ns) (λ i m. given (∈_range ns 0 m).1 (λ l.
    gather_cong (stand a i) (stand b i) (range 0 nt) (λ j n.
    gather_cong (λ k. cell (a i j k) i j k) (λ k. cell (b i j k) i j k) shifts (λ k s. ap (λ z. cell z i j k) (h i j k (omega arith))))))

-- a row more, of none
pub cells_more : (b : Test) (ns nt : ℕ) → ((j k : ℕ) → b ns j k ≡ false) → cells b (suc ns) nt ≡ cells b ns nt
cells_more b ns nt h =
    ap (λ n. gather (row b nt) (range 0 n)) (one_more ns)
    ∙ ap (gather (row b nt)) (range_add 0 ns 1)
    ∙ gather_append (row b nt) (range 0 ns) (range (0 + ns) 1)
    ∙ ap (λ z. gather (row b nt) (range 0 ns) ++ z) (gather_none (row b nt) (range (0 + ns) 1) (λ i m. given (∈_range 1 (0 + ns) m) (λ (a, c).
    subst (λ i. row b nt i ≡ []) (last ns i a c) none)))
    ∙ append-nil (gather (row b nt) (range 0 ns))
  where
    one_more : (n : ℕ) → suc n ≡ n + 1
    one_more n = omega arith

    last : (n i : ℕ) → 0 + n ≤ i → i < 0 + n + 1 → n ≡ i
    last n i a c = omega arith

    none : row b nt ns ≡ []
    none = gather_none (stand b ns) (range 0 nt) (λ j m. gather_none (λ k. cell (b ns j k) ns j k) shifts (λ k s. ap (λ z. cell z ns j k) (h j k)))

-- the pairs of a plan that is a test of the pairs' numbers
abbrev name : Edge → Named
name x = record { surveyor = suc x.surveyor; stand = suc x.stand; shift = x.shift }

module _ (r : Roster) (p : Test) where
  abbrev chosen : Edge → Bool
  chosen x = p x.surveyor x.stand x.shift

  abbrev one : ℕ → ℕ → ℕ → List Edge
  one i j k = cond (listed r i j k) (pair_edge r i j k ∷ []) []

  abbrev both : Test
  both i j k = listed r i j k && p i j k

  one_is : (i j k : ℕ) → map name (keep chosen (one i j k)) ≡ cell (both i j k) i j k
  one_is i j k = go (listed r i j k) (p i j k) refl
    where
      go : (a b : Bool) → p i j k ≡ b → map name (keep chosen (cond a (pair_edge r i j k ∷ []) [])) ≡ cell (a && b) i j k
      go false b e = refl
      go true true e = ap (λ z. map name (cond z (pair_edge r i j k ∷ []) [])) e
      go true false e = ap (λ z. map name (cond z (pair_edge r i j k ∷ []) [])) e

  -- through one `gather`
  through : {A : Type 0} (f : A → List Edge) (g : A → List Named) → ((a : A) → map name (keep chosen (f a)) ≡ g a) → (xs : List A)
      → map name (keep chosen (gather f xs)) ≡ gather g xs
  through f g h xs = ap (map name) (keep_gather chosen f xs) ∙ map_gather name (λ a. keep chosen (f a)) xs
      ∙ gather_cong (λ a. map name (keep chosen (f a))) g xs (λ a m. h a)

  pub pairs_cells : (M : Plan) → ((e : ℕ) → e < (instance_of r).m → on M e ≡ p ((instance_of r).sv e) ((instance_of r).st e) ((instance_of r).sh e))
      → plan_pairs (instance_of r) M ≡ cells both (surveyor_count r) (stand_count r)
  unfolding instance_of edges_of
  pairs_cells M h =
      let es = edges_of r in
      let nt = range 0 (stand_count r) in
      places no_edge name chosen (λ e. name (edge_at es e)) (on M) es 0 (λ e l. (ap (λ k. name (edge_at es k)) (zero_plus e), ap (on M) (zero_plus e) ∙ h e l))
      ∙ through (λ i. gather (λ j. gather (one i j) shifts) nt) (row both (stand_count r))
      (λ i. through (λ j. gather (one i j) shifts) (stand both i) (λ j. through (one i j) (λ k. cell (both i j k) i j k) (one_is i j) shifts) nt)
      (range 0 (surveyor_count r))
    where
      zero_plus : (e : ℕ) → 0 + e ≡ e
      zero_plus e = omega arith
