-- The days that the calls name, and what holds of them for every plan within the quotas (W-209): `sheet_holds`.
use Prim.Native.Nat.{ℕ, zero, suc, ◌≤◌, ◌<◌, max, zero-le}
use Rattle.std.proofs.Common.{arith, ◌∙◌, T_not}
use Rattle.std.proofs.Math.Decide.{dec_lt}
use Rattle.std.specs.Prelude.{◌≡◌, refl, ◌⊎◌, Bool, ◌&&◌, length, get_or, eqb}
use Rattle.std.proofs.Math.Path.{sym, ap}
use Rattle.std.proofs.Math.Logic.{inl, inr, ⊎_elim, by_cases}
use Rattle.std.proofs.Math.Bool.{true, false, not}
use mathlib.Core.List.Memᴰ
use mathlib.Core.List.{List, [], ◌∷◌, ◌++◌, map}
use Rattle.std.proofs.Math.ListN.{length-map}
use Rattle.std.proofs.Math.Dec.{T, eqb→eq}
use Rattle.lists.specs.Test.{and_l, and_r, and_i, eq→eqb, bit}
use Rattle.lists.specs.Sum.{◌∈◌, sum, sum_cong, sum_map, sum_places, up_to, up_to_<, up_to_∈, range, range_length, count}
use Rattle.lists.specs.Keep.{all?, all_∈}
use Rattle.lists.specs.Ranges.{map_at}
use Rattle.model.specs.Limits.{quota_limit, last_day}
use Rattle.model.specs.Instance.{Instance, Side, surveyors, stands, deg}
use Rattle.model.specs.Plans.{Plan, on}
use Rattle.model.specs.PlanFile.{edges_in}
use Rattle.model.specs.Days.{entries_of, clash, spreads, days_used, greatest, busiest}
use Rattle.theory_instance.specs.Lawful.{Lawful, Matching}
use Rattle.theory_files.specs.Chosen.{deg_at_node}
use Rattle.theory_days.specs.Chain.{end_on, Proper}
use Rattle.theory_days.specs.Spread.{spread}
use Rattle.theory_days.specs.Fewest.{days_least}

-- ---- lists by their places
abbrev pub at : List ℕ → ℕ → ℕ
at xs i = get_or xs i 0

moved : (f : ℕ → ℕ) (i n : ℕ) → map f (range (suc i) n) ≡ map (λ k. f (suc k)) (range i n)
moved f i zero = refl
moved f i (suc n) = ap (λ z. f (suc i) ∷ z) (moved f (suc i) n)

pub by_places : (xs : List ℕ) → map (at xs) (range 0 (length xs)) ≡ xs
by_places [] = refl
by_places (x ∷ xs) = ap (λ z. x ∷ z) (moved (at (x ∷ xs)) 0 (length xs) ∙ by_places xs)

sum_at : (g : ℕ → ℕ) (xs : List ℕ) → sum (λ i. g (at xs i)) (up_to (length xs)) ≡ sum g xs
sum_at g xs =
    sum_cong (λ i. g (at xs i)) (at (map g xs)) (up_to (length xs)) (λ i m. sym (map_at g xs i 0 0 (up_to_< (length xs) m)))
    ∙ ap (λ n. sum (at (map g xs)) (up_to n)) (sym (length-map xs g))
    ∙ sum_places (map g xs)
    ∙ sum_map (λ n. n) g xs

-- the entries of a plan at a node, counted by their places
pub entries_at : (K : Side) (p : ℕ → Bool) (v : ℕ)
    → count (λ j. eqb (at (map K.end (edges_in K.m p)) j) v) (length (edges_in K.m p)) ≡ deg K p v
unfolding count
entries_at K p v =
    ap (λ n. sum (λ j. bit (eqb (at (map K.end (edges_in K.m p)) j) v)) (up_to n)) (sym (length-map (edges_in K.m p) K.end))
    ∙ sum_at (λ x. bit (eqb x v)) (map K.end (edges_in K.m p))
    ∙ sum_map (λ x. bit (eqb x v)) K.end (edges_in K.m p)
    ∙ sym (deg_at_node K p v)

-- ---- the greatest number of a list
pub greatest_most : (xs : List ℕ) {x : ℕ} → x ∈ xs → x ≤ greatest xs
greatest_most [] m = absurd (Memᴰ.not-nil m)
greatest_most (y ∷ xs) (Memᴰ.head e) = omega arith
greatest_most (y ∷ xs) (Memᴰ.tail m) = omega (arith, greatest_most xs m)

pub greatest_least : (b : ℕ) (xs : List ℕ) → ((x : ℕ) → x ∈ xs → x ≤ b) → greatest xs ≤ b
greatest_least b [] h = zero-le
greatest_least b (x ∷ xs) h = omega (arith, h x (Memᴰ.head refl), greatest_least b xs (λ y m. h y (Memᴰ.tail m)))

greatest_in : (xs : List ℕ) → (greatest xs ≡ 0) ⊎ (greatest xs ∈ xs)
greatest_in [] = inl refl
greatest_in (x ∷ xs) = by_cases (dec_lt (greatest xs) x)
    (λ l. let e : max x (greatest xs) ≡ x = omega arith in inr (Memᴰ.head e))
    (λ n. let e : max x (greatest xs) ≡ greatest xs = omega arith in
    ⊎_elim (λ z. inl (e ∙ z)) (λ m. inr (Memᴰ.tail (Memᴰ.cast e m))) (greatest_in xs))

-- ---- the days of some entries, numbered in their order
-- a day from 1 on for each entry of the list, by the surveyors and the stands of the entries
unfoldable pub spread_by : (sv st : ℕ → ℕ) (es : List ℕ) → List ℕ
spread_by sv st es = map suc (map (spread (at (map sv es)) (at (map st es)) last_day (length es)) (range 0 (length es)))

-- which spreading is open: of a plan's entries this one is written
abbrev pub spread_of : Instance → Plan → List ℕ
spread_of G M = spread_by G.sv G.st (entries_of G M)

-- "one day byte for each entry"
pub days_many : (G : Instance) (M : Plan) → length (spread_of G M) ≡ length (entries_of G M)
unfolding spread_by
days_many G M =
    let n = length (entries_of G M) in
    let c = spread (at (map G.sv (entries_of G M))) (at (map G.st (entries_of G M))) last_day n in
    length-map (map c (range 0 n)) suc ∙ length-map (range 0 n) c ∙ range_length 0 n

module _ (G : Instance) (M : Plan) where
  -- its entries' surveyors and stands
  abbrev pub ends_s : List ℕ
  ends_s = map G.sv (entries_of G M)

  abbrev pub ends_t : List ℕ
  ends_t = map G.st (entries_of G M)

  abbrev pub entry_count : ℕ
  entry_count = length (entries_of G M)

  abbrev pub day_of : ℕ → ℕ
  day_of = spread (at ends_s) (at ends_t) last_day entry_count

  -- ---- a list of days that spreads the plan, as a function of the entries
  proper_of : (ds : List ℕ) → T (spreads G M ds) → Proper (at ends_s) (at ends_t) entry_count (at ds)
  unfolding spreads
  proper_of ds t y i j li lj ne en eq = by_cases (dec_lt j i) (λ l. hit y i j li l en eq) (λ n. hit y j i lj (omega arith) (sym en) (sym eq))
    where
      apart : (i j : ℕ) → i < entry_count → j < i → T (not (clash G.sv (entries_of G M) ds i j) && not (clash G.st (entries_of G M) ds i j))
      apart i j li l = all_∈ (λ j. not (clash G.sv (entries_of G M) ds i j) && not (clash G.st (entries_of G M) ds i j)) (up_to i)
          (all_∈ (λ i. all? (λ j. not (clash G.sv (entries_of G M) ds i j) && not (clash G.st (entries_of G M) ds i j)) (up_to i)) (up_to entry_count)
          (and_r (eqb (length ds) entry_count) _ t) i (up_to_∈ entry_count i li)) j (up_to_∈ i j l)

      met : (end : ℕ → ℕ) (i j : ℕ) → i < entry_count → j < i → at (map end (entries_of G M)) i ≡ at (map end (entries_of G M)) j → at ds i ≡ at ds j
          → T (clash end (entries_of G M) ds i j)
      met end i j li l en eq = and_i (eqb (at ds i) (at ds j)) (eqb (end (at (entries_of G M) i)) (end (at (entries_of G M) j))) (eq→eqb (at ds i) (at ds j) eq)
          (eq→eqb (end (at (entries_of G M) i)) (end (at (entries_of G M) j))
          (sym (map_at end (entries_of G M) i 0 0 li) ∙ en ∙ map_at end (entries_of G M) j 0 0 (omega arith)))

      hit : (y : Bool) (i j : ℕ) → i < entry_count → j < i → end_on (at ends_s) (at ends_t) y i ≡ end_on (at ends_s) (at ends_t) y j → at ds i ≡ at ds j → ⊥
      hit true i j li l en eq = T_not (clash G.st (entries_of G M) ds i j)
          (and_r (not (clash G.sv (entries_of G M) ds i j)) (not (clash G.st (entries_of G M) ds i j)) (apart i j li l)) (met G.st i j li l en eq)
      hit false i j li l en eq = T_not (clash G.sv (entries_of G M) ds i j)
          (and_l (not (clash G.sv (entries_of G M) ds i j)) (not (clash G.st (entries_of G M) ds i j)) (apart i j li l)) (met G.sv i j li l en eq)

  -- ---- no spreading uses fewer days than the busiest node has entries
  busy_some : (busiest G M ≡ 0) ⊎ ((y : Bool) × (v : ℕ) × (count (λ j. eqb (end_on (at ends_s) (at ends_t) y j) v) entry_count ≡ busiest G M))
  unfolding busiest
  busy_some = ⊎_elim inl (λ m. inr (⊎_elim
      (λ k. let (v, l, e) = Memᴰ.of_map (deg (surveyors G) (on M)) (range 0 G.ns) k in (false, v, entries_at (surveyors G) (on M) v ∙ e))
      (λ k. let (v, l, e) = Memᴰ.of_map (deg (stands G) (on M)) (range 0 G.nt) k in (true, v, entries_at (stands G) (on M) v ∙ e))
      (Memᴰ.append_cases (map (deg (surveyors G) (on M)) (range 0 G.ns)) m)))
      (greatest_in (map (deg (surveyors G) (on M)) (range 0 G.ns) ++ map (deg (stands G) (on M)) (range 0 G.nt)))

  pub busiest_least : (ds : List ℕ) → T (spreads G M ds) → busiest G M ≤ days_used ds
  unfolding spreads
  busiest_least ds t = ⊎_elim
      (λ z. omega arith)
      (λ (y, v, e). omega (arith, days_least (at ends_s) (at ends_t) entry_count (at ds) (proper_of ds t) y v, ap days_used whole))
      busy_some
    where
      whole : map (at ds) (range 0 entry_count) ≡ ds
      whole = ap (λ n. map (at ds) (range 0 n)) (sym (eqb→eq (length ds) entry_count (and_l (eqb (length ds) entry_count) _ t))) ∙ by_places ds

  module _ (law : Lawful G) (match : Matching G (on M)) (small : (v : ℕ) → (G.quota_s v ≤ quota_limit) × (G.quota_t v ≤ quota_limit)) where
    pub busy_eight : busiest G M ≤ 8
    unfolding busiest
    busy_eight = greatest_least 8 _ (λ x m. ⊎_elim
        (λ k. let (v, l, e) = Memᴰ.of_map (deg (surveyors G) (on M)) (range 0 G.ns) k in omega (arith, match.at_s v, (small v).0))
        (λ k. let (v, l, e) = Memᴰ.of_map (deg (stands G) (on M)) (range 0 G.nt) k in omega (arith, match.at_t v, (small v).1))
        (Memᴰ.append_cases (map (deg (surveyors G) (on M)) (range 0 G.ns)) m))
