-- The theorems that rest on specs/Greedy.antt. They stand here so that a wrong definition there is refused by a proof.
use Rattle.std.specs.Prelude.{ℕ, ◌+◌, ◌≤◌, ◌<◌, ◌≡◌, refl, Bool, false, cond, List, [], ◌∷◌, map, length, T, eqb}
use Rattle.std.proofs.Common.{zero-le, arith, sym, ap, subst, inl, inr, leb→le, le→leb, eqb→eq}
use Rattle.std.proofs.Math.Decide.{dec_lt}
use Rattle.std.proofs.Math.Logic.{by_cases}
use mathlib.Core.List.Memᴰ
use Rattle.lists.specs.Test.{bit, bit_pos, eqb_yes, by_bool, true_t}
use Rattle.lists.specs.Sum.{◌∈◌, sum, sum_mem, sum_pos, sum_zeros, sum_length, ∈_occ}
use Rattle.lists.specs.Keep.{picks, picks_sum, remove, remove_picks, sum_remove}
use Rattle.theory_votes.specs.Score.{rate}
use Rattle.theory_votes.specs.Rate.{under, under_yes, under_no, rate_worse, rate_falls}
use Rattle.theory_votes.specs.Sorted.{Sorted}
use Rattle.theory_votes.specs.Rotation.{cost, Columns}
use Rattle.theory_votes.specs.Least.{least_sum, least_≤}
use Rattle.theory_votes.specs.RankPairs.{key, LexLe}
use Rattle.theory_votes.specs.Greedy.{can, greedy, least_pick, pick_first, pick_∈, rest_sorted, rest_∈, some_can}

abbrev own : ℕ → ℕ
own a = a

first_ok : (t : ℕ × List ℕ → Bool) (ps : List (ℕ × List ℕ)) (q : ℕ × List ℕ) → q ∈ ps → T (t q) → (pick_first t ps ∈ ps) × T (t (pick_first t ps))
first_ok t [] q m h = absurd (Memᴰ.not-nil m)
first_ok t (p ∷ ps) q m h = by_bool (t p)
    (λ e. subst (λ b. (cond b p (pick_first t ps) ∈ (p ∷ ps)) × T (t (cond b p (pick_first t ps)))) (sym e) (Memᴰ.head refl, true_t e))
    (λ e. subst (λ b. (cond b p (pick_first t ps) ∈ (p ∷ ps)) × T (t (cond b p (pick_first t ps)))) (sym e) (late m e (first_ok t ps)))
  where
    late : q ∈ (p ∷ ps) → t p ≡ false → ((q : ℕ × List ℕ) → q ∈ ps → T (t q) → (pick_first t ps ∈ ps) × T (t (pick_first t ps)))
        → (pick_first t ps ∈ (p ∷ ps)) × T (t (pick_first t ps))
    late (Memᴰ.head i) e ih = absurd (subst T e (subst (λ z. T (t z)) i h))
    late (Memᴰ.tail k) e ih = let r = ih q k h in (Memᴰ.tail r.0, r.1)

abbrev front : ℕ × List ℕ → ℕ
front p = p.0

first_least : (t : ℕ × List ℕ → Bool) (ps : List (ℕ × List ℕ)) → Sorted front ps → (q : ℕ × List ℕ) → q ∈ ps → T (t q) → (pick_first t ps).0 ≤ q.0
first_least t [] s q m h = absurd (Memᴰ.not-nil m)
first_least t (p ∷ ps) s q m h = by_bool (t p)
    (λ e. subst (λ b. (cond b p (pick_first t ps)).0 ≤ q.0) (sym e) (early m))
    (λ e. subst (λ b. (cond b p (pick_first t ps)).0 ≤ q.0) (sym e) (late m e (first_least t ps s.1)))
  where
    early : q ∈ (p ∷ ps) → p.0 ≤ q.0
    early (Memᴰ.head i) = omega (arith, ap front i)
    early (Memᴰ.tail k) = s.0 q k

    late : q ∈ (p ∷ ps) → t p ≡ false → ((q : ℕ × List ℕ) → q ∈ ps → T (t q) → (pick_first t ps).0 ≤ q.0) → (pick_first t ps).0 ≤ q.0
    late (Memᴰ.head i) e ih = absurd (subst T e (subst (λ z. T (t z)) i h))
    late (Memᴰ.tail k) e ih = ih q k h

sorted_map : (y : ℕ) (ps : List (ℕ × List ℕ)) → Sorted front ps → Sorted front (map (λ q. (q.0, y ∷ q.1)) ps)
sorted_map y [] s = tt
sorted_map y (p ∷ ps) s = ((λ q m. let (r, k, e) = Memᴰ.of_map (λ q. (q.0, y ∷ q.1)) ps m in omega (arith, s.0 r k, ap front e)), sorted_map y ps s.1)

picks_sorted : (ys : List ℕ) → Sorted own ys → Sorted front (picks ys)
picks_sorted [] s = tt
picks_sorted (y ∷ ys) s = (
  (λ q m. let (r, k, e) = Memᴰ.of_map (λ q. (q.0, y ∷ q.1)) (picks ys) m in omega (arith, s.0 r.0 (pick_∈ ys r k), ap front e)),
  sorted_map y (picks ys) (picks_sorted ys s.1),
)

abbrev val : ℕ → List ℕ → ℕ × List ℕ → ℕ
val x xs p = rate x p.0 + least_sum xs p.1

-- ---- it has the two lists for columns and reaches the least sum
pub greedy_reaches : (xs ys : List ℕ) → length xs ≡ length ys → Columns own xs ys (greedy xs ys) × (cost own (greedy xs ys) ≤ least_sum xs ys)
unfolding greedy least_sum
greedy_reaches [] [] l = (record { on_left = λ φ. refl; on_right = λ φ. refl }, zero-le)
greedy_reaches [] (y ∷ ys) l = absurd (omega arith)
greedy_reaches (x ∷ xs) ys l = go (first_ok (can x xs ys) (picks ys) some.0 some.1 some.2) (greedy_reaches xs (pick_first (can x xs ys) (picks ys)).1)
  where
    some : (q : ℕ × List ℕ) × (q ∈ picks ys) × T (can x xs ys q)
    some = some_can x xs ys (omega arith)

    p : ℕ × List ℕ
    p = pick_first (can x xs ys) (picks ys)

    go : (p ∈ picks ys) × T (can x xs ys p) → (length xs ≡ length p.1
        → Columns own xs p.1 (greedy xs p.1) × (cost own (greedy xs p.1) ≤ least_sum xs p.1))
        → Columns own (x ∷ xs) ys ((x, p.0) ∷ greedy xs p.1) × (cost own ((x, p.0) ∷ greedy xs p.1) ≤ least_sum (x ∷ xs) ys)
    go (m, t) ih =
        let (h, c) = ih (omega (arith, picks_sum (λ z. 1) ys p m, sum_length ys, sum_length p.1)) in (
          record { on_left = λ φ. ap (λ z. φ x + z) (h.on_left φ); on_right = λ φ. omega (arith, h.on_right φ, picks_sum φ ys p m) },
          omega (arith, leb→le (val x xs p) (least_sum (x ∷ xs) ys) t),
        )

-- what the first rank faces, and the rest, make up the least sum
pub chosen_least : (x : ℕ) (xs ys : List ℕ) → 0 < length ys
    → least_sum (x ∷ xs) ys ≡ rate x (pick_first (can x xs ys) (picks ys)).0 + least_sum xs (pick_first (can x xs ys) (picks ys)).1
chosen_least x xs ys l = go (some_can x xs ys l)
  where
    p : ℕ × List ℕ
    p = pick_first (can x xs ys) (picks ys)

    go : (q : ℕ × List ℕ) × (q ∈ picks ys) × T (can x xs ys q) → least_sum (x ∷ xs) ys ≡ val x xs p
    go (q, m, t) =
        let ok = first_ok (can x xs ys) (picks ys) q m t in
        omega (arith, leb→le (val x xs p) (least_sum (x ∷ xs) ys) ok.1, least_pick x xs ys p ok.0)

-- ---- an other rank better than all own ones can be faced by the best own one, untried: who faced it faces what that one did, at no higher rate
module _ (x : ℕ) (xs : List ℕ) (sx : Sorted own (x ∷ xs)) (y : ℕ) where
  exchanged : (z : ℕ) (zs ys : List ℕ) → length xs ≡ length (y ∷ zs) → ((φ : ℕ → ℕ) → sum φ ys ≡ φ z + sum φ zs)
      → least_sum xs ys ≤ rate x z + least_sum xs (y ∷ zs)
  exchanged z zs ys l parts =
      let (h, c) = greedy_reaches xs (y ∷ zs) l in
      go (greedy xs (y ∷ zs)) h c
      (sum_pos (λ d. bit (eqb d.1 y)) (greedy xs (y ∷ zs)) (omega (arith, h.on_right (λ b. bit (eqb b y)), ap bit (eqb_yes y y refl))))
    where
      go : (s : List (ℕ × ℕ)) → Columns own xs (y ∷ zs) s → cost own s ≤ least_sum xs (y ∷ zs)
          → (d : ℕ × ℕ) × (d ∈ s) × (0 < bit (eqb d.1 y)) → least_sum xs ys ≤ rate x z + least_sum xs (y ∷ zs)
      go s h c (d, m, t) =
          let e : d.1 ≡ y = eqb→eq d.1 y (bit_pos (eqb d.1 y) t) in
          let k : d.0 ∈ xs = ∈_occ d.0 xs
          (omega (arith, h.on_left (λ a. bit (eqb a d.0)), sum_mem (λ d'. bit (eqb d'.0 d.0)) m, ap bit (eqb_yes d.0 d.0 refl))) in
          omega (
            arith,
            least_≤ xs ys ((d.0, z) ∷ remove m) (record {
              on_left = λ φ. omega (arith, h.on_left φ, sum_remove (λ d. φ d.0) m);
              on_right = λ φ. omega (arith, h.on_right φ, sum_remove (λ d. φ d.1) m, ap φ e, parts φ);
            }),
            sum_remove (λ d. rate d.0 d.1) m,
            rate_falls x d.0 z (sx.0 d.0 k),
            c,
          )

  -- where the first other rank is better than the best own one, it can be faced by that one, and the rest still reaches the least sum
  pub best_can : (ys : List ℕ) → length xs ≡ length ys → y < x → T (can x xs (y ∷ ys) (y, ys))
  best_can ys l better = go (some_can x xs (y ∷ ys) (omega arith))
    where
      reached : least_sum xs ys ≤ least_sum (x ∷ xs) (y ∷ ys) → T (can x xs (y ∷ ys) (y, ys))
      reached h = le→leb (rate x y + least_sum xs ys) (least_sum (x ∷ xs) (y ∷ ys)) (omega (arith, rate_worse x y better))

      go : (q : ℕ × List ℕ) × (q ∈ picks (y ∷ ys)) × T (can x xs (y ∷ ys) q) → T (can x xs (y ∷ ys) (y, ys))
      go (q, Memᴰ.head e, t) = subst (λ p. T (can x xs (y ∷ ys) p)) e t
      go (q, Memᴰ.tail m, t) =
          let (r, k, e) = Memᴰ.of_map (λ p. (p.0, y ∷ p.1)) (picks ys) m in
          reached (omega (
            arith,
            exchanged r.0 r.1 ys (omega (arith, picks_sum (λ z. 1) ys r k, sum_length ys, sum_length r.1)) (λ φ. picks_sum φ ys r k),
            leb→le (val x xs q) (least_sum (x ∷ xs) (y ∷ ys)) t,
            ap (val x xs) e,
          ))

-- ---- it is not greater than any list in order that does
abbrev Small : List ℕ → Type 0
Small ys = (y : ℕ) → y ∈ ys → y < 64

pub greedy_least : (xs ys : List ℕ) → Sorted own xs → Sorted own ys → Small ys → length xs ≡ length ys
    → (s : List (ℕ × ℕ)) → Sorted key s → Columns own xs ys s → cost own s ≤ least_sum xs ys → LexLe (greedy xs ys) s
unfolding greedy
greedy_least [] ys sx sy u l s o h c = tt
greedy_least (x ∷ xs) ys sx sy u l [] o h c = absurd (omega (arith, h.on_left (λ a. 1)))
greedy_least (x ∷ xs) ys sx sy u l ((a, y) ∷ s) o h c = first (λ zs. greedy_least xs zs sx.1)
  where
    -- the first pair has the best own rank
    not_below : x ≤ a
    not_below = by_cases (dec_lt a x)
        (λ k. absurd (omega (
          arith,
          h.on_left (under x),
          under_yes x a k,
          under_no x x (omega arith),
          sum_zeros (under x) xs
              (λ z m. under_no x z (sx.0 z m)),
        )))
        (λ k. omega arith)

    y_in : y ∈ ys
    y_in = ∈_occ y ys (omega (arith, h.on_right (λ b. bit (eqb b y)), ap bit (eqb_yes y y refl)))

    not_above : a ≤ x
    not_above = by_cases (dec_lt x a)
        (λ k. let (d, m, t) = sum_pos (λ d. bit (eqb d.0 x)) ((a, y) ∷ s) (omega (arith, h.on_left (λ b. bit (eqb b x)), ap bit (eqb_yes x x refl))) in
        absurd (at_x d m (eqb→eq d.0 x (bit_pos (eqb d.0 x) t)) k))
        (λ k. omega arith)
      where
        right_in : (d : ℕ × ℕ) → d ∈ ((a, y) ∷ s) → d.1 ∈ ys
        right_in d m = ∈_occ d.1 ys (omega (
          arith,
          h.on_right (λ b. bit (eqb b d.1)),
          sum_mem (λ e. bit (eqb e.1 d.1)) m,
          ap bit
              (eqb_yes d.1 d.1 refl),
        ))

        at_x : (d : ℕ × ℕ) → d ∈ ((a, y) ∷ s) → d.0 ≡ x → x < a → ⊥
        at_x d (Memᴰ.head e) q k = omega (arith, ap (λ z. z.0) e)
        at_x d (Memᴰ.tail m) q k = omega (arith, o.0 d m, u d.1 (right_in d (Memᴰ.tail m)))

    same : a ≡ x
    same = omega (arith, not_below, not_above)

    first : ((zs : List ℕ) → Sorted own zs → Small zs → length xs ≡ length zs → (s : List (ℕ × ℕ)) → Sorted key s → Columns own xs zs s
        → cost own s ≤ least_sum xs zs → LexLe (greedy xs zs) s)
        → LexLe ((x, (pick_first (can x xs ys) (picks ys)).0) ∷ greedy xs (pick_first (can x xs ys) (picks ys)).1) ((a, y) ∷ s)
    first ih = by_cases (dec_lt p.0 y)
        (λ k. inl (omega (arith, same)))
        (λ k. inr (
          omega (arith, same, below),
          ih p.1 (rest_sorted ys sy p ok.0) (λ z m. u z (rest_∈ ys p ok.0 z m))
              (omega (arith, picks_sum (λ z. 1) ys p ok.0, sum_length ys, sum_length p.1)) s o.1 (columns (omega (arith, below)))
              (within (omega (arith, below))),
        ))
      where
        p : ℕ × List ℕ
        p = pick_first (can x xs ys) (picks ys)

        left_over : Columns own xs (remove y_in) s
        left_over = record {
          on_left = λ φ. omega (arith, h.on_left φ, ap φ same);
          on_right = λ φ. omega (arith, h.on_right φ, sum_remove φ y_in);
        }

        -- y can be taken: the list itself shows it
        passes : T (can x xs ys (y, remove y_in))
        passes = le→leb (rate x y + least_sum xs (remove y_in)) (least_sum (x ∷ xs) ys)
            (omega (arith, least_≤ xs (remove y_in) s left_over, ap (λ z. rate z y) same))

        ok : (p ∈ picks ys) × T (can x xs ys p)
        ok = first_ok (can x xs ys) (picks ys) (y, remove y_in) (remove_picks y_in) passes

        below : p.0 ≤ y
        below = first_least (can x xs ys) (picks ys) (picks_sorted ys sy) (y, remove y_in) (remove_picks y_in) passes

        columns : p.0 ≡ y → Columns own xs p.1 s
        columns e = record {
          on_left = left_over.on_left;
          on_right = λ φ. omega (arith, left_over.on_right φ, sum_remove φ y_in, picks_sum φ ys p ok.0, ap φ e);
        }

        within : p.0 ≡ y → cost own s ≤ least_sum xs p.1
        within e = omega (arith, least_pick x xs ys p ok.0, ap (λ z. rate x z) e, ap (λ z. rate z y) same)
