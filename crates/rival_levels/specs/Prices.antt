-- The prices that the tables hold are those of the search: of the arcs, of the ends, and the room at the nodes.
use Rattle.std.specs.Prelude.{ℕ, ◌+◌, ◌≤◌, ◌<◌, min, ◌≡◌, Bool, ◌&&◌, List, map, T, ltb, leb}
use Rattle.std.proofs.Common.{zero-le, arith, ◌∙◌, subst, ⊎_elim}
use Rattle.std.proofs.Math.Path.{refl, sym, ap}
use Rattle.std.proofs.Math.Bool.{true, false, not}
use mathlib.Core.List.Memᴰ
use Rattle.std.proofs.Math.Dec.{eqb}
use Rattle.lists.specs.Test.{bit, bit_one, pk, true_t, T_true, and_i}
use Rattle.lists.specs.Sum.{◌∈◌, range, range_∈, ∈_range, sum, sum_cong, sum_map, sum_range, count}
use Rattle.lists.specs.Keep.{keep, keep_∈, ∈_keep, product, product_∈, ∈_product, sum_keep}
use Rattle.lists.specs.First.{best_≤, best_≤_held, best_ind}
use Rattle.model.specs.Instance.{Instance, Side, surveyors, stands, deg}
use Rattle.theory_votes.specs.Score.{rate}
use Rattle.theory_verdict.specs.Ends.{Way, lose, gain}
use Rattle.theory_verdict.specs.Search.{price, terminal_price, links?, apart?, joins?, news, ways, terminals_at, terminal, arc}
use Rattle.arrays.specs.ArrayInstance.{at}
use Rattle.rival_tables.specs.Cheapest.{cheapest, cheapest_≤, cheapest_at, cheapest_reach, best_keep}

rate_two : (a b : ℕ) → rate a b ≤ 2
rate_two a b = omega (arith, bit_one (ltb a b), bit_one (leb a b))

-- ---- the arcs
module _ (G : Instance) (M : ℕ → Bool) where
  -- the price of an arc
  pub arc_is : (x z : ℕ) → (arc G M 133 x z).0 ≡ cheapest (λ f. not (M f) && links? G x z f) (λ f. price G x f z) 133 0 G.m
  unfolding arc
  arc_is x z = best_keep (λ f. (price G x f z, f)) (λ f. not (M f) && links? G x z f) (133, 0) 0 G.m

  -- ---- the ends
  -- f may be gained where z gives way on side K
  abbrev pub joining? : Side → Side → ℕ → ℕ → Bool
  joining? K J z f = not (M f) && joins? M K J z f

  gained : (K J : Side) (z f : ℕ) → gain f ∈ ways G M K J z → (f < G.m) × T (joining? K J z f)
  gained K J z f (Memᴰ.head e) = absurd (never e)
    where
      never : gain f ≡ lose → ⊥
      never e = let z : ◌≡◌ {A = ℕ} 0 1 = cc in omega arith
  gained K J z f (Memᴰ.tail m) =
      let (g, k, e) = Memᴰ.of_map gain (news G M (joins? M K J z)) m in
      let (r, t) = ∈_keep (joining? K J z) (range 0 G.m) (subst (λ h. h ∈ news G M (joins? M K J z)) (same g e) k) in
      let (u, w) = ∈_range G.m 0 r in
      (omega arith, t)
    where
      same : (g : ℕ) → gain g ≡ gain f → g ≡ f
      same g e = cc

  gaining : (K J : Side) (z f : ℕ) → f < G.m → joining? K J z f ≡ true → gain f ∈ ways G M K J z
  gaining K J z f h t = Memᴰ.tail (Memᴰ.map gain (keep_∈ (joining? K J z) (range 0 G.m) (range_∈ G.m 0 f zero-le (omega arith)) (true_t t)))

  losing : (K J : Side) (z : ℕ) → lose ∈ ways G M K J z
  losing K J z = Memᴰ.head refl

  abbrev S : Side
  S = surveyors G

  abbrev T' : Side
  T' = stands G

  module _ (x y : ℕ) where
    abbrev start_but : ℕ → Bool
    start_but f = joining? S T' x f && not (eqb (G.st f) (G.st y))

    abbrev stop_but : ℕ → Bool
    stop_but g = joining? T' S y g && not (eqb (G.sv g) (G.sv x))

    abbrev rate_s : ℕ → ℕ
    rate_s f = rate (G.rank_s x) (G.rank_s f)

    abbrev rate_t : ℕ → ℕ
    rate_t g = rate (G.rank_t y) (G.rank_t g)

    -- the least rates: at the start with the end's stand shut out, at the end with the start's surveyor shut out, at the start, at the end
    abbrev pub a_start : ℕ
    a_start = cheapest start_but rate_s 3 0 G.m

    abbrev pub a_stop : ℕ
    a_stop = cheapest stop_but rate_t 3 0 G.m

    abbrev pub o_start : ℕ
    o_start = cheapest (joining? S T' x) rate_s 6 0 G.m

    abbrev pub o_stop : ℕ
    o_stop = cheapest (joining? T' S y) rate_t 6 0 G.m

    abbrev low_terminal : ℕ
    low_terminal = min (min a_start a_stop + 3) (o_start + o_stop)

    member : (a b : Way) → a ∈ ways G M S T' x → b ∈ ways G M T' S y → T (apart? G x y (a, b)) → (terminal G M x y).0 ≤ terminal_price G x y (a, b)
    unfolding terminal
    member a b i j t = best_≤ (λ p. (terminal_price G x y p, p)) (6, (lose, lose)) (terminals_at G M x y) (a, b)
        (keep_∈ (apart? G x y) (product (ways G M S T' x) (ways G M T' S y)) (product_∈ (ways G M S T' x) (ways G M T' S y) i j) t)

    six : (terminal G M x y).0 ≤ 6
    unfolding terminal
    six = best_≤_held (λ p. (terminal_price G x y p, p)) (6, (lose, lose)) (terminals_at G M x y)

    split : (a b : Bool) → a && b ≡ true → (a ≡ true) × T b
    split true true e = (refl, tt)
    split true false e = absurd (true_t e)
    split false b e = absurd (true_t e)

    below_start : (terminal G M x y).0 ≤ a_start + 3
    below_start = ⊎_elim
        (λ e. omega (arith, six))
        (λ (f, l, h, t, e). let (u, w) = split (joining? S T' x f) (not (eqb (G.st f) (G.st y))) t in
        omega (arith, member (gain f) lose (gaining S T' x f (omega arith) u) (losing T' S y) w))
        (cheapest_reach start_but rate_s 3 0 G.m)

    below_stop : (terminal G M x y).0 ≤ a_stop + 3
    below_stop = ⊎_elim
        (λ e. omega (arith, six))
        (λ (g, l, h, t, e). let (u, w) = split (joining? T' S y g) (not (eqb (G.sv g) (G.sv x))) t in
        omega (arith, member lose (gain g) (losing S T' x) (gaining T' S y g (omega arith) u) w))
        (cheapest_reach stop_but rate_t 3 0 G.m)

    below_both : (terminal G M x y).0 ≤ o_start + o_stop
    below_both = ⊎_elim
        (λ e. omega (arith, six))
        (λ (f, l, h, t, e). ⊎_elim
        (λ q. omega (arith, six))
        (λ (g, i, j, u, q). omega (arith, member (gain f) (gain g) (gaining S T' x f (omega arith) t) (gaining T' S y g (omega arith) u) tt))
        (cheapest_reach (joining? T' S y) rate_t 6 0 G.m))
        (cheapest_reach (joining? S T' x) rate_s 6 0 G.m)

    above : (p : Way × Way) → p ∈ terminals_at G M x y → low_terminal ≤ terminal_price G x y p
    above p m =
        let (i, t) = ∈_keep (apart? G x y) (product (ways G M S T' x) (ways G M T' S y)) m in
        let (a, b) = ∈_product p (ways G M S T' x) (ways G M T' S y) i in
        go p.0 p.1 a b t
      where
        go : (a b : Way) → a ∈ ways G M S T' x → b ∈ ways G M T' S y → T (apart? G x y (a, b)) → low_terminal ≤ terminal_price G x y (a, b)
        go lose lose i j t = omega (arith, cheapest_≤ start_but rate_s 3 0 G.m)
        go lose (gain g) i j t = let (h, u) = gained T' S y g j in
            omega (arith, cheapest_at stop_but rate_t 3 0 G.m g zero-le (omega arith) (T_true (and_i (joining? T' S y g) (not (eqb (G.sv g) (G.sv x))) u t)))
        go (gain f) lose i j t = let (h, u) = gained S T' x f i in
            omega
            (arith, cheapest_at start_but rate_s 3 0 G.m f zero-le (omega arith) (T_true (and_i (joining? S T' x f) (not (eqb (G.st f) (G.st y))) u t)))
        go (gain f) (gain g) i j t = let (h, u) = gained S T' x f i in let (k, w) = gained T' S y g j in
            omega (
              arith,
              cheapest_at (joining? S T' x) rate_s 6 0 G.m f zero-le (omega arith) (T_true u),
              cheapest_at (joining? T' S y) rate_t 6 0 G.m g zero-le (omega arith) (T_true w),
            )

    -- the price of a start with an end
    pub terminal_is : (terminal G M x y).0 ≡ min (min a_start a_stop + 3) (o_start + o_stop)
    unfolding terminal
    terminal_is =
        let up : low_terminal ≤ (terminal G M x y).0 =
        best_ind (λ p. (terminal_price G x y p, p)) (λ c. low_terminal ≤ c.0) (6, (lose, lose)) (terminals_at G M x y)
        (omega (arith, cheapest_≤ start_but rate_s 3 0 G.m)) above in
        omega (arith, below_start, below_stop, below_both)

-- ---- room
module _ (K : Side) (M : ℕ → Bool) where
  -- the edges of the plan at a node, counted in its list
  pub deg_places : (es : List ℕ) (n v : ℕ) → keep M (range 0 K.m) ≡ map (at es) (range 0 n) → deg K M v ≡ count (λ j. eqb (K.end (at es j)) v) n
  unfolding deg count
  deg_places es n v l =
      sym (sum_range (λ e. bit (M e && eqb (K.end e) v)) K.m)
      ∙ sum_cong (λ e. bit (M e && eqb (K.end e) v)) (λ e. pk (M e) (bit (eqb (K.end e) v))) (range 0 K.m) (λ e m. both (M e) (eqb (K.end e) v))
      ∙ sym (sum_keep (λ e. bit (eqb (K.end e) v)) M (range 0 K.m))
      ∙ ap (sum (λ e. bit (eqb (K.end e) v))) l
      ∙ sum_map (λ e. bit (eqb (K.end e) v)) (at es) (range 0 n)
      ∙ sum_range (λ j. bit (eqb (K.end (at es j)) v)) n
    where
      both : (a b : Bool) → bit (a && b) ≡ pk a (bit b)
      both true b = refl
      both false b = refl
