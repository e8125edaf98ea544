-- What the arrays of a plan and its roster show to the search: the plan's edges, their ends and ranks, room at the nodes, the two tables. And that the
-- search on them is the search of the instance that they show.
use Prim.Native.Nat.{ℕ, ◌+◌, ◌*◌, ◌≤◌, ◌<◌, min, zero-le}
use Rattle.std.proofs.Common.{arith, ◌∙◌, subst, le-ltb, ⊎_elim}
use Rattle.std.proofs.Math.Decide.{dec_lt}
use Rattle.std.specs.Prelude.{◌≡◌, refl, Bool, false, ◌&&◌, List, map, ltb, leb}
use Rattle.std.proofs.Math.Path.{sym, ap, ap₂}
use Rattle.std.proofs.Math.Bool.{not}
use mathlib.Core.List.Memᴰ
use Rattle.std.proofs.Math.Dec.{eqb}
use Rattle.std.proofs.Math.Logic.{by_cases}
use Rattle.lists.specs.Test.{bit, bit_one}
use Rattle.lists.specs.Sum.{◌∈◌, range, range_∈, ∈_range, count, sum_cong, up_to, up_to_<}
use Rattle.lists.specs.Search.{low, low_none}
use Rattle.lists.specs.Keep.{∈_keep}
use Rattle.model.specs.Instance.{Instance, surveyors, stands}
use Rattle.model.specs.PlanFile.{edges_in}
use Rattle.theory_votes.specs.Score.{rate}
use Rattle.theory_verdict.specs.Search.{terminal, arc, room?, search}
use Rattle.theory_verdict.proofs.Stop.{search_same}
use Rattle.arrays.specs.ArrayInstance.{at, flag, shown}
use Rattle.arrays.specs.Passes.{Low, Shows, shows_at, shows_behind}
use Rattle.arrays.specs.Filled.{Made}
use Rattle.rival_tables.specs.Filled.{Grid}
use Rattle.rival_tables.specs.Cheapest.{cheapest_cong, cheapest_≤, cheapest_reach}
use Rattle.rival_arcs.specs.Arcs.{joining, price_of, arc_price}
use Rattle.rival_gains.specs.Gains.{gainable, gainable_but, gain_price, gain_price_but, gain_none, but_none}
use Rattle.rival_levels.specs.Walks.{hit_of, search_at, search_is}
use Rattle.rival_levels.specs.Prices.{arc_is, terminal_is, deg_places}

-- the first n entries of es are the plan's edges
abbrev pub Lists : ℕ → List Bool → ℕ → List ℕ → Type 0
Lists m plan n es = edges_in m (flag plan) ≡ map (at es) (range 0 n)

-- the plan's edges are edges
pub listed_low : (m : ℕ) (plan : List Bool) (n : ℕ) (es : List ℕ) → Lists m plan n es → (i : ℕ) → i < n → at es i < m
listed_low m plan n es l i h =
    let k : at es i ∈ edges_in m (flag plan) = subst (λ xs. at es i ∈ xs) (sym l) (Memᴰ.map (at es) (range_∈ n 0 i zero-le (omega arith))) in
    let (r, t) = ∈_keep (flag plan) (range 0 m) k in
    let (u, w) = ∈_range m 0 r in
    omega arith

-- a view of the ends is as low as the ends, at places that are not there too
pub view_low : (m : ℕ) (plan : List Bool) (n : ℕ) (es end view : List ℕ) (k : ℕ) → Lists m plan n es → Low m end 32 → Shows 0 view n (λ i. at end (at es i))
    → Low k view 32
view_low m plan n es end view k l low s i h = by_cases (dec_lt i n)
    (λ u. omega (arith, shows_at 0 view (λ i. at end (at es i)) n i s u, low (at es i) (listed_low m plan n es l i u)))
    (λ u. omega (arith, shows_behind 0 view (λ i. at end (at es i)) n i s (omega arith)))

-- ends and ranks of the plan's edges, by their places
pub record Views (n : ℕ) (es sv st rs rt ps pt rps rpt : List ℕ) : Type 0 where
  pub sv_at : Made 0 ps (λ i. at sv (at es i)) n
  pub st_at : Made 0 pt (λ i. at st (at es i)) n
  pub rs_at : Made 0 rps (λ i. at rs (at es i)) n
  pub rt_at : Made 0 rpt (λ i. at rt (at es i)) n

-- room at the nodes of one side
abbrev pub Roomy : ℕ → (nodes quota : List ℕ) → List Bool → Type 0
Roomy n nodes quota room = Made false room (λ v. ltb (count (λ j. eqb (at nodes j) v) n) (at quota v)) 32

-- an edge with room at both ends
abbrev pub free_at : (sv st : List ℕ) (plan room_s room_t : List Bool) → ℕ → Bool
free_at sv st plan room_s room_t f = not (flag plan f) && (flag room_s (at sv f) && flag room_t (at st f))

-- the two tables, from the views
abbrev pub arc_cell : (m : ℕ) (sv st rs rt : List ℕ) (plan : List Bool) (ps pt rps rpt : List ℕ) → ℕ → ℕ → ℕ
arc_cell m sv st rs rt plan ps pt rps rpt i j = arc_price m sv st rs rt plan (at pt i) (at rpt i) (at ps j) (at rps j)

-- the price of a start with an end
abbrev pub terminal_cell : (m : ℕ) (sv st rs rt : List ℕ) (plan room_s room_t : List Bool) (ps pt rps rpt : List ℕ) → ℕ → ℕ → ℕ
terminal_cell m sv st rs rt plan room_s room_t ps pt rps rpt i j =
    min (min (gain_price_but m sv st rs plan room_t 3 (at ps i) (at rps i) (at pt j)) (gain_price_but m st sv rt plan room_s 3 (at pt j) (at rpt j) (at ps i)) + 3)
    (gain_price m sv st rs plan room_t 6 (at ps i) (at rps i) + gain_price m st sv rt plan room_s 6 (at pt j) (at rpt j))

-- a table of the ends, whichever arrays hold the ranks of the plan's edges
abbrev pub EndsFor : (m : ℕ) (sv st rs rt : List ℕ) (plan room_s room_t : List Bool) (n : ℕ) (es ps pt ends : List ℕ) → Type 0
EndsFor m sv st rs rt plan room_s room_t n es ps pt ends =
    (rps rpt : List ℕ) → Made 0 rps (λ i. at rs (at es i)) n → Made 0 rpt (λ i. at rt (at es i)) n
    → Grid ends n (terminal_cell m sv st rs rt plan room_s room_t ps pt rps rpt)

-- one such array is enough
pub ends_ranked : (m : ℕ) (sv st rs rt : List ℕ) (plan room_s room_t : List Bool) (n : ℕ) (es ps pt rps₀ rpt₀ ends : List ℕ)
    → Shows 0 rps₀ n (λ i. at rs (at es i)) → Shows 0 rpt₀ n (λ i. at rt (at es i)) → Grid ends n (terminal_cell m sv st rs rt plan room_s room_t ps pt rps₀ rpt₀)
    → EndsFor m sv st rs rt plan room_s room_t n es ps pt ends
ends_ranked m sv st rs rt plan room_s room_t n es ps pt rps₀ rpt₀ ends a b g rps rpt rank_s rank_t i j h k =
    g i j h k
    ∙ ap₂
    (λ x y.
    min (min (gain_price_but m sv st rs plan room_t 3 (at ps i) x (at pt j)) (gain_price_but m st sv rt plan room_s 3 (at pt j) y (at ps i)) + 3)
    (gain_price m sv st rs plan room_t 6 (at ps i) x + gain_price m st sv rt plan room_s 6 (at pt j) y))
    (shows_at 0 rps₀ (λ i. at rs (at es i)) n i a h ∙ sym (rank_s i h))
    (shows_at 0 rpt₀ (λ i. at rt (at es i)) n j b k ∙ sym (rank_t j k))

-- the price of an edge e of the plan that is exchanged alone: the ends of a walk that starts and ends there
abbrev pub alone_price : (m : ℕ) (sv st rs rt : List ℕ) (plan room_s room_t : List Bool) → ℕ → ℕ
alone_price m sv st rs rt plan room_s room_t e =
    min
    (min (gain_price_but m sv st rs plan room_t 3 (at sv e) (at rs e) (at st e)) (gain_price_but m st sv rt plan room_s 3 (at st e) (at rt e) (at sv e)) + 3)
    (gain_price m sv st rs plan room_t 6 (at sv e) (at rs e) + gain_price m st sv rt plan room_s 6 (at st e) (at rt e))

-- the first edge of the plan's list that is better exchanged alone, n if there is none
abbrev pub alone_at : (m : ℕ) (sv st rs rt : List ℕ) (plan room_s room_t : List Bool) (es : List ℕ) → ℕ → ℕ
alone_at m sv st rs rt plan room_s room_t es n = low (λ i. ltb (alone_price m sv st rs rt plan room_s room_t (at es i)) 4) n

-- its price stands on the diagonal of every table of the ends
pub alone_cell : (m : ℕ) (sv st rs rt : List ℕ) (plan room_s room_t : List Bool) (es ps pt rps rpt : List ℕ) (i : ℕ) → at ps i ≡ at sv (at es i)
    → at pt i ≡ at st (at es i) → at rps i ≡ at rs (at es i) → at rpt i ≡ at rt (at es i)
    → terminal_cell m sv st rs rt plan room_s room_t ps pt rps rpt i i ≡ alone_price m sv st rs rt plan room_s room_t (at es i)
alone_cell m sv st rs rt plan room_s room_t es ps pt rps rpt i a b c d = simp (a, b, c, d) refl

-- where no node has room, all of the ends cost 6
pub full_cell : (m : ℕ) (sv st rs rt : List ℕ) (plan room_s room_t : List Bool) (ps pt rps rpt : List ℕ) → Low m sv 32 → Low m st 32
    → 32 ≤ low (flag room_s) 32 → 32 ≤ low (flag room_t) 32 → (i j : ℕ) → terminal_cell m sv st rs rt plan room_s room_t ps pt rps rpt i j ≡ 6
full_cell m sv st rs rt plan room_s room_t ps pt rps rpt lowS lowT fullS fullT i j = omega (
  arith,
  but_none m sv st rs plan room_t lowT fullT 3 (at ps i) (at rps i) (at pt j),
  but_none m st sv rt plan room_s lowS fullS 3 (at pt j) (at rpt j) (at ps i),
  gain_none m sv st rs plan room_t lowT fullT 6 (at ps i) (at rps i),
  gain_none m st sv rt plan room_s lowS fullS 6 (at pt j) (at rpt j),
)

-- and no edge is better exchanged alone
pub alone_full : (m : ℕ) (sv st rs rt : List ℕ) (plan room_s room_t : List Bool) (es : List ℕ) (n : ℕ) → Low m sv 32 → Low m st 32
    → 32 ≤ low (flag room_s) 32 → 32 ≤ low (flag room_t) 32 → alone_at m sv st rs rt plan room_s room_t es n ≡ n
alone_full m sv st rs rt plan room_s room_t es n lowS lowT fullS fullT =
    low_none (λ i. ltb (alone_price m sv st rs rt plan room_s room_t (at es i)) 4) n (λ i h.
    let e = at es i in
    le-ltb (alone_price m sv st rs rt plan room_s room_t e) 4 (omega (
      arith,
      but_none m sv st rs plan room_t lowT fullT 3 (at sv e) (at rs e) (at st e),
      but_none m st sv rt plan room_s lowS fullS 3 (at st e) (at rt e) (at sv e),
      gain_none m sv st rs plan room_t lowT fullT 6 (at sv e) (at rs e),
      gain_none m st sv rt plan room_s lowS fullS 6 (at st e) (at rt e),
    )))

count_same : (p q : ℕ → Bool) (n : ℕ) → ((e : ℕ) → e < n → p e ≡ q e) → count p n ≡ count q n
unfolding count
count_same p q n h = sum_cong (λ e. bit (p e)) (λ e. bit (q e)) (up_to n) (λ e k. ap bit (h e (up_to_< n k)))

-- ---- prices are small
rate_two : (a b : ℕ) → rate a b ≤ 2
rate_two a b = omega (arith, bit_one (ltb a b), bit_one (leb a b))

pub arc_small : (m : ℕ) (sv st rs rt : List ℕ) (plan : List Bool) (t b s a : ℕ) → arc_price m sv st rs rt plan t b s a ≤ 133
unfolding arc_price
arc_small m sv st rs rt plan t b s a = cheapest_≤ (joining sv st plan t s) (price_of rs rt b a) 133 0 m

pub arc_cheap : (m : ℕ) (sv st rs rt : List ℕ) (plan : List Bool) (t b s a : ℕ) → arc_price m sv st rs rt plan t b s a < 133
    → arc_price m sv st rs rt plan t b s a ≤ 4
unfolding arc_price
arc_cheap m sv st rs rt plan t b s a h = ⊎_elim
    (λ e. absurd (omega arith))
    (λ (f, l, k, u, e). omega (arith, rate_two b (at rt f), rate_two a (at rs f)))
    (cheapest_reach (joining sv st plan t s) (price_of rs rt b a) 133 0 m)

pub but_small : (m : ℕ) (end other rank : List ℕ) (plan room : List Bool) (e b d : ℕ) → gain_price_but m end other rank plan room 3 e b d ≤ 3
unfolding gain_price_but
but_small m end other rank plan room e b d = cheapest_≤ (gainable_but end other plan room e d) (λ f. rate b (at rank f)) 3 0 m

pub gain_small : (m : ℕ) (end other rank : List ℕ) (plan room : List Bool) (e b : ℕ) → gain_price m end other rank plan room 6 e b ≤ 6
unfolding gain_price
gain_small m end other rank plan room e b = cheapest_≤ (gainable end other plan room e) (λ f. rate b (at rank f)) 6 0 m

-- ---- the tables show the instance's prices
module _ (m ns nt : ℕ) (sv st rs rt sh : List ℕ) (tied : List Bool) (quota_s quota_t : List ℕ) (plan : List Bool) (n : ℕ) (es ps pt rps rpt : List ℕ)
    (room_s room_t : List Bool)
    (lowS : Low m sv 32) (lowT : Low m st 32) (lists : Lists m plan n es) (views : Views n es sv st rs rt ps pt rps rpt)
    (roomyS : Roomy n ps quota_s room_s) (roomyT : Roomy n pt quota_t room_t) where
  abbrev G : Instance
  G = shown m ns nt sv st rs rt sh tied quota_s quota_t

  abbrev M : ℕ → Bool
  M = flag plan

  -- the table of the arcs shows the prices of the arcs
  pub arc_shown : (i j : ℕ) → i < n → j < n → arc_cell m sv st rs rt plan ps pt rps rpt i j ≡ (arc G M 133 (at es i) (at es j)).0
  unfolding arc_price
  arc_shown i j il jl =
      cheapest_cong (joining sv st plan (at pt i) (at ps j)) (λ f. not (M f) && (eqb (at st f) (at st (at es i)) && eqb (at sv f) (at sv (at es j))))
      (price_of rs rt (at rpt i) (at rps j)) (λ f. rate (at rt (at es i)) (at rt f) + rate (at rs (at es j)) (at rs f)) 133 0 m
      (λ f p q. ap₂ (λ t s. not (M f) && (eqb (at st f) t && eqb (at sv f) s)) (views.st_at i il) (views.sv_at j jl))
      (λ f p q. ap₂ (λ b a. rate b (at rt f) + rate a (at rs f)) (views.rt_at i il) (views.rs_at j jl))
      ∙ sym (arc_is G M (at es i) (at es j))

  -- the room at the surveyor of an edge
  pub room_s_law : (f : ℕ) → f < m → flag room_s (at sv f) ≡ room? M (surveyors G) f
  room_s_law f h = roomyS (at sv f) (lowS f h) ∙ ap (λ c. ltb c (at quota_s (at sv f))) (counted ∙ sym (deg_places (surveyors G) M es n (at sv f) lists))
    where
      counted : count (λ j. eqb (at ps j) (at sv f)) n ≡ count (λ j. eqb (at sv (at es j)) (at sv f)) n
      counted = count_same (λ j. eqb (at ps j) (at sv f)) (λ j. eqb (at sv (at es j)) (at sv f)) n (λ j l. ap (λ s. eqb s (at sv f)) (views.sv_at j l))

  -- the room at its stand
  pub room_t_law : (f : ℕ) → f < m → flag room_t (at st f) ≡ room? M (stands G) f
  room_t_law f h = roomyT (at st f) (lowT f h) ∙ ap (λ c. ltb c (at quota_t (at st f))) (counted ∙ sym (deg_places (stands G) M es n (at st f) lists))
    where
      counted : count (λ j. eqb (at pt j) (at st f)) n ≡ count (λ j. eqb (at st (at es j)) (at st f)) n
      counted = count_same (λ j. eqb (at pt j) (at st f)) (λ j. eqb (at st (at es j)) (at st f)) n (λ j l. ap (λ s. eqb s (at st f)) (views.st_at j l))

  pub free_shown : (f : ℕ) → f < m → free_at sv st plan room_s room_t f ≡ not (M f) && (room? M (surveyors G) f && room? M (stands G) f)
  free_shown f h = ap₂ (λ a b. not (M f) && (a && b)) (room_s_law f h) (room_t_law f h)

  -- the table of the ends shows the prices of starts with ends
  pub terminal_shown : (i j : ℕ) → i < n → j < n → terminal_cell m sv st rs rt plan room_s room_t ps pt rps rpt i j ≡ (terminal G M (at es i) (at es j)).0
  unfolding gain_price gain_price_but
  terminal_shown i j il jl = ap₂ (λ a b. min (a + 3) b) (ap₂ min
      (cheapest_cong (gainable_but sv st plan room_t (at ps i) (at pt j))
      (λ f. (not (M f) && (eqb (at sv f) (at sv x) && room? M (stands G) f)) && not (eqb (at st f) (at st y))) (λ f. rate (at rps i) (at rs f))
      (λ f. rate (at rs x) (at rs f)) 3 0 m
      (λ f p q. ap₂ (λ s t. (not (M f) && (eqb (at sv f) s && flag room_t (at st f))) && not (eqb (at st f) t)) (views.sv_at i il) (views.st_at j jl)
      ∙ ap (λ r. (not (M f) && (eqb (at sv f) (at sv x) && r)) && not (eqb (at st f) (at st y))) (room_t_law f (omega arith)))
      (λ f p q. ap (λ a. rate a (at rs f)) (views.rs_at i il)))
      (cheapest_cong (gainable_but st sv plan room_s (at pt j) (at ps i))
      (λ f. (not (M f) && (eqb (at st f) (at st y) && room? M (surveyors G) f)) && not (eqb (at sv f) (at sv x))) (λ f. rate (at rpt j) (at rt f))
      (λ f. rate (at rt y) (at rt f)) 3 0 m
      (λ f p q. ap₂ (λ s t. (not (M f) && (eqb (at st f) t && flag room_s (at sv f))) && not (eqb (at sv f) s)) (views.sv_at i il) (views.st_at j jl)
      ∙ ap (λ r. (not (M f) && (eqb (at st f) (at st y) && r)) && not (eqb (at sv f) (at sv x))) (room_s_law f (omega arith)))
      (λ f p q. ap (λ a. rate a (at rt f)) (views.rt_at j jl))))
      (ap₂ (λ a b. a + b)
      (cheapest_cong (gainable sv st plan room_t (at ps i)) (λ f. not (M f) && (eqb (at sv f) (at sv x) && room? M (stands G) f))
      (λ f. rate (at rps i) (at rs f)) (λ f. rate (at rs x) (at rs f)) 6 0 m
      (λ f p q. ap₂ (λ s r. not (M f) && (eqb (at sv f) s && r)) (views.sv_at i il) (room_t_law f (omega arith)))
      (λ f p q. ap (λ a. rate a (at rs f)) (views.rs_at i il)))
      (cheapest_cong (gainable st sv plan room_s (at pt j)) (λ f. not (M f) && (eqb (at st f) (at st y) && room? M (surveyors G) f))
      (λ f. rate (at rpt j) (at rt f)) (λ f. rate (at rt y) (at rt f)) 6 0 m
      (λ f p q. ap₂ (λ s r. not (M f) && (eqb (at st f) s && r)) (views.st_at j jl) (room_s_law f (omega arith)))
      (λ f p q. ap (λ a. rate a (at rt f)) (views.rt_at j jl))))
      ∙ sym (terminal_is G M (at es i) (at es j))
    where
      x : ℕ
      x = at es i

      y : ℕ
      y = at es j

  -- the search on tables that show the prices is the search of the instance
  pub search_shown : (arcs terminals : List ℕ) (k : ℕ) → Grid arcs n (arc_cell m sv st rs rt plan ps pt rps rpt)
      → Grid terminals n (terminal_cell m sv st rs rt plan room_s room_t ps pt rps rpt)
      → 2 * n + 4 + k ≤ 133 → hit_of G M es (search_at m (free_at sv st plan room_s room_t) arcs terminals n k) ≡ search G M 133 k n
  search_shown arcs terminals k a t h =
      search_is G M es n lists arcs terminals (λ i j il jl. a i j il jl ∙ arc_shown i j il jl) (λ i j il jl. t i j il jl ∙ terminal_shown i j il jl)
      k (free_at sv st plan room_s room_t) free_shown
      ∙ search_same G M 133 k n h
