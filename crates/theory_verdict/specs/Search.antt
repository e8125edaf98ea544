-- The search for a rival of a plan M, as functions that run. It reads by itself; that it is right, Levels and Verdict prove.
-- An arc x → z by f, for x and z in M and f outside: x gives way to f at its stand and z at its surveyor. A walk of arcs with a start and
-- an end, a closed walk, or one edge with room at both ends makes another plan, and its cost is at least the vote of M against it.
-- An arc, a start and an end cost at least -2 each: a table holds costs with 2 added for each, so that they are numbers, and cuts them at
-- a lid, which stands for "none". With at most 64 edges in M the lid 133 is enough, so that a byte holds every price.
-- A program needs the table of the arcs, that of the ends, and one layer, changed level by level; the walk that is found is read back
-- from one column of the layers (rival_columns, rival_walk).
use Rattle.std.specs.Prelude.{ℕ, zero, suc, ◌+◌, ◌*◌, min, Bool, true, not, cond, ◌&&◌, List, [], ◌∷◌, map, leb, ltb, eqb}
use Rattle.std.proofs.Math.Option.{Option, none, some, or_else, Option-elim}
use Rattle.lists.specs.Sum.{range}
use Rattle.lists.specs.Keep.{keep, all?, product}
use Rattle.lists.specs.First.{first, best}
use Rattle.model.specs.Instance.{Instance, Side, surveyors, stands, deg}
use Rattle.model.specs.Plans.{Verdict, strong, popular, beaten}
use Rattle.model.specs.PlanFile.{edges_in}
use Rattle.theory_instance.specs.Walk.{Steps}
use Rattle.theory_votes.specs.Score.{rate}
use Rattle.theory_verdict.specs.LemmaX.{swapped}
use Rattle.theory_verdict.specs.Arcs.{fs, zs}
use Rattle.theory_verdict.specs.Ends.{Way, lose, gain}
use Rattle.theory_verdict.specs.AlternatingPath.{comers}

-- ---- what is found: an edge with room at both ends, a closed walk, or a walk with a start and an end
pub data Hit : Type 0 where
  direct : ℕ → Hit
  loop : ℕ → Steps → Hit
  path : Way → ℕ → Steps → ℕ → Way → Hit

-- the edges of M that go, the edges that come, and what M becomes
abbrev pub goes : Hit → List ℕ
goes (direct f) = []
goes (loop x w) = zs w
goes (path a x w y b) = x ∷ zs w

abbrev pub comes : Hit → List ℕ
comes (direct f) = f ∷ []
comes (loop x w) = fs w
comes (path a x w y b) = comers a w b

-- M after what was found: without the edges that go, with those that come
abbrev pub rival_by : (ℕ → Bool) → Hit → ℕ → Bool
rival_by M h = swapped M (goes h) (comes h)

-- how the least walk of a layer leads off: as in the layer before, or by an arc to y
pub data Lead : Type 0 where
  stay : Lead
  via : ℕ → Lead

-- c where the walk is that of the layer before, f of the edge y where it leads off to y
abbrev pub on_lead : {C : Type 0} → Lead → C → (ℕ → C) → C
on_lead stay c f = c
on_lead (via y) c f = f y

-- ---- prices: 2 more than the cost
-- of an end where z is lost, or gives way to f; `rank` is that of the side where it does, and at its other side f is gained
abbrev pub end_price : (ℕ → ℕ) → ℕ → Way → ℕ
end_price rank z lose = 3
end_price rank z (gain f) = rate (rank z) (rank f)

-- of a walk that is counted with one arc more than it was
abbrev pub kept : ℕ → ℕ → ℕ
kept lid c = min lid (c + 2)

module _ (G : Instance) where
  -- of an arc x → z by f
  abbrev pub price : ℕ → ℕ → ℕ → ℕ
  price x f z = rate (G.rank_t x) (G.rank_t f) + rate (G.rank_s z) (G.rank_s f)

  -- of a start at x with an end at y
  abbrev pub terminal_price : ℕ → ℕ → Way × Way → ℕ
  terminal_price x y p = end_price G.rank_s x p.0 + end_price G.rank_t y p.1

  -- ---- tests: f is an arc x → z; at the two ends no node both gains and loses
  -- f lies at the stand of x and at the surveyor of z
  abbrev pub links? : ℕ → ℕ → ℕ → Bool
  links? x z f = eqb (G.st f) (G.st x) && eqb (G.sv f) (G.sv z)

  -- a start at x and an end at y go together: no node both gains an edge and loses one
  abbrev pub apart? : ℕ → ℕ → Way × Way → Bool
  apart? x y (lose, lose) = true
  apart? x y (lose, gain g) = not (eqb (G.sv g) (G.sv x))
  apart? x y (gain f, lose) = not (eqb (G.st f) (G.st y))
  apart? x y (gain f, gain g) = true

module _ (M : ℕ → Bool) where
  -- the node of f on side K is not full; f may come in place of z on side K, gained on side J
  abbrev pub room? : Side → ℕ → Bool
  room? K f = ltb (deg K M (K.end f)) (K.quota (K.end f))

  -- f lies at the node of z on side K and has room on side J
  abbrev pub joins? : Side → Side → ℕ → ℕ → Bool
  joins? K J z f = eqb (K.end f) (K.end z) && room? J f

module _ (G : Instance) (M : ℕ → Bool) where
  -- ---- edges, in the order in which a loop meets them: those of M, and those outside that pass a test
  -- the edges of M, ascending
  abbrev pub olds : List ℕ
  olds = edges_in G.m M

  -- the edges outside M that pass a test, ascending
  abbrev pub news : (ℕ → Bool) → List ℕ
  news p = keep (λ f. not (M f) && p f) (range 0 G.m)

  -- ---- the table of the ends: the least price of a start at x with an end at y, and these two
  -- how a walk may start or end at z: z is lost, or gives way on side K to an edge outside M that has room on side J
  abbrev pub ways : Side → Side → ℕ → List Way
  ways K J z = lose ∷ map gain (news (joins? M K J z))

  -- every start at x with every end at y that goes together with it
  abbrev pub terminals_at : ℕ → ℕ → List (Way × Way)
  terminals_at x y = keep (apart? G x y) (product (ways (surveyors G) (stands G) x) (ways (stands G) (surveyors G) y))

  -- the first cheapest of these with its price; none is dearer than to lose at both ends, which is 6
  unfoldable pub terminal : ℕ → ℕ → ℕ × (Way × Way)
  terminal x y = best (λ p. (terminal_price G x y p, p)) (6, (lose, lose)) (terminals_at x y)

  module _ (lid : ℕ) where
    -- ---- the table of the arcs: the least price of an arc x → z, and its edge
    unfoldable pub arc : ℕ → ℕ → ℕ × ℕ
    arc x z = best (λ f. (price G x f z, f)) (lid, 0) (news (links? G x z))

    -- ---- layer n: the least price of a walk of 1 to n + 1 arcs from x to z, counted as if it had n + 1, and how it leads off: the walk
    -- of the layer before, which now has an arc fewer, or an arc to some y and the layer before from there
    unfoldable pub layer : ℕ → ℕ → ℕ → ℕ × Lead
    layer zero x z = ((arc x z).0, stay)
    layer (suc n) x z = best (λ y. ((arc x y).0 + (layer n y z).0, via y)) (kept lid (layer n x z).0, stay) olds

    -- the price alone, without how the walk leads off
    abbrev pub walk_price : ℕ → ℕ → ℕ → ℕ
    walk_price n x z = (layer n x z).0

    -- that walk
    unfoldable pub trace : ℕ → ℕ → ℕ → Steps
    trace zero x z = ((arc x z).1, z) ∷ []
    trace (suc n) x z = on_lead (layer (suc n) x z).1 (trace n x z) (λ y. ((arc x y).1, y) ∷ trace n y z)

  -- ---- the tests, in their order: is there anything of cost below k?
  -- a walk from x to y, with the cheapest start and end
  abbrev pub as_path : ℕ → ℕ → Steps → Hit
  as_path x y w = path (terminal x y).1.0 x w y (terminal x y).1.1

  -- the lowest edge outside M that has room at both ends, if there is one
  unfoldable pub directs : Option Hit
  directs = first (λ f. not (M f) && (room? M (surveyors G) f && room? M (stands G) f)) direct (range 0 G.m)

  module _ (lid k : ℕ) where
    -- alternating paths without an arc
    unfoldable pub alone_at : Option Hit
    alone_at = first (λ x. ltb (terminal x x).0 (4 + k)) (λ x. as_path x x []) olds

    -- closed walks, alternating paths, of at most n + 1 arcs
    unfoldable pub loop_at : ℕ → Option Hit
    loop_at n = first (λ x. ltb (walk_price lid n x x) (2 * suc n + k)) (λ x. loop x (trace lid n x x)) olds

    -- the first two edges of M with a walk of at most n + 1 arcs between them that, with its start and end, costs less than k
    unfoldable pub path_at : ℕ → Option Hit
    path_at n = first (λ p. ltb (walk_price lid n p.0 p.1 + (terminal p.0 p.1).0) (2 * suc n + 4 + k))
        (λ p. as_path p.0 p.1 (trace lid n p.0 p.1)) (product olds olds)

    -- ---- level by level, closed walks first: so nothing comes twice in what is found first
    unfoldable pub levels : ℕ → ℕ → Option Hit
    levels zero n = none
    levels (suc j) n = or_else (loop_at n) (or_else (path_at n) (levels j (suc n)))

    -- the whole search for a cost below k: an edge with room, alternating paths without an arc, then B levels
    unfoldable pub search : ℕ → Option Hit
    search B = or_else directs (or_else alone_at (levels B 0))

    -- the same, but it stops where a layer adds nothing to the one before: the form to run (Stop proves that it finds the same)
    unfoldable pub still : ℕ → Bool
    still n = all? (λ p. leb (kept lid (walk_price lid n p.0 p.1)) (walk_price lid (suc n) p.0 p.1)) (product olds olds)

    -- level by level, up to the first layer that the next one adds nothing to
    unfoldable pub levels' : ℕ → ℕ → Option Hit
    levels' zero n = none
    levels' (suc j) n = or_else (loop_at n) (or_else (path_at n) (cond (still n) none (levels' j (suc n))))

    -- the whole search with the early stop
    unfoldable pub search' : ℕ → Option Hit
    search' B = or_else directs (or_else alone_at (levels' B 0))

-- ---- the verdict: a hit below 0 beats M; if there is none, a hit below 1 draws with it
abbrev pub judge : Option Hit → Option Hit → Verdict
judge none none = strong
judge none (some h) = popular
judge (some h) o = beaten

module _ (G : Instance) (M : ℕ → Bool) (lid B : ℕ) where
  -- the verdict by the search below 0 and the search below 1, of B levels each
  unfoldable pub verdict_by : Verdict
  verdict_by = judge (search G M lid 0 B) (search G M lid 1 B)

  -- the edges of the rival, of M itself if there is none
  unfoldable pub rival_edges : ℕ → Bool
  rival_edges = Option-elim (or_else (search G M lid 0 B) (search G M lid 1 B)) M (rival_by M)
