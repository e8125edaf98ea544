-- The edges of the plan that go and the edges that come, by the places that the search found; that they are the search's, and that the plan
-- without the former and with the latter is the rival.
use Rattle.std.specs.Prelude.{ℕ, ◌+◌, ◌≤◌, ◌<◌, ◌≡◌, Bool, cond, ◌&&◌, ◌||◌, List, [], ◌∷◌, ◌++◌, map, length, set, replicate, ltb, eqb, Option, Some, None}
use Rattle.std.proofs.Common.{arith, ◌∙◌, lt-ltb, le-ltb}
use Rattle.std.proofs.Math.Decide.{dec_lt}
use Rattle.std.proofs.Math.Path.{refl, sym, ap, ap₂}
use Rattle.std.proofs.Math.Logic.{by_cases}
use Rattle.std.proofs.Math.Bool.{true, false, not}
use Rattle.std.proofs.Math.Option.{Option as Opt, Option-elim}
use Rattle.std.proofs.Math.ListN.{get_or-eq_default}
use Rattle.lists.specs.Test.{bit}
use Rattle.lists.specs.Sum.{range, occ, sum_append}
use Rattle.model.specs.Instance.{Instance, surveyors, stands}
use Rattle.model.specs.Plans.{on}
use Rattle.model.specs.PlanFile.{plan_of}
use Rattle.theory_instance.specs.Walk.{Steps}
use Rattle.theory_files.specs.Chosen.{on_plan_of, plan_of_length}
use Rattle.theory_verdict.specs.LemmaX.{swapped}
use Rattle.theory_verdict.specs.Arcs.{fs, zs}
use Rattle.theory_verdict.specs.Ends.{Way, fresh}
use Rattle.theory_verdict.specs.AlternatingPath.{comers}
use Rattle.theory_verdict.specs.Search.{Hit, rival_by, room?, olds, terminal, arc, trace}
use Rattle.arrays.specs.ArrayInstance.{at, flag, shown}
use Rattle.arrays.specs.Passes.{Shows, all_blank}
use Rattle.rival_tables.specs.Filled.{Grid}
use Rattle.rival_levels.specs.declared.Found.TheVariants as found
use Rattle.rival_levels.specs.declared.Found.{Found}
use Rattle.rival_levels.specs.Walks.{hit_of}
use Rattle.rival_walk.specs.Edges.{arc_edge}
use Rattle.rival_walk.specs.Marks.{listed, Marked, note, none_left}
use Rattle.rival_walk.specs.Walks.{walk_at, trace_is}
use Rattle.rival_exchange.specs.declared.Ends.{Ends}
use Rattle.rival_exchange.specs.Ways.{told, fresh_way, terminal_by, terminal_by_law}
use Rattle.rival_search.specs.TwoThresholds.{Bounded}

-- an array marks the edges of a list
abbrev pub Marks : List Bool → List ℕ → Type 0
Marks g xs = (e : ℕ) → flag g e ≡ listed e xs

listed_append : (e : ℕ) (xs ys : List ℕ) → listed e (xs ++ ys) ≡ listed e xs || listed e ys
listed_append e xs ys = ap (ltb 0) (sum_append (λ x. bit (eqb x e)) xs ys) ∙ go (occ e xs) (occ e ys)
  where
    go : (a b : ℕ) → ltb 0 (a + b) ≡ ltb 0 a || ltb 0 b
    go a b = by_cases (dec_lt 0 a)
        (λ h. lt-ltb 0 (a + b) (omega arith) ∙ sym (ap (λ c. c || ltb 0 b) (lt-ltb 0 a h)))
        (λ n. let z : a + b ≡ b = omega arith in ap (ltb 0) z ∙ sym (ap (λ c. c || ltb 0 b) (le-ltb 0 a (omega arith))))

-- marks on marks
pub marks_more : (g : List Bool) (xs ys : List ℕ) (r : List Bool) → Marks g xs → Marked g ys r → Marks r (xs ++ ys)
marks_more g xs ys r h k e = k e ∙ ap (λ b. b || listed e ys) (h e) ∙ sym (listed_append e xs ys)

-- one edge is marked, or there is none
pub mark_one : (g : List Bool) (m c : ℕ) → c < m → c < length g → Marked g (cond (ltb c m) (c ∷ []) []) (set g c true)
mark_one g m c h l e = none_left (flag (set g c true) e) e ∙ note g c [] e l ∙ ap (λ (b : Bool). flag g e || listed e (cond b (c ∷ []) [])) (sym (lt-ltb c m h))

pub mark_none : (g : List Bool) (m c : ℕ) → m ≤ c → Marked g (cond (ltb c m) (c ∷ []) []) g
mark_none g m c h e = none_left (flag g e) e ∙ ap (λ (b : Bool). flag g e || listed e (cond b (c ∷ []) [])) (sym (le-ltb c m h))

-- on an array without marks
pub blank_none : (k : ℕ) → Marks (replicate k false) []
blank_none k e = all_blank false k e

pub blank_marks : (k : ℕ) (xs : List ℕ) (r : List Bool) → Marked (replicate k false) xs r → Marks r xs
blank_marks k xs r h e = marks_more (replicate k false) [] xs r (blank_none k) h e

-- one edge marked in a blank array
pub blank_one : (k m c : ℕ) (r : List Bool) → c < m → Marked (replicate k false) (cond (ltb c m) (c ∷ []) []) r → Marks r (c ∷ [])
blank_one k m c r l h e = blank_marks k (cond (ltb c m) (c ∷ []) []) r h e ∙ ap (λ (b : Bool). listed e (cond b (c ∷ []) [])) (lt-ltb c m l)

-- what is gained at both ends
pub marks_ends : (m : ℕ) (t : Ends) (p : ℕ × (Way × Way)) (k : ℕ) (g r : List Bool) → told m t ≡ p
    → Marked (replicate k false) (cond (ltb t.start m) (t.start ∷ []) []) g
    → Marked g (cond (ltb t.stop m) (t.stop ∷ []) []) r → Marks r (fresh p.1.0 ++ fresh p.1.1)
marks_ends m t p k g r q a b e =
    marks_more g (cond (ltb t.start m) (t.start ∷ []) []) (cond (ltb t.stop m) (t.stop ∷ []) []) r
    (blank_marks k (cond (ltb t.start m) (t.start ∷ []) []) g a) b e
    ∙ ap₂ (λ xs ys. listed e (xs ++ ys)) (sym (fresh_way m t.start)) (sym (fresh_way m t.stop))
    ∙ ap (λ (p : ℕ × (Way × Way)). listed e (fresh p.1.0 ++ fresh p.1.1)) q

-- the walk's edges are marked after those of its ends
pub marks_path : (a b : Way) (w : Steps) (g r : List Bool) → Marks g (fresh a ++ fresh b) → Marked g (fs w) r → Marks r (comers a w b)
marks_path a b w g r h k e =
    marks_more g (fresh a ++ fresh b) (fs w) r h k e ∙ listed_append e (fresh a ++ fresh b) (fs w)
    ∙ ap (λ c. c || listed e (fs w)) (listed_append e (fresh a) (fresh b))
    ∙ swap (listed e (fresh a)) (listed e (fresh b)) (listed e (fs w))
    ∙ sym (listed_append e (fresh a) (fs w ++ fresh b) ∙ ap (λ c. listed e (fresh a) || c) (listed_append e (fs w) (fresh b)))
  where
    swap : (x y z : Bool) → (x || y) || z ≡ x || (z || y)
    swap true y z = refl
    swap false true true = refl
    swap false true false = refl
    swap false false true = refl
    swap false false false = refl

-- ---- by places
module _ (m : ℕ) (sv st rs rt : List ℕ) (plan room_s room_t : List Bool) (es arcs : List ℕ) (n : ℕ) where
  abbrev pub walk_by : ℕ → ℕ → ℕ → Steps
  walk_by l i j = walk_at (arc_edge m sv st rs rt plan) es arcs n j l i

  abbrev pub ways_by : ℕ → ℕ → Way × Way
  ways_by x y = (terminal_by m sv st rs rt x y plan room_s room_t).1

  -- the edges of the plan that go by what was found
  abbrev pub gone_by : Option Found → List ℕ
  gone_by None = []
  gone_by (Some (found.Direct f)) = []
  gone_by (Some (found.Alone i)) = at es i ∷ []
  gone_by (Some (found.Closed l i)) = zs (walk_by l i i)
  gone_by (Some (found.Open l i j)) = at es i ∷ zs (walk_by l i j)

  -- the edges that come by what was found
  abbrev pub come_by : Option Found → List ℕ
  come_by None = []
  come_by (Some (found.Direct f)) = f ∷ []
  come_by (Some (found.Alone i)) = fresh (ways_by (at es i) (at es i)).0 ++ fresh (ways_by (at es i) (at es i)).1
  come_by (Some (found.Closed l i)) = fs (walk_by l i i)
  come_by (Some (found.Open l i j)) = comers (ways_by (at es i) (at es j)).0 (walk_by l i j) (ways_by (at es i) (at es j)).1

  -- the rival, by what goes and what comes
  abbrev pub rival_at : Option Found → ℕ → Bool
  rival_at f e = (flag plan e && not (listed e (gone_by f))) || listed e (come_by f)

  -- ---- they are the search's
  module _ (ns nt : ℕ) (sh : List ℕ) (tied : List Bool) (quota_s quota_t : List ℕ) where
    abbrev G : Instance
    G = shown m ns nt sv st rs rt sh tied quota_s quota_t

    abbrev M : ℕ → Bool
    M = flag plan

    module _ (lists : olds G M ≡ map (at es) (range 0 n)) (terminals : List ℕ)
        (arcsShow : Grid arcs n (λ i j. (arc G M 133 (at es i) (at es j)).0)) (terminalsShow : Grid terminals n (λ i j. (terminal G M (at es i) (at es j)).0))
        (roomsS : (f : ℕ) → f < m → flag room_s (at sv f) ≡ room? M (surveyors G) f)
        (roomsT : (f : ℕ) → f < m → flag room_t (at st f) ≡ room? M (stands G) f) where
      walk_is : (l i j : ℕ) → i < n → j < n → walk_by l i j ≡ trace G M 133 l (at es i) (at es j)
      unfolding arc arc_edge
      walk_is l i j il jl = sym (trace_is G M es n lists arcs terminals arcsShow terminalsShow l i j il jl)

      ways_are : (x y : ℕ) → ways_by x y ≡ (terminal G M x y).1
      ways_are x y = sym (ap (λ t. t.1) (terminal_by_law m sv st rs rt x y plan room_s room_t ns nt sh tied quota_s quota_t roomsS roomsT))

      abbrev elsewhere : Opt Hit → ℕ → Bool
      elsewhere o = Option-elim o M (rival_by M)

      -- the exchange by places is that of the search
      pub rival_at_law : (f : Option Found) → Bounded m n f → (e : ℕ) → rival_at f e ≡ elsewhere (hit_of G M es f) e
      unfolding Option-elim swapped
      rival_at_law None b e = same (M e)
        where
          same : (x : Bool) → (x && true) || false ≡ x
          same true = refl
          same false = refl
      rival_at_law (Some (found.Direct f)) b e = refl
      rival_at_law (Some (found.Alone i)) b e = ap (λ p. (M e && not (listed e (at es i ∷ []))) || listed e (fresh p.0 ++ fresh p.1)) (ways_are (at es i) (at es i))
      rival_at_law (Some (found.Closed l i)) b e = ap (λ w. (M e && not (listed e (zs w))) || listed e (fs w)) (walk_is l i i b.1 b.1)
      rival_at_law (Some (found.Open l i j)) b e =
          ap₂ (λ w p. (M e && not (listed e (at es i ∷ zs w))) || listed e (comers p.0 w p.1)) (walk_is l i j b.1 b.2)
          (ways_are (at es i) (at es j))

-- ---- as a plan
pub shows_plan : (m : ℕ) (r : List Bool) (p : ℕ → Bool) → Shows false r m p → (e : ℕ) → flag r e ≡ on (plan_of m p) e
shows_plan m r p s e = s e ∙ by_cases (dec_lt e m)
    (λ h. ap (λ (b : Bool). cond b (p e) false) (lt-ltb e m h) ∙ sym (on_plan_of m p e h))
    (λ n. ap (λ (b : Bool). cond b (p e) false) (le-ltb e m (omega arith))
    ∙ sym (get_or-eq_default (plan_of m p) false (let h : length (plan_of m p) ≤ e = omega (arith, plan_of_length m p) in h)))
