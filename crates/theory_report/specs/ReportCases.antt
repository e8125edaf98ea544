-- Two lemmas of the report that are false, run by the checker (docs/THEORY.md, "Where the report is short"): instances that have the properties
-- which the lemmas stand on, in the report's own words, and a strongly popular plan that the lemmas exclude. Its digraph is the arrows, its T₂
-- the loose stands. No rule but rule 7 acts on the first, so rules 1 to 6 alone leave its pairs: with them the End theorem would be false.
use Rattle.std.specs.Prelude.{ℕ, ◌≡◌, refl, Bool, true, false, not, ◌&&◌, ◌||◌, List, take, leb, ltb, eqb}
use Rattle.std.proofs.Math.Option.{Option-elim, or_else}
use Rattle.lists.specs.Sum.{count, up_to}
use Rattle.lists.specs.Search.{low}
use Rattle.lists.specs.First.{first}
use Rattle.lists.specs.Keep.{all?, any?}
use Rattle.model.specs.Decimal.{bytes, numbers_from}
use Rattle.model.specs.Text.{text}
use Rattle.model.specs.Reading.{Reading, accepted, refused, read_each}
use Rattle.model.specs.Roster.{Roster, listed, listed_back, both_or_neither}
use Rattle.model.specs.RosterFile.{read_roster, read_roster_by}
use Rattle.model.specs.Edges.{position, edges_of, instance_of}
use Rattle.model.specs.Instance.{Instance, Side, surveyors, stands, deg}
use Rattle.model.specs.Vote.{node_vote, vote}
use Rattle.model.specs.Plans.{Plan, on, choices, within, plans_of, same_plan, beaten_by, drawn_with, verdict_of, is_strong, strong_plans, strong_count}
use Rattle.model.specs.Reduction.{State, cut, ahead, arrow, cut_s, cut_t, arrow_s, arrow_t, deg_s, deg_t, loose, reserved, better_s, better_t, worse_reserved}
use Rattle.model.specs.Reduction.{rule1, rule2, rule3, rule4, rule5, rule6, rule7, rules, step_by, first_step, begin}
use Rattle.model.specs.PlanFile.{edge_of_pair, read_plan, read_plan_by}

-- ---- the report's properties of an instance in which nothing is fixed yet
module _ (G : Instance) where
  abbrev Z : State
  Z = begin G

  -- "G has no isolated nodes and b(v) ≤ d_G(v)": no quota is 0 or cut
  abbrev full_side : Side → Bool
  full_side K = all? (λ v. ltb 0 (K.quota v) && leb (K.quota v) (deg K Z.rem v)) (up_to K.n)

  -- "D does not contain bidirected edges"
  abbrev property1 : Bool
  property1 = all? (λ e. not (arrow_s G Z e && arrow_t G Z e)) (up_to G.m)

  -- "every node s ∈ S is entered by at most b(s) directed edges in D, and if there are more than b(t) directed edges entering a node t ∈ T, then t
  -- is indifferent between at least two of them"
  abbrev indifferent : ℕ → Bool
  indifferent t = any? (λ d. ltb 1 (deg_t G Z (λ e. arrow_s G Z e && eqb (G.rank_t e) (G.rank_t d)) t)) (up_to G.m)

  abbrev property2 : Bool
  property2 = all? (λ s. leb (deg_s G Z (arrow_t G Z) s) (cut_s G Z s)) (up_to G.ns)
      && all? (λ t. leb (deg_t G Z (arrow_s G Z) t) (cut_t G Z t) || indifferent t) (up_to G.nt)

  -- "if there is a directed edge entering a node t ∈ T, the number of directed edges incident to t is more than b(t)"
  abbrev property3 : Bool
  property3 = all? (λ t. eqb (deg_t G Z (arrow_s G Z) t) 0 || ltb (cut_t G Z t) (deg_t G Z (λ e. arrow_s G Z e || arrow_t G Z e) t)) (up_to G.nt)

  -- "the number of directed edges in D[S ∪ (T \ T₂)] entering a node s ∈ S plus the number of edges between s and T₂ is at most b(s)"
  abbrev property4 : Bool
  property4 = all? (λ s. leb (deg_s G Z (reserved G Z) s) (cut_s G Z s)) (up_to G.ns)

  -- "every edge of G is either directed in D or has one endpoint in T₂"
  abbrev property5 : Bool
  property5 = all? (λ e. (arrow_s G Z e || arrow_t G Z e) || loose G Z (G.st e)) (up_to G.m)

  -- as the fourth, but "is exactly b(s)"
  abbrev property6 : Bool
  property6 = all? (λ s. eqb (deg_s G Z (reserved G Z) s) (cut_s G Z s)) (up_to G.ns)

  abbrev five_properties : Bool
  five_properties = (full_side (surveyors G) && full_side (stands G)) && (property1 && (property2 && (property3 && (property4 && property5))))

  -- none of the report's claims, rules 1 to 6, names an edge, and there is one
  abbrev claims_silent : Bool
  claims_silent = Option-elim (first_step G Z (take 6 (rules G Z))) (ltb 0 G.m) (λ s. false)

-- a node that a plan leaves with room
abbrev has_room : Side → Plan → ℕ → Bool
has_room K M v = ltb (deg K (on M) v) (K.quota v)

-- ---- what holds of a roster with its one strongly popular plan, both as files
abbrev on_plan : Reading Plan → (Plan → Bool) → Bool
on_plan (accepted M) f = f M
on_plan (refused n) f = false

abbrev on_roster : Reading Roster → (Instance → Bool) → Bool
on_roster (accepted r) f = f (instance_of r)
on_roster (refused n) f = false

abbrev strongly : (file plan : List ℕ) → (Instance → Plan → Bool) → Bool
strongly file plan f = on_roster (read_roster file) (λ G. eqb (strong_count G) 1 && on_plan (read_plan G plan) (λ M. is_strong (verdict_of G M) && f G M))

-- P10 of document 01 and P11 (MoreCases), with their plans
abbrev P10 : (Instance → Plan → Bool) → Bool
P10 = strongly (bytes "2 1 1 2 1 2 4 0 2 1 1 2 1 2 1 1 2 1 4 0 0 2 1 1 2 1 2 0 1 1 2 1") (bytes "2 1 2 1 2 1 1")

abbrev P11 : (Instance → Plan → Bool) → Bool
P11 = strongly (bytes "2 2 1 2 1 1 4 0 2 1 1 2 1 2 1 1 2 1 4 0 0 2 1 1 2 1 2 0 2 1 1 1") (bytes "2 1 1 1 2 2 1")

-- one surveyor, quota 2, and one stand, quota 1, in two shifts, which the stand ties
abbrev two_shifts : (Instance → Plan → Bool) → Bool
two_shifts = strongly (bytes "1 2 1 1 2 0 2 1 1 1 2 2 0 0 2 1 1 1 2") (bytes "1 1 1 1")

-- Lemma 3.13, "If G is not the empty graph (and all the listed properties hold), then there is no SPbM": P10
pub lemma_3_13_false : P10 (λ G M. five_properties G && (property6 G && claims_silent G)) ≡ true
unfolding numbers_from count low text listed listed_back both_or_neither read_each read_roster_by position edges_of instance_of deg node_vote vote
    choices within plans_of same_plan beaten_by drawn_with verdict_of strong_plans cut ahead arrow loose reserved better_s better_t worse_reserved rule1 rule2
    rule3 rule4 rule5 rule6 rule7 rules first or_else Option-elim step_by first_step begin edge_of_pair read_plan_by
lemma_3_13_false = refl

-- Lemma 3.10, "If M is an SPbM, then d_M(v) = b(v) for every v ∈ S ∪ T", where five properties are listed: P10 at stand 2; P11 and the two shifts
-- at surveyor 1, without the sixth property
pub lemma_3_10_false : (P10 (λ G M. five_properties G && has_room (stands G) M 1)
    && (P11 (λ G M. (five_properties G && not (property6 G)) && has_room (surveyors G) M 0)
    && two_shifts (λ G M. (five_properties G && not (property6 G)) && has_room (surveyors G) M 0))) ≡ true
unfolding numbers_from count low text listed listed_back both_or_neither read_each read_roster_by position edges_of instance_of deg node_vote vote
    choices within plans_of same_plan beaten_by drawn_with verdict_of strong_plans cut ahead arrow loose reserved begin edge_of_pair read_plan_by
lemma_3_10_false = refl
