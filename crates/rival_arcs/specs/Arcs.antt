-- The prices of the arcs, read from arrays. Of the edges of the plan are known their surveyors ps, stands pt and ranks rps, rpt there, by
-- their places in the plan's list; of all m edges sv, st, rs, rt, and which are in the plan.
use Rattle.std.specs.Prelude.{ℕ, ◌+◌, ◌-◌, ◌≤◌, ◌<◌, ◌≡◌, ◌≢◌, Bool, true, false, not, ◌&&◌, List, eqb}
use native.Mathlib.Omega.{arith}
use Rattle.std.proofs.Math.Path.{ap}
use Rattle.std.proofs.Common.{ap₂, ◌∙◌}
use Rattle.std.proofs.Math.Bool.{and-false}
use Rattle.lists.specs.Test.{eqb_yes, eqb_no}
use Rattle.theory_votes.specs.Score.{rate}
use Rattle.arrays.specs.ArrayInstance.{at, flag}
use Rattle.rival_tables.specs.Cheapest.{offer, cheapest, cheapest_turn, cheapest_end}

-- f joins stand t to surveyor s, and is not in the plan
abbrev pub joining : (sv st : List ℕ) (plan : List Bool) → ℕ → ℕ → ℕ → Bool
joining sv st plan t s f = not (flag plan f) && (eqb (at st f) t && eqb (at sv f) s)

-- the price of f between an edge that it passes at its stand, of rank b, and one that it passes at its surveyor, of rank a
abbrev pub price_of : (rs rt : List ℕ) → ℕ → ℕ → ℕ → ℕ
price_of rs rt b a f = rate b (at rt f) + rate a (at rs f)

-- the least price of an arc from place i to place j
unfoldable pub arc_price : (m : ℕ) (sv st rs rt : List ℕ) (plan : List Bool) → ℕ → ℕ → ℕ → ℕ → ℕ
arc_price m sv st rs rt plan t b s a = cheapest (joining sv st plan t s) (price_of rs rt b a) 133 0 m

-- while the edges from f on are still to come
unfoldable pub arc_rest : (m : ℕ) (sv st rs rt : List ℕ) (plan : List Bool) → ℕ → ℕ → ℕ → ℕ → ℕ → ℕ → ℕ
arc_rest m sv st rs rt plan t b s a v f = cheapest (joining sv st plan t s) (price_of rs rt b a) v f (m - f)

module _ (m : ℕ) (sv st rs rt : List ℕ) (plan : List Bool) (t b s a : ℕ) where
  pub arc_start : arc_rest m sv st rs rt plan t b s a 133 0 ≡ arc_price m sv st rs rt plan t b s a
  unfolding arc_rest arc_price
  arc_start = let e : m - 0 ≡ m = omega arith in ap (cheapest (joining sv st plan t s) (price_of rs rt b a) 133 0) e

  pub arc_end : (v f : ℕ) → m ≤ f → arc_rest m sv st rs rt plan t b s a v f ≡ v
  unfolding arc_rest
  arc_end v f h = cheapest_end (joining sv st plan t s) (price_of rs rt b a) v f m h

  -- an edge is an offer if it may come
  arc_on : (v f : ℕ) (x : Bool) → f < m → joining sv st plan t s f ≡ x
      → arc_rest m sv st rs rt plan t b s a v f ≡ arc_rest m sv st rs rt plan t b s a (offer x (price_of rs rt b a f) v) (f + 1)
  unfolding arc_rest
  arc_on v f x h e =
      cheapest_turn (joining sv st plan t s) (price_of rs rt b a) v f m h
      ∙ ap (λ x. cheapest (joining sv st plan t s) (price_of rs rt b a) (offer x (price_of rs rt b a f) v) (f + 1) (m - (f + 1))) e

  -- at another stand, or in the plan, it changes nothing; else it comes if its surveyor is s
  pub arc_other : (v f : ℕ) → f < m → at st f ≢ t → arc_rest m sv st rs rt plan t b s a v f ≡ arc_rest m sv st rs rt plan t b s a v (f + 1)
  arc_other v f h n =
      arc_on v f false h (ap (λ y. not (flag plan f) && (y && eqb (at sv f) s)) (eqb_no (at st f) t n) ∙ and-false (not (flag plan f)))

  pub arc_past : (v f : ℕ) → f < m → not (flag plan f) ≡ false → arc_rest m sv st rs rt plan t b s a v f ≡ arc_rest m sv st rs rt plan t b s a v (f + 1)
  arc_past v f h e = arc_on v f false h (ap (λ x. x && (eqb (at st f) t && eqb (at sv f) s)) e)

  pub arc_turn : (v f : ℕ) → f < m → not (flag plan f) ≡ true → at st f ≡ t
      → arc_rest m sv st rs rt plan t b s a v f ≡ arc_rest m sv st rs rt plan t b s a (offer (eqb (at sv f) s) (rate b (at rt f) + rate a (at rs f)) v) (f + 1)
  arc_turn v f h e q = arc_on v f (eqb (at sv f) s) h (ap₂ (λ x y. x && (y && eqb (at sv f) s)) e (eqb_yes (at st f) t q))
