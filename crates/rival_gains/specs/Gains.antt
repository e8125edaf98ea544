-- An edge gained at one end of a walk, read from arrays. It lies at the node of the walk's last edge on one side, and on its other side comes into
-- a free place; by `end` and `other` the two sides are named, by `rank` its rank where the walk's edge gives way. The prices are those of the search.
use Rattle.std.specs.Prelude.{ℕ, ◌+◌, ◌-◌, ◌≤◌, ◌<◌, ◌≡◌, ◌≢◌, Bool, true, false, ◌&&◌, List, eqb}
use native.Mathlib.Omega.{arith}
use Rattle.std.proofs.Math.Path.{ap}
use Rattle.std.proofs.Common.{◌∙◌}
use Rattle.std.proofs.Math.Bool.{not, and-false}
use Rattle.lists.specs.Test.{eqb_yes, eqb_no, T_false}
use Rattle.lists.specs.Search.{low, low_is}
use Rattle.theory_votes.specs.Score.{rate}
use Rattle.arrays.specs.ArrayInstance.{at, flag}
use Rattle.arrays.specs.Passes.{Low}
use Rattle.rival_tables.specs.Cheapest.{offer, cheapest, cheapest_turn, cheapest_end, cheapest_none}

-- f may be gained where an edge at node e gives way
abbrev pub gainable : (end other : List ℕ) (plan room : List Bool) → ℕ → ℕ → Bool
gainable end other plan room e f = not (flag plan f) && (eqb (at end f) e && flag room (at other f))

-- and its other node is not d
abbrev pub gainable_but : (end other : List ℕ) (plan room : List Bool) → ℕ → ℕ → ℕ → Bool
gainable_but end other plan room e d f = gainable end other plan room e f && not (eqb (at other f) d)

-- an edge at another node may not be gained; at this one the plan and the room decide
pub gainable_other : (end other : List ℕ) (plan room : List Bool) (e f : ℕ) → at end f ≢ e → gainable end other plan room e f ≡ false
gainable_other end other plan room e f n =
    ap (λ b. not (flag plan f) && (b && flag room (at other f))) (eqb_no (at end f) e n) ∙ and-false (not (flag plan f))

-- the test at an edge of the node itself
pub gainable_here : (end other : List ℕ) (plan room : List Bool) (e f : ℕ) → at end f ≡ e
    → gainable end other plan room e f ≡ not (flag plan f) && flag room (at other f)
gainable_here end other plan room e f q = ap (λ b. not (flag plan f) && (b && flag room (at other f))) (eqb_yes (at end f) e q)

-- the least rate against rank b of such an edge, v if there is none
unfoldable pub gain_price : (m : ℕ) (end other rank : List ℕ) (plan room : List Bool) → ℕ → ℕ → ℕ → ℕ
gain_price m end other rank plan room v e b = cheapest (gainable end other plan room e) (λ f. rate b (at rank f)) v 0 m

-- the least price with a node of the other side shut out
unfoldable pub gain_price_but : (m : ℕ) (end other rank : List ℕ) (plan room : List Bool) → ℕ → ℕ → ℕ → ℕ → ℕ
gain_price_but m end other rank plan room v e b d = cheapest (gainable_but end other plan room e d) (λ f. rate b (at rank f)) v 0 m

-- while the edges from f on are still to come
unfoldable pub gain_rest : (m : ℕ) (end other rank : List ℕ) (plan room : List Bool) → ℕ → ℕ → ℕ → ℕ → ℕ
gain_rest m end other rank plan room e b v f = cheapest (gainable end other plan room e) (λ f. rate b (at rank f)) v f (m - f)

unfoldable pub gain_rest_but : (m : ℕ) (end other rank : List ℕ) (plan room : List Bool) → ℕ → ℕ → ℕ → ℕ → ℕ → ℕ
gain_rest_but m end other rank plan room e b d v f = cheapest (gainable_but end other plan room e d) (λ f. rate b (at rank f)) v f (m - f)

module _ (m : ℕ) (end other rank : List ℕ) (plan room : List Bool) (e b : ℕ) where
  pub gain_start : (v : ℕ) → gain_rest m end other rank plan room e b v 0 ≡ gain_price m end other rank plan room v e b
  unfolding gain_rest gain_price
  gain_start v = let q : m - 0 ≡ m = omega arith in ap (cheapest (gainable end other plan room e) (λ f. rate b (at rank f)) v 0) q

  pub gain_end : (v f : ℕ) → m ≤ f → gain_rest m end other rank plan room e b v f ≡ v
  unfolding gain_rest
  gain_end v f h = cheapest_end (gainable end other plan room e) (λ f. rate b (at rank f)) v f m h

  pub gain_turn : (v f : ℕ) → f < m
      → gain_rest m end other rank plan room e b v f ≡ gain_rest m end other rank plan room e b
      (offer (gainable end other plan room e f) (rate b (at rank f)) v) (f + 1)
  unfolding gain_rest
  gain_turn v f h = cheapest_turn (gainable end other plan room e) (λ f. rate b (at rank f)) v f m h

  module _ (d : ℕ) where
    pub but_start : (v : ℕ) → gain_rest_but m end other rank plan room e b d v 0 ≡ gain_price_but m end other rank plan room v e b d
    unfolding gain_rest_but gain_price_but
    but_start v = let q : m - 0 ≡ m = omega arith in ap (cheapest (gainable_but end other plan room e d) (λ f. rate b (at rank f)) v 0) q

    pub but_end : (v f : ℕ) → m ≤ f → gain_rest_but m end other rank plan room e b d v f ≡ v
    unfolding gain_rest_but
    but_end v f h = cheapest_end (gainable_but end other plan room e d) (λ f. rate b (at rank f)) v f m h

    pub but_past : (v f : ℕ) → f < m → gainable end other plan room e f ≡ false
        → gain_rest_but m end other rank plan room e b d v f ≡ gain_rest_but m end other rank plan room e b d v (f + 1)
    unfolding gain_rest_but
    but_past v f h q =
        cheapest_turn (gainable_but end other plan room e d) (λ f. rate b (at rank f)) v f m h
        ∙ ap
        (λ x. cheapest (gainable_but end other plan room e d) (λ f. rate b (at rank f))
        (offer (x && not (eqb (at other f) d)) (rate b (at rank f)) v) (f + 1) (m - (f + 1)))
        q

    pub but_turn : (v f : ℕ) → f < m → gainable end other plan room e f ≡ true
        → gain_rest_but m end other rank plan room e b d v f ≡ gain_rest_but m end other rank plan room e b d
        (offer (not (eqb (at other f) d)) (rate b (at rank f)) v) (f + 1)
    unfolding gain_rest_but
    but_turn v f h q =
        cheapest_turn (gainable_but end other plan room e d) (λ f. rate b (at rank f)) v f m h
        ∙ ap
        (λ x. cheapest (gainable_but end other plan room e d) (λ f. rate b (at rank f))
        (offer (x && not (eqb (at other f) d)) (rate b (at rank f)) v) (f + 1) (m - (f + 1)))
        q

-- ---- no node has room: nothing can be gained
module _ (m : ℕ) (end other rank : List ℕ) (plan room : List Bool) (lowO : Low m other 32) (full : 32 ≤ low (flag room) 32) where
  no_room : (f : ℕ) → f < m → flag room (at other f) ≡ false
  no_room f h = T_false ((low_is (flag room) 32).1 (at other f) (omega (arith, lowO f h)))

  none : (e f : ℕ) → f < m → gainable end other plan room e f ≡ false
  none e f h =
      ap (λ b. not (flag plan f) && (eqb (at end f) e && b)) (no_room f h)
      ∙ ap (λ b. not (flag plan f) && b) (and-false (eqb (at end f) e))
      ∙ and-false (not (flag plan f))

  -- where no node of the other side has room nothing is gained
  pub gain_none : (v e b : ℕ) → gain_price m end other rank plan room v e b ≡ v
  unfolding gain_price
  gain_none v e b = cheapest_none (gainable end other plan room e) (λ f. rate b (at rank f)) v 0 m (λ f l h. none e f (omega arith))

  -- the same with a node shut out
  pub but_none : (v e b d : ℕ) → gain_price_but m end other rank plan room v e b d ≡ v
  unfolding gain_price_but
  but_none v e b d =
      cheapest_none (gainable_but end other plan room e d) (λ f. rate b (at rank f)) v 0 m
      (λ f l h. ap (λ x. x && not (eqb (at other f) d)) (none e f (omega arith)))
