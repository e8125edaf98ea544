-- The edge of an arc, read from arrays: the first cheapest one, as in the search (theory_verdict, Search.arc).
use Rattle.std.specs.Prelude.{ℕ, ◌+◌, ◌-◌, ◌≤◌, ◌<◌, ◌≡◌, ◌≢◌, Bool, false, not, cond, ◌&&◌, List, eqb}
use Rattle.std.proofs.Common.{sym, ◌∙◌}
use Rattle.std.proofs.Math.Path.{ap}
use Rattle.std.proofs.Math.Bool.{and-false}
use Rattle.std.proofs.Math.Dec.{ltb}
use Rattle.lists.specs.Test.{eqb_yes, eqb_no}
use Rattle.lists.specs.Sum.{range}
use Rattle.lists.specs.Keep.{keep}
use Rattle.lists.specs.First.{best}
use Rattle.arrays.specs.ArrayInstance.{at, flag}
use Rattle.rival_tables.specs.Best.{best_turn, best_end, best_start}
use Rattle.rival_arcs.specs.Arcs.{joining, price_of}

module _ (m : ℕ) (sv st rs rt : List ℕ) (plan : List Bool) (x z : ℕ) where
  -- f may be the arc's edge; its price
  abbrev pub joins : ℕ → Bool
  joins = joining sv st plan (at st x) (at sv z)

  -- no edge at another stand; at this one the plan and the surveyor decide
  pub joins_other : (f : ℕ) → at st f ≢ at st x → joins f ≡ false
  joins_other f n =
      ap (λ b. not (flag plan f) && (b && eqb (at sv f) (at sv z))) (eqb_no (at st f) (at st x) n) ∙ and-false (not (flag plan f))

  pub joins_here : (f : ℕ) → at st f ≡ at st x → joins f ≡ not (flag plan f) && eqb (at sv f) (at sv z)
  joins_here f q = ap (λ b. not (flag plan f) && (b && eqb (at sv f) (at sv z))) (eqb_yes (at st f) (at st x) q)

  abbrev pub edge_price : ℕ → ℕ
  edge_price = price_of rs rt (at rt x) (at rs z)

  -- while the edges from f on are still to come; from the first on
  unfoldable pub edge_rest : ℕ × ℕ → ℕ → ℕ × ℕ
  edge_rest held f = best (λ f. (edge_price f, f)) held (keep joins (range f (m - f)))

  -- the edge of an arc
  unfoldable pub arc_edge : ℕ
  arc_edge = (best (λ f. (edge_price f, f)) (133, 0) (keep joins (range 0 m))).1

  pub edge_start : (edge_rest (133, 0) 0).1 ≡ arc_edge
  unfolding edge_rest arc_edge
  edge_start = ap (λ p. p.1) (best_start (λ f. (edge_price f, f)) joins (133, 0) m)

  pub edge_end : (held : ℕ × ℕ) (f : ℕ) → m ≤ f → edge_rest held f ≡ held
  unfolding edge_rest
  edge_end held f h = best_end (λ f. (edge_price f, f)) joins held f m h

  pub edge_turn : (b : Bool) (v o f p : ℕ) → f < m → p ≡ edge_price f → joins f && ltb p v ≡ b → edge_rest (v, o) f ≡ edge_rest (cond b (p, f) (v, o)) (f + 1)
  unfolding edge_rest
  edge_turn b v o f p h e q =
      best_turn (λ f. (edge_price f, f)) joins (v, o) f m h
      ∙ ap (λ (p : ℕ). best (λ f. (edge_price f, f)) (cond (joins f && ltb p v) (p, f) (v, o)) (keep joins (range (f + 1) (m - (f + 1))))) (sym e)
      ∙ ap (λ (b : Bool). best (λ f. (edge_price f, f)) (cond b (p, f) (v, o)) (keep joins (range (f + 1) (m - (f + 1))))) q
