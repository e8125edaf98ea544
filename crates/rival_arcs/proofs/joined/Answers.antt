-- The columns below j are written, the others are as they were; j is a place of surveyor s.
use Rattle.std.proofs.Common.{◌≡◌, sym, ap, ap₂, ◌∙◌, List, ℕ, ◌+◌, min, arith, set, length-set}
use Rattle.lists.specs.Test.{eqb_yes, eqb_no}
use Rattle.arrays.specs.ArrayInstance.{at}
use Rattle.rival_tables.specs.Cheapest.{offer}
use Rattle.rival_tables.specs.Visits.{Passed, next_onward, visit_first, visit_next}
use Rattle.rival_tables.specs.Filled.{Remade, remade_start, remade_here, remade_next, remade_stay, remade_end}
use Rattle.theory_votes.specs.Score.{rate}
use Rattle.rival_arcs.proofs.joined.Invariants.{column}
use Rattle.rival_arcs.proofs.joined.Goals as goal

-- a column of another surveyor needs no writing
stays : (row ps rps : List ℕ) (s r a : ℕ) (o : List ℕ) → Passed 64 ps s (λ d. Remade row (column row ps rps s r a) d o)
stays row ps rps s r a o d l n =
    remade_stay row (column row ps rps s r a) d o
    (ap (λ b. offer b (a + rate (at rps d) r) (at row d)) (eqb_no s (at ps d) (λ (q : s ≡ at ps d). n (sym q))))

pub loop-j-init : goal.loop-j-init
loop-j-init c =
    let a = c.args in (
      c.requires.0,
      λ ps L.
          let f = column a.row.now ps a.rps.now a.s a.r a.a in
          visit_first L a.s (λ d. Remade a.row.now f d a.row.now) (stays a.row.now ps a.rps.now a.s a.r a.a a.row.now)
          c.requires.2 (remade_start a.row.now f),
    )

pub loop-j-preserved : goal.loop-j-preserved
loop-j-preserved c =
    let a = c.args in
    let j = c.loop-j.j in
    let o = c.min.result in (
      simp length-set c.loop-j.invariant.0,
      λ ps L.
          let G = c.loop-j.invariant.1 ps L in
          let h = G.here (omega arith) in
          let f = column a.row.now ps a.rps.now a.s a.r a.a in
          visit_next L a.s (λ d. Remade a.row.now f d (set c.loop-j.row j o))
          (stays a.row.now ps a.rps.now a.s a.r a.a (set c.loop-j.row j o)) j (omega arith) h
          (remade_next a.row.now f j c.loop-j.row o c.loop-j.invariant.0 (omega arith)
          (c.min.ensures
          ∙ ap₂ (λ p q. min (a.a + p) q) c.rated.ensures.0
          (remade_here a.row.now f j c.loop-j.row (omega arith) G.holds)
          ∙ sym (ap (λ b. offer b (a.a + rate (at a.rps.now j) a.r) (at a.row.now j)) (eqb_yes a.s (at ps j) (sym h))))
          G.holds),
    )

pub returns : goal.returns
returns c =
    let a = c.args in (
      c.loop-j.invariant.0,
      λ ps L. remade_end a.row.now (column a.row.now ps a.rps.now a.s a.r a.a) c.loop-j.j c.loop-j.row (omega arith)
          (c.loop-j.invariant.1 ps L).holds,
    )

pub loop-j-smaller : goal.loop-j-smaller
loop-j-smaller c =
    omega (arith, next_onward c.requires.1.1 c.loop-j.j (omega arith))
