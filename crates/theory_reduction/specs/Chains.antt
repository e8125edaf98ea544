-- A plan that Lemma W holds of against the arrows of both sides: from an edge of the plan without an arrow of its surveyor a way
-- leads back to a loss (Lemma B), from one that its firm stand sends no arrow along a way leads forth to an end (Lemma F). Both go
-- from edge to edge by arcs of cost at most 0, which never close to a loop, so the chain lemma ends them.
use Rattle.std.specs.Prelude.{ℕ, ◌-◌, ◌≤◌, ◌<◌, min, ◌≡◌, refl, Bool, not, T}
use Rattle.std.proofs.Common.{arith}
use Rattle.lists.specs.Test.{given}
use Rattle.model.specs.Instance.{Instance, Side, surveyors, stands, deg}
use Rattle.model.specs.Reduction.{State, cut_s, cut_t, arrow_t, loose, reserved, rule4}
use Rattle.theory_instance.specs.Lawful.{Lawful, Matching, Ranked, Within}
use Rattle.theory_instance.specs.Walk.{New, NoBad}
use Rattle.theory_reduction.specs.Facts.{Quiet, unreserved_says}
use Rattle.theory_reduction.specs.Facts.{rule4_quiet}
use Rattle.theory_reduction.specs.Quotas.{Sound}
use Rattle.theory_reduction.specs.PlanAgainstArrows.{In, PlanAgainstArrows, both, plan_instead}

-- The situation: a plan that Lemma W holds of, and a state that it goes through: what is fixed is in the plan, and what else is in
-- the plan remains. (That nothing fixed remains, and what the cut quotas are, is `sound`.)
pub record Sit (G : Instance) (Z : State) (M : ℕ → Bool) : Type 0 where
  pub law : Lawful G
  pub plan : Matching G M
  pub no_bad : NoBad G M
  pub sound : Sound G Z
  pub kept : (e : ℕ) → e < G.m → T (Z.fixed e) → T (M e)
  pub rest : (e : ℕ) → e < G.m → T (M e) → T (not (Z.fixed e)) → T (Z.rem e)

module _ {G : Instance} {Z : State} {M : ℕ → Bool} (H : Sit G Z M) where
  -- the plan at one side of the instance, with the quotas after the cut there
  abbrev against : (K : Side) → K.m ≡ G.m → Ranked K → Within K M → (q : ℕ → ℕ)
      → ((v : ℕ) → q v ≡ min (K.quota v - deg K Z.fixed v) (deg K Z.rem v)) → PlanAgainstArrows
  against K i law plan q q_is =
      record {
        K = K;
        law = law;
        M = M;
        plan = plan;
        rem = Z.rem;
        fixed = Z.fixed;
        kept = λ e l. H.kept e (omega arith);
        rest = λ e l. H.rest e (omega arith);
        apart = λ e l. H.sound.apart e (omega arith);
        q = q;
        q_is = q_is;
      }

  -- at the surveyors, at the stands
  abbrev pub AS : PlanAgainstArrows
  AS = against (surveyors G) refl H.law.at_s H.plan.at_s (cut_s G Z) H.sound.at_s.cut_is

  abbrev pub AT : PlanAgainstArrows
  AT = against (stands G) refl H.law.at_t H.plan.at_t (cut_t G Z) H.sound.at_t.cut_is

  -- an edge of the plan that remains; the three kinds of parts of an alternating path
  abbrev pub Mem : ℕ → Type 0
  Mem = In G.m M Z.rem

  -- ---- forward
  -- an edge of the plan that its stand, which is firm, sends no arrow along: it is not in N of its surveyor
  abbrev Stray : ℕ → Type 0
  Stray x = In G.m M Z.rem x × T (not (loose G Z (G.st x))) × T (not (arrow_t G Z x))

  pub outside_stray : (x : ℕ) → Mem x → T (not (reserved G Z x)) → Stray x
  outside_stray x ix n = given (unreserved_says G Z x ix.left n) (λ (firm, none). (ix, firm, none))

  -- where g is in N(s) and not in the plan, and s is full, the plan has an edge at s outside N(s): N(s) is no larger than the quota
  pub to_stray : Quiet G Z (rule4 G Z) → (g : ℕ) → New G M g → T (reserved G Z g) → cut_s G Z (G.sv g) ≤ deg (surveyors G) (both AS) (G.sv g)
      → (x : ℕ) × Stray x × (G.sv g ≡ G.sv x)
  to_stray Q4 g ng t h = given (plan_instead AS (reserved G Z) g ng t (omega (arith, rule4_quiet G Z Q4 (G.sv g))))
      (λ (x, ix, n, i). (x, outside_stray x ix n, i))
