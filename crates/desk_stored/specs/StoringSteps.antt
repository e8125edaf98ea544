-- How the parts of a storing fit together: the plan held or none, the proposal, and the answer of the change's bytes.
use Rattle.std.specs.Prelude.{ℕ, ◌≡◌, refl, Bool, true, false, List, [], take, T, Result}
use Rattle.std.specs.declared.result.Result.TheVariants.{Ok, Err}
use Rattle.std.proofs.Common.{arith, sym, ap, ◌∙◌, subst}
use Rattle.lists.specs.Test.{given}
use Rattle.lists.specs.Sum.{◌∈◌}
use Rattle.model.specs.Reading.{Reading, accepted, refused}
use Rattle.model.specs.Roster.{Roster}
use Rattle.model.specs.RosterFile.{read_roster}
use Rattle.model.specs.Edges.{instance_of}
use Rattle.model.specs.Instance.{Instance}
use Rattle.model.specs.Plans.{Plan, on, plans_of}
use Rattle.model.specs.PlanFile.{read_plan_by, read_plan}
use Rattle.arrays.specs.ArrayInstance.{flag}
use Rattle.instance.specs.declared.Instance as arrays
use Rattle.instance.specs.Decoded.{shown_by}
use Rattle.instance.specs.Loaded.{Loaded}
use Rattle.finder_candidate.specs.Judging.{few_edges}
use Rattle.answers.specs.declared.Refusal.{Refusal}
use Rattle.answers.specs.RefusalCases.{number_of, code_of, number_some}
use Rattle.roster_parts.specs.declared.RosterBytes.{RosterBytes}
use Rattle.plan_carried.specs.declared.CarriedPlan.{CarriedPlan}
use Rattle.plan_carried.specs.Remaining.{Few, CarriedFor}
use Rattle.plan_reader.specs.declared.PlanRead.{PlanRead}
use Rattle.desk_loaded.specs.declared.OnDesk.{OnDesk}
use Rattle.model_desk.specs.HeldFiles.{held_plan}
use Rattle.desk_loaded.specs.Held.{state_number}
use Rattle.desk_loaded.specs.OnDesk.{OnRoster, OnRosterAs}
use Rattle.desk_loaded.specs.RosterBytes.{ArraysOf}
use Rattle.desk_files.specs.declared.Files.{Files}
use Rattle.desk_stored.specs.declared.Change.{Change}
use Rattle.desk_files.specs.Held.{roster_bytes, plan_bytes}
use Rattle.desk_stored.specs.Storing.{Unchanged, LessOf, LessHeld, StoredAs, Open, ClosedFor, TakenFor, Taken}

-- ---- the plan held, or none
-- that there is a plan does not depend on the roster it is held with
abbrev nobody : Roster
nobody = record { quotas_s = []; quotas_t = []; lists_s = []; lists_t = [] }

module _ (g : arrays.Instance) (file : List ℕ) where
  pub no_plan_law : (s : ℕ) {x : Result PlanRead Refusal} {n : Refusal} → OnRosterAs g file true false x → x ≡ Err n
      → LessOf (shown_by g) s (read_plan (shown_by g) file) []
  no_plan_law s {x} {n} F q = go (read_plan (shown_by g) file) ((subst (OnRosterAs g file true false) q F).number nobody)
    where
      go : (y : Reading Plan) → number_of n ≡ state_number (held_plan nobody y) true false → LessOf (shown_by g) s y []
      go (accepted M) e = absurd (let h = number_some n in let z : ⊥ = omega arith in z)
      go (refused k) e = refl

  pub on_it : {x : Result PlanRead Refusal} {p : PlanRead} → OnRosterAs g file true false x → x ≡ Ok p
      → OnRoster g file true false 0 (record { g = g; plan = p })
  on_it F q = subst (OnRosterAs g file true false) q F

module _ (g : arrays.Instance) (file : List ℕ) {l : OnDesk} (F : OnRoster g file true false 0 l) where
  its_plan : (M : Plan) × (read_plan (shown_by g) file ≡ accepted M)
  its_plan = go (read_plan (shown_by g) file) refl (F.refusal nobody)
    where
      go : (y : Reading Plan) → read_plan (shown_by g) file ≡ y → 0 ≡ state_number (held_plan nobody y) true false
          → (M : Plan) × (read_plan (shown_by g) file ≡ accepted M)
      go (accepted M) a e = (M, a)
      go (refused n) a e = absurd (let z : ⊥ = omega arith in z)

  module _ (L : Loaded g) where
    plan_here : (M : Plan) × (read_plan (shown_by g) file ≡ accepted M) × (M ∈ plans_of (shown_by g)) × ((e : ℕ) → flag l.plan.chosen e ≡ on M e)
    plan_here = given its_plan (λ (M, a).
        let P = (F.planned tt M a).0 in
        (M, a, subst (λ h. M ∈ plans_of (shown_by h)) F.arrays P.within, P.flags))

    pub plan_few : Few g.m l.plan.chosen
    plan_few = given plan_here (λ (M, a, m, f). few_edges g L l.plan.chosen (M, (m, f)))

    pub plan_less : (s : ℕ) (c : CarriedPlan) → CarriedFor (shown_by g) l.plan.chosen s c
        → LessOf (shown_by g) s (read_plan (shown_by g) file) (take c.len c.bytes)
    plan_less s c C = given plan_here (λ (M, a, m, f).
        subst (λ y. LessOf (shown_by g) s y (take c.len c.bytes)) (sym a) (m, (C M (λ e h. f e)).1))

-- no plan is held: no bytes are none
pub none_held : (G : Instance) (s : ℕ) (file bytes : List ℕ) → file ≡ [] → bytes ≡ [] → LessOf G s (read_plan G file) bytes
unfolding read_plan_by
none_held G s file bytes e q = subst (λ f. LessOf G s (read_plan G f) bytes) (sym e) q

-- the plan is carried by the arrays of the roster that is held
pub carried_on : (d : Files) (s : ℕ) {roster plan : List ℕ} (bytes : List ℕ) {g : arrays.Instance} → roster ≡ roster_bytes d → plan ≡ plan_bytes d
    → ArraysOf roster g → LessOf (shown_by g) s (read_plan (shown_by g) plan) bytes → LessHeld d s bytes
carried_on d s {roster} {plan} bytes i j A l R a =
    subst (λ f. LessOf (instance_of R) s (read_plan (instance_of R) f) bytes) j
    (subst (λ G. LessOf G s (read_plan G plan) bytes) (A.instance R (ap read_roster i ∙ a)) l)

-- ---- the proposal: x and y are the bytes of the roster held and of the changed one, b whether they are the same
module _ {old new f x y : List ℕ} {b : Bool} (p : x ≡ old) (q : y ≡ new) (s : (b ≡ true → x ≡ y) × (x ≡ y → b ≡ true)) where
  pub open_still : b ≡ true → Open old new f f
  open_still t = (λ e. refl, λ n. absurd (n (sym p ∙ s.0 t ∙ q)))

  pub open_no_more : b ≡ false → Open old new f []
  open_no_more t = (λ e. absurd (subst T (sym (s.1 (p ∙ e ∙ sym q)) ∙ t) tt), λ n. refl)

-- ---- the answer of the change's bytes
module _ (d : Files) (s : ℕ) (r : Change) {c : Result RosterBytes Refusal} where
  pub taken_refused : {n : Refusal} → c ≡ Err n → Unchanged (number_of n) d r → Taken d s c r
  taken_refused q u R a = subst (λ c. TakenFor (instance_of R) d s c r) (sym q) u

  pub taken_stored : {b : RosterBytes} → c ≡ Ok b → code_of r.answer ≡ 0 → (k : Files) → StoredAs d s (take b.len b.roster) k → ClosedFor d k r.files
      → Taken d s c r
  taken_stored p q k S (b', p', o) R a = subst (λ c. TakenFor (instance_of R) d s c r) (sym p) (given (S R a) (λ (b, p, f). (
    q,
    record {
      bytes = b' ∙ b;
      plan = subst (LessOf (instance_of R) s (read_plan (instance_of R) (plan_bytes d))) (sym p') p;
      proposal = (λ e. o.0 (e ∙ sym b) ∙ f, λ n. o.1 (λ e. n (e ∙ b)));
    },
  )))
