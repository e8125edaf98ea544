-- The state's refusal of a call that needs an open proposal, 13, 14, 20, then 15; and the proposal that such a call has to work on.
use Rattle.std.specs.Prelude.{ℕ, ◌≤◌, ◌<◌, ◌≡◌, refl, Bool, true, false, cond, List}
use Rattle.std.proofs.Common.{arith, le_refl, sym, ap, ◌∙◌, subst}
use Rattle.lists.specs.Test.{given}
use Rattle.model.specs.Reading.{Reading, accepted, refused}
use Rattle.model.specs.Roster.{Roster}
use Rattle.model.specs.Edges.{instance_of}
use Rattle.model.specs.Plans.{Plan}
use Rattle.model.specs.PlanFile as plans
use Rattle.model.specs.PlanFile.{read_plan}
use Rattle.model_desk.specs.Desk.{Held, nothing, roster, planned, proposed, no_roster, no_plan, no_proposal}
use Rattle.instance.specs.Decoded.{shown_by}
use Rattle.desk_loaded.specs.declared.OnDesk.{OnDesk}
use Rattle.model_desk.specs.HeldFiles.{held_plan, held_proposal}
use Rattle.desk_loaded.specs.Held.{state_number}
use Rattle.desk_loaded.specs.OnDesk.{OnRoster, LoadedFrom, its_plan}
use Rattle.desk_files.specs.declared.Files.{Files}
use Rattle.desk_files.specs.Held.{roster_bytes, plan_bytes, proposal_bytes, held_of}
use Rattle.desk_files.specs.State.{plan_held_law}

-- the state's refusal of a call that needs an open proposal, 0 for none
abbrev pub open_number : Held → (short : Bool) → ℕ
open_number h short = cond (no_roster h) 13 (cond (no_plan h) 14 (cond (no_proposal h) 20 (cond short 15 0)))

-- n is the refusal; where there is none, the proposal is held, and its bytes are what the model writes of it
pub record Opened (d : Files) (short : Bool) (n : ℕ) : Type 0 where
  pub refusal : n ≡ open_number (held_of d) short
  pub proposal : n ≤ 0 → (R : Roster) × (M : Plan) × (N : Plan) × (held_of d ≡ proposed R M N) × (plans.plan_bytes (instance_of R) N ≡ proposal_bytes d)

module _ (d : Files) (short : Bool) where
  -- the state refuses the call before it asks for a proposal
  pub open_not : {n : ℕ} → n ≡ state_number (held_of d) true false → 0 < n → Opened d short n
  open_not {n} e h = record {
    refusal = e ∙ go (held_of d) (subst (λ n. 0 < n) e h);
    proposal = λ z. absurd (let i : ⊥ = omega arith in i);
  }
    where
      go : (x : Held) → 0 < state_number x true false → state_number x true false ≡ open_number x short
      go nothing i = refl
      go (roster r) i = refl
      go (planned r M) i = absurd (let z : ⊥ = omega arith in z)
      go (proposed r M N) i = absurd (let z : ⊥ = omega arith in z)

  -- beside the plan held, where b are the proposal's bytes
  module _ {l : OnDesk} (F : LoadedFrom (roster_bytes d) (plan_bytes d) true false 0 l) {b : List ℕ} (same : b ≡ proposal_bytes d) where
    -- they are no plan: there is no proposal
    pub open_missing : (k : ℕ) → 0 < k → ((R : Roster) → k ≡ state_number (held_plan R (read_plan (shown_by l.g) b)) true false) → Opened d short 20
    open_missing k some P = given (its_plan (le_refl 0) F) (λ (R, M, a, c).
        go R M (F.instance R a).1 (plan_held_law d R M a c) (read_plan (shown_by l.g) (proposal_bytes d)) refl
        (P R ∙ ap (λ b. state_number (held_plan R (read_plan (shown_by l.g) b)) true false) same))
      where
        go : (R : Roster) (M : Plan) → shown_by l.g ≡ instance_of R → held_of d ≡ held_proposal R M (read_plan (instance_of R) (proposal_bytes d))
            → (y : Reading Plan) → read_plan (shown_by l.g) (proposal_bytes d) ≡ y → k ≡ state_number (held_plan R y) true false → Opened d short 20
        go R M g h (accepted N) q r = absurd (omega (arith, r))
        go R M g h (refused m) q r =
            let here : held_of d ≡ planned R M = h ∙ ap (held_proposal R M) (ap (λ G. read_plan G (proposal_bytes d)) (sym g) ∙ q) in
            record { refusal = ap (λ x. open_number x short) (sym here); proposal = λ z. absurd (let j : ⊥ = omega arith in j) }

    -- they are one
    pub open_there : {p : OnDesk} → OnRoster l.g b true false 0 p → (n : ℕ) → n ≡ cond short 15 0 → Opened d short n
    open_there {p} Q n e = given (its_plan (le_refl 0) F) (λ (R, M, a, c).
        go R M (F.instance R a).1 (plan_held_law d R M a c) (read_plan (shown_by l.g) (proposal_bytes d)) refl (P.refusal R))
      where
        P : OnRoster l.g (proposal_bytes d) true false 0 p
        P = subst (λ b. OnRoster l.g b true false 0 p) same Q

        go : (R : Roster) (M : Plan) → shown_by l.g ≡ instance_of R → held_of d ≡ held_proposal R M (read_plan (instance_of R) (proposal_bytes d))
            → (y : Reading Plan) → read_plan (shown_by l.g) (proposal_bytes d) ≡ y → 0 ≡ state_number (held_plan R y) true false → Opened d short n
        go R M g h (accepted N) q r =
            let here : held_of d ≡ proposed R M N = h ∙ ap (held_proposal R M) (ap (λ G. read_plan G (proposal_bytes d)) (sym g) ∙ q) in
            record {
              refusal = e ∙ ap (λ x. open_number x short) (sym here);
              proposal = λ z. (R, M, N, here, ap (λ G. plans.plan_bytes G N) (sym g) ∙ (P.planned tt N q).1);
            }
        go R M g h (refused m) q r = absurd (omega (arith, r))
