-- What a desk holds, "nothing loaded, a roster, or a roster and a plan", and a proposal beside a plan (W-207): defined by reading its bytes. The empty
-- file is refused by both readers, so a length of 0 is nothing loaded, no plan, or no proposal.
use Rattle.std.specs.Prelude.{ℕ, ◌≡◌, refl, Bool, cond, ◌&&◌, List, [], take, replicate, T}
use Rattle.std.proofs.Common.{sym, ap, ap₂, subst}
use Rattle.model.specs.Limits.{pairing_size}
use Rattle.model.specs.Reading.{Reading, accepted, refused}
use Rattle.model.specs.Roster.{Roster}
use Rattle.model.specs.RosterFile.{read_roster_by, read_roster}
use Rattle.model.specs.Edges.{instance_of}
use Rattle.model.specs.Plans.{Plan}
use Rattle.model.specs.PlanFile.{read_plan}
use Rattle.model_desk.specs.Desk.{Held, nothing, roster, planned, proposed, opening, load_roster, load_plan, propose, no_roster, no_plan, on_roster, on_plan}
use Rattle.model_desk.specs.Desk.{Call, proposes, with_roster, with_plan, with_proposal, state_refusal, desk_after}
use Rattle.theory_files.specs.Reads.{is_bytes}
use Rattle.theory_finder.specs.Desks.{sound, desk_sound}
use Rattle.model_desk.specs.HeldFiles.{held_plan, held, held_proposal, beside}
use Rattle.desk_loaded.specs.Held.{state_number}
use Rattle.desk_files.specs.declared.Files.{Files}

-- the roster's bytes: a length above the array's is the whole array
abbrev pub roster_bytes : Files → List ℕ
roster_bytes d = take d.roster_len d.roster

-- the plan's, likewise
abbrev pub plan_bytes : Files → List ℕ
plan_bytes d = take d.plan_len d.plan

-- and the proposal's
abbrev pub proposal_bytes : Files → List ℕ
proposal_bytes d = take d.proposal_len d.proposal

-- what a desk holds
unfoldable pub held_of : Files → Held
held_of d = beside (proposal_bytes d) (held (read_roster (roster_bytes d)) (plan_bytes d))

-- no bytes, nothing loaded
pub held_empty : (d : Files) → roster_bytes d ≡ [] → held_of d ≡ opening
unfolding held_of read_roster_by
held_empty d e = ap (λ bs. beside (proposal_bytes d) (held (read_roster bs) (plan_bytes d))) e

-- a new desk: nothing is held, and there is no file in it
abbrev pub New : Files → Type 0
New d = (held_of d ≡ opening) × (roster_bytes d ≡ []) × (plan_bytes d ≡ []) × (proposal_bytes d ≡ [])

-- ---- the proposal is no matter to what is the same with one and without
pub beside_same : {A : Type 0} (g : Held → A) → ((r : Roster) (M N : Plan) → g (proposed r M N) ≡ g (planned r M)) → (f : List ℕ) (h : Held)
    → g (beside f h) ≡ g h
beside_same g s f nothing = refl
beside_same g s f (roster r) = refl
beside_same g s f (planned r M) = go (read_plan (instance_of r) f)
  where
    go : (x : Reading Plan) → g (held_proposal r M x) ≡ g (planned r M)
    go (accepted N) = s r M N
    go (refused n) = refl
beside_same g s f (proposed r M N) = refl

-- as whether a roster is held, and a plan
pub beside_roster : (f : List ℕ) (h : Held) → no_roster (beside f h) ≡ no_roster h
beside_roster = beside_same no_roster (λ r M N. refl)

pub beside_plan : (f : List ℕ) (h : Held) → no_plan (beside f h) ≡ no_plan h
beside_plan = beside_same no_plan (λ r M N. refl)

-- so it is no matter to the state's refusal either
pub beside_number : (f : List ℕ) (h : Held) (needs short : Bool) → state_number h needs short ≡ state_number (beside f h) needs short
beside_number f h needs short = sym (ap₂ (λ a b. cond a 13 (cond (needs && b) 14 (cond short 15 0))) (beside_roster f h) (beside_plan f h))

-- what is said of the roster held, of the plan held
pub of_roster : {A : Type 0} (x : A) (g : Roster → A) (R : Roster) (y : Reading Plan) (f : List ℕ) → g R ≡ on_roster x (beside f (held_plan R y)) g
of_roster x g R (refused n) f = refl
of_roster x g R (accepted M) f = go (read_plan (instance_of R) f)
  where
    go : (z : Reading Plan) → g R ≡ on_roster x (held_proposal R M z) g
    go (accepted N) = refl
    go (refused n) = refl

-- of the plan held
pub of_plan : {A : Type 0} (x : A) (g : Roster → Plan → A) (R : Roster) (M : Plan) (z : Reading Plan) → g R M ≡ on_plan x (held_proposal R M z) g
of_plan x g R M (accepted N) = refl
of_plan x g R M (refused n) = refl

-- ---- a desk holds what a new one holds after loading its bytes, and proposing; so what any desk holds is sound
-- a proposal with buffers of their size for its pairings (W-208), in which nothing is looked for
abbrev asked : List ℕ → Call proposes
asked file = propose file (replicate pairing_size 0) (replicate pairing_size 0)

pub held_loads : (file plan proposal : List ℕ)
    → beside proposal (held (read_roster file) plan) ≡ desk_after (desk_after (desk_after opening (load_roster file)) (load_plan plan)) (asked proposal)
unfolding desk_after state_refusal
held_loads file plan proposal = by_roster (read_roster file)
  where
    by_proposal : (r : Roster) (M : Plan) (z : Reading Plan) → held_proposal r M z ≡ with_proposal (planned r M) r M z
    by_proposal r M (accepted N) = refl
    by_proposal r M (refused n) = refl

    by_plan : (r : Roster) (y : Reading Plan) → beside proposal (held_plan r y) ≡ desk_after (with_plan (roster r) r y) (asked proposal)
    by_plan r (accepted M) = by_proposal r M (read_plan (instance_of r) proposal)
    by_plan r (refused n) = refl

    by_roster : (x : Reading Roster) → beside proposal (held x plan) ≡ desk_after (desk_after (with_roster nothing x) (load_plan plan)) (asked proposal)
    by_roster (accepted r) = by_plan r (read_plan (instance_of r) plan)
    by_roster (refused n) = refl

pub held_sound : (d : Files) → T (is_bytes (roster_bytes d)) → T (is_bytes (plan_bytes d)) → T (is_bytes (proposal_bytes d)) → T (sound (held_of d))
unfolding held_of sound
held_sound d s t u = subst (λ h. T (sound h)) (sym (held_loads (roster_bytes d) (plan_bytes d) (proposal_bytes d)))
    (desk_sound (desk_after (desk_after opening (load_roster (roster_bytes d))) (load_plan (plan_bytes d))) (asked (proposal_bytes d)) u
    (desk_sound (desk_after opening (load_roster (roster_bytes d))) (load_plan (plan_bytes d)) t (desk_sound opening (load_roster (roster_bytes d)) s tt)))
