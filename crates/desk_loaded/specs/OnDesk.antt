-- What is promised of what a call has to work on: the state's refusal, for every roster that the bytes are its instance, and for every plan
-- its flags and the list of its edges. The bytes held are those that the roster and the plan are written to.
use Rattle.std.specs.Prelude.{ℕ, suc, ◌≤◌, ◌≡◌, refl, Bool, true, false, cond, ◌&&◌, List, T, Result, ⊤}
use Rattle.std.proofs.Common.{arith, sym, ap, ◌∙◌, subst}
use Rattle.lists.specs.Test.{given}
use Rattle.lists.specs.Sum.{◌∈◌}
use Rattle.model.specs.Reading.{Reading, accepted, refused}
use Rattle.model.specs.Roster.{Roster, fits}
use Rattle.model.specs.RosterFile.{read_roster, write_roster}
use Rattle.model.specs.Edges.{instance_of}
use Rattle.model.specs.Plans.{Plan, on, plans_of}
use Rattle.model.specs.PlanFile.{plan_bytes, read_plan}
use Rattle.model_desk.specs.Desk.{Held, no_roster, no_plan}
use Rattle.theory_files.specs.Reads.{is_bytes}
use Rattle.theory_files.specs.Rosters.{read_write, read_fits}
use Rattle.theory_files.specs.PlanFiles.{plan_read_within, plan_read_write}
use Rattle.arrays.specs.ArrayInstance.{flag}
use Rattle.plan_lookup.specs.PlanEdges.{Listed}
use Rattle.std.specs.declared.result.Result.TheVariants.{Ok, Err}
use Rattle.answers.specs.declared.Refusal.{Refusal}
use Rattle.answers.specs.RefusalCases.{number_of, reading_of}
use Rattle.answers.specs.FileCases.{file_read, read_accepted, read_refused}
use Rattle.instance.specs.declared.Instance.{Instance}
use Rattle.instance.specs.Decoded.{shown_by, Decoded}
use Rattle.instance.specs.Loaded.{Loaded, loaded}
use Rattle.plan_reader.specs.declared.PlanRead.{PlanRead}
use Rattle.plan_reader.specs.Answers.{ReadAs, chosen_in, accepted_read, refused_read}
use Rattle.plan_reader.specs.Planned.{read_planned}
use Rattle.desk_loaded.specs.declared.OnDesk.{OnDesk}
use Rattle.model_desk.specs.HeldFiles.{held_plan, held}
use Rattle.desk_loaded.specs.Held.{state_number, unneeded}

-- the plan M: within the quotas, by its flags, and its edges in a list
pub record PlanIn (r : OnDesk) (M : Plan) : Type 0 where
  pub within : M ∈ plans_of (shown_by r.g)
  pub flags : (e : ℕ) → flag r.plan.chosen e ≡ on M e
  pub listed : Listed r.g.m r.plan.chosen r.plan.n r.plan.edges

-- on the arrays of an accepted roster, with a plan file
pub record OnRoster (g : Instance) (file : List ℕ) (needs short : Bool) (n : ℕ) (r : OnDesk) : Type 0 where
  pub arrays : r.g ≡ g
  pub refusal : (R : Roster) → n ≡ state_number (held_plan R (read_plan (shown_by g) file)) needs short
  pub planned : T needs → (M : Plan) → read_plan (shown_by g) file ≡ accepted M → PlanIn r M × (plan_bytes (shown_by g) M ≡ file)

-- on the bytes of a roster and of a plan
pub record LoadedFrom (roster plan : List ℕ) (needs short : Bool) (n : ℕ) (r : OnDesk) : Type 0 where
  pub refusal : n ≡ state_number (held (read_roster roster) plan) needs short
  pub instance : (R : Roster) → read_roster roster ≡ accepted R → Loaded r.g × (shown_by r.g ≡ instance_of R) × (write_roster R ≡ roster)
  pub fitting : (R : Roster) → read_roster roster ≡ accepted R → T (fits R)
  pub planned : (R : Roster) → read_roster roster ≡ accepted R → T needs → (M : Plan) → read_plan (instance_of R) plan ≡ accepted M
      → PlanIn r M × (plan_bytes (instance_of R) M ≡ plan)

-- the state's refusal on the arrays of an accepted roster; and nothing stale is said of a plan file that is accepted
pub record NotOnRoster (g : Instance) (file : List ℕ) (needs short : Bool) (e : Refusal) : Type 0 where
  pub number : (R : Roster) → number_of e ≡ state_number (held_plan R (read_plan (shown_by g) file)) needs short
  pub planned : (M : Plan) → read_plan (shown_by g) file ≡ accepted M → (M ∈ plans_of (shown_by g)) × (plan_bytes (shown_by g) M ≡ file)

-- a call's result on the arrays of an accepted roster: the plan that it has to work on with them, or the state's refusal
abbrev pub OnRosterAs : Instance → (file : List ℕ) → (needs short : Bool) → Result PlanRead Refusal → Type 0
OnRosterAs g file needs short (Ok p) = OnRoster g file needs short 0 (record { g = g; plan = p })
OnRosterAs g file needs short (Err e) = NotOnRoster g file needs short e

-- the state's refusal; and of what is held nothing stale is said: a roster held is within the limits, a plan held within its quotas, and both have the
-- bytes that they are written to
pub record NotLoaded (roster plan : List ℕ) (needs short : Bool) (e : Refusal) : Type 0 where
  pub number : number_of e ≡ state_number (held (read_roster roster) plan) needs short
  pub fitting : (R : Roster) → read_roster roster ≡ accepted R → T (fits R)
  pub written : (R : Roster) → read_roster roster ≡ accepted R → write_roster R ≡ roster
  pub within : (R : Roster) (M : Plan) → read_roster roster ≡ accepted R → read_plan (instance_of R) plan ≡ accepted M → M ∈ plans_of (instance_of R)
  pub planned : (R : Roster) (M : Plan) → read_roster roster ≡ accepted R → read_plan (instance_of R) plan ≡ accepted M → plan_bytes (instance_of R) M ≡ plan

-- what a call has to work on, from the bytes of a roster and of a plan, or the state's refusal
abbrev pub LoadedAs : (roster plan : List ℕ) → (needs short : Bool) → Result OnDesk Refusal → Type 0
LoadedAs roster plan needs short (Ok r) = LoadedFrom roster plan needs short 0 r
LoadedAs roster plan needs short (Err e) = NotLoaded roster plan needs short e

-- ---- what is refused is not accepted
abbrev is_refused : {A : Type 0} → Reading A → Bool
is_refused (accepted a) = false
is_refused (refused n) = true

none : {A B : Type 0} {n : ℕ} {a : A} → refused n ≡ accepted a → B
none e = absurd (subst (λ y. T (is_refused y)) e tt)

-- ---- a plan file read against the arrays
module _ (g : Instance) (file : List ℕ) (p : Result PlanRead Refusal) (A : ReadAs true (shown_by g) file p) where
  pub answer_accepted : {n : PlanRead} → p ≡ Ok n → accepted tt ≡ file_read (read_plan (shown_by g) file)
  answer_accepted q = sym (ap file_read (accepted_read A q).1)

  pub answer_refused : {n : Refusal} → p ≡ Err n → refused (number_of n) ≡ file_read (read_plan (shown_by g) file)
  answer_refused q = sym (ap file_read (refused_read A q))

  pub plan_missing : {n : Refusal} → p ≡ Err n → (short : Bool) (R : Roster) → 14 ≡ state_number (held_plan R (read_plan (shown_by g) file)) true short
  plan_missing q short R = sym (ap (λ y. state_number (held_plan R y) true short) (refused_read A q))

  -- a plan is held: 15 or nothing
  pub plan_held_short : {n : PlanRead} → p ≡ Ok n → (short : Bool) (R : Roster) → state_number (held_plan R (read_plan (shown_by g) file)) true short ≡ cond short 15 0
  plan_held_short q short R = given (accepted_read A q) (λ (M, a, s). ap (λ y. state_number (held_plan R y) true short) a)

  module _ (short : Bool) (r : OnDesk) (same : r.g ≡ g) where
    pub plan_there : Loaded g → T (is_bytes file) → {n : PlanRead} → p ≡ Ok n → {k : ℕ} → k ≡ cond short 15 0
        → r.plan ≡ n → OnRoster g file true short k r
    plan_there L is_b {n} q e ep = given (accepted_read A q) (λ (M, a, s). record {
      arrays = same;
      refusal = λ R. e ∙ sym (ap (λ y. state_number (held_plan R y) true short) a);
      planned =
          λ t N b. let w = subst (λ z. read_plan (shown_by g) file ≡ accepted z) (one (sym a ∙ b)) a in (in_arrays N w, plan_read_write (shown_by g) file N is_b w);
    })
      where
        plan_in : Plan → Reading Plan → Plan
        plan_in M (accepted N) = N
        plan_in M (refused n) = M

        one : {M N : Plan} → accepted M ≡ accepted N → M ≡ N
        one {M} z = ap (plan_in M) z

        in_arrays : (N : Plan) → read_plan (shown_by g) file ≡ accepted N → PlanIn r N
        in_arrays N w =
            let f : (e : ℕ) → flag n.chosen e ≡ on N e = (λ e. sym (ap (λ z. flag (chosen_in z) e) q) ∙ A.chosen N w e) in
            let l : Listed g.m n.chosen n.n n.edges = (read_planned g file p A L is_b q).listed in
            record {
              within = subst (λ h. N ∈ plans_of (shown_by h)) (sym same) (plan_read_within (shown_by g) file N is_b w);
              flags = λ e. ap (λ z. flag z.chosen e) ep ∙ f e;
              listed = subst (λ h. Listed h.m r.plan.chosen r.plan.n r.plan.edges) (sym same) (subst (λ z. Listed g.m z.chosen z.n z.edges) (sym ep) l);
            }

-- a refusal
pub not_on_roster : (g : Instance) (file : List ℕ) → T (is_bytes file) → {needs short : Bool} {e : Refusal}
    → ((R : Roster) → number_of e ≡ state_number (held_plan R (read_plan (shown_by g) file)) needs short) → NotOnRoster g file needs short e
not_on_roster g file is_b q =
    record { number = q; planned = λ M a. (plan_read_within (shown_by g) file M is_b a, plan_read_write (shown_by g) file M is_b a) }

-- no plan is needed
pub plan_unneeded : (g : Instance) (file : List ℕ) (short : Bool) (r : OnDesk) → r.g ≡ g → {n : ℕ} → n ≡ cond short 15 0 → OnRoster g file false short n r
plan_unneeded g file short r same e = record {
  arrays = same;
  refusal = λ R. e ∙ unneeded R (read_plan (shown_by g) file) short;
  planned = λ t. absurd t;
}

pub unplanned : (g : Instance) (file : List ℕ) (short : Bool) {needs : Bool} → needs ≡ false → (p : PlanRead) → ◌≡◌ {A = ℕ} 0 (cond short 15 0)
    → OnRosterAs g file needs short (Ok p)
unplanned g file short q p e =
    let r : OnDesk = record { g = g; plan = p } in
    subst (λ z. OnRosterAs g file z short (Ok p)) (sym q) (plan_unneeded g file short r refl e)

-- ---- the roster's bytes
pub not_loaded : (roster file : List ℕ) → T (is_bytes roster) → T (is_bytes file) → {needs short : Bool} {e : Refusal}
    → number_of e ≡ state_number (held (read_roster roster) file) needs short → NotLoaded roster file needs short e
not_loaded roster file r f q = record {
  number = q;
  fitting = λ R a. read_fits roster R r a;
  written = λ R a. read_write roster R r a;
  within = λ R M a b. plan_read_within (instance_of R) file M f b;
  planned = λ R M a b. plan_read_write (instance_of R) file M f b;
}

pub roster_missing : (roster file : List ℕ) (needs short : Bool) {r : Result ⊤ Refusal} {n : Refusal} → r ≡ Err n → reading_of r ≡ file_read (read_roster roster)
    → 13 ≡ state_number (held (read_roster roster) file) needs short
roster_missing roster file needs short q e = sym (ap (λ x. state_number (held x file) needs short) (read_refused (read_roster roster) q e))

module _ (roster : List ℕ) (is_b : T (is_bytes roster)) {x : Result ⊤ Refusal} {u : ⊤} (q : x ≡ Ok u) (e : reading_of x ≡ file_read (read_roster roster)) (g : Instance) (D : Decoded roster g) where
  abbrev R₀ : Roster
  R₀ = (read_accepted (read_roster roster) q e).0

  a₀ : read_roster roster ≡ accepted R₀
  a₀ = (read_accepted (read_roster roster) q e).1

  pub arrays_loaded : Loaded g
  arrays_loaded = loaded roster g is_b D R₀ a₀

  pub roster_there : (file : List ℕ) (needs short : Bool) (n : ℕ) (r : OnDesk) → OnRoster g file needs short n r → LoadedFrom roster file needs short n r
  roster_there file needs short n r O = record {
    refusal = O.refusal R₀ ∙ ap (λ G. state_number (held_plan R₀ (read_plan G file)) needs short) (D.shows R₀ a₀)
        ∙ sym (ap (λ x. state_number (held x file) needs short) a₀);
    instance = λ R a. (subst Loaded (sym O.arrays) arrays_loaded, ap shown_by O.arrays ∙ D.shows R a, read_write roster R is_b a);
    fitting = λ R a. read_fits roster R is_b a;
    planned = λ R a. subst (λ G. T needs → (M : Plan) → read_plan G file ≡ accepted M → PlanIn r M × (plan_bytes G M ≡ file)) (D.shows R a) O.planned;
  }

  -- the same of a call's result, with the instance
  abbrev pub on_desk : Result PlanRead Refusal → Result OnDesk Refusal
  on_desk (Ok p) = Ok (record { g = g; plan = p })
  on_desk (Err n) = Err n

  pub roster_read : (file : List ℕ) → T (is_bytes file) → (needs short : Bool) (r : Result PlanRead Refusal) → OnRosterAs g file needs short r
      → LoadedAs roster file needs short (on_desk r)
  roster_read file f needs short (Ok p) O = roster_there file needs short 0 (record { g = g; plan = p }) O
  roster_read file f needs short (Err n) O = not_loaded roster file is_b f
      (O.number R₀ ∙ ap (λ G. state_number (held_plan R₀ (read_plan G file)) needs short) (D.shows R₀ a₀) ∙ sym (ap (λ x. state_number (held x file) needs short) a₀))

-- ---- a call that the state lets pass
no_number : {A : Type 0} {n k : ℕ} → n ≤ 0 → n ≡ suc k → A
no_number z e = absurd (let i : ⊥ = omega arith in i)

module _ {roster file : List ℕ} {short : Bool} {n : ℕ} {r : OnDesk} (z : n ≤ 0) where
  -- there is a roster
  pub its_roster : {needs : Bool} → LoadedFrom roster file needs short n r → (R : Roster) × (read_roster roster ≡ accepted R)
  its_roster {needs} F = go (read_roster roster) refl F.refusal
    where
      go : (x : Reading Roster) → read_roster roster ≡ x → n ≡ state_number (held x file) needs short → (R : Roster) × (read_roster roster ≡ accepted R)
      go (accepted R) a e = (R, a)
      go (refused m) a e = no_number z e

  -- and a plan, where one is needed
  pub its_plan : LoadedFrom roster file true short n r
      → (R : Roster) × (M : Plan) × (read_roster roster ≡ accepted R) × (read_plan (instance_of R) file ≡ accepted M)
  its_plan F = given (its_roster F) (λ (R, a). go R a (read_plan (instance_of R) file) refl (F.refusal ∙ ap (λ x. state_number (held x file) true short) a))
    where
      go : (R : Roster) → read_roster roster ≡ accepted R → (y : Reading Plan) → read_plan (instance_of R) file ≡ y
          → n ≡ state_number (held_plan R y) true short
          → (R : Roster) × (M : Plan) × (read_roster roster ≡ accepted R) × (read_plan (instance_of R) file ≡ accepted M)
      go R a (accepted M) b e = (R, M, a, b)
      go R a (refused m) b e = no_number z e

  -- and no buffer is short
  pub its_length : {needs : Bool} → LoadedFrom roster file needs short n r → short ≡ false
  its_length {needs} F = go (no_roster h) (needs && no_plan h) short F.refusal
    where
      h : Held
      h = held (read_roster roster) file

      go : (a b s : Bool) → n ≡ cond a 13 (cond b 14 (cond s 15 0)) → s ≡ false
      go true b s e = no_number z e
      go false true s e = no_number z e
      go false false true e = no_number z e
      go false false false e = refl
