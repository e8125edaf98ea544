-- The state's refusal of a call, "13, 14, 15 come first", 20 for a commit alone; and a call that it lets pass, by what is held.
use Rattle.std.specs.Prelude.{ℕ, ◌≤◌, ◌<◌, ◌≡◌, refl, Bool, true, false, not, ◌&&◌, ◌||◌, List, length, T, ltb}
use Rattle.std.proofs.Common.{arith, sym, ◌∙◌, subst, nltb→le, lt-ltb}
use Rattle.std.proofs.Math.Path.{ap}
use Rattle.std.proofs.Math.Bool.{cond}
use Rattle.std.proofs.Math.Option.{none, some, some-injective, none-ne-some}
use Rattle.lists.specs.Sum.{◌∈◌}
use Rattle.lists.specs.Test.{given, false_t, nor_l, nor_r}
use Rattle.model.specs.Reading.{Reading, accepted, refused}
use Rattle.model.specs.Roster.{Roster, fits}
use Rattle.model.specs.RosterFile.{read_roster}
use Rattle.model.specs.Edges.{instance_of}
use Rattle.model.specs.Plans.{Plan, plans_of}
use Rattle.model.specs.PlanFile as plans
use Rattle.model.specs.PlanFile.{read_plan}
use Rattle.model_desk.specs.Desk.{Held, Topic, Call, load_roster, load_plan, join, leave, propose, commit, asks, Answer, refusal, no_proposal}
use Rattle.model_desk.specs.Desk.{need, needs_roster, needs_plan, needs_proposal, lent_short, no_roster, no_plan, state_refusal, answer_on, lent_on}
use Rattle.model_desk.specs.Desk.{answer_of, lent_after, desk_on, desk_after, plan_held}
use Rattle.theory_finder.specs.Choices.{chosen}
use Rattle.desk_files.specs.declared.Files.{Files}
use Rattle.instance.specs.Decoded.{shown_by}
use Rattle.instance.specs.Loaded.{Loaded}
use Rattle.desk_loaded.specs.declared.OnDesk.{OnDesk}
use Rattle.model_desk.specs.HeldFiles.{held_plan, held, held_proposal, beside}
use Rattle.desk_loaded.specs.Held.{state_number}
use Rattle.answers.specs.declared.Refusal.{Refusal}
use Rattle.answers.specs.RefusalCases.{number_of}
use Rattle.desk_loaded.specs.OnDesk.{PlanIn, LoadedFrom, NotLoaded, its_roster, its_plan, its_length}
use Rattle.desk_files.specs.Held.{roster_bytes, plan_bytes, proposal_bytes, held_of, beside_number, of_plan}
use Rattle.desk_files.specs.Replies.{answered, lent_then, is_accepted, Stored, Replied}

-- ---- a refusal by the state
by_number : {A : Type 0} (f : ℕ → A) (x : A) {n s : ℕ} → n ≡ s → 0 < n → f n ≡ cond (ltb 0 s) (f s) x
by_number f x {n} {s} e h = sym (ap (λ b. cond b (f n) x) (lt-ltb 0 n h)) ∙ ap (λ k. cond (ltb 0 k) (f k) x) e

same_desk : (d : Files) {k : Topic} (c : Call k) → Stored c false d d
same_desk d (load_roster file) = refl
same_desk d (load_plan file) = refl
same_desk d (join q f s l p v) = refl
same_desk d (leave m s l p v) = refl
same_desk d (propose a f k) = refl
same_desk d commit = refl
same_desk d (asks a) = refl

-- a call that needs a roster, and no proposal
pub states : (h : Held) {k : Topic} (c : Call k) → T (needs_roster (need c)) → T (not (needs_proposal (need c)))
    → state_number h (needs_plan (need c)) (lent_short c) ≡ state_refusal h c
unfolding state_refusal
states h c t u = go (needs_roster (need c)) (needs_proposal (need c)) t u
  where
    go : (a b : Bool) → T a → T (not b)
        → state_number h (needs_plan (need c)) (lent_short c)
        ≡ cond (a && no_roster h) 13 (cond (needs_plan (need c) && no_plan h) 14 (cond (b && no_proposal h) 20 (cond (lent_short c) 15 0)))
    go true false t u = refl
    go true true t u = absurd u
    go false b t u = absurd t

-- a call that the state refuses: nothing changes
pub refuses_by : (d : Files) {k : Topic} (c : Call k) {n : ℕ} {a : Answer k} → n ≡ state_refusal (held_of d) c → 0 < n → a ≡ refusal n → Replied d c a c d
unfolding answer_of lent_after desk_after
refuses_by d c {n} {a} e h q = record {
  answer = q ∙ by_number refusal (answer_on chosen (held_of d) c) e h;
  lent = by_number (λ k. c) (lent_on chosen (held_of d) c) e h;
  desk = by_number (λ k. held_of d) (desk_on (held_of d) c) e h;
  stored = subst (λ z. Stored c (is_accepted z) d d) (sym q) (same_desk d c);
}

-- the same for a call that needs a roster, and no open proposal
pub by_state : (d : Files) {k : Topic} (c : Call k) → T (needs_roster (need c)) → T (not (needs_proposal (need c))) → {n : ℕ} {a : Answer k}
    → n ≡ state_number (held_of d) (needs_plan (need c)) (lent_short c) → 0 < n → a ≡ refusal n → Replied d c a c d
by_state d c t u i h q = refuses_by d c (i ∙ states (held_of d) c t u) h q

-- ---- a call that the state lets pass
module _ (h : Held) {k : Topic} (c : Call k) (s : 0 ≡ state_refusal h c) where
  -- it answers what the model answers on what is held
  pub pass_answer : answer_on chosen h c ≡ answered h c
  unfolding answer_of
  pass_answer = ap (λ k. cond (ltb 0 k) (refusal k) (answer_on chosen h c)) s

  -- and writes what the model writes
  pub pass_lent : lent_on chosen h c ≡ lent_then h c
  unfolding lent_after
  pass_lent = ap (λ k. cond (ltb 0 k) c (lent_on chosen h c)) s

  -- and leaves what the model leaves
  pub pass_desk : desk_on h c ≡ desk_after h c
  unfolding desk_after
  pass_desk = ap (λ k. cond (ltb 0 k) h (desk_on h c)) s

-- refused or not, the same
either : {A : Type 0} (b : Bool) {x y : A} → x ≡ y → x ≡ cond b x y
either true e = refl
either false e = e

-- a call that is lent no buffer to write to
pub lent_alike : (h : Held) {k : Topic} (c : Call k) → c ≡ lent_on chosen h c → c ≡ lent_then h c
unfolding lent_after
lent_alike h c e = either (ltb 0 (state_refusal h c)) e

-- a call that leaves the desk alike
pub desk_alike : (h : Held) {k : Topic} (c : Call k) → h ≡ desk_on h c → h ≡ desk_after h c
unfolding desk_after
desk_alike h c e = either (ltb 0 (state_refusal h c)) e

-- the number that lets a call pass
pub no_number : {n m : ℕ} → n ≤ 0 → n ≡ m → 0 ≡ m
no_number h e = omega arith

-- ---- what is held of a roster
pub roster_held_law : (d : Files) (R : Roster) → read_roster (roster_bytes d) ≡ accepted R → held_of d ≡ beside (proposal_bytes d) (held (accepted R) (plan_bytes d))
unfolding held_of
roster_held_law d R a = ap (λ x. beside (proposal_bytes d) (held x (plan_bytes d))) a

-- a call that leaves the desk as it came: its answer and the bytes lent, by what is held
module _ (d : Files) {k : Topic} (c : Call k) (t : T (needs_roster (need c))) (u : T (not (needs_proposal (need c)))) {n : ℕ}
    (i : n ≡ state_number (held_of d) (needs_plan (need c)) (lent_short c)) (z : n ≤ 0) where
  -- no refusal by the state
  pub passed : 0 ≡ state_refusal (held_of d) c
  passed = no_number z i ∙ states (held_of d) c t u

  -- the whole reply
  pub passes : {a : Answer k} {c' : Call k} (h : Held) → held_of d ≡ h → a ≡ answer_on chosen h c → c' ≡ lent_on chosen h c → h ≡ desk_on h c
      → Stored c (is_accepted a) d d → Replied d c a c' d
  passes h e p q k s = record {
    answer = p ∙ ap (λ h. answer_on chosen h c) (sym e) ∙ pass_answer (held_of d) c passed;
    lent = q ∙ ap (λ h. lent_on chosen h c) (sym e) ∙ pass_lent (held_of d) c passed;
    desk = desk_alike (held_of d) c (e ∙ k ∙ ap (λ h. desk_on h c) (sym e));
    stored = s;
  }

-- ---- what the call knows of what it works on
-- the state's refusal
pub state_is : (d : Files) {needs short : Bool} {n : ℕ} {l : OnDesk} → LoadedFrom (roster_bytes d) (plan_bytes d) needs short n l
    → n ≡ state_number (held_of d) needs short
unfolding held_of
state_is d {needs} {short} F = F.refusal ∙ beside_number (proposal_bytes d) (held (read_roster (roster_bytes d)) (plan_bytes d)) needs short

-- the same where it is a refusal
pub state_refuses : (d : Files) (needs short : Bool) {e : Refusal} → NotLoaded (roster_bytes d) (plan_bytes d) needs short e
    → number_of e ≡ state_number (held_of d) needs short
unfolding held_of
state_refuses d needs short F = F.number ∙ beside_number (proposal_bytes d) (held (read_roster (roster_bytes d)) (plan_bytes d)) needs short

-- the arrays of the roster held
pub arrays_are : (d : Files) {needs short : Bool} {n : ℕ} {l : OnDesk} → LoadedFrom (roster_bytes d) (plan_bytes d) needs short n l → n ≤ 0 → Loaded l.g
arrays_are d F z = given (its_roster z F) (λ (R, a). (F.instance R a).0)

-- the buffer lent to it has its size
pub long_enough : (out : List ℕ) (size : ℕ) {roster plan : List ℕ} {needs : Bool} {n : ℕ} {l : OnDesk}
    → LoadedFrom roster plan needs (ltb (length out) size) n l → n ≤ 0
    → size ≤ length out
long_enough out size F z = nltb→le (length out) size (false_t (its_length z F))

-- the same of two buffers
pub both_long : (x y : List ℕ) (n m : ℕ) {roster plan : List ℕ} {needs : Bool} {k : ℕ} {l : OnDesk}
    → LoadedFrom roster plan needs (ltb (length x) n || ltb (length y) m) k l → k ≤ 0 → (n ≤ length x) × (m ≤ length y)
both_long x y n m F z =
    let t = false_t (its_length z F) in
    (nltb→le (length x) n (nor_l (ltb (length x) n) (ltb (length y) m) t), nltb→le (length y) m (nor_r (ltb (length x) n) (ltb (length y) m) t))

-- ---- the plan held, and the proposal beside it, if there is one
abbrev pub other : Files → Roster → Reading Plan
other d R = read_plan (instance_of R) (proposal_bytes d)

-- what is held, by what both files are read to
pub plan_held_law : (d : Files) (R : Roster) (M : Plan) → read_roster (roster_bytes d) ≡ accepted R → read_plan (instance_of R) (plan_bytes d) ≡ accepted M
    → held_of d ≡ held_proposal R M (other d R)
plan_held_law d R M a b = roster_held_law d R a ∙ ap (λ y. beside (proposal_bytes d) (held_plan R y)) b

-- the plan that is loaded is the one held
pub its_plan_held : (d : Files) {short : Bool} {n : ℕ} {l : OnDesk} → LoadedFrom (roster_bytes d) (plan_bytes d) true short n l → n ≤ 0
    → (R : Roster) × (M : Plan) × (held_of d ≡ held_proposal R M (other d R)) × (shown_by l.g ≡ instance_of R) × PlanIn l M
    × (plans.plan_bytes (instance_of R) M ≡ plan_bytes d)
its_plan_held d F z = given (its_plan z F) (λ (R, M, a, b). (
  R,
  M,
  plan_held_law d R M a b,
  (F.instance R a).1,
  (F.planned R a tt M b).0,
  (F.planned R a tt M b).1,
))

-- what a desk with a plan has read
abbrev Both : (file plan : List ℕ) (R : Roster) (M : Plan) → Type 0
Both file plan R M = (read_roster file ≡ accepted R) × (read_plan (instance_of R) plan ≡ accepted M)

both_read : (file plan proposal : List ℕ) (R : Roster) (M : Plan) → plan_held (beside proposal (held (read_roster file) plan)) ≡ some (R, M)
    → Both file plan R M
both_read file plan proposal R M = by_roster (read_roster file) refl
  where
    by_plan : (r : Roster) → read_roster file ≡ accepted r → (y : Reading Plan) → read_plan (instance_of r) plan ≡ y
        → plan_held (beside proposal (held_plan r y)) ≡ some (R, M) → Both file plan R M
    by_plan r a (accepted N) b z =
        let e = some-injective (r, N) (R, M) (of_plan none (λ r M. some (r, M)) r N (read_plan (instance_of r) proposal) ∙ z) in
        (a ∙ ap (λ x. accepted x.0) e, ap (λ x. read_plan (instance_of x.0) plan) (sym e) ∙ b ∙ ap (λ x. accepted x.1) e)
    by_plan r a (refused n) b z = absurd (none-ne-some (R, M) z)

    by_roster : (x : Reading Roster) → read_roster file ≡ x → plan_held (beside proposal (held x plan)) ≡ some (R, M) → Both file plan R M
    by_roster (accepted r) a z = by_plan r a (read_plan (instance_of r) plan) refl z
    by_roster (refused n) a z = absurd (none-ne-some (R, M) z)

-- so the plan held is within the quotas of a roster within the limits
pub held_within : (d : Files) {short : Bool} {n : ℕ} {l : OnDesk} → LoadedFrom (roster_bytes d) (plan_bytes d) true short n l → (R : Roster) (M : Plan)
    → plan_held (held_of d) ≡ some (R, M) → T (fits R) × (M ∈ plans_of (instance_of R))
unfolding held_of
held_within d F R M h = given (both_read (roster_bytes d) (plan_bytes d) (proposal_bytes d) R M h) (λ (a, b). (
  F.fitting R a,
  subst (λ G. M ∈ plans_of G) (F.instance R a).1 (F.planned R a tt M b).0.within,
))

-- and where the call is refused
pub refused_within : (d : Files) {needs short : Bool} {e : Refusal} → NotLoaded (roster_bytes d) (plan_bytes d) needs short e → (R : Roster) (M : Plan)
    → plan_held (held_of d) ≡ some (R, M) → T (fits R) × (M ∈ plans_of (instance_of R))
unfolding held_of
refused_within d F R M h = given (both_read (roster_bytes d) (plan_bytes d) (proposal_bytes d) R M h) (λ (a, b). (F.fitting R a, F.within R M a b))
