-- The roster's bytes judged and not decoded, and decoded where they are known to be a roster's.
use Rattle.std.specs.Prelude.{ℕ, ◌≤◌, ◌≡◌, Bool, false, cond, List, [], T, Result, ⊤}
use Rattle.std.proofs.Common.{arith, sym, ap, ◌∙◌}
use Rattle.lists.specs.Test.{given, by_bool}
use Rattle.model.specs.Reading.{accepted, is_bytes}
use Rattle.model.specs.Roster.{Roster, fits}
use Rattle.model.specs.RosterFile.{read_roster, write_roster}
use Rattle.model.specs.Edges.{instance_of}
use Rattle.model.specs.PlanFile.{read_plan}
use Rattle.theory_files.specs.Rosters.{read_write, read_fits}
use Rattle.std.specs.declared.result.Result.TheVariants.{Ok, Err}
use Rattle.answers.specs.declared.Refusal.{Refusal}
use Rattle.answers.specs.RefusalCases.{reading_of}
use Rattle.answers.specs.FileCases.{file_read, read_accepted, read_refused}
use Rattle.instance.specs.declared.Instance.{Instance}
use Rattle.instance.specs.Decoded.{shown_by, Decoded}
use Rattle.instance.specs.Loaded.{Loaded, loaded}
use Rattle.model_desk.specs.HeldFiles.{held}
use Rattle.desk_loaded.specs.Held.{state_number, unneeded}

-- n is the state's refusal of a call that needs these bytes to be a roster, and a roster's bytes are what the model writes of it
pub record Judged (bytes : List ℕ) (short : Bool) (n : ℕ) : Type 0 where
  pub refusal_is : (plan : List ℕ) → n ≡ state_number (held (read_roster bytes) plan) false short
  pub roster_is : n ≤ 0 → (R : Roster) × (read_roster bytes ≡ accepted R) × T (fits R) × (write_roster R ≡ bytes)

module _ (bytes : List ℕ) (short : Bool) where
  pub judged_not : {r : Result ⊤ Refusal} {n : Refusal} → r ≡ Err n → reading_of r ≡ file_read (read_roster bytes) → Judged bytes short 13
  judged_not q e = record {
    refusal_is = λ plan. sym (ap (λ x. state_number (held x plan) false short) (read_refused (read_roster bytes) q e));
    roster_is = λ z. absurd (omega arith);
  }

  pub judged : T (is_bytes bytes) → {r : Result ⊤ Refusal} {u : ⊤} → r ≡ Ok u → reading_of r ≡ file_read (read_roster bytes)
      → (n : ℕ) → n ≡ cond short 15 0 → Judged bytes short n
  judged is_b q a n i = given (read_accepted (read_roster bytes) q a) (λ (R, e). record {
    refusal_is = λ plan. i ∙ unneeded R (read_plan (instance_of R) plan) short ∙ sym (ap (λ x. state_number (held x plan) false short) e);
    roster_is = λ z. (R, e, read_fits bytes R is_b e, read_write bytes R is_b e);
  })

-- the buffer lent to the call has its size
pub judged_long : {bytes : List ℕ} {short : Bool} {n : ℕ} → Judged bytes short n → n ≤ 0 → short ≡ false
judged_long {bytes} {short} {n} J z = given (J.roster_is z) (λ (R, a, f, w). by_bool short
    (λ t. absurd (omega (arith, numbered R a, ap {B = ℕ} (λ b. cond b 15 0) t))) (λ f. f))
  where
    numbered : (R : Roster) → read_roster bytes ≡ accepted R → n ≡ cond short 15 0
    numbered R a = J.refusal_is [] ∙ ap (λ x. state_number (held x []) false short) a ∙ sym (unneeded R (read_plan (instance_of R) []) short)

-- the arrays of a roster's bytes
pub record ArraysOf (bytes : List ℕ) (g : Instance) : Type 0 where
  pub arrays : Loaded g
  pub instance : (R : Roster) → read_roster bytes ≡ accepted R → shown_by g ≡ instance_of R
  pub fitting : (R : Roster) → read_roster bytes ≡ accepted R → T (fits R)

pub arrays_of : (bytes : List ℕ) → T (is_bytes bytes) → (R : Roster) → read_roster bytes ≡ accepted R → (g : Instance) → Decoded bytes g → ArraysOf bytes g
arrays_of bytes is_b R a g D =
    record { arrays = loaded bytes g is_b D R a; instance = λ R a. D.shows R a; fitting = λ R a. read_fits bytes R is_b a }
