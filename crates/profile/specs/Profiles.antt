-- What the call on a training block's roster promises (W-212): the model's answer and bytes, and what holds of the plan that is written.
use Rattle.std.specs.Prelude.{Result, ⊤}
use Rattle.std.specs.declared.result.Result.TheVariants.{Ok, Err}
use Rattle.std.specs.Prelude.{ℕ, ◌≤◌, ◌<◌, ◌≡◌, true, false, List, length, T}
use Rattle.std.proofs.Common.{arith, ◌∙◌, subst, lt-ltb, le-ltb}
use Rattle.std.proofs.Math.Path.{sym, ap}
use Rattle.std.proofs.Math.Logic.{⊎_elim}
use Rattle.std.proofs.Math.Bool.{cond}
use Rattle.lists.specs.Test.{true_t}
use Rattle.model.specs.Limits.{plan_size}
use Rattle.model.specs.Reading as reading
use Rattle.model.specs.Reading.{accepted, is_bytes}
use Rattle.model.specs.Roster.{Roster, fits}
use Rattle.model.specs.RosterFile.{read_roster}
use Rattle.model.specs.Edges.{edges_of, instance_of}
use Rattle.model.specs.Instance as Model
use Rattle.model.specs.Plans.{Plan}
use Rattle.model.specs.PlanFile.{plan_bytes}
use Rattle.model_desk.specs.Desk.{onto}
use Rattle.model_files.specs.Offers.{offers_plan}
use Rattle.model_files.specs.Profile as model
use Rattle.model_files.specs.Profile.{one_to_one, of_profile, read_profile, refusal, answer_for, written_for, profile_answer, profile_lent}
use Rattle.theory_files.specs.Rosters.{read_fits}
use Rattle.theory_files.specs.Ascending.{edges_ascend, later}
use Rattle.theory_offers.specs.OffersPlan.{OneToOne}
use Rattle.theory_offers.specs.ProfileInstance.{unitary, profile_instance}
use Rattle.theory_offers.proofs.ProfileInstance.{profile_is}
use Rattle.theory_offers.specs.Profiled.{Offered}
use Rattle.theory_offers.proofs.Profiled.{profile_offered}
use Rattle.answers.specs.declared.Offers.{Offers}
use Rattle.answers.specs.declared.Refusal.{Refusal}
use Rattle.answers.specs.declared.Refusal.TheVariants.{BufferTooSmall, NotOneToOne}
use Rattle.answers.specs.RefusalCases.{reading_of}
use Rattle.answers.specs.FileCases.{file_read, read_refused}
use Rattle.answers.specs.OffersCases.{offers_shown}
use Rattle.instance.specs.declared.Instance.{Instance}
use Rattle.instance.specs.Decoded.{shown_by, Decoded}
use Rattle.instance.specs.Loaded.{loaded}
use Rattle.offers.specs.Standing.{BySurveyor}
use Rattle.offers.specs.Running.{Ready}
use Rattle.profile.specs.Weighed.{Gives}

-- the promise
pub record Profiles (f o : List ℕ) (r : Result Offers Refusal) (o' : List ℕ) : Type 0 where
  -- 15, or the roster's refusal, or 22, each with its group; or whether the plan of the offers is strong, and the number of its bytes
  pub answer : offers_shown r ≡ profile_answer f o
  -- they are in front of the buffer, which keeps the rest; a refusal changes no byte
  pub lent : o' ≡ profile_lent f o
  -- of that plan: within the quotas, no blocking pair, no vote below zero; strong exactly when the finder hands back a plan, and then the same
  pub offered : (R : Roster) → read_profile f ≡ accepted R → (rival : Plan → Plan) → Offered (instance_of R) rival

-- of an accepted roster
pub record Settles (f o : List ℕ) (r : Result Offers Refusal) (o' : List ℕ) : Type 0 where
  pub answer : offers_shown r ≡ answer_for (read_profile f)
  pub lent : o' ≡ written_for (read_profile f) o

-- ---- an accepted roster
module _ (f : List ℕ) (is_b : T (is_bytes f)) (R : Roster) (e : read_roster f ≡ accepted R) (g : Instance) (D : Decoded f g) where
  ok : T (fits R)
  ok = read_fits f R is_b e

  -- the test on the arrays is the roster's
  pub test_is : unitary (shown_by g) ≡ one_to_one R
  test_is = ap unitary (D.shows R e) ∙ sym (profile_is R ok)

  pub passes : unitary (shown_by g) ≡ true → read_profile f ≡ accepted R
  unfolding read_profile
  passes t = ap of_profile e ∙ ap (λ b. cond b (accepted R) (reading.refused 22)) (sym test_is ∙ t)

  pub fails : unitary (shown_by g) ≡ false → read_profile f ≡ reading.refused 22
  unfolding read_profile
  fails t = ap of_profile e ∙ ap (λ b. cond b (accepted R) (reading.refused 22)) (sym test_is ∙ t)

  -- edges are numbered by surveyor
  by_surveyor : BySurveyor (instance_of R)
  unfolding instance_of
  by_surveyor d e h k = ⊎_elim (λ l. omega arith) (λ (q, x). omega arith) (later (edges_of R) (edges_ascend R) d e h k)

  pub ready : unitary (shown_by g) ≡ true → Ready g
  ready t = record {
    loaded = loaded f g is_b D R e;
    profile = subst OneToOne (sym (D.shows R e)) (profile_instance R ok (true_t (sym test_is ∙ t)));
    sorted = subst BySurveyor (sym (D.shows R e)) by_surveyor;
  }

  pub settles_not : (o : List ℕ) → unitary (shown_by g) ≡ false → Settles f o (Err NotOneToOne) o
  settles_not o t = record {
    answer = sym (ap answer_for (fails t));
    lent = sym (ap (λ x. written_for x o) (fails t));
  }

  pub settles_offers : (o : List ℕ) {r : Offers} {o' : List ℕ} → unitary (shown_by g) ≡ true → Gives g o r o' → Settles f o (Ok r) o'
  settles_offers o {r} {o'} t G = record {
    answer = G.answer ∙ ap model.offers_answer (D.shows R e) ∙ sym (ap answer_for (passes t));
    lent = G.lent ∙ ap (λ H. written_of H o) (D.shows R e) ∙ sym (ap (λ x. written_for x o) (passes t));
  }
    where
      written_of : Model.Instance → List ℕ → List ℕ
      written_of H b = onto (plan_bytes H (offers_plan H)) b

-- ---- the call
module _ (f o : List ℕ) (is_b : T (is_bytes f)) where
  offered_part : (R : Roster) → read_profile f ≡ accepted R → (rival : Plan → Plan) → Offered (instance_of R) rival
  offered_part R e rival = profile_offered f is_b R e rival

  -- 15 before all
  pub profiles_short : length o < plan_size → Profiles f o (Err BufferTooSmall) o
  unfolding profile_answer profile_lent
  profiles_short h = record {
    answer = sym (ap (λ b. cond b (refusal 15) (answer_for (read_profile f))) (lt-ltb (length o) plan_size h));
    lent = sym (ap (λ b. cond b o (written_for (read_profile f) o)) (lt-ltb (length o) plan_size h));
    offered = offered_part;
  }

  pub profiles_settled : {r : Result Offers Refusal} {o' : List ℕ} → plan_size ≤ length o → Settles f o r o' → Profiles f o r o'
  unfolding profile_answer profile_lent
  profiles_settled h s = record {
    answer = s.answer ∙ sym (ap (λ b. cond b (refusal 15) (answer_for (read_profile f))) (le-ltb (length o) plan_size h));
    lent = s.lent ∙ sym (ap (λ b. cond b o (written_for (read_profile f) o)) (le-ltb (length o) plan_size h));
    offered = offered_part;
  }

  -- the roster's refusal
  pub profiles_refused : (n : Refusal) {s : Result ⊤ Refusal} → plan_size ≤ length o → s ≡ Err n → reading_of s ≡ file_read (read_roster f)
      → Profiles f o (Err n) o
  unfolding read_profile
  profiles_refused n h q e =
      let t = ap of_profile (read_refused (read_roster f) q e) in
      profiles_settled h (record { answer = sym (ap answer_for t); lent = sym (ap (λ x. written_for x o) t) })
