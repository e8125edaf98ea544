-- W-212 for every roster that the profile takes, about the model's definitions alone: what the call promises beside its answer and its bytes.
use Rattle.std.specs.Prelude.{◌≡◌, refl, Bool, true, false, cond, List, pos, ◌≤ℤ◌, T, ℕ}
use Rattle.std.proofs.Common.{sym, subst}
use Rattle.lists.specs.Sum.{◌∈◌}
use Rattle.model.specs.Reading.{Reading, accepted, refused}
use Rattle.model.specs.Roster.{Roster}
use Rattle.model.specs.RosterFile.{read_roster}
use Rattle.model.specs.Instance.{Instance}
use Rattle.model.specs.Plans.{Plan, on, plans_of, vote_of, is_strong, verdict_of}
use Rattle.model.specs.PlanFile.{plan_bytes}
use Rattle.model.specs.Blocking.{some_blocks}
use Rattle.model.specs.Finder.{plan, finder_of, hands_back}
use Rattle.model_files.specs.Offers.{offers_plan}
use Rattle.model_files.specs.Profile.{one_to_one, of_profile, read_profile}

-- what holds of the plan of the offers; `rival` is the finder's choice of a rival, whatever it is
pub record Offered (G : Instance) (rival : Plan → Plan) : Type 0 where
  pub in_quotas : offers_plan G ∈ plans_of G
  -- "plain offers give a plan without blocking pairs"
  pub unblocked : some_blocks G (on (offers_plan G)) ≡ false
  -- "No vote of that plan against another is below zero."
  pub unbeaten : (N : Plan) → N ∈ plans_of G → pos 0 ≤ℤ vote_of G (offers_plan G) N
  -- "it is so exactly when the general finder hands back a plan, and then the two plans are the same"
  pub strong_when : is_strong (verdict_of G (offers_plan G)) ≡ hands_back (finder_of G rival)
  pub same : (M : Plan) → finder_of G rival ≡ plan M → (M ≡ offers_plan G) × (plan_bytes G M ≡ plan_bytes G (offers_plan G))

-- ---- what the profile takes
taken_is : (x : Reading Roster) (r : Roster) → of_profile x ≡ accepted r → (x ≡ accepted r) × T (one_to_one r)
taken_is (accepted q) r e = go (one_to_one q) refl e
  where
    apart : refused 22 ≡ accepted r → ⊥
    apart e = subst is_refused e tt
      where
        is_refused : Reading Roster → Type 0
        is_refused (accepted r) = ⊥
        is_refused (refused n) = Unit {0}

    go : (b : Bool) → one_to_one q ≡ b → cond b (accepted q) (refused 22) ≡ accepted r → (accepted q ≡ accepted r) × T (one_to_one r)
    go true p e = (e, subst (λ x. T (passes x)) e (subst T (sym p) tt))
      where
        passes : Reading Roster → Bool
        passes (accepted r) = one_to_one r
        passes (refused n) = false
    go false p e = absurd (apart e)
taken_is (refused n) r e = absurd (subst is_refused e tt)
  where
    is_refused : Reading Roster → Type 0
    is_refused (accepted r) = ⊥
    is_refused (refused n) = Unit {0}

pub profile_read : (f : List ℕ) (r : Roster) → read_profile f ≡ accepted r → (read_roster f ≡ accepted r) × T (one_to_one r)
unfolding read_profile
profile_read f r e = taken_is (read_roster f) r e
