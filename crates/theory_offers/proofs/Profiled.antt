-- The theorems that rest on specs/Profiled.antt. They stand here so that a wrong definition there is refused by a proof.
use Rattle.std.specs.Prelude.{◌≡◌, List, T, ℕ}
use Rattle.std.proofs.Common.{ap}
use Rattle.model.specs.Reading.{accepted, is_bytes}
use Rattle.model.specs.Roster.{Roster}
use Rattle.model.specs.Edges.{instance_of}
use Rattle.model.specs.Instance.{Instance}
use Rattle.model.specs.Plans.{Plan}
use Rattle.model.specs.PlanFile.{plan_bytes}
use Rattle.model_files.specs.Profile.{read_profile}
use Rattle.theory_instance.specs.Lawful.{Lawful}
use Rattle.theory_files.specs.Rosters.{read_fits}
use Rattle.theory_files.specs.RosterInstance.{lawful}
use Rattle.theory_offers.specs.OffersPlan.{OneToOne}
use Rattle.theory_offers.proofs.OffersPlan.{offers_plan_law, no_blocking, no_vote_below, strong_when_law, finder_same}
use Rattle.theory_offers.specs.ProfileInstance.{profile_instance}
use Rattle.theory_offers.specs.Profiled.{Offered, profile_read}

pub offered_plan : (G : Instance) → Lawful G → OneToOne G → (rival : Plan → Plan) → Offered G rival
offered_plan G L O rival = record {
  in_quotas = offers_plan_law G L O;
  unblocked = no_blocking G L O;
  unbeaten = no_vote_below G L O;
  strong_when = strong_when_law G L O rival;
  same = λ M e. let q = finder_same G L O rival M e in (q, ap (plan_bytes G) q);
}

-- of every file that the profile takes, this holds of the plan of the offers
pub profile_offered : (f : List ℕ) → T (is_bytes f) → (r : Roster) → read_profile f ≡ accepted r → (rival : Plan → Plan) → Offered (instance_of r) rival
profile_offered f is_b r e rival =
    let (a, t) = profile_read f r e in
    let ok = read_fits f r is_b a in
    offered_plan (instance_of r) (lawful r ok) (profile_instance r ok t) rival
