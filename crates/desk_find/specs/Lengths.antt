-- How many bytes of a plan or candidate and of its rival were written: as many as the model's bytes of them, where the answer says that they were.
use Rattle.std.specs.Prelude.{ℕ, ◌≡◌, refl, Bool, true, false, List, get_or}
use Rattle.std.proofs.Common.{sym, ap, ap₂, ◌∙◌}
use Rattle.std.proofs.Math.ListN.{length}
use Rattle.model.specs.Roster.{Roster}
use Rattle.model.specs.RosterFile.{read_roster}
use Rattle.model.specs.Reading.{accepted}
use Rattle.model.specs.Edges.{instance_of}
use Rattle.model.specs.Instance.{Instance}
use Rattle.model.specs.Plans as P
use Rattle.model.specs.Plans.{Verdict, verdict_of}
use Rattle.model.specs.PlanFile.{plan_bytes, read_plan}
use Rattle.model.specs.Finder as F
use Rattle.model.specs.Finder.{left_of, candidate_of, is_empty, found, finder_of}
use Rattle.model.specs.Refusal.{Group}
use Rattle.model_desk.specs.Desk.{Held, nothing, roster, planned, proposed, on_roster, finds, Answer, refused, said, plan, none, left, rivalled}
use Rattle.theory_verdict.specs.Rival.{rival_of}
use Rattle.answers.specs.declared.Found.{Found}
use Rattle.answers.specs.declared.Found.TheVariants as says
use Rattle.answers.specs.declared.NoneKind.TheVariants as kind
use Rattle.answers.specs.FinderCases.{finding_shown}
use Rattle.finder_candidate.specs.FoundBuffers.{plan_after, rival_after, answer_for}
use Rattle.desk_files.specs.declared.Files.{Files}
use Rattle.desk_files.specs.Held.{roster_bytes, plan_bytes as heldBytes, proposal_bytes, held_of, of_roster}
use Rattle.desk_files.specs.PlanLength.{length_of, length_told}
use Rattle.desk_files.specs.State.{roster_held_law}
use Rattle.desk_find.specs.declared.Lengths.{Lengths}

-- ---- what is promised
abbrev pub unwritten : Lengths
unwritten = record { plan = 0; rival = 0 }

-- a plan is the candidate, and so is what has a rival; with pairs left and on a refusal neither is written
abbrev pub lengths_of : Instance → Answer finds → Lengths
lengths_of G (refused n g) = unwritten
lengths_of G (said (plan n)) = record { plan = length (plan_bytes G (candidate_of G)); rival = 0 }
lengths_of G (said (none n (left k))) = unwritten
lengths_of G (said (none n (rivalled w))) =
    record { plan = length (plan_bytes G (candidate_of G)); rival = length (plan_bytes G (rival_of G (candidate_of G))) }

-- for the roster that a desk holds
abbrev pub lengths_on : Held → Answer finds → Lengths
lengths_on h answer = on_roster unwritten h (λ R. lengths_of (instance_of R) answer)

-- ---- how the code tells them: by the count bytes in front of the plan's buffer and the rival's
abbrev pub lengths_in : Found → (plan rival : ℕ) → Lengths
lengths_in (says.Plan n) p v = record { plan = length_of p; rival = 0 }
lengths_in (says.None n (kind.Left k)) p v = unwritten
lengths_in (says.None n (kind.Rivalled w)) p v = record { plan = length_of p; rival = length_of v }

module _ (G : Instance) (n : ℕ) (p v : List ℕ) where
  abbrev Told : F.Found → Type 0
  Told x = lengths_in (answer_for n x) (get_or (plan_after G x p) 0 0) (get_or (rival_after G x v) 0 0) ≡ lengths_of G (finding_shown (answer_for n x))

  -- by what the finder leaves in the buffers
  pub lengths_told : Told (finder_of G (rival_of G))
  unfolding finder_of
  lengths_told = by_left (is_empty (left_of G))
    where
      plan_told : length_of (get_or (plan_after G (F.plan (candidate_of G)) p) 0 0) ≡ length (plan_bytes G (candidate_of G))
      plan_told = length_told G (candidate_of G) p

      both_told : Told (found G (rival_of G) P.beaten)
      both_told = ap₂ (λ (a b : ℕ). record { plan = a; rival = b }) plan_told (length_told G (rival_of G (candidate_of G)) v)

      by_verdict : (x : Verdict) → Told (found G (rival_of G) x)
      by_verdict P.strong = ap (λ (a : ℕ). record { plan = a; rival = 0 }) plan_told
      by_verdict P.popular = both_told
      by_verdict P.beaten = both_told

      by_left : (b : Bool) → Told (elim b as (λ b. F.Found) [ true ↦ found G (rival_of G) (verdict_of G (candidate_of G)) | false ↦ F.left (left_of G) ])
      by_left true = by_verdict (verdict_of G (candidate_of G))
      by_left false = refl

-- ---- on a desk
-- a refusal
pub none_refused : (h : Held) (n : ℕ) (g : Group) → unwritten ≡ lengths_on h (refused n g)
none_refused nothing n g = refl
none_refused (roster r) n g = refl
none_refused (planned r M) n g = refl
none_refused (proposed r M N) n g = refl

-- a find on the roster held
pub lengths_held : (d : Files) (R : Roster) → read_roster (roster_bytes d) ≡ accepted R → (a : Answer finds) → lengths_of (instance_of R) a ≡ lengths_on (held_of d) a
lengths_held d R e a = of_roster unwritten (λ r. lengths_of (instance_of r) a) R (read_plan (instance_of R) (heldBytes d)) (proposal_bytes d)
    ∙ ap (λ h. lengths_on h a) (sym (roster_held_law d R e))
