-- The call on a training block's roster: request W-212 of document 02. "The call hands back this plan's bytes and whether it is strong"; "The
-- roster comes as a file": "A call that takes a roster as a file (..) needs none loaded and does not use the desk" (W-205), so that 15 alone comes
-- before the file's own refusals, and 22 after them.
use Rattle.std.specs.Prelude.{ℕ, Bool, cond, ◌&&◌, List, length, eqb}
use Rattle.lists.specs.Keep.{all?}
use Rattle.model.specs.Limits.{plan_size}
use Rattle.model.specs.Refusal.{Group, group_of}
use Rattle.model.specs.Reading as reading
use Rattle.model.specs.Reading.{Reading, accepted}
use Rattle.model.specs.Roster.{Roster}
use Rattle.model.specs.RosterFile.{read_roster}
use Rattle.model.specs.Edges.{instance_of}
use Rattle.model.specs.Instance.{Instance}
use Rattle.model.specs.Plans.{is_strong, verdict_of}
use Rattle.model.specs.PlanFile.{plan_bytes}
use Rattle.model_desk.specs.Seasons.{only_first}
use Rattle.model_desk.specs.Desk.{short, onto}
use Rattle.model_files.specs.Offers.{offers_plan}

-- "a quota other than one": zero too
abbrev pub all_one : List ℕ → Bool
all_one qs = all? (λ q. eqb q 1) qs

-- "a tie length byte above 0": of a tie of one surveyor too
abbrev pub untied : Roster → Bool
untied r = all? (λ R. eqb (length R.tied) 0) r.lists_t

-- "all quotas one, one shift and no ties"; a pair stands in both lists with its shift, so that the surveyors' lists settle "a shift above 1"
-- (Seasons.only_first)
unfoldable pub one_to_one : Roster → Bool
one_to_one r = (all_one r.quotas_s && all_one r.quotas_t) && (untied r && only_first r)

-- "It refuses a roster with a quota other than one, a tie length byte above 0 or a shift above 1 (22, after reading)."
abbrev pub of_profile : Reading Roster → Reading Roster
of_profile (accepted r) = cond (one_to_one r) (accepted r) (reading.refused 22)
of_profile (reading.refused n) = reading.refused n

-- a roster file read, with 22 where the roster is not of the profile
unfoldable pub read_profile : List ℕ → Reading Roster
read_profile file = of_profile (read_roster file)

-- the call's answer: the plan of the offers, "whether it is strong", and how many bytes were written, the house's own; or the refusal
pub data Answer : Type 0 where
  offers : (strong : Bool) (bytes : ℕ) → Answer
  refused : ℕ → Group → Answer

-- a refusal with the group of its number
abbrev pub refusal : ℕ → Answer
refusal n = refused n (group_of n)

-- the answer for an instance of the profile: whether the plan of the offers is strong, and how many bytes it has
abbrev pub offers_answer : Instance → Answer
offers_answer G = offers (is_strong (verdict_of G (offers_plan G))) (length (plan_bytes G (offers_plan G)))

-- the answer for a file's reading: that of the offers, or the refusal
abbrev pub answer_for : Reading Roster → Answer
answer_for (accepted r) = offers_answer (instance_of r)
answer_for (reading.refused n) = refusal n

-- the buffer for a file's reading: the plan's bytes at its front; a refusal changes no byte
abbrev pub written_for : Reading Roster → List ℕ → List ℕ
written_for (accepted r) b = onto (plan_bytes (instance_of r) (offers_plan (instance_of r))) b
written_for (reading.refused n) b = b

-- the answer, and the buffer lent to the call afterwards: a plan's, "however little is written"
unfoldable pub profile_answer : (file buffer : List ℕ) → Answer
profile_answer file b = cond (short b plan_size) (refusal 15) (answer_for (read_profile file))

-- the buffer after the call: the plan's bytes at its front; a refusal, 15 too, changes no byte
unfoldable pub profile_lent : (file buffer : List ℕ) → List ℕ
profile_lent file b = cond (short b plan_size) b (written_for (read_profile file) b)
