-- What joining two roster files promises: the model's answer and bytes; and of two that are joined, that the bytes are read back as the two side
-- by side, whose strongly popular plans, pairs and finder's answers are those of both.
use Rattle.std.specs.Prelude.{Result, ⊤}
use Rattle.std.specs.declared.result.Result.TheVariants.{Ok, Err}
use Rattle.std.specs.Prelude.{ℕ, ◌*◌, ◌≡◌, ◌&&◌, List, ◌++◌, length, take, drop, T}
use Rattle.std.proofs.Common.{sym, ◌∙◌}
use Rattle.std.proofs.Math.Path.{ap, subst}
use Rattle.lists.specs.Test.{given}
use Rattle.model.specs.Limits.{roster_size}
use Rattle.model.specs.Reading.{accepted, refused, is_bytes}
use Rattle.model.specs.Roster.{Roster}
use Rattle.model.specs.RosterFile.{read_roster, write_roster}
use Rattle.model.specs.Edges.{instance_of}
use Rattle.model.specs.Plans.{Plan, strong_plans, strong_count}
use Rattle.model.specs.PlanFile.{plan_bytes}
use Rattle.model.specs.Finder.{finder_of, plan, hands_back}
use Rattle.model_desk.specs.Desk.{said, wrote}
use Rattle.model_desk.specs.History.{plan_pairs}
use Rattle.model_desk.specs.SeasonCalls.{file_answer, file_lent}
use Rattle.model_files.specs.Districts.{side_by_side, second_to, first_to, join_of, file_of, joined_file, pairs_beside, pairs_bytes}
use Rattle.theory_renamed.specs.BothStrong.{all_beside}
use Rattle.theory_renamed.specs.JoinedFiles.{join_parts, joined_accepted}
use Rattle.theory_renamed.specs.JoinedPlans.{pairs_joined, bytes_joined}
use Rattle.theory_renamed.proofs.JoinedPlans.{strong_joined, count_joined, finder_joined, finder_both}
use Rattle.answers.specs.declared.Refusal.{Refusal}
use Rattle.answers.specs.RefusalCases.{number_of, reading_of}
use Rattle.answers.specs.FileCases.{file_read}
use Rattle.answers.specs.WrittenCases.{written_shown}
use Rattle.answers.specs.Settling.{Settles, settles_refused, settles_file, settles_wrote, Answers, wrote_of}
use Rattle.roster_parts.specs.declared.RosterBytes.{RosterBytes}
use Rattle.roster_parts.specs.Growth.{written}
use Rattle.roster_parts.specs.Gives.{Gives, gives_turned, gives_made}
use Rattle.roster_districts.specs.Joining.{sums_to}

-- "The joined roster has a strongly popular plan exactly when both have one, and it is the two side by side."
pub record Together (first second bytes : List ℕ) : Type 0 where
  pub r : Roster
  pub q : Roster
  pub one : read_roster first ≡ accepted r
  pub other : read_roster second ≡ accepted q
  -- the joined file is accepted, and is the two side by side
  pub read : read_roster bytes ≡ accepted (side_by_side r q)
  pub strong : strong_plans (instance_of (side_by_side r q)) ≡ all_beside (strong_plans (instance_of r)) (strong_plans (instance_of q))
  -- so their number is the product: one exactly when both have one
  pub count : strong_count (instance_of (side_by_side r q)) ≡ strong_count (instance_of r) * strong_count (instance_of q)
  -- a plan of each, side by side: the first's pairs, then the second's, numbers moved up; and their bytes
  pub pairs : (M N : Plan) → length M ≡ (instance_of r).m
      → plan_pairs (instance_of (side_by_side r q)) (M ++ N) ≡ pairs_beside r (plan_pairs (instance_of r) M) (plan_pairs (instance_of q) N)
  pub plan_bytes_law : (M N : Plan) → length M ≡ (instance_of r).m
      → plan_bytes (instance_of (side_by_side r q)) (M ++ N) ≡ pairs_bytes (pairs_beside r (plan_pairs (instance_of r) M) (plan_pairs (instance_of q) N))
  -- what the finder answers, whichever rivals it names
  pub found : (ρ ρ₁ ρ₂ : Plan → Plan) (M N : Plan) → finder_of (instance_of r) ρ₁ ≡ plan M → finder_of (instance_of q) ρ₂ ≡ plan N
      → finder_of (instance_of (side_by_side r q)) ρ ≡ plan (M ++ N)
  pub exactly : (ρ ρ₁ ρ₂ : Plan → Plan)
      → hands_back (finder_of (instance_of (side_by_side r q)) ρ) ≡ hands_back (finder_of (instance_of r) ρ₁) && hands_back (finder_of (instance_of q) ρ₂)

-- what the call promises: its answer, every byte of the buffer, and what holds of two rosters that are joined
pub record Joins (first second o : List ℕ) (r : Result ℕ Refusal) (o' : List ℕ) : Type 0 where
  -- 15, or a refusal of the first file, of the second, of the sums, each with its group, or the number of bytes written
  pub answer : written_shown r ≡ file_answer (joined_file first second) o
  -- they are in front of the buffer, which keeps the rest; a refusal changes no byte
  pub lent : o' ≡ file_lent (joined_file first second) o
  pub joined : (n : ℕ) → written_shown r ≡ said (wrote n) → Together first second (take n o')

module _ (f g : List ℕ) (isF : T (is_bytes f)) (isG : T (is_bytes g)) where
  together : (bs : List ℕ) → joined_file f g ≡ accepted bs → Together f g bs
  together bs e =
      given (joined_accepted f g isF isG bs e) (λ (J, d, w, b, l).
      given (join_parts f g isF isG J d) (λ p. record {
        r = p.r;
        q = p.q;
        one = p.read₁;
        other = p.read₂;
        read = b ∙ ap accepted p.is;
        strong = strong_joined p.r p.q p.fits₁ p.fits₂ p.room;
        count = count_joined p.r p.q p.fits₁ p.fits₂ p.room;
        pairs = pairs_joined p.r p.q p.fits₁ p.fits₂ p.room;
        plan_bytes_law = bytes_joined p.r p.q p.fits₁ p.fits₂ p.room;
        found = finder_joined p.r p.q p.fits₁ p.fits₂ p.room;
        exactly = finder_both p.r p.q p.fits₁ p.fits₂ p.room;
      }))

  pub joins : (o : List ℕ) {r : Result ℕ Refusal} {o' : List ℕ} → Answers roster_size (joined_file f g) o r o' → Joins f g o r o'
  unfolding file_answer file_lent
  joins o {r} {o'} a = record {
    answer = a.answer;
    lent = a.lent;
    joined = λ n e. given (wrote_of roster_size (joined_file f g) o a n e) (λ (bs, p, t). subst (Together f g) (sym t) (together bs p));
  }

-- ---- by what was read
module _ (f g : List ℕ) where
  first_refused : (n : ℕ) → read_roster f ≡ refused n → joined_file f g ≡ refused n
  unfolding joined_file join_of
  first_refused n e = ap (λ x. file_of (first_to x g)) e

  module _ (r : Roster) (a : read_roster f ≡ accepted r) where
    second_refused : (n : ℕ) → read_roster g ≡ refused n → joined_file f g ≡ refused n
    unfolding joined_file join_of
    second_refused n e = ap (λ x. file_of (first_to x g)) a ∙ ap (λ x. file_of (second_to r x)) e

    both_accepted : (q : Roster) → read_roster g ≡ accepted q → joined_file f g ≡ file_of (sums_to r q)
    unfolding joined_file join_of
    both_accepted q e = ap (λ x. file_of (first_to x g)) a ∙ ap (λ x. file_of (second_to r x)) e

  pub first_turned : (o : List ℕ) (n : Refusal) {s : Result ⊤ Refusal} → s ≡ Err n → reading_of s ≡ file_read (read_roster f)
      → Settles (joined_file f g) o (Err n) o
  first_turned o n q e = settles_file (joined_file f g) o (read_roster f) n q e (first_refused (number_of n))

  pub second_turned : (r : Roster) → read_roster f ≡ accepted r → (o : List ℕ) (n : Refusal) {s : Result ⊤ Refusal} → s ≡ Err n
      → reading_of s ≡ file_read (read_roster g) → Settles (joined_file f g) o (Err n) o
  second_turned r a o n q e = settles_file (joined_file f g) o (read_roster g) n q e (second_refused r a (number_of n))

  -- the answer of the joining of two accepted files, refused or copied
  module _ (r q : Roster) (a : read_roster f ≡ accepted r) (b : read_roster g ≡ accepted q) (o : List ℕ) {c : Result RosterBytes Refusal}
      (k : Gives (sums_to r q) c) where
    pub sums_turned : (n : Refusal) → c ≡ Err n → Settles (joined_file f g) o (Err n) o
    sums_turned n e = settles_refused (joined_file f g) o n (both_accepted r a q b ∙ ap file_of (gives_turned (sums_to r q) k e))

    pub both_copied : {d : RosterBytes} → c ≡ Ok d → (part : List ℕ) (n : ℕ) (o' : List ℕ) → part ≡ written d → n ≡ length part
        → o' ≡ take (length part) part ++ drop (length part) o → Settles (joined_file f g) o (Ok n) o'
    both_copied e part n o' p l w =
        let (J, d, few, front) = gives_made (sums_to r q) k e in
        settles_wrote (joined_file f g) o (write_roster J) part n o' (both_accepted r a q b ∙ ap file_of d) (p ∙ front) l w
