-- Comparison of two plan files: section "Comparison, blocking, desk" of document 01. What winning means, and the four answers, are W-206's of
-- document 02, which supersede document 01's.
use Rattle.std.specs.Prelude.{ℕ, cond, List, [], drop, ℤ, pos}
use Rattle.std.specs.Int.Signed.{lt_z}
use Rattle.model.specs.Reading as reading
use Rattle.model.specs.Reading.{Reading, accepted}
use Rattle.model.specs.Instance.{Instance}
use Rattle.model.specs.Plans.{Plan, on, vote_of}
use Rattle.model.specs.PlanFile.{read_plan}
use Rattle.model.specs.Facing.{pairing_bytes}

-- W-206: "Comparison answers first, second, both or neither."
pub data Winner : Type 0 where
  first : Winner
  second : Winner
  both : Winner
  neither : Winner

-- the two files of a comparison
pub data File : Type 0 where
  first_file : File
  second_file : File

-- a part of one of the two files: the file, where the part begins in it, and its bytes
pub record Part : Type 0 where
  pub file : File
  pub from : ℕ
  pub bytes : List ℕ

-- both votes, first against second and second against first; or a refusal
pub data Comparison : Type 0 where
  votes : ℤ → ℤ → Winner → Comparison
  refused : ℕ → Comparison

-- W-206: "a plan beats another when the other's vote against it is below zero. Each may then beat the other." So the first wins by w, the second's
-- vote against it, and the second by v. Document 01 had: "The winner is the plan whose vote against the other is above zero"; superseded.
abbrev pub winner_of : (v w : ℤ) → Winner
winner_of v w = cond (lt_z w (pos 0)) (cond (lt_z v (pos 0)) both first) (cond (lt_z v (pos 0)) second neither)

-- the comparison of two plans: both votes, and who wins by them
abbrev pub compared : Instance → Plan → Plan → Comparison
compared G M N = votes (vote_of G M N) (vote_of G N M) (winner_of (vote_of G M N) (vote_of G N M))

-- the comparison of a plan with what the second file is read to, or its refusal
abbrev pub second_judged : Instance → Plan → Reading Plan → Comparison
second_judged G M (accepted N) = compared G M N
second_judged G M (reading.refused n) = refused n

-- "The first file is checked in full before the second."
abbrev pub first_judged : Instance → Reading Plan → List ℕ → Comparison
first_judged G (accepted M) file = second_judged G M (read_plan G file)
first_judged G (reading.refused n) file = refused n

-- the comparison of two plan files
unfoldable pub comparison_of : Instance → (firstBytes secondBytes : List ℕ) → Comparison
comparison_of G a b = first_judged G (read_plan G a) b

-- W-206: "The part handed back is the winner's for first and second, and empty for both and neither." What stays of document 01: "the winner's pair
-- bytes are handed back as a part of its own file", and the empty part, "on a refusal" too, is "taken from the first file". A file's pair bytes
-- are all but its count byte; the empty part is the one at the file's start.
abbrev pub winner_part : Winner → (firstBytes secondBytes : List ℕ) → Part
winner_part first a b = record { file = first_file; from = 1; bytes = drop 1 a }
winner_part second a b = record { file = second_file; from = 1; bytes = drop 1 b }
winner_part both a b = record { file = first_file; from = 0; bytes = [] }
winner_part neither a b = record { file = first_file; from = 0; bytes = [] }

abbrev pub comparison_part : Comparison → (firstBytes secondBytes : List ℕ) → Part
comparison_part (votes v w x) a b = winner_part x a b
comparison_part (refused n) a b = winner_part neither a b

-- the part that is handed back with the comparison of two plan files
unfoldable pub part_of : Instance → (firstBytes secondBytes : List ℕ) → Part
part_of G a b = comparison_part (comparison_of G a b) a b

-- W-208: "Comparison, verdict and proposal pass the pairings of their votes on": those of both votes, in the order of the votes
abbrev pub Pairings : Type 0
Pairings = List ℕ × List ℕ

-- the pairings of M's vote against N, and of N's against M
abbrev pub both_pairings : Instance → (M N : Plan) → Pairings
both_pairings G M N = (pairing_bytes G (on M) (on N), pairing_bytes G (on N) (on M))

-- no vote, no pairings
abbrev pub no_pairings : Pairings
no_pairings = ([], [])

-- the pairings of both votes, by the second file's reading; none on a refusal
abbrev pub second_paired : Instance → Plan → Reading Plan → Pairings
second_paired G M (accepted N) = both_pairings G M N
second_paired G M (reading.refused n) = no_pairings

-- the pairings of both votes, by the first file's reading: the second is read where it is accepted
abbrev pub first_paired : Instance → Reading Plan → List ℕ → Pairings
first_paired G (accepted M) file = second_paired G M (read_plan G file)
first_paired G (reading.refused n) file = no_pairings

-- the pairings of both votes of two plan files; none on a refusal
unfoldable pub pairings_of : Instance → (firstBytes secondBytes : List ℕ) → Pairings
pairings_of G a b = first_paired G (read_plan G a) b
