-- What each case of the code's answer says, in document 01's words: the comparison of two plan files, and the part of them that is
-- handed back with an answer.
use Rattle.std.specs.Prelude.{ℕ, ◌≡◌, refl, List}
use Rattle.std.specs.Prelude.{Result}
use Rattle.std.specs.declared.result.Result.TheVariants.{Ok, Err}
use Rattle.model_desk.specs.Compare as compare
use Rattle.model_desk.specs.Compare.{Part, winner_part}
use Rattle.model_desk.specs.Desk as model
use Rattle.answers.specs.declared.Winner.{Winner}
use Rattle.answers.specs.declared.Winner.TheVariants.{First, Second, Both, Neither}
use Rattle.answers.specs.declared.Comparison.{Comparison}
use Rattle.answers.specs.declared.Refusal.{Refusal}
use Rattle.answers.specs.RefusalCases.{number_of}

-- who wins, in the words of the model's comparison
abbrev pub winner_shown : Winner → compare.Winner
winner_shown First = compare.first
winner_shown Second = compare.second
winner_shown Both = compare.both
winner_shown Neither = compare.neither

-- the part that an answer names: "the winner's for first and second, and empty for both and neither" (W-206); on a refusal it is empty too, "taken
-- from the first file"
abbrev pub part_shown : Result Comparison Refusal → (firstBytes secondBytes : List ℕ) → Part
part_shown (Ok c) a b = winner_part (winner_shown c.winner) a b
part_shown (Err r) a b = winner_part compare.neither a b

-- both votes and who wins, or the refusal
abbrev pub comparison_shown : Result Comparison Refusal → model.Answer model.compares
comparison_shown (Ok c) = model.said (model.votes c.first c.second (winner_shown c.winner))
comparison_shown (Err r) = model.refusal (number_of r)

-- it is the part that the model hands back with that answer
pub part_shown_law : (c : Result Comparison Refusal) (a b : List ℕ) → part_shown c a b ≡ model.part_in a b (comparison_shown c)
part_shown_law (Ok c) a b = refl
part_shown_law (Err r) a b = refl

-- the case for the model's comparison
abbrev pub winner_case : compare.Winner → Winner
winner_case compare.first = First
winner_case compare.second = Second
winner_case compare.both = Both
winner_case compare.neither = Neither

-- both votes and who wins, or the number of the refusal, as the model compares two files
abbrev pub compared_shown : Result Comparison Refusal → compare.Comparison
compared_shown (Ok c) = compare.votes c.first c.second (winner_shown c.winner)
compared_shown (Err r) = compare.refused (number_of r)

-- the case for a winner shows that winner
pub winner_shown_law : (w : compare.Winner) → winner_shown (winner_case w) ≡ w
winner_shown_law compare.first = refl
winner_shown_law compare.second = refl
winner_shown_law compare.both = refl
winner_shown_law compare.neither = refl
