-- What a comparison's numbers are, read off the model's answer: both votes, the winner and the part. 0 is no refusal, and what an answer does not have.
use Rattle.std.specs.Prelude.{ℕ, ◌-◌, ◌≡◌, List, length, ℤ, pos, Result}
use Rattle.std.specs.declared.result.Result.TheVariants.{Ok, Err}
use Rattle.std.proofs.Common.{sym, ap, ◌∙◌, length-drop}
use Rattle.model_desk.specs.Compare as compare
use Rattle.model_desk.specs.Desk.{Answer, compares, refused, said, votes, part_in}
use Rattle.model.specs.Refusal.{group_of}
use Rattle.answers.specs.declared.Winner.{Winner}
use Rattle.answers.specs.declared.Winner.TheVariants as winner
use Rattle.answers.specs.declared.Comparison.{Comparison}
use Rattle.answers.specs.declared.Refusal.{Refusal}
use Rattle.answers.specs.RefusalCases.{number_of}
use Rattle.answers.specs.ComparisonCases.{comparison_shown}
use Rattle.abi_numbers.specs.declared.Compared.{Compared}

-- the winner and the file as numbers
abbrev pub winner_code : compare.Winner → ℕ
winner_code compare.first = 1
winner_code compare.second = 2
winner_code compare.both = 3
winner_code compare.neither = 0

abbrev pub file_number : compare.File → ℕ
file_number compare.first_file = 1
file_number compare.second_file = 2

abbrev pub numbered : (refusal winner : ℕ) → ℤ → ℤ → compare.Part → Compared
numbered n x v w p =
    record { refusal = n; winner = x; first_vote = v; second_vote = w; file = file_number p.file; from = p.from; length = length p.bytes }

-- of the two files compared, with the part that is handed back
abbrev pub compared_in : (first second : List ℕ) → Answer compares → Compared
compared_in a b (said (votes v w x)) = numbered 0 (winner_code x) v w (part_in a b (said (votes v w x)))
compared_in a b (refused n g) = numbered n 0 (pos 0) (pos 0) (part_in a b (refused n g))

-- ---- the numbers of each case of a comparison
abbrev pub voted : (winner file from length : ℕ) → ℤ → ℤ → Compared
voted x f i n v w = record { refusal = 0; winner = x; first_vote = v; second_vote = w; file = f; from = i; length = n }

module _ (a b : List ℕ) where
  abbrev numbers_of : Result Comparison Refusal → Compared
  numbers_of c = compared_in a b (comparison_shown c)

  module _ {c : Result Comparison Refusal} {k : Comparison} (e : c ≡ Ok k) where
    abbrev with_winner : Winner → Compared
    with_winner z = numbers_of (Ok (record { first = k.first; second = k.second; winner = z }))

    won : (z : Winner) → k.winner ≡ z → with_winner z ≡ numbers_of c
    won z q = sym (ap numbers_of e ∙ ap with_winner q)

    pub first_numbers : k.winner ≡ winner.First → {n : ℕ} → n ≡ length a - 1 → voted 1 1 1 n k.first k.second ≡ numbers_of c
    first_numbers q i = ap (λ n. voted 1 1 1 n k.first k.second) (i ∙ sym (length-drop 1 a)) ∙ won winner.First q

    pub second_numbers : k.winner ≡ winner.Second → {n : ℕ} → n ≡ length b - 1 → voted 2 2 1 n k.first k.second ≡ numbers_of c
    second_numbers q i = ap (λ n. voted 2 2 1 n k.first k.second) (i ∙ sym (length-drop 1 b)) ∙ won winner.Second q

    pub both_numbers : k.winner ≡ winner.Both → voted 3 1 0 0 k.first k.second ≡ numbers_of c
    both_numbers q = won winner.Both q

    pub neither_numbers : k.winner ≡ winner.Neither → voted 0 1 0 0 k.first k.second ≡ numbers_of c
    neither_numbers q = won winner.Neither q

  pub refused_numbers : {c : Result Comparison Refusal} {r : Refusal} → c ≡ Err r → {n : ℕ} → n ≡ number_of r
      → record { refusal = n; winner = 0; first_vote = pos 0; second_vote = pos 0; file = 1; from = 0; length = 0 } ≡ numbers_of c
  refused_numbers {c} {r} e {n} q =
      ap (λ n. numbered n 0 (pos 0) (pos 0) (part_in a b (refused n (group_of n)))) q ∙ sym (ap numbers_of e)
