-- What the calls that write a file answer for C: the numbers of an answer of which all that the call promises holds.
use Rattle.std.specs.Prelude.{ℕ, ◌≡◌, Result}
use Rattle.answers.specs.declared.Refusal.{Refusal}
use Rattle.answers.specs.WrittenCases.{written_shown}
use Rattle.abi_numbers.specs.declared.Outcome.{Outcome}
use Rattle.abi_numbers.specs.Numbers.{outcome_in}

pub record Told (promise : Result ℕ Refusal → Type 0) (n : Outcome) : Type 0 where
  pub answer : Result ℕ Refusal
  pub kept : promise answer
  pub numbers : n ≡ outcome_in (written_shown answer)
