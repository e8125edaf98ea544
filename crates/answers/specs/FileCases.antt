-- What the code's answer says of a file that is read, or loaded, in document 01's words: "A roster is accepted if its bytes, when read, meet no refusal";
-- "A refusal returns only its number and its group".
use Rattle.std.specs.Prelude.{ℕ, ◌≡◌, refl, Bool, true, false, T, ⊤}
use Rattle.std.specs.Prelude.{Result}
use Rattle.std.specs.declared.result.Result.TheVariants.{Ok, Err}
use Rattle.std.proofs.Common.{sym, ap, ◌∙◌, subst}
use Rattle.model.specs.Reading.{Reading, accepted, refused}
use Rattle.model_desk.specs.Desk as model
use Rattle.answers.specs.declared.Refusal.{Refusal}
use Rattle.answers.specs.RefusalCases.{number_of, reading_of}

-- loaded, or the refusal
abbrev pub file_shown : Result ⊤ Refusal → model.Answer model.loads
file_shown (Ok a) = model.said model.loaded
file_shown (Err r) = model.refusal (number_of r)

-- what a reading says of its file: accepted, or the number of the refusal
abbrev pub file_read : {A : Type 0} → Reading A → Reading ⊤
file_read (accepted a) = accepted tt
file_read (refused n) = refused n

-- ---- and back: what an answer says of the reading
abbrev is_accepted : {A : Type 0} → Reading A → Bool
is_accepted (accepted a) = true
is_accepted (refused n) = false

abbrev refusal_in : {A : Type 0} → Reading A → ℕ
refusal_in (accepted a) = 0
refusal_in (refused n) = n

module _ {A : Type 0} where
  -- where the answer is that of acceptance, the reading is accepted, with what was read
  pub read_accepted : (x : Reading A) {r : Result ⊤ Refusal} {u : ⊤} → r ≡ Ok u → reading_of r ≡ file_read x → (a : A) × (x ≡ accepted a)
  read_accepted (accepted a) q e = (a, refl)
  read_accepted (refused n) q e = absurd (subst (λ b. T (is_accepted b)) (sym (ap reading_of q) ∙ e) tt)

  -- where it is a refusal, the reading is refused with that number
  pub read_refused : (x : Reading A) {r : Result ⊤ Refusal} {n : Refusal} → r ≡ Err n → reading_of r ≡ file_read x → x ≡ refused (number_of n)
  read_refused (accepted a) q e = absurd (subst (λ b. T (is_accepted b)) (sym (sym (ap reading_of q) ∙ e)) tt)
  read_refused (refused m) q e = ap (λ b. refused (refusal_in b)) (sym (sym (ap reading_of q) ∙ e))
