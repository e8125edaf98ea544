-- What each case of the code's answer says, in document 01's words: the finder's answer as the model's desk gives it.
use Rattle.std.specs.Prelude.{ℕ, suc, ◌≡◌, refl, Result}
use Rattle.std.proofs.Common.{arith, sym, ap, ◌∙◌}
use Rattle.std.specs.declared.result.Result.TheVariants.{Ok, Err}
use Rattle.model_desk.specs.Desk as model
use Rattle.answers.specs.declared.Found.{Found}
use Rattle.answers.specs.declared.Found.TheVariants as found
use Rattle.answers.specs.declared.NoneKind.{NoneKind}
use Rattle.answers.specs.declared.NoneKind.TheVariants as kind
use Rattle.answers.specs.declared.Refusal.{Refusal}
use Rattle.answers.specs.RefusalCases.{number_of}

-- why there is none
abbrev pub kind_shown : NoneKind → model.NoneKind
kind_shown (kind.Left k) = model.left k
kind_shown (kind.Rivalled v) = model.rivalled v

-- a plan, or none and why, each with the number of steps
abbrev pub finding_shown : Found → model.Answer model.finds
finding_shown (found.Plan n) = model.said (model.plan n)
finding_shown (found.None n k) = model.said (model.none n (kind_shown k))

-- that, or the refusal
abbrev pub found_shown : Result Found Refusal → model.Answer model.finds
found_shown (Ok f) = finding_shown f
found_shown (Err r) = model.refusal (number_of r)

-- ---- and back: the case that shows an answer that is no refusal
abbrev pub kind_case : model.NoneKind → NoneKind
kind_case (model.left k) = kind.Left k
kind_case (model.rivalled v) = kind.Rivalled v

abbrev pub finding_case : model.Answer model.finds → Found
finding_case (model.refused n g) = found.Plan 0
finding_case (model.said (model.plan n)) = found.Plan n
finding_case (model.said (model.none n k)) = found.None n (kind_case k)

kind_shown_law : (k : NoneKind) → kind_case (kind_shown k) ≡ k
kind_shown_law (kind.Left k) = refl
kind_shown_law (kind.Rivalled v) = refl

finding_shown_law : (a : Found) → finding_case (finding_shown a) ≡ a
finding_shown_law (found.Plan n) = refl
finding_shown_law (found.None n k) = ap (found.None n) (kind_shown_law k)

-- what is found is the case for what it shows
pub shows_finding : (a : Found) {m : model.Answer model.finds} → finding_shown a ≡ m → a ≡ finding_case m
shows_finding a e = sym (finding_shown_law a) ∙ ap finding_case e

-- the number of a refusal, one up; 0 for none
abbrev number_in : model.Answer model.finds → ℕ
number_in (model.refused n g) = suc n
number_in (model.said x) = 0

-- what is found is no refusal
pub finding_not {ℓ} : {C : Type ℓ} (a : Found) {n : ℕ} → finding_shown a ≡ model.refusal n → C
finding_not (found.Plan k) e = absurd (let z : ⊥ = omega (arith, ap number_in e) in z)
finding_not (found.None k w) e = absurd (let z : ⊥ = omega (arith, ap number_in e) in z)

-- a refusal has the number that it shows
pub refusal_number : (r : Refusal) {n : ℕ} → ◌≡◌ {A = model.Answer model.finds} (model.refusal (number_of r)) (model.refusal n) → number_of r ≡ n
refusal_number r e = omega (arith, ap number_in e)
