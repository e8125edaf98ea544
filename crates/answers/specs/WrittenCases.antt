-- What each case of the code's answer says, in document 01's words: the bytes written. And what such an answer says of a file of another
-- season (W-205): which bytes they are.
use Rattle.std.specs.Prelude.{ℕ, suc, ◌≡◌, refl, List, length, take, drop}
use Rattle.std.specs.Prelude.{Result}
use Rattle.std.specs.declared.result.Result.TheVariants.{Ok, Err}
use Rattle.std.proofs.Common.{arith, ap, ◌∙◌}
use Rattle.std.proofs.Math.Seq.{take-append_seam}
use Rattle.model.specs.Reading.{Reading, accepted, refused}
use Rattle.model_desk.specs.Desk as model
use Rattle.answers.specs.declared.Refusal.{Refusal}
use Rattle.answers.specs.RefusalCases.{number_of}

-- how many bytes were written, or the refusal
abbrev pub written_shown : Result ℕ Refusal → model.Answer model.writes
written_shown (Ok n) = model.said (model.wrote n)
written_shown (Err r) = model.refusal (number_of r)

-- one more than the bytes that an answer says were written, 0 for a refusal
abbrev pub bytes_in : model.Answer model.writes → ℕ
bytes_in (model.refused n g) = 0
bytes_in (model.said (model.wrote n)) = suc n

-- a refusal never says that bytes were written
pub refused_no_bytes : {A : Type 0} {n m : ℕ} → ◌≡◌ {A = model.Answer model.writes} (model.refusal m) (model.said (model.wrote n)) → A
refused_no_bytes e = absurd (let z : ⊥ = omega (arith, ap bytes_in e) in z)

-- so many bytes of another season's file: there is one, and it is in front of the buffer
pub converted_bytes : (x : Reading (List ℕ)) (o : List ℕ) (n : ℕ) → model.converted_answer x ≡ model.said (model.wrote n)
    → (g : List ℕ) × (x ≡ accepted g) × (take n (model.converted_onto x o) ≡ g)
converted_bytes (accepted g) o n e =
    let l : n ≡ length g = omega (arith, ap bytes_in e) in
    (g, refl, ap (λ k. take k (model.onto g o)) l ∙ take-append_seam g (drop (length g) o))
converted_bytes (refused m) o n e = refused_no_bytes e
