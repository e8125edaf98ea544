-- What each refusal of the code stands for: the number that the documents give it. And a call's result, which may be one, in the words of the model's
-- readings: what was read, or the number of the refusal.
use Rattle.std.specs.Prelude.{ℕ, zero, suc, ◌<◌, ◌≡◌, refl, Result}
use Rattle.std.proofs.Common.{arith, sym, ap, ◌∙◌}
use Rattle.std.specs.declared.result.Result.TheVariants.{Ok, Err}
use Rattle.model.specs.Reading.{Reading, accepted, refused}
use Rattle.answers.specs.declared.Refusal.{Refusal}
use Rattle.answers.specs.declared.Refusal.TheVariants as refusal

-- "Turned back" of document 01, then the requests' own
abbrev pub number_of : Refusal → ℕ
number_of refusal.CutShort = 1
number_of refusal.TooMany = 2
number_of refusal.QuotaTooHigh = 3
number_of refusal.NoSuchNode = 4
number_of refusal.ListedTwice = 5
number_of refusal.TieNotAscending = 6
number_of refusal.WrongCount = 7
number_of refusal.OneSided = 8
number_of refusal.BytesLeft = 9
number_of refusal.NoSuchPair = 10
number_of refusal.PairsNotAscending = 11
number_of refusal.PastQuota = 12
number_of refusal.NoRoster = 13
number_of refusal.NoPlan = 14
number_of refusal.BufferTooSmall = 15
number_of refusal.NoSuchSurveyor = 16
number_of refusal.RosterFull = 17
number_of refusal.NoSuchShift = 18
number_of refusal.OtherShift = 19
number_of refusal.NoProposal = 20
number_of refusal.NoRange = 21
number_of refusal.NotOneToOne = 22
number_of refusal.NoRoute = 23

-- what a call hands on, or the number of its refusal
abbrev pub reading_of : {A : Type 0} → Result A Refusal → Reading A
reading_of (Ok a) = accepted a
reading_of (Err r) = refused (number_of r)

-- the number of a refusal, 0 for none
abbrev pub code_of : {A : Type 0} → Result A Refusal → ℕ
code_of (Ok a) = 0
code_of (Err r) = number_of r

-- no refusal has the number 0, which stands for none
pub number_some : (r : Refusal) → 0 < number_of r
number_some refusal.CutShort = omega arith
number_some refusal.TooMany = omega arith
number_some refusal.QuotaTooHigh = omega arith
number_some refusal.NoSuchNode = omega arith
number_some refusal.ListedTwice = omega arith
number_some refusal.TieNotAscending = omega arith
number_some refusal.WrongCount = omega arith
number_some refusal.OneSided = omega arith
number_some refusal.BytesLeft = omega arith
number_some refusal.NoSuchPair = omega arith
number_some refusal.PairsNotAscending = omega arith
number_some refusal.PastQuota = omega arith
number_some refusal.NoRoster = omega arith
number_some refusal.NoPlan = omega arith
number_some refusal.BufferTooSmall = omega arith
number_some refusal.NoSuchSurveyor = omega arith
number_some refusal.RosterFull = omega arith
number_some refusal.NoSuchShift = omega arith
number_some refusal.OtherShift = omega arith
number_some refusal.NoProposal = omega arith
number_some refusal.NoRange = omega arith
number_some refusal.NotOneToOne = omega arith
number_some refusal.NoRoute = omega arith

-- the refusal of a number, by cases from 1 on; what has no number of its own is the first
abbrev refusal_at : ℕ → Refusal
refusal_at zero = refusal.CutShort
refusal_at (suc zero) = refusal.CutShort
refusal_at (suc (suc zero)) = refusal.TooMany
refusal_at (suc (suc (suc zero))) = refusal.QuotaTooHigh
refusal_at (suc (suc (suc (suc zero)))) = refusal.NoSuchNode
refusal_at (suc (suc (suc (suc (suc zero))))) = refusal.ListedTwice
refusal_at (suc (suc (suc (suc (suc (suc zero)))))) = refusal.TieNotAscending
refusal_at (suc (suc (suc (suc (suc (suc (suc zero))))))) = refusal.WrongCount
refusal_at (suc (suc (suc (suc (suc (suc (suc (suc zero)))))))) = refusal.OneSided
refusal_at (suc (suc (suc (suc (suc (suc (suc (suc (suc zero))))))))) = refusal.BytesLeft
refusal_at (suc (suc (suc (suc (suc (suc (suc (suc (suc (suc zero)))))))))) = refusal.NoSuchPair
refusal_at (suc (suc (suc (suc (suc (suc (suc (suc (suc (suc (suc zero))))))))))) = refusal.PairsNotAscending
refusal_at (suc (suc (suc (suc (suc (suc (suc (suc (suc (suc (suc (suc zero)))))))))))) = refusal.PastQuota
refusal_at (suc (suc (suc (suc (suc (suc (suc (suc (suc (suc (suc (suc (suc zero))))))))))))) = refusal.NoRoster
refusal_at (suc (suc (suc (suc (suc (suc (suc (suc (suc (suc (suc (suc (suc (suc zero)))))))))))))) = refusal.NoPlan
refusal_at (suc (suc (suc (suc (suc (suc (suc (suc (suc (suc (suc (suc (suc (suc (suc zero))))))))))))))) = refusal.BufferTooSmall
refusal_at (suc (suc (suc (suc (suc (suc (suc (suc (suc (suc (suc (suc (suc (suc (suc (suc zero)))))))))))))))) = refusal.NoSuchSurveyor
refusal_at (suc (suc (suc (suc (suc (suc (suc (suc (suc (suc (suc (suc (suc (suc (suc (suc (suc zero))))))))))))))))) = refusal.RosterFull
refusal_at (suc (suc (suc (suc (suc (suc (suc (suc (suc (suc (suc (suc (suc (suc (suc (suc (suc (suc zero)))))))))))))))))) = refusal.NoSuchShift
refusal_at (suc (suc (suc (suc (suc (suc (suc (suc (suc (suc (suc (suc (suc (suc (suc (suc (suc (suc (suc zero))))))))))))))))))) = refusal.OtherShift
refusal_at (suc (suc (suc (suc (suc (suc (suc (suc (suc (suc (suc (suc (suc (suc (suc (suc (suc (suc (suc (suc zero)))))))))))))))))))) = refusal.NoProposal
refusal_at (suc (suc (suc (suc (suc (suc (suc (suc (suc (suc (suc (suc (suc (suc (suc (suc (suc (suc (suc (suc (suc zero))))))))))))))))))))) = refusal.NoRange
refusal_at (suc (suc (suc (suc (suc (suc (suc (suc (suc (suc (suc (suc (suc (suc (suc (suc (suc (suc (suc (suc (suc (suc zero)))))))))))))))))))))) = refusal.NotOneToOne
refusal_at (suc (suc (suc (suc (suc (suc (suc (suc (suc (suc (suc (suc (suc (suc (suc (suc (suc (suc (suc (suc (suc (suc (suc zero))))))))))))))))))))))) = refusal.NoRoute
refusal_at (suc (suc (suc (suc (suc (suc (suc (suc (suc (suc (suc (suc (suc (suc (suc (suc (suc (suc (suc (suc (suc (suc (suc (suc n)))))))))))))))))))))))) = refusal.CutShort

number_told : (r : Refusal) → refusal_at (number_of r) ≡ r
number_told refusal.CutShort = refl
number_told refusal.TooMany = refl
number_told refusal.QuotaTooHigh = refl
number_told refusal.NoSuchNode = refl
number_told refusal.ListedTwice = refl
number_told refusal.TieNotAscending = refl
number_told refusal.WrongCount = refl
number_told refusal.OneSided = refl
number_told refusal.BytesLeft = refl
number_told refusal.NoSuchPair = refl
number_told refusal.PairsNotAscending = refl
number_told refusal.PastQuota = refl
number_told refusal.NoRoster = refl
number_told refusal.NoPlan = refl
number_told refusal.BufferTooSmall = refl
number_told refusal.NoSuchSurveyor = refl
number_told refusal.RosterFull = refl
number_told refusal.NoSuchShift = refl
number_told refusal.OtherShift = refl
number_told refusal.NoProposal = refl
number_told refusal.NoRange = refl
number_told refusal.NotOneToOne = refl
number_told refusal.NoRoute = refl

-- no two refusals have the same number
pub same_number : (r s : Refusal) → number_of r ≡ number_of s → r ≡ s
same_number r s e = sym (number_told r) ∙ ap refusal_at e ∙ number_told s
