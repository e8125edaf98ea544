-- The flat diary: five numbers a record, written one record after the other; what lies behind them stays.
use Rattle.std.specs.Prelude.{ℕ, suc, ◌+◌, ◌-◌, ◌*◌, ◌≤◌, ◌≡◌, refl, List, [], ◌∷◌, ◌++◌, length, set, drop}
use Rattle.std.proofs.Common.{arith, sym, ap, ◌∙◌, append_assoc, length-set, length-append, length-drop, drop-drop}
use mir.Val.{bool_byte}
use Rattle.lists.specs.Keep.{gather}
use Rattle.model.specs.Limits.{diary_size}
use Rattle.model.specs.Reduction.{Fate, fix, strike, fixes}
use Rattle.theory_reduction.specs.RuleNumbers.{fate_of}
use Rattle.model.specs.Finder.{Record, fate_number}

-- how many numbers a record has: fate, surveyor, stand, shift, rule
abbrev pub record_width : ℕ
record_width = 5

-- the size of a flat diary: so many for each record of a lent one
abbrev pub flat_size : ℕ
flat_size = record_width * diary_size

-- the numbers of a record
abbrev pub numbers : Record → List ℕ
numbers r = r.fate ∷ r.surveyor ∷ r.stand ∷ r.shift ∷ r.rule ∷ []

-- the number of a fate, as the code makes it
pub fate_byte : (f : Fate) → 2 - bool_byte (fixes f) ≡ fate_number f
fate_byte fix = refl
fate_byte strike = refl

-- the record of a step by a rule, on an edge of surveyor s and stand t, counted from 0, in shift k
abbrev pub entry : (r s t k : ℕ) → Record
entry r s t k = record { fate = fate_number (fate_of r); surveyor = suc s; stand = suc t; shift = k; rule = r }

-- a buffer after the records are written at its front
unfoldable pub written : List Record → List ℕ → List ℕ
written rs d = gather numbers rs ++ drop (record_width * length rs) d

-- a record written at its place: the code's five stores
abbrev pub put : List ℕ → ℕ → Record → List ℕ
put d b r = set (set (set (set (set d b r.fate) (b + 1) r.surveyor) (b + 2) r.stand) (b + 3) r.shift) (b + 4) r.rule

-- records written from the n-th place on
unfoldable pub laid : ℕ → List Record → List ℕ → List ℕ
laid n [] d = d
laid n (r ∷ rs) d = laid (n + 1) rs (put d (n * record_width) r)

-- a record written at its place leaves the buffer as long as it was
pub put_length : (d d' : List ℕ) (b : ℕ) (r : Record) → d' ≡ put d b r → length d' ≡ length d
put_length d d' b r e = ap length e ∙ simp length-set

-- a buffer that starts with xs: a store behind them
behind : (xs ys : List ℕ) (b i x : ℕ) → length xs ≡ b → set (xs ++ ys) (b + i) x ≡ xs ++ set ys i x
behind [] ys b i x h = ap (λ k. set ys k x) (let e : b + i ≡ i = omega arith in e)
behind (y ∷ xs) ys b i x h =
    ap (λ k. set ((y ∷ xs) ++ ys) k x) (let e : b + i ≡ suc (length xs + i) = omega arith in e) ∙ ap (λ (l : List ℕ). y ∷ l) (behind xs ys (length xs) i x refl)

five : (ys : List ℕ) (r : Record) → record_width ≤ length ys → put ys 0 r ≡ numbers r ++ drop record_width ys
five [] r h = absurd (omega arith)
five (a ∷ []) r h = absurd (omega arith)
five (a ∷ b ∷ []) r h = absurd (omega arith)
five (a ∷ b ∷ c ∷ []) r h = absurd (omega arith)
five (a ∷ b ∷ c ∷ d ∷ []) r h = absurd (omega arith)
five (a ∷ b ∷ c ∷ d ∷ e ∷ ys) r h = refl

put_behind : (xs ys : List ℕ) (r : Record) (b : ℕ) → length xs ≡ b → record_width ≤ length ys
    → put (xs ++ ys) b r ≡ xs ++ (numbers r ++ drop record_width ys)
put_behind xs ys r b h k =
    let z : b + 0 ≡ b = omega arith in
    ap (λ (j : ℕ). set (set (set (set (set (xs ++ ys) j r.fate) (b + 1) r.surveyor) (b + 2) r.stand) (b + 3) r.shift) (b + 4) r.rule) (sym z)
    ∙ ap (λ (l : List ℕ). set (set (set (set l (b + 1) r.surveyor) (b + 2) r.stand) (b + 3) r.shift) (b + 4) r.rule) (behind xs ys b 0 r.fate h)
    ∙ ap (λ (l : List ℕ). set (set (set l (b + 2) r.stand) (b + 3) r.shift) (b + 4) r.rule) (behind xs (set ys 0 r.fate) b 1 r.surveyor h)
    ∙ ap (λ (l : List ℕ). set (set l (b + 3) r.shift) (b + 4) r.rule) (behind xs (set (set ys 0 r.fate) 1 r.surveyor) b 2 r.stand h)
    ∙ ap (λ (l : List ℕ). set l (b + 4) r.rule) (behind xs (set (set (set ys 0 r.fate) 1 r.surveyor) 2 r.stand) b 3 r.shift h)
    ∙ behind xs (set (set (set (set ys 0 r.fate) 1 r.surveyor) 2 r.stand) 3 r.shift) b 4 r.rule h
    ∙ ap (λ (l : List ℕ). xs ++ l) (five ys r k)

-- written in turn or at once
pub laid_is : (rs : List Record) (xs ys : List ℕ) (n : ℕ) → length xs ≡ n * record_width → record_width * length rs ≤ length ys
    → laid n rs (xs ++ ys) ≡ xs ++ written rs ys
unfolding laid written
laid_is [] xs ys n h k = refl
laid_is (r ∷ rs) xs ys n h k =
    let e : record_width * suc (length rs) ≡ record_width + record_width * length rs = omega arith in
    ap (laid (n + 1) rs) (put_behind xs ys r (n * record_width) h (omega arith) ∙ sym (append_assoc xs (numbers r) (drop record_width ys)))
    ∙ laid_is rs (xs ++ numbers r) (drop record_width ys) (n + 1) (simp length-append (omega arith)) (simp length-drop (omega arith))
    ∙ append_assoc xs (numbers r) (gather numbers rs ++ drop (record_width * length rs) (drop record_width ys))
    ∙ ap (λ (l : List ℕ). xs ++ (numbers r ++ (gather numbers rs ++ l))) (drop-drop (record_width * length rs) record_width ys ∙ ap (λ k. drop k ys) (sym e))
