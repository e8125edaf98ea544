-- The part of the winner's file: which bytes of which file an answer's part is, as a place in memory and the bytes there.
use Rattle.std.specs.Prelude.{ℕ, ◌+◌, ◌-◌, ◌≤◌, ◌≡◌, List, [], length, take, drop, Result}
use Rattle.std.proofs.Common.{arith, sym, ap, ap₂, ◌∙◌, subst, length-drop}
use Rattle.std.proofs.Math.Seq.{take-length}
use Rattle.std.specs.Borrow.{Bor}
use Rattle.model_desk.specs.Compare as compare
use Rattle.model_desk.specs.Compare.{File, first_file, second_file, Part, winner_part}
use Rattle.std.specs.declared.result.Result.TheVariants.{Ok, Err}
use Rattle.answers.specs.declared.Refusal.{Refusal}
use Rattle.answers.specs.declared.Winner.{Winner}
use Rattle.answers.specs.declared.Winner.TheVariants.{First, Second, Both, Neither}
use Rattle.answers.specs.declared.Comparison.{Comparison}
use Rattle.answers.specs.ComparisonCases.{winner_shown, part_shown}

-- a block of memory, the place in it, and the bytes from there on
abbrev pub Placed : Type 0
Placed = (ℕ × ℕ) × List ℕ

abbrev pub file_of : File → Bor (List ℕ) → Bor (List ℕ) → Bor (List ℕ)
file_of first_file a b = a
file_of second_file a b = b

-- a part of one of two lent files: where it is, and its bytes
abbrev pub placed : Bor (List ℕ) → Bor (List ℕ) → Part → Placed
placed a b p = (((file_of p.file a b).ref_ptr.0, (file_of p.file a b).ref_ptr.1 + p.from), p.bytes)

-- where there are votes, both files have their count byte
abbrev pub Counted : Result Comparison Refusal → (firstBytes secondBytes : List ℕ) → Type 0
Counted (Ok c) a b = (1 ≤ length a) × (1 ≤ length b)
Counted (Err r) a b = Unit {0}

-- ---- the parts that the code cuts
-- the part of a file behind its count byte
behind : (h : Bor (List ℕ))
    → ◌≡◌ {A = Placed} ((h.ref_ptr.0, 1 + h.ref_ptr.1), take (length h.now - 1) (drop 1 h.now)) ((h.ref_ptr.0, h.ref_ptr.1 + 1), drop 1 h.now)
behind h =
    ap₂ (λ (k : ℕ) (bs : List ℕ). ((h.ref_ptr.0, k), bs)) (one h.ref_ptr.1)
    (ap (λ n. take n (drop 1 h.now)) (sym (length-drop 1 h.now)) ∙ take-length (drop 1 h.now))
  where
    one : (k : ℕ) → 1 + k ≡ k + 1
    one k = omega arith

module _ (f s : Bor (List ℕ)) where
  abbrev Cut : Placed → Result Comparison Refusal → Type 0
  Cut p c = p ≡ placed f s (part_shown c f.now s.now)

  -- the empty part at the first file's start
  no_bytes : (f.ref_ptr, []) ≡ placed f s (winner_part compare.neither f.now s.now)
  no_bytes = ap (λ (k : ℕ). ((f.ref_ptr.0, k), [])) (none f.ref_ptr.1)
    where
      none : (k : ℕ) → k ≡ k + 0
      none k = omega arith

  module _ {c : Result Comparison Refusal} {v : Comparison} (e : c ≡ Ok v) where
    voted : (z : Winner) → v.winner ≡ z → placed f s (winner_part (winner_shown z) f.now s.now) ≡ placed f s (part_shown c f.now s.now)
    voted z q = ap (λ y. placed f s (winner_part (winner_shown y) f.now s.now)) (sym q) ∙ ap (λ d. placed f s (part_shown d f.now s.now)) (sym e)

    pub first_part : v.winner ≡ First → Cut ((f.ref_ptr.0, 1 + f.ref_ptr.1), take (length f.now - 1) (drop 1 f.now)) c
    first_part q = behind f ∙ voted First q

    pub second_part : v.winner ≡ Second → Cut ((s.ref_ptr.0, 1 + s.ref_ptr.1), take (length s.now - 1) (drop 1 s.now)) c
    second_part q = behind s ∙ voted Second q

    pub both_part : v.winner ≡ Both → Cut (f.ref_ptr, []) c
    both_part q = no_bytes ∙ voted Both q

    pub no_part : v.winner ≡ Neither → Cut (f.ref_ptr, []) c
    no_part q = no_bytes ∙ voted Neither q

    pub counts : Counted c f.now s.now → (1 ≤ length f.now) × (1 ≤ length s.now)
    counts h = subst (λ d. Counted d f.now s.now) e h

  pub refused_part : {c : Result Comparison Refusal} {n : Refusal} → c ≡ Err n → Cut (f.ref_ptr, []) c
  refused_part e = no_bytes ∙ ap (λ d. placed f s (part_shown d f.now s.now)) (sym e)
