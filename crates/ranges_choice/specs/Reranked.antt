-- Ranks of some edges taken from a choice, edge by edge.
use Rattle.std.specs.Prelude.{ℕ, ◌+◌, ◌<◌, ◌≡◌, false, cond, ◌||◌, List, [], ◌∷◌, length, set, take, eqb}
use Rattle.std.proofs.Common.{add-one, sym, ap, ◌∙◌, length-set, take-suc, get_or-set_same, get_or-set_other}
use Rattle.lists.specs.Test.{by-eq}
use Rattle.lists.specs.Keep.{any_append}
use Rattle.model.specs.Roster.{elem}
use Rattle.arrays.specs.ArrayInstance.{at}
use Rattle.ranges_choice.specs.Choosing.{or_yes, or_no}

-- an edge of the list has the choice's rank at its place, any other edge the rank that it had
abbrev pub Reranked : (place : ℕ → ℕ) (es choice rank o : List ℕ) → Type 0
Reranked place es choice rank o = (length o ≡ length rank) × ((e : ℕ) → at o e ≡ cond (elem e es) (at choice (place e)) (at rank e))

module _ (place : ℕ → ℕ) (choice rank : List ℕ) where
  abbrev new : ℕ → ℕ
  new e = at choice (place e)

  pub reranked_next : (es o : List ℕ) (i : ℕ) → i < length es → at es i < length o → Reranked place (take i es) choice rank o
      → Reranked place (take (i + 1) es) choice rank (set o (at es i) (new (at es i)))
  reranked_next es o i l k (z, h) = (length-set o (at es i) (new (at es i)) ∙ z, λ e. written e ∙ ap (λ b. cond b (new e) (at rank e)) (sym (more e)))
    where
      x : ℕ
      x = at es i

      more : (e : ℕ) → elem e (take (i + 1) es) ≡ elem e (take i es) || (eqb e x || false)
      more e = ap (elem e) (ap (λ n. take n es) (add-one i) ∙ take-suc es i 0 l) ∙ any_append (eqb e) (take i es) (x ∷ [])

      written : (e : ℕ) → at (set o x (new x)) e ≡ cond (elem e (take i es) || (eqb e x || false)) (new e) (at rank e)
      written e = by-eq e x
          (λ q t. ap (at (set o x (new x))) q ∙ get_or-set_same o x (new x) 0 k ∙ ap new (sym q)
          ∙ ap (λ b. cond b (new e) (at rank e)) (sym (ap (λ b. elem e (take i es) || (b || false)) t ∙ or_yes (elem e (take i es)))))
          (λ d t. get_or-set_other o x e (new x) 0 d ∙ h e
          ∙ ap (λ b. cond b (new e) (at rank e)) (sym (ap (λ b. elem e (take i es) || (b || false)) t ∙ or_no (elem e (take i es)))))

-- the edges of two lists, one list after the other
abbrev pub BothRanked : (place : ℕ → ℕ) (ps qs choice rank o : List ℕ) → Type 0
BothRanked place ps qs choice rank o = (e : ℕ) → at o e ≡ cond (elem e qs) (at choice (place e)) (cond (elem e ps) (at choice (place e)) (at rank e))

pub both_ranked : (place : ℕ → ℕ) (ps qs choice rank o₁ o : List ℕ) → Reranked place ps choice rank o₁ → Reranked place qs choice o₁ o
    → BothRanked place ps qs choice rank o
both_ranked place ps qs choice rank o₁ o h₁ h e = h.1 e ∙ ap (λ z. cond (elem e qs) (at choice (place e)) z) (h₁.1 e)
