-- The trace of a run, an edge and a rule for each step: one entry more, the entries of some steps one after the other, and what the trace of a
-- whole run holds. A step's fate follows from its rule.
use Rattle.std.specs.Prelude.{ℕ, suc, ◌+◌, ◌≤◌, ◌≡◌, refl, List, [], ◌∷◌, ◌++◌, map, length, set, replicate}
use Rattle.std.proofs.Common.{arith, sym, ap, ◌∙◌, append_assoc, length-append}
use Rattle.std.proofs.lemmas.List.{length-replicate, set_at}
use Rattle.model.specs.Limits.{entry_limit}
use Rattle.model.specs.Reduction.{Step}
use Rattle.model_desk.specs.Desk.{onto}
use Rattle.reduction_state.specs.declared.Trace.{Trace}

-- no entry yet
abbrev pub blank : Trace
blank = record { edges = replicate entry_limit 0; rules = replicate entry_limit 0; steps = 0 }

-- one entry more
abbrev pub entered : Trace → (edge rule : ℕ) → Trace
entered t e r = record { edges = set t.edges t.steps e; rules = set t.rules t.steps r; steps = t.steps + 1 }

unfoldable pub laid : List Step → Trace → Trace
laid [] t = t
laid (s ∷ ss) t = laid ss (entered t s.edge s.rule)

-- ---- the trace of some steps: their edges and rules in front, and 0 behind them
pub record Traced (ss : List Step) (t : Trace) : Type 0 where
  pub steps : t.steps ≡ length ss
  pub edges : t.edges ≡ onto (map (λ s. s.edge) ss) (replicate entry_limit 0)
  pub rules : t.rules ≡ onto (map (λ s. s.rule) ss) (replicate entry_limit 0)

-- one array: numbers of the steps from its n-th place on
module _ (f : Step → ℕ) where
  abbrev filled : ℕ → List Step → List ℕ → List ℕ
  filled n [] d = d
  filled n (s ∷ ss) d = filled (n + 1) ss (set d n (f s))

  filled_is : (ss : List Step) (ys zs : List ℕ) (n : ℕ) → length ys ≡ n → length ss ≤ length zs → filled n ss (ys ++ zs) ≡ ys ++ onto (map f ss) zs
  filled_is [] ys zs n h k = refl
  filled_is (s ∷ ss) ys [] n h k = absurd (omega arith)
  filled_is (s ∷ ss) ys (z ∷ zs) n h k =
      ap (filled (n + 1) ss) (set_at ys z zs (f s) n h ∙ sym (append_assoc ys (f s ∷ []) zs))
      ∙ filled_is ss (ys ++ f s ∷ []) zs (n + 1) (length-append ys (f s ∷ []) ∙ ap (λ i. i + 1) h) (omega arith)
      ∙ append_assoc ys (f s ∷ []) (onto (map f ss) zs)

laid_parts : (ss : List Step) (t : Trace) → laid ss t ≡ record {
  edges = filled (λ s. s.edge) t.steps ss t.edges;
  rules = filled (λ s. s.rule) t.steps ss t.rules;
  steps = t.steps + length ss;
}
unfolding laid
laid_parts [] t = ap (λ (n : ℕ). record { edges = t.edges; rules = t.rules; steps = n }) (let e : t.steps ≡ t.steps + 0 = omega arith in e)
laid_parts (s ∷ ss) t =
    let u = entered t s.edge s.rule in
    let e : t.steps + 1 + length ss ≡ t.steps + suc (length ss) = omega arith in
    laid_parts ss u
    ∙ ap (λ (n : ℕ). record { edges = filled (λ s. s.edge) u.steps ss u.edges; rules = filled (λ s. s.rule) u.steps ss u.rules; steps = n }) e

pub laid_traced : (ss : List Step) → length ss ≤ entry_limit → Traced ss (laid ss blank)
laid_traced ss h =
    let p = laid_parts ss blank in
    let room : length ss ≤ length (replicate {A = ℕ} entry_limit 0) = omega (arith, length-replicate {A = ℕ} entry_limit 0) in record {
      steps = ap (λ (t : Trace). t.steps) p ∙ (let e : 0 + length ss ≡ length ss = omega arith in e);
      edges = ap (λ (t : Trace). t.edges) p ∙ filled_is (λ s. s.edge) ss [] (replicate entry_limit 0) 0 refl room;
      rules = ap (λ (t : Trace). t.rules) p ∙ filled_is (λ s. s.rule) ss [] (replicate entry_limit 0) 0 refl room;
    }
