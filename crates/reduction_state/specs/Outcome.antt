-- The course of the reduction from a state on, with its trace: what remains to be shown of a run after some of its steps, and what a run promises.
use Rattle.std.specs.Prelude.{ℕ, suc, ◌≤◌, ◌<◌, ◌≡◌, Bool, List}
use Rattle.std.proofs.Common.{arith, sym, ap, ◌∙◌, subst}
use Rattle.std.proofs.Math.Path.{refl, ap₂}
use Rattle.model.specs.Limits.{entry_limit}
use Rattle.model.specs.Instance.{Instance}
use Rattle.model.specs.Reduction.{State, Step, begin, steps_from, state_after, steps_of, end_of}
use Rattle.theory_reduction.specs.RuleNumbers.{rule_of, edge_of, next}
use Rattle.theory_instance.specs.Lawful.{Lawful}
use Rattle.theory_reduction.specs.Course.{after_more, steps_more, after_none, steps_none, steps_few}
use Rattle.arrays.specs.ArrayInstance.{flag, shown}
use Rattle.reduction_nodes.specs.Known.{state_of}
use Rattle.reduction_state.specs.declared.Trace.{Trace}
use Rattle.reduction_state.specs.Trace.{blank, entered, laid, Traced, laid_traced}

-- the state at the end, and the trace
pub record Outcome : Type 0 where
  pub end : State
  pub trace : Trace

module _ (G : Instance) where
  abbrev told : Trace → State → List Step → Outcome
  told t Y ss = record { end = Y; trace = laid ss t }

  -- at most b more steps, from the state Z, with this trace before them
  unfoldable pub onward : (b : ℕ) → State → Trace → Outcome
  onward b Z t = told t (state_after G b Z) (steps_from G b Z)

  pub onward_next : (b : ℕ) (Z : State) (t : Trace) → rule_of G Z < 8 → onward (suc b) Z t ≡ onward b (next G Z) (entered t (edge_of G Z) (rule_of G Z))
  unfolding onward laid
  onward_next b Z t h = ap₂ (told t) (after_more G b Z h) (steps_more G b Z h)

  pub onward_none : (Z : State) (t : Trace) → onward 0 Z t ≡ record { end = Z; trace = t }
  unfolding onward steps_from state_after laid
  onward_none Z t = refl

  pub onward_stop : (b : ℕ) (Z : State) (t : Trace) → 8 ≤ rule_of G Z → onward b Z t ≡ record { end = Z; trace = t }
  unfolding onward laid
  onward_stop b Z t h = ap₂ (told t) (after_none G b Z h) (steps_none G b Z h)

  -- from the beginning it is the model's
  whole : onward G.m (begin G) blank ≡ record { end = end_of G; trace = laid (steps_of G) blank }
  unfolding onward steps_of end_of
  whole = refl

-- ---- what a run promises: its trace, what remains and what is fixed are the model's
pub record Reduced (G : Instance) (rem fixed : List Bool) (t : Trace) : Type 0 where
  pub trace : Traced (steps_of G) t
  pub rem_is : (e : ℕ) → flag rem e ≡ (end_of G).rem e
  pub fixed_is : (e : ℕ) → flag fixed e ≡ (end_of G).fixed e

pub reduced : (G : Instance) (rem fixed : List Bool) (k_s k_t : ℕ → ℕ) (t : Trace) → G.m ≤ entry_limit
    → onward G G.m (begin G) blank ≡ record { end = state_of rem fixed k_s k_t; trace = t } → Reduced G rem fixed t
reduced G rem fixed k_s k_t t h e = let q = sym e ∙ whole G in record {
  trace = subst (Traced (steps_of G)) (sym (ap (λ (o : Outcome). o.trace) q)) (laid_traced (steps_of G) (omega (arith, steps_few G)));
  rem_is = λ x. ap (λ (o : Outcome). o.end.rem x) q;
  fixed_is = λ x. ap (λ (o : Outcome). o.end.fixed x) q;
}

-- the same of every lawful instance that the arrays show
abbrev pub ReducedFrom : (m : ℕ) (sv st rank_s rank_t : List ℕ) (tied : List Bool) (quota_s quota_t : List ℕ) (rem fixed : List Bool) (t : Trace) → Type 0
ReducedFrom m sv st rank_s rank_t tied quota_s quota_t rem fixed t = (ns nt : ℕ) (sh : List ℕ) → Lawful (shown m ns nt sv st rank_s rank_t sh tied quota_s quota_t)
    → Reduced (shown m ns nt sv st rank_s rank_t sh tied quota_s quota_t) rem fixed t
