-- The arrays of a run, and where a run stands: they hold the model's state, and what lies ahead of it is what lay ahead of the beginning.
use Prim.Native.Nat.{ℕ, suc, ◌+◌, ◌-◌, ◌≤◌, ◌<◌, min}
use native.Mathlib.Omega.{arith}
use Rattle.std.specs.Prelude.{◌≡◌, Bool, false, not, ◌||◌, List, length, set, eqb, ltb}
use Rattle.std.proofs.Math.Path.{sym, ap, ap₂, subst, fun_ext}
use Rattle.std.proofs.Common.{◌∙◌, length-set}
use Rattle.std.proofs.Math.Dec.{T}
use mir.Val.{bool_byte}
use Rattle.model.specs.Limits.{node_limit, entry_limit}
use Rattle.model.specs.Instance.{Instance, deg}
use Rattle.model.specs.Reduction.{State, cut, fixes, act, begin}
use Rattle.theory_reduction.specs.RuleNumbers.{fate_of, next, rule_of, edge_of}
use Rattle.theory_reduction.specs.Chosen.{acts, edge_acts, edge_none}
use Rattle.arrays.specs.ArrayInstance.{at, flag}
use Rattle.arrays.specs.Tally.{Tally}
use Rattle.reduction_nodes.specs.Known.{Edges, Known, state_of, instance_of}
use Rattle.reduction_state.specs.declared.State as arrays
use Rattle.reduction_state.specs.declared.Acted.{Acted}
use Rattle.reduction_state.specs.declared.Trace.{Trace}
use Rattle.reduction_state.specs.Trace.{blank, entered}
use Rattle.reduction_state.specs.Outcome.{onward, onward_next, onward_none, onward_stop, Reduced, reduced}
use Rattle.reduction_state.specs.AfterStep.{Holds, holds_acted, state_acted}

-- ---- what the functions promise
-- the arrays after a step by a rule at e
abbrev pub acted : (sv st : List ℕ) (x : arrays.State) (rule e : ℕ) → arrays.State
acted sv st x rule e = record {
  rem = set x.rem e false;
  fixed = set x.fixed e (flag x.fixed e || fixes (fate_of rule));
  qs = set x.qs (at sv e) (min (at x.qs (at sv e) - bool_byte (fixes (fate_of rule))) (at x.ds (at sv e) - 1));
  qt = set x.qt (at st e) (min (at x.qt (at st e) - bool_byte (fixes (fate_of rule))) (at x.dt (at st e) - 1));
  ds = set x.ds (at sv e) (at x.ds (at sv e) - 1);
  dt = set x.dt (at st e) (at x.dt (at st e) - 1);
}

-- what a step at e tells of itself, by the quotas before and after it
abbrev pub told : (sv st qs qt qs' qt' : List ℕ) (e : ℕ) → Acted
told sv st qs qt qs' qt' e =
    record { edge = e; fells = not (eqb (at qs (at sv e)) (at qs' (at sv e))); fellt = not (eqb (at qt (at st e)) (at qt' (at st e))) }

-- the arrays together
abbrev pub whole : (rem fixed : List Bool) (qs qt ds dt : List ℕ) → arrays.State
whole rem fixed qs qt ds dt = record { rem = rem; fixed = fixed; qs = qs; qt = qt; ds = ds; dt = dt }

-- the arrays at the beginning
pub record Started (m : ℕ) (sv st quota_s quota_t : List ℕ) (x : arrays.State) : Type 0 where
  pub all : (e : ℕ) → flag x.rem e ≡ ltb e m
  pub none : (e : ℕ) → flag x.fixed e ≡ false
  pub deg_s : Tally x.ds m sv x.rem
  pub deg_t : Tally x.dt m st x.rem
  pub cut_s : (v : ℕ) → v < node_limit → at x.qs v ≡ min (at quota_s v) (at x.ds v)
  pub cut_t : (v : ℕ) → v < node_limit → at x.qt v ≡ min (at quota_t v) (at x.dt v)

-- the arrays have their sizes
pub record Sized (x : arrays.State) : Type 0 where
  pub fixed : length x.fixed ≡ entry_limit
  pub qs : length x.qs ≡ node_limit
  pub qt : length x.qt ≡ node_limit
  pub ds : length x.ds ≡ node_limit
  pub dt : length x.dt ≡ node_limit

sized_acted : (sv st : List ℕ) (x : arrays.State) (rule e : ℕ) → Sized x → Sized (acted sv st x rule e)
sized_acted sv st x rule e S = record {
  fixed = simp length-set S.fixed;
  qs = simp length-set S.qs;
  qt = simp length-set S.qt;
  ds = simp length-set S.ds;
  dt = simp length-set S.dt;
}

-- a step keeps the sizes
pub sized_next : (sv st : List ℕ) (x y : arrays.State) (rule e : ℕ) → Sized x → y ≡ acted sv st x rule e → Sized y
sized_next sv st x y rule e S i = subst Sized (sym i) (sized_acted sv st x rule e S)

-- ---- where a run stands, with its trace so far
abbrev pub shows : arrays.State → (k_s k_t : ℕ → ℕ) → State
shows x k_s k_t = state_of x.rem x.fixed k_s k_t

-- (its quotas before the cut are k_s, k_t)
pub record Stands (G : Instance) (x : arrays.State) (t : Trace) : Type 0 where
  pub k_s : ℕ → ℕ
  pub k_t : ℕ → ℕ
  pub holds : Holds G (shows x k_s k_t) x.qs x.qt x.ds x.dt
  pub ahead : onward G G.m (begin G) blank ≡ onward G (G.m - t.steps) (shows x k_s k_t) t

-- the model's state that the arrays show
abbrev pub state_at : {G : Instance} {x : arrays.State} {t : Trace} → Stands G x t → State
state_at {x} S = shows x S.k_s S.k_t

module _ {A : Edges} {quota_s quota_t : List ℕ} (K : Known A quota_s quota_t) where
  abbrev m : ℕ
  m = A.m

  abbrev sv : List ℕ
  sv = A.sv

  abbrev st : List ℕ
  st = A.st

  abbrev G : Instance
  G = instance_of K

  pub stands_first : (x : arrays.State) → Started m sv st quota_s quota_t x → Stands G x blank
  unfolding cut deg begin
  stands_first x S =
      let q : shows x (at quota_s) (at quota_t) ≡ begin G
      = ap₂ (λ (p r : ℕ → Bool). record { rem = p; fixed = r; q_s = at quota_s; q_t = at quota_t }) (fun_ext S.all) (fun_ext S.none) in
      let z : m - 0 ≡ m = omega arith in
      record {
        k_s = at quota_s;
        k_t = at quota_t;
        holds = record {
          at_s = record { deg_is = λ v h. S.deg_s v; cut_is = λ v h. S.cut_s v h ∙ ap (min (at quota_s v)) (S.deg_s v) };
          at_t = record { deg_is = λ v h. S.deg_t v; cut_is = λ v h. S.cut_t v h ∙ ap (min (at quota_t v)) (S.deg_t v) };
        };
        ahead = sym (ap₂ (λ (k : ℕ) (Y : State). onward G k Y blank) z q);
      }

  module _ (x : arrays.State) (t : Trace) (S : Stands G x t) where
    -- where it stands one step on: in the state after the step
    abbrev pub Onward : (r e : ℕ) (y : arrays.State) (t' : Trace) → Type 0
    Onward r e y t' = (S' : Stands G y t') × (state_at S' ≡ act G (state_at S) (fate_of r) e)

    stands_act : (r e : ℕ) → rule_of G (state_at S) ≡ r → edge_of G (state_at S) ≡ e → e < m → t.steps < m → Sized x
        → Onward r e (acted sv st x r e) (entered t e r)
    unfolding next
    stands_act r e ri ei l nl L =
        let Z = state_at S in
        let a : rule_of G Z < 8 = edge_acts G Z (omega arith) in
        let left : T (flag x.rem e) = subst (λ i. T (flag x.rem i)) ei (acts G Z a).left in
        let Y = act G Z (fate_of r) e in
        let y : Y ≡ next G Z = ap₂ (λ (i j : ℕ). act G Z (fate_of i) j) (sym ri) (sym ei) in
        let q = state_acted G x.rem x.fixed S.k_s S.k_t (fate_of r) e (omega (arith, K.size, L.fixed)) in
        let j : m - t.steps ≡ suc (m - (t.steps + 1)) = omega arith in
        let p : entered t (edge_of G Z) (rule_of G Z) ≡ entered t e r = ap₂ (λ (i j : ℕ). entered t j i) ri ei in
        let z = acted sv st x r e in (
          record {
            k_s = Y.q_s;
            k_t = Y.q_t;
            holds = subst (λ X. Holds G X z.qs z.qt z.ds z.dt) (sym q)
                (holds_acted G Z x.qs x.qt x.ds x.dt (fate_of r) e l left (K.fit_s e l) (K.fit_t e l) L.qs L.qt L.ds L.dt S.holds);
            ahead = S.ahead ∙ ap (λ k. onward G k Z t) j ∙ onward_next G (m - (t.steps + 1)) Z t a
                ∙ ap₂ (λ (X : State) (u : Trace). onward G (m - (t.steps + 1)) X u) (sym y ∙ sym q) p;
          },
          q,
        )

    -- one step on
    pub stands_next : (r e : ℕ) → rule_of G (state_at S) ≡ r → edge_of G (state_at S) ≡ e → e < m → t.steps < m → Sized x
        → (y : arrays.State) → y ≡ acted sv st x r e → Onward r e y (entered t e r)
    stands_next r e ri ei l nl L y i = subst (λ y. Onward r e y (entered t e r)) (sym i) (stands_act r e ri ei l nl L)

    -- no step on: no rule acts, or as many steps are taken as there are edges
    pub stands_end : m ≤ edge_of G (state_at S) → Reduced G x.rem x.fixed t
    stands_end h = reduced G x.rem x.fixed S.k_s S.k_t t K.size (S.ahead ∙ onward_stop G (m - t.steps) (state_at S) t (edge_none G (state_at S) h))

    -- as many steps as edges: the run ends
    pub stands_full : m ≤ t.steps → Reduced G x.rem x.fixed t
    stands_full h = let j : m - t.steps ≡ 0 = omega arith in
        reduced G x.rem x.fixed S.k_s S.k_t t K.size (S.ahead ∙ ap (λ k. onward G k (state_at S) t) j ∙ onward_none G (state_at S) t)
