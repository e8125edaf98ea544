-- What a turn does to the state: where the arrays showed the model's state and its arrows, they show the next state and its arrows.
use Rattle.std.specs.Prelude.{ℕ, ◌<◌, ◌≡◌, ◌≢◌, Bool, false, not, ◌&&◌, List, eqb}
use Rattle.std.proofs.Common.{sym, ap, ◌∙◌, subst, get_or-set_other}
use Rattle.lists.specs.Test.{by-eq, by_bool, given, false_t}
use Rattle.model.specs.Limits.{node_limit, empty_rank}
use Rattle.model.specs.Instance.{Instance, Side, surveyors, stands}
use Rattle.model.specs.Reduction.{arrow, cut_s, cut_t, arrow_s, arrow_t}
use Rattle.theory_instance.specs.Lawful.{Ranked}
use Rattle.theory_reduction.specs.RuleNumbers.{rule_of, edge_of}
use Rattle.theory_reduction.specs.ByNode.{arrow_local, arrow_kept}
use Rattle.arrays.specs.ArrayInstance.{at, flag}
use Rattle.reduction_cells.specs.Painted.{Painted}
use Rattle.reduction_cells.specs.CellLaws.{Cells, arrow_tied, painted_new, painted_other}
use Rattle.reduction_nodes.specs.Known.{Edges, Known, instance_of}
use Rattle.reduction_nodes.specs.Kept.{NodeLists, Tables, Filled, looks, cells_s, cells_t}
use Rattle.reduction_state.specs.declared.State as arrays
use Rattle.reduction_state.specs.declared.Acted.{Acted}
use Rattle.reduction_state.specs.declared.Trace.{Trace}
use Rattle.reduction_state.specs.Trace.{entered}
use Rattle.reduction_state.specs.AfterStep.{struck}
use Rattle.reduction_state.specs.RunState.{acted, told, whole, Sized, Stands, state_at, stands_next}
use Rattle.reduction_state.specs.RunArrows.{Shown}
use Rattle.reduction_turn.specs.Onward.{Numbers, Onward, Gone, gone_other, Arrows}

-- one step on, in every lawful instance that the arrays show
abbrev pub ShownOn : (A : Edges) (L : NodeLists) (x : arrays.State) (fs ft : List Bool) (r e : ℕ) (y : arrays.State) (fs' ft' : List Bool) → Type 0
ShownOn A L x fs ft r e y fs' ft' = (quota_s quota_t : List ℕ) (K : Known A quota_s quota_t) → Filled A K.tied L → (t : Trace) (S : Shown
    (instance_of K) x fs ft t)
    → rule_of (instance_of K) (state_at S.stood) ≡ r → edge_of (instance_of K) (state_at S.stood) ≡ e → t.steps < A.m → Shown (instance_of K) y fs' ft'
    (entered t e r)

-- what a turn promises, of every state x and rule r whose step left the arrays of a state and told this of itself: the numbers are carried on, and the
-- arrays show the next state and its arrows
abbrev pub Turns : (A : Edges) (L : NodeLists) (d : Acted) (rem : List Bool) (qs qt : List ℕ) (fs ft : List Bool) (k : Numbers) (fs' ft' : List Bool)
    (k' : Numbers) → Type 0
Turns A L d rem qs qt fs ft k fs' ft' k' = (x : arrays.State) (r : ℕ) (fixed : List Bool) (ds dt : List ℕ) → Sized x
    → whole rem fixed qs qt ds dt ≡ acted A.sv A.st x r d.edge → d ≡ told A.sv A.st x.qs x.qt qs qt d.edge
    → Onward A L (looks x.rem fs ft x.qs x.qt) k (looks rem fs' ft' qs qt) k'
    × ShownOn A L x fs ft r d.edge (whole rem fixed qs qt ds dt) fs' ft'

-- so it is at the edge of the step
pub turned_at : {A : Edges} {L : NodeLists} {d : Acted} {rem : List Bool} {qs qt : List ℕ} {fs ft : List Bool} {k : Numbers}
    {fs' ft' : List Bool} {k' : Numbers} → Turns A L d rem qs qt fs ft k fs' ft' k'
    → (x : arrays.State) (r e : ℕ) (fixed : List Bool) (ds dt : List ℕ) → Sized x
    → whole rem fixed qs qt ds dt ≡ acted A.sv A.st x r e → d ≡ told A.sv A.st x.qs x.qt qs qt e
    → Onward A L (looks x.rem fs ft x.qs x.qt) k (looks rem fs' ft' qs qt) k' × ShownOn A L x fs ft r e (whole rem fixed qs qt ds dt) fs' ft'
turned_at {A} {L} {d} {rem} {qs} {qt} {fs} {ft} {k} {fs'} {ft'} {k'} T x r e fixed ds dt z i t =
    subst (λ j. whole rem fixed qs qt ds dt ≡ acted A.sv A.st x r j → d ≡ told A.sv A.st x.qs x.qt qs qt j
    → Onward A L (looks x.rem fs ft x.qs x.qt) k (looks rem fs' ft' qs qt) k' × ShownOn A L x fs ft r j (whole rem fixed qs qt ds dt) fs' ft')
    (ap (λ (w : Acted). w.edge) t) (T x r fixed ds dt z) i t

-- ---- what is not at the ends of the edge stays
module _ (sv st : List ℕ) (x : arrays.State) (r e : ℕ) (y : arrays.State) (i : y ≡ acted sv st x r e) where
  pub acted_gone : Gone x.rem y.rem e
  acted_gone d = ap (λ (z : arrays.State). flag z.rem d) i ∙ struck x.rem e d

  pub acted_qs : (v : ℕ) → v ≢ at sv e → at y.qs v ≡ at x.qs v
  acted_qs v n = ap (λ (z : arrays.State). at z.qs v) i ∙ get_or-set_other x.qs (at sv e) v _ 0 n

  pub acted_qt : (v : ℕ) → v ≢ at st e → at y.qt v ≡ at x.qt v
  acted_qt v n = ap (λ (z : arrays.State). at z.qt v) i ∙ get_or-set_other x.qt (at st e) v _ 0 n

  -- where a quota did not fall, all of its side stay
  pub same_qs : at x.qs (at sv e) ≡ at y.qs (at sv e) → (v : ℕ) → at y.qs v ≡ at x.qs v
  same_qs h v = by-eq v (at sv e) (λ q t. ap (at y.qs) q ∙ sym h ∙ ap (at x.qs) (sym q)) (λ n t. acted_qs v n)

  pub same_qt : at x.qt (at st e) ≡ at y.qt (at st e) → (v : ℕ) → at y.qt v ≡ at x.qt v
  same_qt h v = by-eq v (at st e) (λ q t. ap (at y.qt) q ∙ sym h ∙ ap (at x.qt) (sym q)) (λ n t. acted_qt v n)

-- ---- the arrows of one side
module _ (K : Side) (law : Ranked K) (cell : List ℕ) (C : Cells K cell) (rem₀ rem : List Bool) (e : ℕ) (g : Gone rem₀ rem e) (k₀ k : ℕ → ℕ) (f₀ : List Bool)
    (F : (d : ℕ) → d < K.m → flag f₀ d ≡ arrow K (flag rem₀) k₀ d) where
  -- painted at the node of e
  painted_on : K.end e < node_limit → (other : List ℕ) (q : ℕ) (f : List Bool) (w : ℕ → Bool) → Painted K.m other cell rem (K.end e) q empty_rank f₀ f w
      → k (K.end e) ≡ q → ((v : ℕ) → v < node_limit → v ≢ K.end e → k v ≡ k₀ v) → (d : ℕ) → d < K.m → flag f d ≡ arrow K (flag rem) k d
  painted_on wl other q f w P i h d l = by-eq (K.end d) (K.end e)
      (λ j t. painted_new K law cell C rem f other (K.end e) q wl f₀ w P k i d l j (λ s. F d l ∙ arrow_tied K law cell C rem₀ f k₀ d s))
      (λ n t. painted_other K law cell C rem f other (K.end e) q wl f₀ w P d l n ∙ F d l
      ∙ sym (arrow_local K (flag rem₀) (flag rem) k₀ k d l (λ c cl j. gone_other rem₀ rem e g c (λ (z : c ≡ e). n (sym j ∙ ap K.end z)))
      (h (K.end d) (C.nodes d l) n)))

  -- e had none, and the quotas stay
  calm_arrows : e < K.m → flag f₀ e ≡ false → ((v : ℕ) → v < node_limit → k v ≡ k₀ v) → (d : ℕ) → d < K.m → flag f₀ d ≡ arrow K (flag rem) k d
  calm_arrows el n h d l = F d l ∙ sym (arrow_kept K (flag rem₀) e k₀ (false_t (sym (F e el) ∙ n)) d)
      ∙ sym (arrow_local K (λ c. flag rem₀ c && not (eqb c e)) (flag rem) k₀ k d l (λ c cl j. g c) (h (K.end d) (C.nodes d l)))

-- ---- both sides
module _ (A : Edges) (L : NodeLists) (D : Tables A L) (x : arrays.State) (fs ft : List Bool) (r e : ℕ) (el : e < A.m) (z : Sized x)
    (y : arrays.State) (i : y ≡ acted A.sv A.st x r e) where
  module _ {quota_s quota_t : List ℕ} (K : Known A quota_s quota_t) (F : Filled A K.tied L) (t : Trace) (S : Shown (instance_of K) x fs ft t)
      (ri : rule_of (instance_of K) (state_at S.stood) ≡ r) (ei : edge_of (instance_of K) (state_at S.stood) ≡ e) (nl : t.steps < A.m) where
    abbrev G : Instance
    G = instance_of K

    next : Stands G y (entered t e r)
    next = (stands_next K x t S.stood r e ri ei el nl z y i).0

    -- the cut quotas, where the arrays of quotas stay
    cut_s_on : (v : ℕ) → v < node_limit → at y.qs v ≡ at x.qs v → cut_s G (state_at next) v ≡ cut_s G (state_at S.stood) v
    cut_s_on v w q = sym (next.holds.at_s.cut_is v w) ∙ q ∙ S.stood.holds.at_s.cut_is v w

    cut_t_on : (v : ℕ) → v < node_limit → at y.qt v ≡ at x.qt v → cut_t G (state_at next) v ≡ cut_t G (state_at S.stood) v
    cut_t_on v w q = sym (next.holds.at_t.cut_is v w) ∙ q ∙ S.stood.holds.at_t.cut_is v w

    gone : Gone x.rem y.rem e
    gone = acted_gone A.sv A.st x r e y i

    -- at each end painted, or as they were
    arrows_s : (fs' : List Bool) (on : Bool)
        → Arrows A.m A.st L.table_s y.rem (at A.sv e) (at y.qs (at A.sv e)) on fs fs'
        → (on ≡ false → (flag fs e ≡ false) × (at x.qs (at A.sv e) ≡ at y.qs (at A.sv e)))
        → (d : ℕ) → d < A.m → flag fs' d ≡ arrow_s G (state_at next) d
    arrows_s fs' on R c = by_bool on
        (λ o. given (R.anew o) (λ (w, P). painted_on (surveyors G) K.law.at_s L.table_s (cells_s K F) x.rem y.rem e gone (cut_s G (state_at
        S.stood))
        (cut_s G (state_at next)) fs S.from_s (D.fit_s e el) A.st (at y.qs (at A.sv e)) fs' w P
        (sym (next.holds.at_s.cut_is (at A.sv e) (D.fit_s e el))) (λ v w n. cut_s_on v w (acted_qs A.sv A.st x r e y i v n))))
        (λ o. given (c o) (λ (n, q) d l. ap (λ f. flag f d) (R.still o)
        ∙ calm_arrows (surveyors G) K.law.at_s L.table_s (cells_s K F) x.rem y.rem e gone (cut_s G (state_at S.stood)) (cut_s G (state_at next)) fs
        S.from_s el n (λ v w. cut_s_on v w (same_qs A.sv A.st x r e y i q v)) d l))

    arrows_t : (ft' : List Bool) (on : Bool)
        → Arrows A.m A.sv L.table_t y.rem (at A.st e) (at y.qt (at A.st e)) on ft ft'
        → (on ≡ false → (flag ft e ≡ false) × (at x.qt (at A.st e) ≡ at y.qt (at A.st e)))
        → (d : ℕ) → d < A.m → flag ft' d ≡ arrow_t G (state_at next) d
    arrows_t ft' on R c = by_bool on
        (λ o. given (R.anew o) (λ (w, P). painted_on (stands G) K.law.at_t L.table_t (cells_t K F) x.rem y.rem e gone (cut_t G (state_at S.stood))
        (cut_t G (state_at next)) ft S.from_t (D.fit_t e el) A.sv (at y.qt (at A.st e)) ft' w P
        (sym (next.holds.at_t.cut_is (at A.st e) (D.fit_t e el))) (λ v w n. cut_t_on v w (acted_qt A.sv A.st x r e y i v n))))
        (λ o. given (c o) (λ (n, q) d l. ap (λ f. flag f d) (R.still o)
        ∙ calm_arrows (stands G) K.law.at_t L.table_t (cells_t K F) x.rem y.rem e gone (cut_t G (state_at S.stood)) (cut_t G (state_at next)) ft
        S.from_t el n (λ v w. cut_t_on v w (same_qt A.sv A.st x r e y i q v)) d l))

  pub shown_on : (fs' ft' : List Bool) (onS onT : Bool)
      → Arrows A.m A.st L.table_s y.rem (at A.sv e) (at y.qs (at A.sv e)) onS fs fs'
      → (onS ≡ false → (flag fs e ≡ false) × (at x.qs (at A.sv e) ≡ at y.qs (at A.sv e)))
      → Arrows A.m A.sv L.table_t y.rem (at A.st e) (at y.qt (at A.st e)) onT ft ft'
      → (onT ≡ false → (flag ft e ≡ false) × (at x.qt (at A.st e) ≡ at y.qt (at A.st e))) → ShownOn A L x fs ft r e y fs' ft'
  shown_on fs' ft' onS onT RS c_s RT c_t quota_s quota_t K F t S ri ei nl = record {
    stood = next K F t S ri ei nl;
    from_s = arrows_s K F t S ri ei nl fs' onS RS c_s;
    from_t = arrows_t K F t S ri ei nl ft' onT RT c_t;
  }
