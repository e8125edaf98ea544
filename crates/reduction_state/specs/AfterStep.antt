-- The arrays of a run after a step: they show the model's next state, with its cut quotas and the numbers of remaining edges.
use Rattle.std.specs.Prelude.{ℕ, ◌-◌, ◌<◌, min, ◌≡◌, Bool, true, false, not, ◌&&◌, ◌||◌, List, length, set, T, eqb}
use native.Mathlib.Omega.{arith}
use Rattle.std.proofs.Math.Decide.{dec_lt}
use Rattle.std.proofs.Common.{sym, ap₂, ◌∙◌, subst, length-set}
use Rattle.std.proofs.Math.Path.{ap, fun_ext}
use Rattle.std.proofs.Math.Logic.{by_cases}
use Rattle.std.proofs.Math.Bool.{and-true, and-false, or-false}
use Rattle.std.proofs.Math.ListN.{get_or-eq_default}
use Rattle.std.proofs.Math.Seq.{get_or-set_same, get_or-set_other}
use mir.Val.{bool_byte}
use Rattle.lists.specs.Test.{by-eq, bit}
use Rattle.model.specs.Limits.{node_limit}
use Rattle.model.specs.Instance.{Instance, Side, surveyors, stands, deg}
use Rattle.model.specs.Reduction.{State, cut, Fate, fixes, act}
use Rattle.theory_instance.specs.Degree.{deg_without}
use Rattle.arrays.specs.ArrayInstance.{at, flag}
use Rattle.arrays.specs.Tally.{byte_bit}
use Rattle.reduction_nodes.specs.Known.{state_of}

-- ---- flags
-- an edge is taken out of what remains
pub struck : (rem : List Bool) (e d : ℕ) → flag (set rem e false) d ≡ flag rem d && not (eqb d e)
struck rem e d = by-eq d e
    (λ i t. subst (λ z. flag (set rem e false) z ≡ false) (sym i) gone ∙ sym (ap (λ x. flag rem d && not x) t ∙ and-false (flag rem d)))
    (λ n t. get_or-set_other rem e d false false n ∙ sym (ap (λ x. flag rem d && not x) t ∙ and-true (flag rem d)))
  where
    gone : flag (set rem e false) e ≡ false
    gone =
        by_cases (dec_lt e (length rem)) (λ l. get_or-set_same rem e false false l)
        (λ n. get_or-eq_default (set rem e false) false (omega (arith, length-set rem e false)))

-- an edge is fixed, if b
held : (fixed : List Bool) (e : ℕ) (b : Bool) (d : ℕ) → e < length fixed → flag (set fixed e (flag fixed e || b)) d ≡ flag fixed d || (b && eqb d e)
held fixed e b d l = by-eq d e
    (λ i t. subst (λ z. flag (set fixed e (flag fixed e || b)) z ≡ flag fixed z || (b && eqb d e)) (sym i)
    (get_or-set_same fixed e (flag fixed e || b) false l ∙ ap (λ x. flag fixed e || x) (sym (ap (λ x. b && x) t ∙ and-true b))))
    (λ n t. get_or-set_other fixed e d (flag fixed e || b) false n
    ∙ sym (ap (λ x. flag fixed d || (b && x)) t ∙ ap (λ x. flag fixed d || x) (and-false b) ∙ or-false (flag fixed d)))

pub state_acted : (G : Instance) (rem fixed : List Bool) (k_s k_t : ℕ → ℕ) (f : Fate) (e : ℕ) → e < length fixed
    → let Y = act G (state_of rem fixed k_s k_t) f e in state_of (set rem e false) (set fixed e (flag fixed e || fixes f)) Y.q_s Y.q_t ≡ Y
unfolding act
state_acted G rem fixed k_s k_t f e l = let Y = act G (state_of rem fixed k_s k_t) f e in
    ap₂ (λ (x y : ℕ → Bool). record { rem = x; fixed = y; q_s = Y.q_s; q_t = Y.q_t }) (fun_ext (λ d. struck rem e d)) (fun_ext (λ d. held fixed e (fixes f) d l))

-- ---- one side: numbers of remaining edges d, cut quotas q
pub record Counters (K : Side) (rem : ℕ → Bool) (k : ℕ → ℕ) (d q : List ℕ) : Type 0 where
  pub deg_is : (v : ℕ) → v < node_limit → at d v ≡ deg K rem v
  pub cut_is : (v : ℕ) → v < node_limit → at q v ≡ cut K rem k v

-- after a step at e: one edge less remains at its node, whose quota is lowered, if b, and cut
abbrev pub d' : (K : Side) (d : List ℕ) (e : ℕ) → List ℕ
d' K d e = set d (K.end e) (at d (K.end e) - 1)

abbrev pub q' : (K : Side) (q d : List ℕ) (b : Bool) (e : ℕ) → List ℕ
q' K q d b e = set q (K.end e) (min (at q (K.end e) - bool_byte b) (at d (K.end e) - 1))

module _ (K : Side) (rem : ℕ → Bool) (k : ℕ → ℕ) (d q : List ℕ) (C : Counters K rem k d q) (b : Bool) (e : ℕ) (l : e < K.m) (r : T (rem e))
    (w : K.end e < node_limit) where
  abbrev rem' : ℕ → Bool
  rem' x = rem x && not (eqb x e)

  bit_and_true : (b : Bool) → bit (b && true) ≡ bit b
  bit_and_true b = ap bit (and-true b)

  pub counters_acted : length d ≡ node_limit → length q ≡ node_limit
      → Counters K rem' (λ v. cut K rem k v - bit (b && eqb v (K.end e))) (d' K d e) (q' K q d b e)
  unfolding cut
  counters_acted ld lq = record {
    deg_is = λ v h. by-eq v (K.end e)
        (λ i t. omega (
          arith,
          deg_without K rem e v l r,
          ap bit t,
          C.deg_is v h,
          ap (at (d' K d e)) i,
          get_or-set_same d (K.end e) (at d (K.end e) - 1) 0 (omega arith),
          ap (at d) i,
        ))
        (λ n t. omega (arith, deg_without K rem e v l r, ap bit t, C.deg_is v h, get_or-set_other d (K.end e) v (at d (K.end e) - 1) 0 n));
    cut_is = λ v h. by-eq v (K.end e)
        (λ i t. omega (
          arith,
          deg_without K rem e v l r,
          ap bit t,
          C.deg_is v h,
          C.cut_is v h,
          ap (at (q' K q d b e)) i,
          get_or-set_same q (K.end e) (min (at q (K.end e) - bool_byte b) (at d (K.end e) - 1)) 0 (omega arith),
          ap (at q) i,
          ap (at d) i,
          byte_bit b,
          ap (λ x. bit (b && x)) t,
          bit_and_true b,
        ))
        (λ n t. omega (
          arith,
          deg_without K rem e v l r,
          ap bit t,
          C.deg_is v h,
          C.cut_is v h,
          get_or-set_other q (K.end e) v (min (at q (K.end e) - bool_byte b) (at d (K.end e) - 1)) 0 n,
          ap (λ x. bit (b && x)) t,
          ap bit (and-false b),
        ));
  }

-- ---- a run's arrays hold what the model's state says
pub record Holds (G : Instance) (Y : State) (qs qt ds dt : List ℕ) : Type 0 where
  pub at_s : Counters (surveyors G) Y.rem Y.q_s ds qs
  pub at_t : Counters (stands G) Y.rem Y.q_t dt qt

pub holds_acted : (G : Instance) (Y : State) (qs qt ds dt : List ℕ) (f : Fate) (e : ℕ) → e < G.m → T (Y.rem e) → G.sv e < node_limit → G.st e < node_limit
    → length qs ≡ node_limit → length qt ≡ node_limit → length ds ≡ node_limit → length dt ≡ node_limit → Holds G Y qs qt ds dt
    → Holds G (act G Y f e) (q' (surveyors G) qs ds (fixes f) e) (q' (stands G) qt dt (fixes f) e) (d' (surveyors G) ds e) (d' (stands G) dt e)
unfolding act
holds_acted G Y qs qt ds dt f e l r hs ht a b c d H = record {
  at_s = counters_acted (surveyors G) Y.rem Y.q_s ds qs H.at_s (fixes f) e l r hs c a;
  at_t = counters_acted (stands G) Y.rem Y.q_t dt qt H.at_t (fixes f) e l r ht d b;
}
