-- The whole reduction against a plan that Lemma W holds of: each step keeps the situation, so at the end no edge is left and the
-- plan is the fixed edges. With Lemma W for strong plans that is: a strong plan exists only if no edge is left, and only one.
use Rattle.std.specs.Prelude.{ℕ, ◌<◌, ◌≡◌, Bool, true, false, not, ◌&&◌, ◌||◌, eqb}
use Rattle.std.proofs.Common.{sym, eqb→eq, T_not}
use Rattle.std.proofs.Math.Path.{subst}
use Rattle.std.proofs.Math.Dec.{T, lt→ltb}
use Rattle.lists.specs.Test.{by-test, given, bool_eq, and_i}
use Rattle.model.specs.Instance.{Instance}
use Rattle.model.specs.Reduction.{State, fixes, act, begin, end_of}
use Rattle.theory_reduction.specs.RuleNumbers.{rule_of, edge_of, fate_of, next}
use Rattle.theory_instance.specs.Lawful.{Lawful, Matching}
use Rattle.theory_instance.specs.Walk.{NoBad}
use Rattle.theory_reduction.specs.Chosen.{acts}
use Rattle.theory_reduction.specs.Quotas.{begin_sound}
use Rattle.theory_reduction.proofs.Quotas.{next_sound}
use Rattle.theory_reduction.specs.Course.{along, end_quiet}
use Rattle.theory_reduction.specs.Chains.{Sit}
use Rattle.theory_reduction.proofs.Steps.{step}
use Rattle.theory_reduction.proofs.End.{finished}

-- an edge that is fixed (f), acted on (c) with fate b, remains (r), is in the plan (a)
kept_step : (f b c a : Bool) → (T f → T a) → (T b → T c → T a) → T (f || (b && c)) → T a
kept_step true b c a h k t = h tt
kept_step false true c a h k t = k tt t
kept_step false false c a h k t = absurd t

rest_step : (f b c r a : Bool) → (T a → T (not f) → T r) → (T (not b) → T c → T (not a)) → T a → T (not (f || (b && c))) → T (r && not c)
rest_step true b c r a h k s n = absurd n
rest_step false true true r a h k s n = absurd n
rest_step false true false r a h k s n = and_i r true (h s n) tt
rest_step false false true r a h k s n = absurd (T_not a (k tt tt) s)
rest_step false false false r a h k s n = and_i r true (h s n) tt

module _ {G : Instance} {M : ℕ → Bool} where
  next_sit : {Z : State} → Sit G Z M → rule_of G Z < 8 → Sit G (next G Z) M
  unfolding next act
  next_sit {Z} H h = given (acts G Z h) (λ A. given (step H (rule_of G Z) (edge_of G Z) A.inside A.left A.named A.earlier) (λ (fixed, struck).
      let b = fixes (fate_of (rule_of G Z)) in
      record {
        law = H.law;
        plan = H.plan;
        no_bad = H.no_bad;
        sound = next_sound G Z H.sound h;
        kept = λ d l t. kept_step (Z.fixed d) b (eqb d (edge_of G Z)) (M d) (H.kept d l)
            (λ f c. subst (λ z. T (M z)) (sym (eqb→eq d (edge_of G Z) c)) (fixed f)) t;
        rest = λ d l t n. rest_step (Z.fixed d) b (eqb d (edge_of G Z)) (Z.rem d) (M d) (H.rest d l)
            (λ f c. subst (λ z. T (not (M z))) (sym (eqb→eq d (edge_of G Z) c)) (struck f)) t n;
      }))

  begin_sit : Lawful G → Matching G M → NoBad G M → Sit G (begin G) M
  unfolding begin
  begin_sit law plan w = record { law = law; plan = plan; no_bad = w; sound = begin_sound G; kept = λ e l t. absurd t; rest = λ e l t n. lt→ltb e G.m l }

  end_sit : Lawful G → Matching G M → NoBad G M → Sit G (end_of G) M
  unfolding end_of
  end_sit law plan w = along G (λ n Z ss Y. Sit G Z M → Sit G Y M) (λ n Z h H. H) (λ n Z ss Y h ih H. ih (next_sit H h)) G.m (begin G) (begin_sit law plan w)

  -- where Lemma W holds of some plan, no edge is left at the end
  pub left_none : Lawful G → Matching G M → NoBad G M → (e : ℕ) → e < G.m → T ((end_of G).rem e) → ⊥
  left_none law plan w = finished (end_sit law plan w) (end_quiet G)

  -- a plan that Lemma W holds of is the edges that are fixed at the end
  pub is_fixed : Lawful G → Matching G M → NoBad G M → (e : ℕ) → e < G.m → M e ≡ (end_of G).fixed e
  is_fixed law plan w e l = given (end_sit law plan w) (λ H. bool_eq (M e) ((end_of G).fixed e)
      (λ t. by-test ((end_of G).fixed e) (λ f. f) (λ n. absurd (left_none law plan w e l (H.rest e l t n))))
      (H.kept e l))
