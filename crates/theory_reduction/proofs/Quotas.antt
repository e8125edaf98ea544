-- The theorems that rest on specs/Quotas.antt. They stand here so that a wrong definition there is refused by a proof.
use Rattle.std.specs.Prelude.{ℕ, ◌-◌, ◌<◌, Bool, true, false, not, ◌&&◌, ◌||◌, T, eqb}
use Rattle.std.proofs.Common.{sym, subst, eqb→eq, T_not}
use Rattle.std.proofs.Math.Dec.{not_T}
use Rattle.lists.specs.Test.{given, nand_i, bit}
use Rattle.model.specs.Instance.{Instance, Side, surveyors, stands, deg}
use Rattle.model.specs.Reduction.{State, cut, fixes, act}
use Rattle.theory_reduction.specs.RuleNumbers.{rule_of, fate_of, edge_of, next}
use Rattle.theory_instance.specs.Degree.{deg_with, deg_without}
use Rattle.theory_reduction.specs.Chosen.{acts, fixes_room}
use Rattle.theory_reduction.specs.Quotas.{Counted, Sound, cut_step, within_step}

-- the remaining edge e is fixed (b), where a place is left, or struck
act_counted : (K : Side) (rem fixed : ℕ → Bool) (q : ℕ → ℕ) → Counted K rem fixed q
    → (b : Bool) (e : ℕ) → e < K.m → T (rem e) → T (not (fixed e)) → (T b → 0 < cut K rem q (K.end e))
    → Counted K (λ d. rem d && not (eqb d e)) (λ d. fixed d || (b && eqb d e)) (λ v. cut K rem q v - bit (b && eqb v (K.end e)))
unfolding cut
act_counted K rem fixed q C b e l r n room = record {
  cut_is = λ v. cut_step b (eqb v (K.end e)) (K.quota v) (deg K fixed v) (deg K (λ d. fixed d || (b && eqb d e)) v) (deg K rem v)
      (deg K (λ d. rem d && not (eqb d e)) v)
      (cut K rem q v) (C.cut_is v) (deg_without K rem e v l r) (deg_with K fixed b e v l n);
  within = λ v. within_step b (eqb v (K.end e)) (K.quota v) (deg K fixed v) (deg K (λ d. fixed d || (b && eqb d e)) v) (deg K rem v)
      (cut K rem q v) (C.cut_is v) (C.within v) (λ tb tc. subst (λ u. 0 < cut K rem q u) (sym (eqb→eq v (K.end e) tc)) (room tb))
      (deg_with K fixed b e v l n);
}

-- a fixed edge is taken from what remains
apart_step : (f b c r : Bool) → (T f → T (not r)) → T (f || (b && c)) → T (not (r && not c))
apart_step f b true true h t = tt
apart_step f b true false h t = tt
apart_step true b false r h t = nand_i r true (h tt)
apart_step false true false r h t = absurd t
apart_step false false false r h t = absurd t

pub next_sound : (G : Instance) (Z : State) → Sound G Z → rule_of G Z < 8 → Sound G (next G Z)
unfolding next act
next_sound G Z S h = given (acts G Z h) (λ A.
    let e = edge_of G Z in
    let b = fixes (fate_of (rule_of G Z)) in
    let n : T (not (Z.fixed e)) = not_T (Z.fixed e) (λ t. T_not (Z.rem e) (S.apart e A.inside t) A.left) in
    let room = fixes_room G Z (rule_of G Z) e A.inside A.left A.named A.earlier in
    record {
      apart = λ d l t. apart_step (Z.fixed d) b (eqb d e) (Z.rem d) (S.apart d l) t;
      at_s = act_counted (surveyors G) Z.rem Z.fixed Z.q_s S.at_s b e A.inside A.left n (λ t. (room t).0);
      at_t = act_counted (stands G) Z.rem Z.fixed Z.q_t S.at_t b e A.inside A.left n (λ t. (room t).1);
    })
