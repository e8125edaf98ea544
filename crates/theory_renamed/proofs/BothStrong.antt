-- The theorems that rest on specs/BothStrong.antt. They stand here so that a wrong definition there is refused by a proof.
use Rattle.std.specs.Prelude.{ℕ, ◌+◌, ◌<◌, ◌≡◌, refl, Bool, false, List, [], ◌∷◌, ◌++◌, map, ◌≢◌, length, get_or, take, drop}
use Rattle.std.proofs.Common.{arith, sym, ap, ◌∙◌, T_not, length-take, length-drop, length-append, take-append-drop, get_or-append-add}
use Rattle.std.proofs.Math.Path.{ap₂, subst}
use Rattle.std.proofs.Math.Bool.{◌&&◌}
use mathlib.Core.List.Memᴰ
use Rattle.std.proofs.Math.Dec.{T}
use Rattle.std.proofs.Math.ListN.{get_or-append}
use Rattle.lists.specs.Test.{given, by-test, and_l, and_r, and_i}
use Rattle.lists.specs.Sum.{◌∈◌}
use Rattle.lists.specs.Distinct.{no_element}
use Rattle.lists.specs.Ranges.{gather_none}
use Rattle.model.specs.Instance.{Instance, surveyors, stands}
use Rattle.model.specs.Plans.{Plan, on, within_side, within, plans_of, same_plan, strong_plans}
use Rattle.theory_instance.specs.Lawful.{Lawful, Matching, Same}
use Rattle.theory_instance.specs.Within.{within_matching, matching_within, matching_same}
use Rattle.theory_files.specs.Chosen.{plan_length, plan_within, within_plan}
use Rattle.theory_votes.specs.Score.{tally, quotas}
use Rattle.theory_verdict.specs.Plans.{same_plan_law, plan_matching}
use Rattle.theory_renamed.specs.StrongPlans.{tally_same, strong_member, self, wins, holds, in_strong, strong_alone}
use Rattle.theory_renamed.specs.Beside.{Beside, quotas_add, within_both}
use Rattle.theory_renamed.proofs.Beside.{scores_add}
use Rattle.theory_renamed.specs.BothStrong.{all_beside}

append_parts : (M N A B : Plan) → length M ≡ length A → M ++ N ≡ A ++ B → (M ≡ A) × (N ≡ B)
append_parts [] N [] B l e = (refl, e)
append_parts [] N (a ∷ A) B l e = absurd (omega arith)
append_parts (m ∷ M) N [] B l e = absurd (omega arith)
append_parts (m ∷ M) N (a ∷ A) B l e =
    given (append_parts M N A B (omega arith) (ap (drop 1) e)) (λ (u, v). (ap₂ ◌∷◌ (ap (λ z. get_or z 0 false) e) u, v))

module _ (J G H : Instance) (bS : Beside (surveyors J) (surveyors G) (surveyors H)) (bT : Beside (stands J) (stands G) (stands H))
    (LJ : Lawful J) (LG : Lawful G) (LH : Lawful H) where
  abbrev back : (ℕ → Bool) → ℕ → Bool
  back P e = P (G.m + e)

  left_same : (M N : Plan) → length M ≡ G.m → Same G (on M) (on (M ++ N))
  left_same M N l e h = sym (get_or-append M N false e (omega (arith, l)))

  right_same : (M N : Plan) → length M ≡ G.m → Same H (on N) (back (on (M ++ N)))
  right_same M N l e h = sym (ap (λ n. get_or (M ++ N) (n + e) false) (sym l) ∙ get_or-append-add M N e false)

  -- ---- plans
  abbrev S : (ℕ → Bool) → Bool
  S P = within_side (surveyors G) P

  abbrev S' : (ℕ → Bool) → Bool
  S' P = within_side (surveyors H) (back P)

  abbrev D : (ℕ → Bool) → Bool
  D P = within_side (stands G) P

  abbrev D' : (ℕ → Bool) → Bool
  D' P = within_side (stands H) (back P)

  parts_within : (P : ℕ → Bool) → within J P ≡ (S P && S' P) && (D P && D' P)
  unfolding within
  parts_within P = ap₂ ◌&&◌ (within_both (surveyors J) (surveyors G) (surveyors H) bS P) (within_both (stands J) (stands G) (stands H) bT P)

  both_matching : (P : ℕ → Bool) → T (within J P) → Matching G P × Matching H (back P)
  unfolding within
  both_matching P t =
      given (subst T (parts_within P) t) (λ s.
      given (and_l (S P && S' P) (D P && D' P) s) (λ a.
      given (and_r (S P && S' P) (D P && D' P) s) (λ b. (
        within_matching G P LG (and_i (S P) (D P) (and_l (S P) (S' P) a) (and_l (D P) (D' P) b)),
        within_matching H (back P) LH (and_i (S' P) (D' P) (and_r (S P) (S' P) a) (and_r (D P) (D' P) b)),
      ))))

  matching_both : (P : ℕ → Bool) → Matching G P → Matching H (back P) → T (within J P)
  unfolding within
  matching_both P g h =
      given (matching_within G P g) (λ a.
      given (matching_within H (back P) h) (λ b.
      subst T (sym (parts_within P)) (and_i (S P && S' P) (D P && D' P) (and_i (S P) (S' P) (and_l (S P) (D P) a) (and_l (S' P) (D' P) b))
      (and_i (D P) (D' P) (and_r (S P) (D P) a) (and_r (S' P) (D' P) b)))))

  sides : (M N : Plan) → length M ≡ G.m → Matching G (on M) → Matching H (on N) → Matching G (on (M ++ N)) × Matching H (back (on (M ++ N)))
  sides M N l g h = (matching_same G (on M) (on (M ++ N)) (left_same M N l) g, matching_same H (on N) (back (on (M ++ N))) (right_same M N l) h)

  join_plan : {M N : Plan} → M ∈ plans_of G → N ∈ plans_of H → (M ++ N) ∈ plans_of J
  join_plan {M} {N} m n =
      let l = plan_length G m in
      given (sides M N l (plan_matching G LG m) (plan_matching H LH n)) (λ (g, h).
      within_plan J (M ++ N) (omega (arith, length-append M N, l, plan_length H n, bS.edges)) (matching_both (on (M ++ N)) g h))

  split_plan : (P : Plan) → P ∈ plans_of J → (M : Plan) × (N : Plan) × (M ∈ plans_of G) × (N ∈ plans_of H) × (M ++ N ≡ P)
  split_plan P p = cut (take G.m P) (drop G.m P) (omega (arith, length-take G.m P, plan_length J p, bS.edges))
      (omega (arith, length-drop G.m P, plan_length J p, bS.edges)) (take-append-drop G.m P)
    where
      cut : (M N : Plan) → length M ≡ G.m → length N ≡ H.m → M ++ N ≡ P → (M : Plan) × (N : Plan) × (M ∈ plans_of G) × (N ∈ plans_of H) × (M ++ N ≡ P)
      cut M N lM lN e = given (both_matching (on (M ++ N)) (subst (λ z. T (within J (on z))) (sym e) (plan_within J p))) (λ (g, h). (
        M,
        N,
        within_plan G M lM (matching_within G (on M) (matching_same G (on (M ++ N)) (on M) (λ x k. sym (left_same M N lM x k)) g)),
        within_plan H N lN (matching_within H (on N) (matching_same H (back (on (M ++ N))) (on N) (λ x k. sym (right_same M N lM x k)) h)),
        e,
      ))

  -- ---- votes
  quotas_both : quotas J ≡ quotas G + quotas H
  quotas_both = omega (arith, quotas_add (surveyors J) (surveyors G) (surveyors H) bS, quotas_add (stands J) (stands G) (stands H) bT)

  tally_both : {M N A B : Plan} → M ∈ plans_of G → N ∈ plans_of H → A ∈ plans_of G → B ∈ plans_of H
      → tally J (on (M ++ N)) (on (A ++ B)) ≡ tally G (on M) (on A) + tally H (on N) (on B)
  tally_both {M} {N} {A} {B} m n a b =
      let lM = plan_length G m in
      let lA = plan_length G a in
      let p : ℕ → Bool = on (M ++ N) in
      let q : ℕ → Bool = on (A ++ B) in
      given (plan_matching G LG m) (λ pM. given (plan_matching H LH n) (λ pN. given (plan_matching G LG a) (λ pA. given (plan_matching H LH b) (λ pB.
      given (sides M N lM pM pN) (λ (g, h). given (sides A B lA pA pB) (λ (x, y).
      given (plan_matching J LJ (join_plan m n)) (λ P. given (plan_matching J LJ (join_plan a b)) (λ Q.
      omega (
        arith,
        scores_add (surveyors J) (surveyors G) (surveyors H) bS LJ.at_s.placed LG.at_s.placed LH.at_s.placed p q P.at_s Q.at_s,
        scores_add (stands J) (stands G) (stands H) bT LJ.at_t.placed LG.at_t.placed LH.at_t.placed p q P.at_t Q.at_t,
        tally_same G LG p q (on M) (on A) g x pM pA (λ e k. sym (left_same M N lM e k)) (λ e k. sym (left_same A B lA e k)),
        tally_same H LH (back p) (back q) (on N) (on B) h y pN pB (λ e k. sym (right_same M N lM e k)) (λ e k. sym (right_same A B lA e k)),
      )))))))))

  -- ---- strong
  strong_join : {M N : Plan} → M ∈ strong_plans G → N ∈ strong_plans H → (M ++ N) ∈ strong_plans J
  strong_join {M} {N} s t =
      let m = (strong_member G LG s).0 in
      let n = (strong_member H LH t).0 in
      in_strong J LJ (join_plan m n) (λ P p d. other m n P (split_plan P p) d)
    where
      other : M ∈ plans_of G → N ∈ plans_of H → (P : Plan) → (A : Plan) × (B : Plan) × (A ∈ plans_of G) × (B ∈ plans_of H) × (A ++ B ≡ P)
          → M ++ N ≢ P → quotas J < tally J (on (M ++ N)) (on P)
      other m n P (A, B, a, b, e) d = subst (λ z. quotas J < tally J (on (M ++ N)) (on z)) e (by-test (same_plan M A)
          (λ w. given ((same_plan_law M A).0 w) (λ q.
          omega (arith, quotas_both, tally_both m n a b, holds G LG s a, wins H LH t b (λ r. d (ap₂ ◌++◌ q r ∙ e)))))
          (λ w. omega (arith, quotas_both, tally_both m n a b, wins G LG s a (λ r. T_not (same_plan M A) w ((same_plan_law M A).1 r)), holds H LH t b)))

  strong_split : {M N : Plan} → M ∈ plans_of G → N ∈ plans_of H → (M ++ N) ∈ strong_plans J → (M ∈ strong_plans G) × (N ∈ strong_plans H)
  strong_split {M} {N} m n s = (
    in_strong G LG m (λ A a d. omega (
      arith,
      quotas_both,
      tally_both m n a n,
      self H LH n,
      wins J LJ s (join_plan a n) (λ e. d (append_parts M N A N (plan_length G m ∙ sym (plan_length G a)) e).0),
    )),
    in_strong H LH n (λ B b d. omega (
      arith,
      quotas_both,
      tally_both m n m b,
      self G LG m,
      wins J LJ s (join_plan m b) (λ e. d (append_parts M N M B refl e).1),
    )),
  )

  -- ---- the lists of strongly popular plans
  parts : (P : Plan) → P ∈ strong_plans J → (M : Plan) × (N : Plan) × (M ∈ strong_plans G) × (N ∈ strong_plans H)
  parts P s =
      given (split_plan P (strong_member J LJ s).0) (λ (M, N, m, n, e).
      given (strong_split m n (subst (λ z. z ∈ strong_plans J) (sym e) s)) (λ (u, v). (M, N, u, v)))

  pub strong_beside : strong_plans J ≡ all_beside (strong_plans G) (strong_plans H)
  strong_beside = go (strong_plans G) (strong_plans H) refl refl
    where
      go : (gs hs : List Plan) → strong_plans G ≡ gs → strong_plans H ≡ hs → strong_plans J ≡ all_beside (strong_plans G) (strong_plans H)
      go [] hs a b = no_element (strong_plans J) (λ P s. given (parts P s) (λ (M, N, m, n). Memᴰ.not-nil (subst (λ z. M ∈ z) a m)))
          ∙ sym (ap (λ z. all_beside z (strong_plans H)) a)
      go (M ∷ gs) [] a b = no_element (strong_plans J) (λ P s. given (parts P s) (λ (A, N, m, n). Memᴰ.not-nil (subst (λ z. N ∈ z) b n)))
          ∙ sym (ap (λ z. all_beside (strong_plans G) z) b ∙ gather_none (λ A. map (λ N. A ++ N) []) (strong_plans G) (λ A i. refl))
      go (M ∷ gs) (N ∷ hs) a b =
          let m : M ∈ strong_plans G = subst (λ z. M ∈ z) (sym a) (Memᴰ.head refl) in
          let n : N ∈ strong_plans H = subst (λ z. N ∈ z) (sym b) (Memᴰ.head refl) in
          strong_alone J LJ (strong_join m n) ∙ sym (ap₂ all_beside (strong_alone G LG m) (strong_alone H LH n))
