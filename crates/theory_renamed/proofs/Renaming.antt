-- The theorems that rest on specs/Renaming.antt. They stand here so that a wrong definition there is refused by a proof.
use Rattle.std.specs.Prelude.{ℕ, ◌≤◌, ◌<◌, ◌≡◌, refl, Bool, List, [], ◌∷◌, map, eqb}
use native.Mathlib.Omega.{arith}
use Rattle.std.proofs.Math.Decide.{dec_lt}
use Rattle.std.proofs.Math.Path.{sym, ap}
use Rattle.std.proofs.Common.{◌∙◌, subst}
use Rattle.std.proofs.Math.Logic.{by_cases}
use mathlib.Core.List.Memᴰ
use Rattle.std.proofs.Math.IntN.{sub_ℕ}
use Rattle.lists.specs.Test.{given, bit, bit_pk, pk}
use Rattle.lists.specs.Sum.{◌∈◌, sum, sum_cong, up_to, up_to_<}
use Rattle.lists.specs.Occur.{sum_at, occ_up_to}
use Rattle.lists.specs.Distinct.{no_element}
use Rattle.model.specs.Instance.{Instance, Side, surveyors, stands, deg}
use Rattle.model.specs.Plans.{Plan, on, plans_of, strong_plans}
use Rattle.model.specs.PlanFile.{plan_of}
use Rattle.theory_instance.specs.Lawful.{Lawful, Within, Matching, Same}
use Rattle.theory_instance.specs.Degree.{deg_zero}
use Rattle.theory_instance.specs.Within.{matching_within, matching_same}
use Rattle.theory_files.specs.Chosen.{on_plan_of, plan_of_length, plan_of_on, plan_of_cong, plan_length, within_plan}
use Rattle.theory_votes.specs.Score.{score, tally, quotas}
use Rattle.theory_votes.specs.Signed.{node_vote_score}
use Rattle.theory_verdict.specs.Plans.{plan_matching, matching_plan, plan_of_same}
use Rattle.theory_renamed.specs.Part.{Placed, Part, part_deg}
use Rattle.theory_renamed.proofs.Part.{part_vote}
use Rattle.theory_renamed.specs.StrongPlans.{same_sub, tally_same, strong_member, wins, in_strong, strong_alone}
use Rattle.theory_renamed.specs.Numberings.{asked_back}
use Rattle.theory_renamed.proofs.Numberings.{sum_back}
use Rattle.theory_renamed.specs.Renaming.{Moved, renamed}

module _ (K A : Side) (ε δ τ ρ : ℕ → ℕ) (W : Moved K A ε δ τ ρ) where
  -- the set under the old numbers
  abbrev before : (ℕ → Bool) → ℕ → Bool
  before P e = P (ε e)

  same_end : (v u : ℕ) → v < A.n → u < A.m → eqb (A.end (δ u)) v ≡ eqb (K.end u) (τ v)
  same_end v u lv l =
      let d = W.by_edge.back u l in
      sym (ap (λ x. eqb x (τ v)) (ap K.end (sym (W.by_edge.there u l)) ∙ W.end (δ u) d)
      ∙ asked_back A.n τ ρ W.by_node (A.end (δ u)) (τ v) (W.inside (δ u) d) (W.by_node.into v lv)
      ∙ ap (eqb (A.end (δ u))) (W.by_node.here v lv))

  each : (v u : ℕ) → v < A.n → u < A.m → sum (λ e. pk (eqb (A.end e) v) (bit (eqb (ε e) u))) (up_to A.m) ≡ bit (eqb (K.end u) (τ v))
  each v u lv l =
      sum_cong (λ e. pk (eqb (A.end e) v) (bit (eqb (ε e) u))) (λ e. pk (eqb (A.end e) v) (bit (eqb e (δ u)))) (up_to A.m)
      (λ e m. ap (λ b. pk (eqb (A.end e) v) (bit b)) (asked_back A.m ε δ W.by_edge e u (up_to_< A.m m) l))
      ∙ sum_at (λ e. eqb (A.end e) v) (δ u) (up_to A.m)
      ∙ ap (λ k. pk (eqb (A.end (δ u)) v) k) (occ_up_to A.m (δ u) (W.by_edge.back u l)) ∙ sym (bit_pk (eqb (A.end (δ u)) v))
      ∙ ap bit (same_end v u lv l)

  part : (v : ℕ) → v < A.n → Part A K ε v (τ v)
  part v lv = record {
    into = λ e l q. subst (λ z. ε e < z) (sym W.edges) (W.by_edge.into e l);
    rank = λ e l q. W.rank e l;
    once = λ u l. each v u lv (subst (λ z. u < z) W.edges l);
  }

  -- within the quotas here exactly if there
  within→ : (P : ℕ → Bool) → Within K P → Within A (before P)
  within→ P h v = by_cases (dec_lt v A.n)
      (λ l. omega (arith, part_deg A K ε v (τ v) (part v l) P, h (τ v), W.quota v l))
      (λ n. omega (arith, deg_zero A (before P) v (λ e l i s. n (subst (λ z. z < A.n) i (W.inside e l)))))

  within← : ((e : ℕ) → e < K.m → K.end e < K.n) → (P : ℕ → Bool) → Within A (before P) → Within K P
  within← inside P h w = by_cases (dec_lt w K.n)
      (λ l. given (subst (λ z. w < z) W.nodes l) (λ k.
      subst (λ z. deg K P z ≤ K.quota z) (W.by_node.there w k) (at (ρ w) (W.by_node.back w k))))
      (λ n. omega (arith, deg_zero K P w (λ e l i s. n (subst (λ z. z < K.n) i (inside e l)))))
    where
      at : (v : ℕ) → v < A.n → deg K P (τ v) ≤ K.quota (τ v)
      at v l = omega (arith, part_deg A K ε v (τ v) (part v l) P, h v, W.quota v l)

  -- the side's votes are the same
  scores : Placed K → Placed A → (P Q : ℕ → Bool) → Within K P → Within K Q
      → sum (score K P Q) (up_to K.n) ≡ sum (score A (before P) (before Q)) (up_to A.n)
  scores pK pA P Q hP hQ = ap (λ n. sum (score K P Q) (up_to n)) W.nodes ∙ sym (sum_back A.n τ ρ W.by_node (score K P Q))
      ∙ sum_cong (λ v. score K P Q (τ v)) (score A (before P) (before Q)) (up_to A.n) (λ v m. at v (up_to_< A.n m))
    where
      at : (v : ℕ) → v < A.n → score K P Q (τ v) ≡ score A (before P) (before Q) v
      at v l = same_sub (score K P Q (τ v)) (score A (before P) (before Q) v) (K.quota (τ v))
          (sym (node_vote_score K P Q (τ v) (hP (τ v)) (hQ (τ v)))
          ∙ part_vote A K ε v (τ v) (part v l) pA pK (sym (W.quota v l)) P Q (hP (τ v)) (hQ (τ v))
          ∙ node_vote_score A (before P) (before Q) v (within→ P hP v) (within→ Q hQ v) ∙ ap (sub_ℕ (score A (before P) (before Q) v)) (sym (W.quota v l)))

  quotas_same : sum K.quota (up_to K.n) ≡ sum A.quota (up_to A.n)
  quotas_same = ap (λ n. sum K.quota (up_to n)) W.nodes ∙ sym (sum_back A.n τ ρ W.by_node K.quota)
      ∙ sum_cong (λ v. K.quota (τ v)) A.quota (up_to A.n) (λ v m. W.quota v (up_to_< A.n m))

module _ (J G : Instance) (ε δ σ σ' τ ρ : ℕ → ℕ) (vS : Moved (surveyors J) (surveyors G) ε δ σ σ') (vT : Moved (stands J) (stands G) ε δ τ ρ)
    (LJ : Lawful J) (LG : Lawful G) where
  unfoldable old : Plan → Plan
  old P = plan_of G.m (λ e. on P (ε e))

  old_matching : (P : ℕ → Bool) → Matching J P → Matching G (λ e. P (ε e))
  old_matching P p = record {
    at_s = within→ (surveyors J) (surveyors G) ε δ σ σ' vS P p.at_s;
    at_t = within→ (stands J) (stands G) ε δ τ ρ vT P p.at_t;
  }

  new_matching : (P : ℕ → Bool) → Matching G (λ e. P (ε e)) → Matching J P
  new_matching P p = record {
    at_s = within← (surveyors J) (surveyors G) ε δ σ σ' vS LJ.at_s.inside P p.at_s;
    at_t = within← (stands J) (stands G) ε δ τ ρ vT LJ.at_t.inside P p.at_t;
  }

  -- renamed M at ε e is M at e
  renamed_at : (M : Plan) → Same G (on M) (λ e. on (renamed J G ε δ σ σ' τ ρ vS vT LJ LG M) (ε e))
  unfolding renamed
  renamed_at M e l = sym (on_plan_of J.m (λ u. on M (δ u)) (ε e) (subst (λ z. ε e < z) (sym vS.edges) (vS.by_edge.into e l))
      ∙ ap (on M) (vS.by_edge.here e l))

  renamed_plan : {M : Plan} → M ∈ plans_of G → renamed J G ε δ σ σ' τ ρ vS vT LJ LG M ∈ plans_of J
  unfolding renamed
  renamed_plan {M} m = within_plan J (renamed J G ε δ σ σ' τ ρ vS vT LJ LG M) (plan_of_length J.m (λ u. on M (δ u))) (matching_within J (on (renamed J G ε δ σ σ' τ ρ vS vT LJ LG M))
      (new_matching (on (renamed J G ε δ σ σ' τ ρ vS vT LJ LG M)) (matching_same G (on M) (λ e. on (renamed J G ε δ σ σ' τ ρ vS vT LJ LG M) (ε e)) (renamed_at M) (plan_matching G LG m))))

  old_plan_law : {P : Plan} → P ∈ plans_of J → old P ∈ plans_of G
  unfolding old
  old_plan_law {P} p = matching_plan G (old_matching (on P) (plan_matching J LJ p))

  renamed_old : {P : Plan} → P ∈ plans_of J → renamed J G ε δ σ σ' τ ρ vS vT LJ LG (old P) ≡ P
  unfolding renamed old
  renamed_old {P} p = plan_of_cong J.m (λ u. on (plan_of G.m (λ e. on P (ε e))) (δ u)) (on P)
      (λ u l. given (subst (λ z. u < z) vS.edges l) (λ k.
      on_plan_of G.m (λ e. on P (ε e)) (δ u) (vS.by_edge.back u k) ∙ ap (on P) (vS.by_edge.there u k))) ∙ plan_of_on J.m P (plan_length J p)

  old_renamed : {M : Plan} → M ∈ plans_of G → old (renamed J G ε δ σ σ' τ ρ vS vT LJ LG M) ≡ M
  unfolding old
  old_renamed {M} m = plan_of_cong G.m (λ e. on (renamed J G ε δ σ σ' τ ρ vS vT LJ LG M) (ε e)) (on M) (λ e l. sym (renamed_at M e l)) ∙ plan_of_on G.m M (plan_length G m)

  quotas_both : quotas J ≡ quotas G
  quotas_both = omega (arith, quotas_same (surveyors J) (surveyors G) ε δ σ σ' vS, quotas_same (stands J) (stands G) ε δ τ ρ vT)

  -- the same vote
  tally_old : {P Q : Plan} → P ∈ plans_of J → Q ∈ plans_of J → tally J (on P) (on Q) ≡ tally G (on (old P)) (on (old Q))
  unfolding old
  tally_old {P} {Q} p q =
      given (plan_matching J LJ p) (λ mP. given (plan_matching J LJ q) (λ mQ.
      given (old_matching (on P) mP) (λ oP. given (old_matching (on Q) mQ) (λ oQ.
      omega (
        arith,
        tally_same G LG (λ e. on P (ε e)) (λ e. on Q (ε e)) (on (old P)) (on (old Q)) oP oQ (plan_matching G LG (matching_plan G oP))
            (plan_matching G LG (matching_plan G oQ)) (plan_of_same G (λ e. on P (ε e))) (plan_of_same G (λ e. on Q (ε e))),
        scores (surveyors J) (surveyors G) ε δ σ σ' vS LJ.at_s.placed LG.at_s.placed (on P) (on Q) mP.at_s mQ.at_s,
        scores (stands J) (stands G) ε δ τ ρ vT LJ.at_t.placed LG.at_t.placed (on P) (on Q) mP.at_t mQ.at_t,
      )))))

  renamed_strong : {M : Plan} → M ∈ strong_plans G → renamed J G ε δ σ σ' τ ρ vS vT LJ LG M ∈ strong_plans J
  renamed_strong {M} s =
      let m = (strong_member G LG s).0 in
      in_strong J LJ (renamed_plan m) (λ P p d. omega (
        arith,
        quotas_both,
        tally_old (renamed_plan m) p,
        ap (λ z. tally G (on z) (on (old P))) (old_renamed m),
        wins G LG s (old_plan_law p) (λ e. d (ap (renamed J G ε δ σ σ' τ ρ vS vT LJ LG) e ∙ renamed_old p)),
      ))

  old_strong : {P : Plan} → P ∈ strong_plans J → old P ∈ strong_plans G
  old_strong {P} s =
      let p = (strong_member J LJ s).0 in
      in_strong G LG (old_plan_law p) (λ A a d. omega (
        arith,
        quotas_both,
        tally_old p (renamed_plan a),
        ap (λ z. tally G (on (old P)) (on z)) (old_renamed a),
        wins J LJ s (renamed_plan a) (λ e. d (ap old e ∙ old_renamed a)),
      ))

  pub strong_renamed : strong_plans J ≡ map (renamed J G ε δ σ σ' τ ρ vS vT LJ LG) (strong_plans G)
  strong_renamed = go (strong_plans G) refl
    where
      go : (gs : List Plan) → strong_plans G ≡ gs → strong_plans J ≡ map (renamed J G ε δ σ σ' τ ρ vS vT LJ LG) (strong_plans G)
      go [] e = no_element (strong_plans J) (λ P s. Memᴰ.not-nil (subst (λ z. old P ∈ z) e (old_strong s))) ∙ sym (ap (map (renamed J G ε δ σ σ' τ ρ vS vT LJ LG)) e)
      go (M ∷ gs) e = given (subst (λ z. M ∈ z) (sym e) (Memᴰ.head refl)) (λ m.
          strong_alone J LJ (renamed_strong m) ∙ sym (ap (map (renamed J G ε δ σ σ' τ ρ vS vT LJ LG)) (strong_alone G LG m)))
