-- What the code finds on its ways, and that the promised answers follow.
use Prim.Native.Nat.{ℕ, ◌≤◌}
use Rattle.std.specs.Prelude.{◌≡◌, refl, Bool, true, false, not, cond, List, ◌∷◌, length, T, ℤ}
use Rattle.std.proofs.Common.{sym, ap₂, ◌∙◌, subst}
use Rattle.std.proofs.Math.Path.{ap, fun_ext}
use Rattle.lists.specs.Sum.{◌∈◌}
use Rattle.model.specs.Limits.{plan_limit}
use Rattle.model.specs.Instance as model
use Rattle.model.specs.Vote.{vote}
use Rattle.model.specs.Plans.{Plan, on, plans_of, Verdict, vote_of, verdict_of, is_strong}
use Rattle.model.specs.Plans as verdict
use Rattle.model.specs.PlanFile.{edges_in, pair_list, plan_bytes_by, plan_bytes}
use Rattle.model.specs.Facing.{pairing_bytes}
use Rattle.model_desk.specs.Desk.{onto}
use Rattle.theory_instance.specs.Lawful.{Matching}
use Rattle.theory_files.specs.PlanFiles.{plan_few}
use Rattle.theory_verdict.specs.Plans.{plan_matching}
use Rattle.theory_verdict.specs.Rival.{rival_of}
use Rattle.theory_verdict.proofs.Rival.{beaten_rival, popular_rival}
use Rattle.arrays.specs.ArrayInstance.{flag}
use Rattle.instance.specs.declared.Instance.{Instance}
use Rattle.instance.specs.Decoded.{shown_by}
use Rattle.instance.specs.Loaded.{Loaded}
use Rattle.plan_writer.specs.Written.{WrittenFor}
use Rattle.plan_lookup.specs.PlanEdges.{Listed}
use Rattle.rival_verdict.specs.Judged.{verdict_for, is_beaten}
use Rattle.rival_verdict.specs.declared.Standing.TheVariants as standing
use Rattle.rival_verdict.specs.declared.Standing.{Standing}
use Rattle.rival_verdict.specs.RivalOfArrays.{RivalShown, shown_verdict, shown_rival}
use Rattle.answers.specs.declared.Verdict as answer
use Rattle.answers.specs.declared.Verdict.TheVariants.{Strong, Popular, Beaten}
use Rattle.verdict.specs.Weighing.{Shows, weighed_as, rival_written, WeighedBy, pairings_written, RivalFor}

-- ---- the vote of one plan against another, whose bytes are written
pub record Voted (G : model.Instance) (plan rival : List Bool) (out : List ℕ) (v : ℤ) (after : List ℕ) : Type 0 where
  pub vote : v ≡ vote G (flag plan) (flag rival)
  pub buffer : after ≡ onto (plan_bytes G rival) out

pub voted : (g : Instance) (plan rival : List Bool) (out : List ℕ) {v : ℤ} {after : List ℕ} → v ≡ vote (shown_by g) (flag plan) (flag rival)
    → WrittenFor g.m g.sv g.st g.sh rival out after → Voted (shown_by g) plan rival out v after
voted g plan rival out a b = record {
  vote = a;
  buffer = b g.ns g.nt g.rank_s g.rank_t g.tied g.quota_s g.quota_t rival (λ e l. refl);
}

-- the answer as it is handed on
pub weighed_as_law : {G : model.Instance} {M : Plan} {out : List ℕ} {a b : answer.Verdict} {after : List ℕ} → a ≡ b → WeighedBy G M out b after
    → WeighedBy G M out a after
weighed_as_law e h = record { reply = e ∙ h.reply; buffer = h.buffer }

-- ---- what the plan's standing says
pub no_rival : {s : Standing} → s ≡ standing.Strong → verdict_for s ≡ verdict.strong
no_rival e = ap verdict_for e

pub some_rival_law : (s : Standing) → (s ≡ standing.Strong → ⊥) → verdict_for s ≡ cond (is_beaten s) verdict.beaten verdict.popular
some_rival_law standing.Strong h = absurd (h refl)
some_rival_law standing.Popular h = refl
some_rival_law standing.Beaten h = refl

pub not_strong_law : (s : Standing) → (s ≡ standing.Strong → ⊥) → false ≡ is_strong (verdict_for s)
not_strong_law standing.Strong h = absurd (h refl)
not_strong_law standing.Popular h = refl
not_strong_law standing.Beaten h = refl

module _ (g : Instance) (L : Loaded g) (plan : List Bool) (M : Plan) (S : Shows (shown_by g) plan M) where
  abbrev G : model.Instance
  G = shown_by g

  same : flag plan ≡ on M
  same = fun_ext S.1

  pub plan_within : Matching G (flag plan)
  plan_within = subst (Matching G) (sym same) (plan_matching G L.lawful S.0)

  module _ (v : Verdict) (rival : List Bool)
      (R : RivalShown g.m g.sv g.st g.rank_s g.rank_t g.quota_s g.quota_t plan v rival) where
    is_verdict : v ≡ verdict_of G M
    is_verdict =
        shown_verdict g.m g.ns g.nt g.sv g.st g.rank_s g.rank_t g.sh g.tied g.quota_s g.quota_t plan v rival R G
        refl M S.1 L.lawful S.0 (plan_few G L.fileable M S.0)

    is_rival : flag rival ≡ on (rival_of G M)
    is_rival =
        fun_ext
        (shown_rival g.m g.ns g.nt g.sv g.st g.rank_s g.rank_t g.sh g.tied g.quota_s g.quota_t plan v rival R G
        refl M S.1)

    -- strong by the test is strong by the votes
    pub strong_is : {b : Bool} → b ≡ is_strong v → b ≡ is_strong (verdict_of G M)
    strong_is e = e ∙ ap is_strong is_verdict

    -- ---- strong
    pub strong_weighed : (out : List ℕ) → v ≡ verdict.strong → WeighedBy G M out Strong out
    strong_weighed out e =
        let q : verdict.strong ≡ verdict_of G M = sym e ∙ is_verdict in record { reply = ap (weighed_as G M) q; buffer = ap (λ w. rival_written G M w out) q }

    -- ---- with a rival
    module _ (b : Bool) (e : v ≡ cond b verdict.beaten verdict.popular) where
      there : (b : Bool) → v ≡ cond b verdict.beaten verdict.popular → rival_of G M ∈ plans_of G
      there true e = (beaten_rival G M L.lawful S.0 (plan_few G L.fileable M S.0) (sym is_verdict ∙ e)).in_quotas
      there false e = (popular_rival G M L.lawful S.0 (plan_few G L.fileable M S.0) (sym is_verdict ∙ e)).in_quotas

      pub rival_within : Matching G (flag rival)
      rival_within = subst (Matching G) (sym is_rival) (plan_matching G L.lawful (there b e))

      pub rival_few : length (edges_in g.m (flag rival)) ≤ plan_limit
      rival_few = subst (λ (p : ℕ → Bool). length (edges_in g.m p) ≤ plan_limit) (sym is_rival) (plan_few G L.fileable (rival_of G M) (there b e))

      -- its vote and its bytes are the rival's
      module _ (out : List ℕ) {after : List ℕ} {z : ℤ} (W : Voted G plan rival out z after) where
        its_vote : z ≡ vote_of G M (rival_of G M)
        its_vote = W.vote ∙ ap₂ (vote G) same is_rival

        its_bytes : after ≡ onto (plan_bytes G (rival_of G M)) out
        unfolding plan_bytes_by
        its_bytes = W.buffer ∙ ap (λ (p : ℕ → Bool). onto (length (edges_in g.m p) ∷ pair_list G (edges_in g.m p)) out) is_rival

        weighed_by : (b : Bool) → v ≡ cond b verdict.beaten verdict.popular → WeighedBy G M out (cond b (Beaten z) (Popular z)) after
        weighed_by true e =
            let q : verdict.beaten ≡ verdict_of G M = sym e ∙ is_verdict in
            record { reply = ap Beaten its_vote ∙ ap (weighed_as G M) q; buffer = its_bytes ∙ ap (λ w. rival_written G M w out) q }
        weighed_by false e =
            let q : verdict.popular ≡ verdict_of G M = sym e ∙ is_verdict in
            record { reply = ap Popular its_vote ∙ ap (weighed_as G M) q; buffer = its_bytes ∙ ap (λ w. rival_written G M w out) q }

        pub rival_weighed : WeighedBy G M out (cond b (Beaten z) (Popular z)) after
        rival_weighed = weighed_by b e

-- ---- what is kept of the rival, for the pairings
module _ (g : Instance) (L : Loaded g) (plan : List Bool) (M₀ : Plan) (S₀ : Shows (shown_by g) plan M₀) (v : Verdict) (rival : List Bool)
    (R : RivalShown g.m g.sv g.st g.rank_s g.rank_t g.quota_s g.quota_t plan v rival) where
  -- there is one exactly if the verdict found is not strong
  exactly : {r : Bool} → r ≡ not (is_strong v) → (M : Plan) → Shows (shown_by g) plan M → r ≡ not (is_strong (verdict_of (shown_by g) M))
  exactly e M S = e ∙ ap (λ x. not (is_strong x)) (is_verdict g L plan M S v rival R)

  pub unrivalled : (n : ℕ) (es : List ℕ) → v ≡ verdict.strong → RivalFor (shown_by g) plan false rival n es
  unrivalled n es e = record {
    there = exactly (ap (λ x. not (is_strong x)) (sym e));
    flags = λ M S. is_rival g L plan M S v rival R;
    within = λ f. absurd (subst T (sym f) tt);
    listed = λ f. absurd (subst T (sym f) tt);
  }

  not_strong : (b : Bool) → v ≡ cond b verdict.beaten verdict.popular → true ≡ not (is_strong v)
  not_strong true e = ap (λ x. not (is_strong x)) (sym e)
  not_strong false e = ap (λ x. not (is_strong x)) (sym e)

  pub rivalled : (b : Bool) → v ≡ cond b verdict.beaten verdict.popular → (n : ℕ) (es : List ℕ) → Listed g.m rival n es
      → RivalFor (shown_by g) plan true rival n es
  rivalled b e n es l = record {
    there = exactly (not_strong b e);
    flags = λ M S. is_rival g L plan M S v rival R;
    within = λ f. rival_within g L plan M₀ S₀ v rival R b e;
    listed = λ f. l;
  }

-- ---- W-208: the pairings, by whether there is a rival
module _ (g : Instance) (plan rival : List Bool) (n : ℕ) (es : List ℕ) {r : Bool} (R : RivalFor (shown_by g) plan r rival n es)
    (M : Plan) (S : Shows (shown_by g) plan M) where
  abbrev H : model.Instance
  H = shown_by g

  none_by : (x : verdict.Verdict) → false ≡ not (is_strong x) → (d : List ℕ) → d ≡ pairings_written H M x d
  none_by verdict.strong e d = refl
  none_by verdict.popular e d = absurd (subst T (sym e) tt)
  none_by verdict.beaten e d = absurd (subst T (sym e) tt)

  pub none_paired : r ≡ false → (d : List ℕ) → d ≡ pairings_written H M (verdict_of H M) d
  none_paired e d = none_by (verdict_of H M) (sym e ∙ R.there M S) d

  some_by : (x : verdict.Verdict) → true ≡ not (is_strong x) → (d : List ℕ) → onto (pairing_bytes H (on M) (on (rival_of H M))) d ≡ pairings_written H M x d
  some_by verdict.strong e d = absurd (subst T e tt)
  some_by verdict.popular e d = refl
  some_by verdict.beaten e d = refl

  pub some_paired : r ≡ true → (d d' : List ℕ) → d' ≡ onto (pairing_bytes H (flag plan) (flag rival)) d → d' ≡ pairings_written H M (verdict_of H M) d
  some_paired e d d' q =
      q ∙ ap₂ (λ p r. onto (pairing_bytes H p r) d) (fun_ext S.1) (R.flags M S) ∙ some_by (verdict_of H M) (sym e ∙ R.there M S) d
