-- The theorems that rest on specs/Promise.antt. They stand here so that a wrong definition there is refused by a proof.
use Rattle.std.specs.Prelude.{ℕ, ◌≤◌, ◌≡◌, Bool, true, false, not, List, [], ◌∷◌, length, ℤ, pos, ◌≤ℤ◌, ◌<ℤ◌}
use Rattle.std.proofs.Math.Path.{refl}
use Rattle.std.proofs.Common.{sym, ◌∙◌, subst}
use mathlib.Core.List.Memᴰ
use Rattle.std.proofs.Math.ListN.{length-map}
use Rattle.std.specs.Int.Signed.{≤ℤ_refl}
use Rattle.std.proofs.Math.Dec.{T}
use Rattle.lists.specs.Sum.{◌∈◌}
use Rattle.lists.specs.Integer.{<→≤}
use Rattle.model.specs.Roster.{Roster, fits}
use Rattle.model.specs.Edges.{instance_of}
use Rattle.model.specs.Instance.{Instance}
use Rattle.model.specs.Plans as P
use Rattle.model.specs.Plans.{Plan, on, plans_of, same_plan, Verdict, is_strong, vote_of, verdict_of, strong_plans, strong_count, Beaten}
use Rattle.model.specs.PlanFile.{plan_bytes}
use Rattle.model.specs.Reduction.{steps_of}
use Rattle.model.specs.Finder as F
use Rattle.model.specs.Finder.{Record, diary_of, left_of, candidate_of, Rival, Found, found, is_empty, finder_of, hands_back, PairOf, pair_in}
use Rattle.model_desk.specs.Desk.{onto}
use Rattle.theory_verdict.specs.Rival.{rival_of}
use Rattle.theory_verdict.specs.Meaning.{verdict_means}
use Rattle.theory_files.specs.RosterInstance.{lawful}
use Rattle.theory_finder.specs.FoundPlan.{Answers, candidate_plan}
use Rattle.theory_finder.specs.DiaryPairs.{diary_pairs, diary_once, diary_all}
use Rattle.theory_finder.specs.Demand3.{rival_holds, only_popular, unblocked, demand3}
use Rattle.finder_candidate.specs.FoundBuffers.{left_after, plan_after, rival_after, answer_for}
use Rattle.finder.specs.Promise.{Ending, PlanWritten, Promise, RivalWritten, answer, finds, is_none, is_plan, named, steps_are}

plan_back : (n : ℕ) (x : Found) → is_plan (answer_for n x) ≡ hands_back x
plan_back n (F.plan M) = refl
plan_back n (F.left es) = refl
plan_back n (F.rivalled M N w) = refl

none_back : (n : ℕ) (x : Found) → is_none (answer_for n x) ≡ not (hands_back x)
none_back n (F.plan M) = refl
none_back n (F.left es) = refl
none_back n (F.rivalled M N w) = refl

module _ (r : Roster) (ok : T (fits r)) where
  abbrev G : Instance
  G = instance_of r

  abbrev C : Plan
  C = candidate_of G

  diary_length : length (diary_of G) ≡ length (steps_of G)
  unfolding diary_of
  diary_length = length-map (steps_of G) (F.record_of G)

  -- a candidate that is not strong has the named rival
  rivalled_by : (w : ℤ) (l p v : List ℕ) → strong_plans G ≡ [] → left_of G ≡ [] → w ≡ vote_of G C (named r) → T (not (is_strong (verdict_of G C)))
      → RivalWritten r w l p v l (onto (plan_bytes G C) p) (onto (plan_bytes G (named r)) v)
  rivalled_by w l p v s n e t = record {
    no_strong = s;
    none_left = n;
    candidate_bytes = refl;
    rival_bytes = refl;
    left_kept = refl;
    rival = R;
    vote_is = e;
    at_most_zero = subst (λ z. z ≤ℤ pos 0) (sym e) (low (verdict_of G C) refl t);
    below_zero = (
      (λ b. (named r, R.in_quotas, subst (λ z. z <ℤ pos 0) e b)),
      (λ b. subst (λ z. z <ℤ pos 0) (sym e) (R.wins ((verdict_means G C (lawful r ok) (candidate_plan G (lawful r ok)) P.beaten).1 b))),
    );
  }
    where
      R : Rival G C (named r)
      R = rival_holds r ok C (candidate_plan G (lawful r ok)) t

      low : (x : Verdict) → verdict_of G C ≡ x → T (not (is_strong x)) → vote_of G C (named r) ≤ℤ pos 0
      low P.strong q t = absurd t
      low P.popular q t = subst (λ z. z ≤ℤ pos 0) (sym (R.draws q)) (≤ℤ_refl (pos 0))
      low P.beaten q t = <→≤ (R.wins q)

  -- the candidate, where it is the only strongly popular plan
  candidate_by : (l p v : List ℕ) → strong_plans G ≡ C ∷ [] → PlanWritten r l p v l (onto (plan_bytes G C) p) v
  candidate_by l p v e = record {
    plan = C;
    strong = e;
    only = only_popular r ok C here;
    unblocked = unblocked r ok C here;
    plan_bytes_law = refl;
    left_kept = refl;
    rival_kept = refl;
  }
    where
      here : C ∈ strong_plans G
      here = subst (λ Ms. C ∈ Ms) (sym e) (Memᴰ.head refl)

  module _ (d : List Record) (l p v : List ℕ) where
    abbrev Ends : Found → Type 0
    Ends x = Ending r (answer_for (length (steps_of G)) x) l p v (left_after G x l) (plan_after G x p) (rival_after G x v)

    ends : Answers G (finds r ok) → Ends (finds r ok)
    unfolding finder_of
    ends = by_left (is_empty (left_of G))
      where
        by_verdict : (x : Verdict) → verdict_of G C ≡ x → Answers G (found G (rival_of G) x) → Ends (found G (rival_of G) x)
        by_verdict P.strong q e = candidate_by l p v e
        by_verdict P.popular q (e, n, c, w) = rivalled_by (vote_of G C (named r)) l p v e n refl (subst (λ x. T (not (is_strong x))) (sym q) tt)
        by_verdict P.beaten q (e, n, c, w) = rivalled_by (vote_of G C (named r)) l p v e n refl (subst (λ x. T (not (is_strong x))) (sym q) tt)

        by_left : (b : Bool) → Answers G (elim b as (λ b. Found) [ true ↦ found G (rival_of G) (verdict_of G C) | false ↦ F.left (left_of G) ])
            → Ends (elim b as (λ b. Found) [ true ↦ found G (rival_of G) (verdict_of G C) | false ↦ F.left (left_of G) ])
        by_left true a = by_verdict (verdict_of G C) refl a
        by_left false (e, x, y) = (e, y, refl, refl, refl, refl)

    -- the model's finder keeps the promise: its answer, and the four buffers as it leaves them
    pub promised : Promise r (answer r ok) d l p v (onto (diary_of G) d) (left_after G (finds r ok) l) (plan_after G (finds r ok) p) (rival_after G (finds r ok) v)
    promised = let D = demand3 r ok (rival_of G) in record {
      steps = steps_are (length (steps_of G)) (finds r ok) ∙ sym diary_length;
      diary = refl;
      pairs = D.pairs;
      once = D.once;
      few = subst (λ n. n ≤ G.m) (sym diary_length) D.few;
      record_pairs = diary_pairs r ok;
      record_once = diary_once r ok;
      all_taken = diary_all r ok;
      one = plan_back (length (steps_of G)) (finds r ok) ∙ D.one;
      zero = none_back (length (steps_of G)) (finds r ok) ∙ D.none;
      ending = ends D.answers;
    }
