-- The theorems that rest on specs/LeastVote.antt. They stand here so that a wrong definition there is refused by a proof.
use Rattle.std.specs.Prelude.{ℕ, ◌<◌, ◌≡◌, refl, List, T}
use Rattle.std.proofs.Math.Path.{ap}
use Rattle.std.proofs.Math.ListN.{get_or}
use Rattle.lists.specs.Sum.{◌∈◌}
use Rattle.model.specs.Limits.{empty_rank}
use Rattle.model.specs.Roster.{Roster, fits}
use Rattle.model.specs.Edges.{instance_of}
use Rattle.model.specs.Instance.{Instance}
use Rattle.model.specs.Vote.{vote}
use Rattle.model.specs.Plans.{Plan, on, plans_of, vote_of}
use Rattle.model.specs.Ranges.{Range, place_s, place_t, ranked, Least}
use Rattle.theory_instance.specs.Lawful.{Matching}
use Rattle.theory_instance.specs.Within.{within_matching}
use Rattle.theory_files.specs.Chosen.{plan_within}
use Rattle.theory_files.specs.RosterInstance.{lawful}
use Rattle.theory_ranges.proofs.Falls.{vote_alike}
use Rattle.theory_ranges.specs.Worst.{Fit, entry_s, entry_t, ranked_by, worst_choice_law, choice_placed}
use Rattle.theory_ranges.proofs.Worst.{worst_least}
use Rattle.theory_ranges.specs.RosterPlaces.{place_s_law, place_t_law}
use Rattle.theory_ranges.specs.LeastVote.{choice_of}

module _ (r : Roster) (ok : T (fits r)) (M N : Plan) (mM : M ∈ plans_of (instance_of r)) (mN : N ∈ plans_of (instance_of r)) where
  abbrev G : Instance
  G = instance_of r

  match_m : Matching G (on M)
  match_m = within_matching G (on M) (lawful r ok) (plan_within G mM)

  match_n : Matching G (on N)
  match_n = within_matching G (on N) (lawful r ok) (plan_within G mN)

  -- ranks by places in the roster's lists are ranks by places among its edges
  pub ranked_vote : (ws : List ℕ) → ((k : ℕ) → get_or ws k 0 < empty_rank) → vote_of (ranked r ws) M N ≡ vote (ranked_by G ws) (on M) (on N)
  unfolding ranked instance_of
  ranked_vote ws small = vote_alike G (on M) (on N) match_m match_n (λ e. get_or ws (entry_s G e) 0) (λ e. get_or ws (entry_t G e) 0)
      (λ e. get_or ws (place_s r (G.sv e) (G.st e) (G.sh e)) 0) (λ e. get_or ws (place_t r (G.sv e) (G.st e) (G.sh e)) 0)
      (λ e l. small (entry_s G e)) (λ e l. small (entry_t G e))
      (λ e l. small (place_s r (G.sv e) (G.st e) (G.sh e))) (λ e l. small (place_t r (G.sv e) (G.st e) (G.sh e)))
      ((λ d l a b. ap (λ k. get_or ws k 0) (place_s_law r ok d l)), λ d l a b. ap (λ k. get_or ws k 0) (place_s_law r ok d l))
      ((λ d l a b. ap (λ k. get_or ws k 0) (place_t_law r ok d l)), λ d l a b. ap (λ k. get_or ws k 0) (place_t_law r ok d l))

  pub least_holds : (rs : List Range) → Fit rs → Least r rs M N (vote_of (ranked r (choice_of r M N rs)) M N) (choice_of r M N rs)
  least_holds rs fit =
      let ours = choice_of r M N rs in
      let c = worst_choice_law G (on M) (on N) rs fit in
      record {
        choice = c;
        reached = refl;
        least = λ ws d. rw (ranked_vote ours (choice_placed G (on M) (on N) rs fit ours c), ranked_vote ws (choice_placed G (on M) (on N) rs fit ws d))
            (worst_least G (on M) (on N) rs fit ws d match_m match_n);
      }
