-- Proposals (W-207): what they answer, and what the desk holds behind them. A proposal is read against the roster held, and votes with the held plan,
-- the proposal first.
use Rattle.std.specs.Prelude.{ℕ, ◌≤◌, ◌≡◌, refl, Bool, true, ◌||◌, List, length, take, ℤ, T, ltb}
use Rattle.std.proofs.Common.{le_refl, sym, ap, ap₂, ◌∙◌, subst}
use Rattle.std.proofs.Math.Path.{fun_ext}
use Rattle.lists.specs.Test.{given}
use Rattle.model.specs.Limits.{plan_size, pairing_size}
use Rattle.model.specs.Reading as reading
use Rattle.model.specs.Reading.{Reading, accepted}
use Rattle.model.specs.Roster.{Roster}
use Rattle.model.specs.RosterFile.{read_roster}
use Rattle.model.specs.Edges.{instance_of}
use Rattle.model.specs.Instance.{Instance}
use Rattle.model.specs.Plans.{Plan, on, vote_of}
use Rattle.model.specs.PlanFile.{read_plan}
use Rattle.model.specs.Vote.{vote}
use Rattle.model.specs.Facing.{pairing_bytes}
use Rattle.model_desk.specs.Compare.{both_pairings}
use Rattle.model_desk.specs.Desk.{said, refusal, both_votes, propose, proposal_answer, with_proposal, proposal_pairings, pairings_onto, answer_on}
use Rattle.model_desk.specs.Desk.{lent_on, desk_on}
use Rattle.theory_instance.specs.Lawful.{Matching}
use Rattle.theory_finder.specs.Choices.{chosen}
use Rattle.theory_files.specs.Reads.{is_bytes}
use Rattle.theory_files.specs.PlanFiles.{plan_accepted_size}
use Rattle.theory_verdict.specs.Plans.{plan_matching}
use Rattle.arrays.specs.ArrayInstance.{flag}
use Rattle.answers.specs.declared.Refusal.{Refusal}
use Rattle.answers.specs.RefusalCases.{number_of}
use Rattle.instance.specs.Decoded.{shown_by}
use Rattle.plan_reader.specs.Planned.{Planned}
use Rattle.compare.specs.TwoPlans.{Paired}
use Rattle.desk_loaded.specs.declared.OnDesk.{OnDesk}
use Rattle.model_desk.specs.HeldFiles.{held_plan, held_proposal, beside}
use Rattle.desk_loaded.specs.OnDesk.{LoadedFrom, its_plan}
use Rattle.desk_files.specs.declared.Files.{Files}
use Rattle.desk_files.specs.Held.{roster_bytes, plan_bytes, held_of, of_plan}
use Rattle.desk_files.specs.Replies.{ProposalIn, Replied}
use Rattle.desk_files.specs.State.{pass_answer, pass_lent, pass_desk, roster_held_law, plan_held_law, passed, passes, state_is, other}

-- ---- a proposal, with a roster and a plan held
module _ (d : Files) (file f k : List ℕ) {l : OnDesk}
    (F : LoadedFrom (roster_bytes d) (plan_bytes d) true (ltb (length f) pairing_size || ltb (length k) pairing_size) 0 l) where
  abbrev G : Instance
  G = shown_by l.g

  answers : (R : Roster) (M : Plan) (y : Reading Plan) → read_plan (instance_of R) file ≡ y
      → proposal_answer (instance_of R) M y ≡ answer_on chosen (held_proposal R M (other d R)) (propose file f k)
  answers R M y e = ap (proposal_answer (instance_of R) M) (sym e)
      ∙ of_plan (refusal 14) (λ r M. proposal_answer (instance_of r) M (read_plan (instance_of r) file)) R M (other d R)

  holds : (R : Roster) (M : Plan) (y : Reading Plan) → read_plan (instance_of R) file ≡ y
      → with_proposal (held_proposal R M (other d R)) R M y ≡ desk_on (held_proposal R M (other d R)) (propose file f k)
  holds R M y e =
      let h = held_proposal R M (other d R) in
      ap (with_proposal h R M) (sym e) ∙ of_plan h (λ r M. with_proposal h r M (read_plan (instance_of r) file)) R M (other d R)

  lends : (R : Roster) (M : Plan) (y : Reading Plan) → read_plan (instance_of R) file ≡ y
      → pairings_onto (propose file) (proposal_pairings (instance_of R) M y) f k ≡ lent_on chosen (held_proposal R M (other d R)) (propose file f k)
  lends R M y e = ap (λ y. pairings_onto (propose file) (proposal_pairings (instance_of R) M y) f k) (sym e)
      ∙ of_plan (propose file f k) (λ r M. pairings_onto (propose file) (proposal_pairings (instance_of r) M (read_plan (instance_of r) file)) f k) R M (other d R)

  -- the held plan, as it is read against the roster held
  pub held_planned : Planned l.g l.plan.chosen l.plan.n l.plan.edges
  held_planned = given (its_plan (le_refl 0) F) (λ (R, M, a, b).
      let P = (F.planned R a tt M b).0 in
      record {
        matching = subst (Matching G) (sym (fun_ext P.flags)) (plan_matching G (F.instance R a).0.lawful P.within);
        listed = P.listed;
      })

  pub propose_refused : (n : ℕ) → read_plan G file ≡ reading.refused n → Replied d (propose file f k) (refusal n) (propose file f k) d
  propose_refused n y = given (its_plan (le_refl 0) F) (λ (R, M, a, b).
      let y = ap (λ G. read_plan G file) (sym (F.instance R a).1) ∙ y in
      passes d (propose file f k) tt tt (state_is d F) (le_refl 0) (held_proposal R M (other d R)) (plan_held_law d R M a b)
      (answers R M (reading.refused n) y) (lends R M (reading.refused n) y) (holds R M (reading.refused n) y) refl)

  -- the file's plan N, by its flags, and the votes of both plans
  module _ (N : Plan) (y : read_plan G file ≡ accepted N) (p : List Bool) (same : flag p ≡ on N) where
    pub proposal_small : T (is_bytes file) → length file ≤ plan_size
    proposal_small is_b = plan_accepted_size G file N is_b y

    pub propose_taken : {v w : ℤ} {f' k' : List ℕ} → v ≡ vote_of G p l.plan.chosen → w ≡ vote_of G l.plan.chosen p → Paired (both_pairings G p l.plan.chosen) f k f' k'
        → (d' : Files) → ProposalIn file true d d' → Replied d (propose file f k) (said (both_votes v w)) (propose file f' k') d'
    propose_taken i j P d' ((m, r), (n, q), g) = given (its_plan (le_refl 0) F) (λ (R, M, a, b).
        let is = (F.instance R a).1 in
        let y = ap (λ G. read_plan G file) (sym is) ∙ y in
        let held = fun_ext (F.planned R a tt M b).0.flags in
        let s = passed d (propose file f k) tt tt (state_is d F) (le_refl 0) in
        let h = held_proposal R M (other d R) in
        record {
          answer = ap₂ (λ v w. said (both_votes v w)) i j ∙ ap₂ (λ x z. said (both_votes (vote G x z) (vote G z x))) same held
              ∙ ap (λ G. said (both_votes (vote_of G N M) (vote_of G M N))) is ∙ answers R M (accepted N) y
              ∙ ap (λ h. answer_on chosen h (propose file f k)) (sym (plan_held_law d R M a b)) ∙ pass_answer (held_of d) (propose file f k) s;
          lent = ap₂ (propose file) P.first P.second
              ∙ ap₂ (λ x z. pairings_onto (propose file) (pairing_bytes G x z, pairing_bytes G z x) f k) same held
              ∙ ap (λ G. pairings_onto (propose file) (both_pairings G N M) f k) is ∙ lends R M (accepted N) y
              ∙ ap (λ h. lent_on chosen h (propose file f k)) (sym (plan_held_law d R M a b)) ∙ pass_lent (held_of d) (propose file f k) s;
          desk = roster_held_law d' R (ap read_roster (ap₂ take m r) ∙ a)
              ∙ ap₂ (λ g q. beside g (held_plan R (read_plan (instance_of R) q))) g (ap₂ take n q)
              ∙ ap (λ y. beside file (held_plan R y)) b ∙ ap (held_proposal R M) y ∙ holds R M (accepted N) y
              ∙ ap (λ h. desk_on h (propose file f k)) (sym (plan_held_law d R M a b)) ∙ pass_desk (held_of d) (propose file f k) s;
          stored = ((m, r), (n, q), g);
        })
