-- The pairs of a held plan as model_desk/History tells them (request W-207): those of a plan that was read are those in its file, a joiner leaves them as
-- they are, a leaver takes the own ones away. And those who leave one after the other, taken together.
use Rattle.std.specs.Prelude.{ℕ, suc, ◌≡◌, refl, Bool, true, false, not, ◌&&◌, ◌||◌, List, [], ◌∷◌, map, T, eqb}
use Rattle.std.proofs.Common.{sym, ap, ◌∙◌}
use Rattle.lists.specs.Sum.{◌∈◌, range}
use Rattle.lists.specs.Keep.{keep_all, keep_cong, keep_keep, map_keep}
use Rattle.model.specs.Instance.{Instance}
use Rattle.model.specs.Reading.{accepted}
use Rattle.model.specs.Roster.{Roster, elem, fits}
use Rattle.model.specs.Edges.{instance_of}
use Rattle.model.specs.Plans.{Plan, on, plans_of}
use Rattle.model.specs.PlanFile.{Named, name_of, edges_in, pair_list, plan_bytes_by, plan_bytes, read_plan}
use Rattle.model_changes.specs.Changes.{join_on, leave_on, carried}
use Rattle.model_desk.specs.History.{pairs_in, file_pairs, less, plan_pairs}
use Rattle.theory_files.specs.Reads.{is_bytes}
use Rattle.theory_files.specs.Chosen.{on_plan_of, edges_in_cong}
use Rattle.theory_files.specs.PlanFiles.{plan_read_write}
use Rattle.theory_files.specs.Carried.{besides, join_plan, leave_plan}

-- ---- in the file
written_pairs : (G : Instance) (M : Plan) → file_pairs (plan_bytes G M) ≡ plan_pairs G M
unfolding plan_bytes_by
written_pairs G M = go (edges_in G.m (on M))
  where
    go : (es : List ℕ) → pairs_in (pair_list G es) ≡ map (name_of G) es
    go [] = refl
    go (e ∷ es) = ap (λ ps. name_of G e ∷ ps) (go es)

-- the pairs of a plan that was read are those in its file, in the file's order
pub read_pairs : (G : Instance) (file : List ℕ) (M : Plan) → T (is_bytes file) → read_plan G file ≡ accepted M → plan_pairs G M ≡ file_pairs file
read_pairs G file M is_b e = sym (written_pairs G M) ∙ ap file_pairs (plan_read_write G file M is_b e)

-- plans with the same bytes have the same pairs
same_pairs : (G H : Instance) (M N : Plan) → plan_bytes G M ≡ plan_bytes H N → plan_pairs G M ≡ plan_pairs H N
same_pairs G H M N e = sym (written_pairs G M) ∙ ap file_pairs e ∙ written_pairs H N

-- ---- those who left
-- where nobody left, all pairs stay
pub less_none : (ps : List Named) → less [] ps ≡ ps
less_none ps = keep_all (λ p. true) ps (λ p m. tt)

-- one more who left: that one's pairs go first, then those of the others
pub less_more : (s : ℕ) (gone : List ℕ) (ps : List Named) → less (s ∷ gone) ps ≡ less gone (less (s ∷ []) ps)
less_more s gone ps = sym (keep_keep (λ p. not (elem p.surveyor gone)) (λ p. not (elem p.surveyor (s ∷ []))) ps
    ∙ keep_cong (λ p. not (elem p.surveyor (s ∷ [])) && not (elem p.surveyor gone)) (λ p. not (elem p.surveyor (s ∷ gone))) ps
    (λ p m. both (eqb p.surveyor s) (elem p.surveyor gone)))
  where
    both : (a b : Bool) → not (a || false) && not b ≡ not (a || b)
    both true b = refl
    both false b = refl

besides_pairs : (G : Instance) (M : Plan) (s : ℕ) → plan_pairs G (besides G M s) ≡ less (s ∷ []) (plan_pairs G M)
besides_pairs G M s =
    ap (map (name_of G)) (edges_in_cong G.m (on (besides G M s)) (λ e. on M e && stays (name_of G e)) (λ e h.
    on_plan_of G.m (λ e. on M e && not (eqb (suc (G.sv e)) s)) e h ∙ ap (λ b. on M e && not b) (or_nothing (eqb (suc (G.sv e)) s)))
    ∙ sym (keep_keep (λ e. stays (name_of G e)) (on M) (range 0 G.m)))
    ∙ map_keep (name_of G) stays (edges_in G.m (on M))
  where
    stays : Named → Bool
    stays p = not (elem p.surveyor (s ∷ []))

    or_nothing : (b : Bool) → b ≡ b || false
    or_nothing true = refl
    or_nothing false = refl

-- ---- the calls
module _ (r : Roster) (ok : T (fits r)) (M : Plan) (m : M ∈ plans_of (instance_of r)) (h : Roster) where
  -- the plan carried over
  abbrev kept : Plan
  kept = carried (instance_of r) (instance_of h) M

  -- a joiner leaves the held plan's pairs as they are
  pub join_pairs : (q : ℕ) (file : List ℕ) → T (is_bytes file) → join_on r q file ≡ accepted h → plan_pairs (instance_of h) kept ≡ plan_pairs (instance_of r) M
  join_pairs q file is_b e = same_pairs (instance_of h) (instance_of r) kept M (join_plan r ok M m h q file is_b e).0

  -- a leaver takes the own pairs out of the held plan, and no other
  pub leave_pairs : (s : ℕ) → leave_on r s ≡ accepted h → plan_pairs (instance_of h) kept ≡ less (s ∷ []) (plan_pairs (instance_of r) M)
  leave_pairs s e = same_pairs (instance_of h) (instance_of r) kept (besides (instance_of r) M s) (leave_plan r ok M m h s e).0
      ∙ besides_pairs (instance_of r) M s
