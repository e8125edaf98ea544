-- Old season files (W-205), plans: the two conversions undo each other, and both files are the same plan of the held roster.
use Rattle.std.specs.Prelude.{ℕ, ◌≤◌, ◌≡◌, refl, Bool, true, false, not, List, length, T}
use Rattle.std.proofs.Common.{sym, ◌∙◌, subst}
use Rattle.std.proofs.Math.Path.{ap}
use Rattle.std.proofs.Math.Bool.{cond}
use Rattle.lists.specs.Test.{given, T_true, T_false, true_t}
use Rattle.lists.specs.Sum.{◌∈◌}
use Rattle.model.specs.Limits.{plan_size, old_plan_size}
use Rattle.model.specs.Reading.{Reading, accepted, refused, is_bytes}
use Rattle.model.specs.Instance.{Instance}
use Rattle.model.specs.Roster.{Roster}
use Rattle.model.specs.RosterFile.{read_roster}
use Rattle.model.specs.Edges.{instance_of}
use Rattle.model.specs.Plans.{Plan, plans_of}
use Rattle.model.specs.PlanFile.{plain_pair, plan_bytes_by, plan_bytes, read_plan_by, read_plan}
use Rattle.model_desk.specs.Seasons.{only_first_pairs, new_plan, plan_to_new, old_plan, plan_to_old}
use Rattle.theory_files.specs.Reads.{accepted_value, refused-not}
use Rattle.theory_files.specs.Layouts.{in_plain_pair}
use Rattle.theory_files.specs.Rosters.{read_fits}
use Rattle.theory_files.specs.PlanFiles.{Fileable, plan_read_within_by, plan_read_held, plan_read_write_by, plan_write_read_by, plan_size_by_law}
use Rattle.theory_files.specs.PlanFiles.{plan_read_write, plan_read_within, plan_write_read, plan_size_law}
use Rattle.theory_files.specs.RosterInstance.{fileable}

module _ (G : Instance) where
  new_of : (x : Reading Plan) {g : List ℕ} → new_plan G x ≡ accepted g → (M : Plan) × (x ≡ accepted M) × (plan_bytes G M ≡ g)
  new_of (accepted M) e = (M, refl, accepted_value e)
  new_of (refused n) e = refused-not e

  old_of : (x : Reading Plan) {f : List ℕ} → old_plan G x ≡ accepted f
      → (M : Plan) × (x ≡ accepted M) × T (only_first_pairs G M) × (plan_bytes_by plain_pair G M ≡ f)
  old_of (accepted M) {f} e = go (only_first_pairs G M) refl e
    where
      go : (b : Bool) → only_first_pairs G M ≡ b → cond b (accepted (plan_bytes_by plain_pair G M)) (refused 19) ≡ accepted f
          → (N : Plan) × (accepted M ≡ accepted N) × T (only_first_pairs G N) × (plan_bytes_by plain_pair G N ≡ f)
      go true h e = (M, refl, true_t h, accepted_value e)
      go false h e = refused-not e
  old_of (refused n) e = refused-not e

  -- ---- the two files are one plan
  pub record OnePlan (f g : List ℕ) : Type 0 where
    pub plan : Plan
    pub within : plan ∈ plans_of G
    pub old : read_plan_by plain_pair G f ≡ accepted plan
    pub new : read_plan G g ≡ accepted plan
    pub only : T (only_first_pairs G plan)
    pub old_bytes : plan_bytes_by plain_pair G plan ≡ f
    pub new_bytes : plan_bytes G plan ≡ g

  -- no accepted old plan is turned away, and no accepted new one of shift 1 alone
  pub old_plan_taken : (f : List ℕ) (M : Plan) → read_plan_by plain_pair G f ≡ accepted M → plan_to_new G f ≡ accepted (plan_bytes G M)
  unfolding plan_to_new
  old_plan_taken f M e = ap (new_plan G) e

  -- an accepted plan of shift 1 alone goes back to its bytes without shifts
  pub new_plan_taken : (g : List ℕ) (M : Plan) → read_plan G g ≡ accepted M → T (only_first_pairs G M) → plan_to_old G g ≡ accepted (plan_bytes_by plain_pair G M)
  unfolding plan_to_old
  new_plan_taken g M e o = ap (old_plan G) e ∙ ap (λ b. cond b (accepted (plan_bytes_by plain_pair G M)) (refused 19)) (T_true {b = only_first_pairs G M} o)

  -- a plan that is refused keeps its number
  pub old_plan_turned_away : (f : List ℕ) (n : ℕ) → read_plan_by plain_pair G f ≡ refused n → plan_to_new G f ≡ refused n
  unfolding plan_to_new
  old_plan_turned_away f n e = ap (new_plan G) e

  -- a plan with shifts that is refused keeps its number on the way back
  pub new_plan_turned_away : (g : List ℕ) (n : ℕ) → read_plan G g ≡ refused n → plan_to_old G g ≡ refused n
  unfolding plan_to_old
  new_plan_turned_away g n e = ap (old_plan G) e

  -- "It refuses, on the way back, a valid file with another shift (19, ..)"
  pub new_plan_refused : (g : List ℕ) (M : Plan) → read_plan G g ≡ accepted M → T (not (only_first_pairs G M)) → plan_to_old G g ≡ refused 19
  unfolding plan_to_old
  new_plan_refused g M e o = ap (old_plan G) e ∙ ap (λ b. cond b (accepted (plan_bytes_by plain_pair G M)) (refused 19)) (T_false {b = only_first_pairs G M} o)

  module _ (F : Fileable G) (f g : List ℕ) where
    pub plan_new_one : T (is_bytes f) → plan_to_new G f ≡ accepted g → OnePlan f g
    unfolding plan_to_new
    plan_new_one is_b e = given (new_of (read_plan_by plain_pair G f) e) (λ (M, a, w).
        given (plan_read_within_by G plain_pair in_plain_pair f M is_b a) (λ ok. record {
          plan = M;
          within = ok;
          old = a;
          new = ap (read_plan G) (sym w) ∙ plan_write_read G F M ok;
          only = plan_read_held G plain_pair in_plain_pair f M is_b a;
          old_bytes = plan_read_write_by G plain_pair in_plain_pair f M is_b a;
          new_bytes = w;
        }))

    pub plan_old_one : T (is_bytes g) → plan_to_old G g ≡ accepted f → OnePlan f g
    unfolding plan_to_old
    plan_old_one is_b e = given (old_of (read_plan G g) e) (λ (M, a, o, w).
        given (plan_read_within G g M is_b a) (λ ok. record {
          plan = M;
          within = ok;
          old = ap (read_plan_by plain_pair G) (sym w) ∙ plan_write_read_by G plain_pair in_plain_pair F M ok o;
          new = a;
          only = o;
          old_bytes = w;
          new_bytes = plan_read_write G g M is_b a;
        }))

    -- an old plan becomes a new one and goes back to the same bytes
    pub plan_back : T (is_bytes f) → plan_to_new G f ≡ accepted g → plan_to_old G g ≡ accepted f
    plan_back is_b e = given (plan_new_one is_b e) (λ X. new_plan_taken g X.plan X.new X.only ∙ ap accepted X.old_bytes)

    -- a new plan of shift 1 alone becomes an old one, and that the new one again
    pub plan_forth : T (is_bytes g) → plan_to_old G g ≡ accepted f → plan_to_new G f ≡ accepted g
    plan_forth is_b e = given (plan_old_one is_b e) (λ X. old_plan_taken f X.plan X.old ∙ ap accepted X.new_bytes)

    -- what is written has room: "The buffer written to needs .. 193 bytes either way."
    pub plan_new_size : T (is_bytes f) → plan_to_new G f ≡ accepted g → length g ≤ plan_size
    plan_new_size is_b e = given (plan_new_one is_b e) (λ X. subst (λ z. length z ≤ plan_size) X.new_bytes (plan_size_law G F X.plan X.within))

    pub plan_old_size : T (is_bytes g) → plan_to_old G g ≡ accepted f → length f ≤ old_plan_size
    plan_old_size is_b e = given (plan_old_one is_b e) (λ X.
        subst (λ z. length z ≤ old_plan_size) X.old_bytes (plan_size_by_law G plain_pair in_plain_pair F X.plan X.within))

-- ---- against the held roster, an accepted file
module _ (bs : List ℕ) (r : Roster) (is_b : T (is_bytes bs)) (e : read_roster bs ≡ accepted r) where
  abbrev G : Instance
  G = instance_of r

  ready : Fileable G
  ready = fileable r (read_fits bs r is_b e)

  pub old_plan_and_back : (f : List ℕ) (M : Plan) → T (is_bytes f) → read_plan_by plain_pair G f ≡ accepted M
      → (plan_to_new G f ≡ accepted (plan_bytes G M)) × (plan_to_old G (plan_bytes G M) ≡ accepted f)
  old_plan_and_back f M t a = (old_plan_taken G f M a, plan_back G ready f (plan_bytes G M) t (old_plan_taken G f M a))

  pub new_plan_and_forth : (g : List ℕ) (M : Plan) → T (is_bytes g) → read_plan G g ≡ accepted M → T (only_first_pairs G M)
      → (plan_to_old G g ≡ accepted (plan_bytes_by plain_pair G M)) × (plan_to_new G (plan_bytes_by plain_pair G M) ≡ accepted g)
  new_plan_and_forth g M t a o = (new_plan_taken G g M a o, plan_forth G ready (plan_bytes_by plain_pair G M) g t (new_plan_taken G g M a o))
