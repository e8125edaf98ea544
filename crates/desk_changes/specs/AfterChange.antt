-- What is answered and written behind a change: the finder on the changed desk, or the change's refusal.
use Rattle.std.specs.Prelude.{ℕ, ◌≤◌, ◌<◌, ◌≡◌, refl, Bool, true, false, List, T}
use Rattle.std.proofs.Common.{arith, sym, ap, ◌∙◌, subst}
use Rattle.model.specs.Reading.{Reading, accepted, refused}
use Rattle.model.specs.Roster.{Roster, fits}
use Rattle.model.specs.RosterFile.{read_roster}
use Rattle.model_changes.specs.Changes.{join_on, leave_on}
use Rattle.theory_files.specs.Reads.{is_bytes}
use Rattle.theory_files.specs.ByLists.{Storable}
use Rattle.theory_files.specs.Joined.{join_storable}
use Rattle.theory_files.specs.Departed.{leave_storable}
use Rattle.answers.specs.RefusalCases.{code_of}
use Rattle.desk_files.specs.Held.{roster_bytes}
use Rattle.desk_files.specs.declared.Files.{Files}
use Rattle.desk_find.specs.Outcomes.{short, Kept}
use Rattle.desk_stored.specs.declared.Change.{Change}
use Rattle.desk_stored.specs.Changing.{ToRoster, ChangedFor, ChangeFor, ChangedTo}
use Rattle.desk_find.specs.declared.Searched.{Searched}
use Rattle.desk_find.specs.Finding.{Settled, Done}

pub record FoundOn (c : Change) (room : ℕ) (l p v : List ℕ) (r : Searched) (l' p' v' : List ℕ) : Type 0 where
  pub refuses : 0 < code_of c.answer → (r.files ≡ c.files) × Kept (code_of c.answer) l p v r.outcome l' p' v'
  pub finds : code_of c.answer ≤ 0 → Done c.files room l p v r l' p' v'

-- a change made of the desk's files, and the finder on them
pub record ChangeDone (d : Files) (change : ToRoster) (s room : ℕ) (l p v : List ℕ) (r : Searched) (l' p' v' : List ℕ) : Type 0 where
  pub made : Change
  pub changed : ChangedTo d (short room l p v) change s made
  pub found : FoundOn made room l p v r l' p' v'

-- with the answer of the test of the buffers' sizes
pub change_done : {d : Files} {change : ToRoster} {s room : ℕ} {l p v : List ℕ} {r : Searched} {l' p' v' : List ℕ} {b : Bool} {c : Change}
    → b ≡ short room l p v → ChangedTo d b change s c → FoundOn c room l p v r l' p' v' → ChangeDone d change s room l p v r l' p' v'
change_done {d} {change} {s} {c = c} is changed found =
    record { made = c; changed = subst (λ b. ChangedTo d b change s c) is changed; found = found }

-- a joiner's list is bytes
abbrev pub JoinDone : Files → (q : ℕ) (file : List ℕ) (room : ℕ) (l p v : List ℕ) → Searched → (l' p' v' : List ℕ) → Type 0
JoinDone d q file room l p v r l' p' v' = T (is_bytes file) × ChangeDone d (λ R. join_on R q file) 0 room l p v r l' p' v'

-- ---- a change that is not refused settles what the finder behind it asks: the changed roster is accepted, and the buffers have their sizes
module _ (d : Files) (change : ToRoster) (storable : (R H : Roster) → T (fits R) → change R ≡ accepted H → Storable H) (s : ℕ) (c : Change) where
  not_now : {n : ℕ} {A : Type 0} → code_of c.answer ≤ 0 → 0 < n → code_of c.answer ≡ n → A
  not_now z h e = absurd (let z : ⊥ = omega arith in z)

  pub changed_settled : (room : ℕ) (l p v : List ℕ) {b : Bool} → b ≡ short room l p v → ChangedTo d b change s c → code_of c.answer ≤ 0
      → Settled c.files room l p v
  changed_settled room l p v {b} is C z = go (read_roster (roster_bytes d)) b is C
    where
      taken : (R : Roster) → T (fits R) → (x : Reading Roster) → change R ≡ x → ChangedFor R x s d c
          → (H : Roster) × (read_roster (roster_bytes c.files) ≡ accepted H)
      taken R f (refused n) e (h, u) = not_now z h u.0
      taken R f (accepted H) e (q, M) = (H, ap read_roster M.bytes ∙ (storable R H f e).1)

      go : (x : Reading Roster) (b : Bool) → b ≡ short room l p v → ChangeFor x b change s d c → Settled c.files room l p v
      go (refused n) b is u = not_now z (omega arith) u.0
      go (accepted R) true is u = not_now z (omega arith) u.0
      go (accepted R) false is (f, w, u) = (taken R f (change R) refl u, sym is)

pub join_settled : (d : Files) (q : ℕ) (file : List ℕ) → T (is_bytes file) → (c : Change) (room : ℕ) (l p v : List ℕ) {b : Bool} → b ≡ short room l p v
    → ChangedTo d b (λ R. join_on R q file) 0 c → code_of c.answer ≤ 0 → Settled c.files room l p v
join_settled d q file is_b c = changed_settled d (λ R. join_on R q file) (λ R H f e. join_storable R q file H is_b e f) 0 c

pub leave_settled : (d : Files) (n : ℕ) (c : Change) (room : ℕ) (l p v : List ℕ) {b : Bool} → b ≡ short room l p v
    → ChangedTo d b (λ R. leave_on R n) n c → code_of c.answer ≤ 0 → Settled c.files room l p v
leave_settled d n c = changed_settled d (λ R. leave_on R n) (λ R H f e. leave_storable R n H e f) n c
