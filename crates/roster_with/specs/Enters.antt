-- What becomes of a joiner whose list is read: the roster with the joiner, or the refusal of bytes behind the list, or that of a stand's list.
use Rattle.std.specs.Prelude.{Result}
use Rattle.std.specs.Prelude.{ℕ, ◌+◌, ◌≡◌, Bool, true, false, List, length, ltb}
use Rattle.std.proofs.Common.{sym, subst}
use Rattle.answers.specs.declared.Refusal.{Refusal}
use Rattle.roster_parts.specs.declared.RosterBytes.{RosterBytes}
use Rattle.roster_parts.specs.Growth.{Holds}
use Rattle.roster_parts.specs.Gives.{Makes, Refuses}
use Rattle.roster_with.specs.WithJoiner.{end_at, long_from, joined_bytes}

-- bytes are left behind the list, or some stand's list would be too long, or the joiner enters the roster
abbrev pub EntersIf : (behind long : Bool) (bytes : List ℕ) → Result RosterBytes Refusal → Type 0
EntersIf true long bytes c = Refuses 9 c
EntersIf false true bytes c = Refuses 2 c
EntersIf false false bytes c = Makes (Holds bytes) c

-- the list is read up to a place of its file
abbrev pub EntersBy : List ℕ → (ns nt quota : ℕ) (file : List ℕ) (read : ℕ) (marks : ℕ → Bool) → Result RosterBytes Refusal → Type 0
EntersBy f ns nt q file read marks c =
    EntersIf (ltb read (length file)) (long_from marks f nt 1 (end_at f ns nt + 2)) (joined_bytes f ns nt (end_at f ns nt) q file marks) c

-- by the two tests, and the place behind the surveyors' lists
pub enters : (f : List ℕ) (ns nt q : ℕ) (file : List ℕ) (read : ℕ) (marks : ℕ → Bool) (end : ℕ) → end ≡ end_at f ns nt
    → (behind long : Bool) → ltb read (length file) ≡ behind → long ≡ long_from marks f nt 1 (end + 2) → (c : Result RosterBytes Refusal)
    → EntersIf behind long (joined_bytes f ns nt end q file marks) c → EntersBy f ns nt q file read marks c
enters f ns nt q file read marks end e behind long d l c h =
    subst (λ b. EntersIf b (long_from marks f nt 1 (end_at f ns nt + 2)) (joined_bytes f ns nt (end_at f ns nt) q file marks) c) (sym d)
    (subst (λ k. EntersIf behind (long_from marks f nt 1 (k + 2)) (joined_bytes f ns nt k q file marks) c) e
    (subst (λ b. EntersIf behind b (joined_bytes f ns nt end q file marks) c) l h))
