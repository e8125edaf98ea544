-- The joiner's list, read as a file of its own: the roster with the joiner, or the list's refusal, or that of a stand's list.
use Rattle.std.specs.Prelude.{Result}
use Rattle.std.specs.Prelude.{ℕ, ◌+◌, ◌≤◌, ◌≡◌, Bool, false, List, length, drop, T}
use Rattle.std.proofs.Common.{zero-le, arith, sym, ap, ◌∙◌, subst, drop_of_length-le, drop-cons, lt-ltb, le-ltb}
use Rattle.std.proofs.Math.Decide.{dec_lt}
use Rattle.std.proofs.Math.Logic.{by_cases}
use Rattle.lists.specs.Test.{given}
use Rattle.model.specs.Limits.{list_limit}
use Rattle.model.specs.Reading.{Reading, accepted, refused, whole}
use Rattle.model.specs.Roster.{Entry, has}
use Rattle.model.specs.RosterFile.{shifted, read_list}
use Rattle.theory_files.specs.Reads.{is_bytes}
use Rattle.theory_files.specs.Layouts.{in_shifted}
use Rattle.theory_files.specs.Sections.{list}
use Rattle.roster_reading.specs.Place.{place_refused, place_read}
use Rattle.roster_reading.specs.Slot.{at_slot}
use Rattle.roster_reading.specs.Row.{Marked, Shows}
use Rattle.answers.specs.declared.Refusal.{Refusal}
use Rattle.roster_parts.specs.declared.RosterBytes.{RosterBytes}
use Rattle.roster_parts.specs.Gives.{Refuses}
use Rattle.roster_with.specs.Entering.{marks_in}
use Rattle.roster_with.specs.WithJoiner.{end_at, long_from, joined_bytes}
use Rattle.roster_with.specs.Enters.{EntersIf, EntersBy}

-- the marks of a list
abbrev pub marks_of : List Entry → ℕ → Bool
marks_of xs k = has (at_slot k) xs

-- what is made with a list that was read, with no bytes behind it, or was not
abbrev pub MadeBy : List ℕ → (ns nt quota : ℕ) (file : List ℕ) → Reading (List Entry) → Result RosterBytes Refusal → Type 0
MadeBy f ns nt q file (accepted xs) c =
    EntersIf false (long_from (marks_of xs) f nt 1 (end_at f ns nt + 2)) (joined_bytes f ns nt (end_at f ns nt) q file (marks_of xs)) c
MadeBy f ns nt q file (refused n) c = Refuses n c

-- ---- each answer of the list's reader
module _ (f : List ℕ) (ns nt q : ℕ) (file : List ℕ) where
  abbrev read : Reading (List Entry × List ℕ)
  read = read_list shifted list_limit nt file

  abbrev Made : Result RosterBytes Refusal → Type 0
  Made c = MadeBy f ns nt q file (whole read) c

  module _ {s : Reading ℕ} {after : List Bool} (m : Marked (read_list shifted list_limit nt) Shows file 0 s after) (c : Result RosterBytes Refusal) where
    pub list_refused : {n : ℕ} → s ≡ refused n → Refuses n c → Made c
    list_refused {n} e r =
        let d : read ≡ refused n = place_refused file read (sym e ∙ m.place) in
        subst (λ x. MadeBy f ns nt q file (whole x) c) (sym d) r

    pub list_read_law : T (is_bytes file) → {end : ℕ} → s ≡ accepted end → EntersBy f ns nt q file end (marks_in after) c → Made c
    list_read_law is_b {end} e r =
        given (place_read (list shifted in_shifted list_limit nt) file 0 is_b zero-le (sym e ∙ m.place)) (λ x.
        by_cases (dec_lt end (length file))
        (λ h. made (x.is ∙ ap (λ z. accepted (x.value, z)) (drop-cons file end 0 h))
        (subst (λ b. EntersIf b long bytes c) (lt-ltb end (length file) h) r))
        (λ h. let n : length file ≤ end = omega (arith, h) in
        made (x.is ∙ ap (λ z. accepted (x.value, z)) (drop_of_length-le file n))
        (subst (λ g. EntersIf false (long_from g f nt 1 (end_at f ns nt + 2)) (joined_bytes f ns nt (end_at f ns nt) q file g) c)
        (λ k j. m.marks x.value (drop end file) x.is j k) (subst (λ b. EntersIf b long bytes c) (le-ltb end (length file) n) r))))
      where
        long : Bool
        long = long_from (marks_in after) f nt 1 (end_at f ns nt + 2)

        bytes : List ℕ
        bytes = joined_bytes f ns nt (end_at f ns nt) q file (marks_in after)

        made : {y : Reading (List Entry × List ℕ)} → read ≡ y → MadeBy f ns nt q file (whole y) c → Made c
        made {y} d h = subst (λ z. MadeBy f ns nt q file (whole z) c) (sym d) h
