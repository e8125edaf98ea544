-- A list without a number, entry by entry, from the list's bytes.
use Rattle.std.specs.Prelude.{ℕ, ◌+◌, ◌*◌, ◌/◌, ◌≤◌, ◌<◌, ◌≡◌, ◌≢◌, not, cond, List, [], ◌∷◌, length, drop, get_or, eqb}
use Rattle.std.proofs.Common.{arith, ap, ◌∙◌, length-drop, eq-eqb, ne_eqb}
use Rattle.model.specs.Limits.{entry_width}
use Rattle.model.specs.Roster.{Entry}
use Rattle.model_changes.specs.Changes.{without}
use Rattle.roster_positions.specs.Tables.{entries_in}
use Rattle.roster_positions.proofs.Stamping.{entries_none, entries_cons}

module _ (s : ℕ) (bs : List ℕ) where
  -- the entries of others from the i-th on
  abbrev pub others_from : ℕ → List Entry
  others_from i = without s (entries_in (drop (entry_width * i) bs))

  module _ (i : ℕ) where
    -- the i-th entry
    abbrev entry : Entry
    entry = record { number = get_or bs (entry_width * i) 0; shift = get_or bs (entry_width * i + 1) 0 }

    turn : i < length bs / entry_width → others_from i ≡ cond (not (eqb s entry.number)) (entry ∷ others_from (i + 1)) (others_from (i + 1))
    turn h =
        let e : entry_width * i + 2 ≡ entry_width * (i + 1) = omega arith in
        ap (without s) (entries_cons bs (entry_width * i) (omega arith))
        ∙ ap (λ k. without s (entry ∷ entries_in (drop k bs))) e

    pub other_not : i < length bs / entry_width → s ≡ get_or bs (entry_width * i) 0 → others_from i ≡ others_from (i + 1)
    other_not h e = turn h ∙ ap (λ b. cond (not b) (entry ∷ others_from (i + 1)) (others_from (i + 1))) (eq-eqb s entry.number e)

    pub other_one : i < length bs / entry_width → s ≢ get_or bs (entry_width * i) 0 → others_from i ≡ entry ∷ others_from (i + 1)
    other_one h n = turn h ∙ ap (λ b. cond (not b) (entry ∷ others_from (i + 1)) (others_from (i + 1))) (ne_eqb s entry.number n)

    pub other_none : length bs / entry_width ≤ i → others_from i ≡ []
    other_none h = ap (without s) (entries_none (drop (entry_width * i) bs) (omega (arith, length-drop (entry_width * i) bs)))
