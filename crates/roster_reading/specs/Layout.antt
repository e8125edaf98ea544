-- The two layouts of a file, by the flag that the code passes on: with shifts an entry is a number and its shift, without it is a number
-- alone, and its shift is 1.
use Rattle.std.specs.Prelude.{ℕ, ◌≤◌, ◌<◌, ◌≡◌, refl, Bool, true, false, List, [], ◌∷◌, length, drop, get_or, T}
use Rattle.std.proofs.Common.{arith, ap, ap₂, get_or-take}
use Rattle.model.specs.Limits.{entry_width}
use Rattle.model.specs.Reading.{Reading, accepted, refused, ◌then◌}
use Rattle.model.specs.Roster.{Entry, Ranking}
use Rattle.model.specs.RosterFile.{Layout, shifted, plain, read_list, read_ranking, entries_bytes, ranking_bytes}
use Rattle.theory_files.specs.Reads.{Reads}
use Rattle.theory_files.specs.Layouts.{Agrees, in_shifted, in_plain}
use Rattle.theory_files.specs.Sections.{list_held, ranking_held, list, ranking}
use Rattle.roster_reading.specs.declared.Entry as code
use Rattle.roster_reading.specs.Check.{Fixed, fixed_byte, fields_of}

-- the code's entry, as the model has it
abbrev pub entry_of : code.Entry → Entry
entry_of x = record { number = x.number; shift = x.shift }

-- the model's layout that the flag stands for
abbrev pub layout_of : (shifts : Bool) → Layout
layout_of true = shifted
layout_of false = plain

-- either layout has what the laws ask of one
abbrev pub agrees_of : (shifts : Bool) → Agrees (layout_of shifts)
agrees_of true = in_shifted
agrees_of false = in_plain

-- the bytes of an entry
abbrev pub width_of : (shifts : Bool) → ℕ
width_of shifts = (agrees_of shifts).width

-- an entry has at least one byte
pub width_some : (shifts : Bool) → 0 < width_of shifts
width_some true = omega arith
width_some false = omega arith

-- an entry has at most two bytes
pub width_most : (shifts : Bool) → width_of shifts ≤ entry_width
width_most true = omega arith
width_most false = omega arith

-- the entry in front of the bytes
abbrev pub entry_from : (shifts : Bool) → List ℕ → Entry
entry_from true bs = record { number = get_or bs 0 0; shift = get_or bs 1 0 }
entry_from false bs = record { number = get_or bs 0 0; shift = 1 }

abbrev first : ℕ → List ℕ → Reading (Entry × List ℕ)
first n rest = accepted (record { number = n; shift = 1 }, rest)

pub fixed_entry : (shifts : Bool) → Fixed (layout_of shifts).field (width_of shifts) (entry_from shifts)
fixed_entry true = record {
  some = width_some true;
  cut = cut;
  whole = whole;
  near = λ bs n h. ap₂ (λ a b. record { number = a; shift = b }) (get_or-take n bs 0 0 (omega arith)) (get_or-take n bs 1 0 (omega arith));
}
  where
    cut : (bs : List ℕ) → length bs < entry_width → shifted.field bs ≡ refused 1
    cut [] h = refl
    cut (x ∷ []) h = refl
    cut (x ∷ y ∷ bs) h = absurd (let z : ⊥ = omega arith in z)

    whole : (bs : List ℕ) → entry_width ≤ length bs → shifted.field bs ≡ accepted (entry_from true bs, drop entry_width bs)
    whole [] h = absurd (let z : ⊥ = omega arith in z)
    whole (x ∷ []) h = absurd (let z : ⊥ = omega arith in z)
    whole (x ∷ y ∷ bs) h = refl
fixed_entry false = record {
  some = width_some false;
  cut = λ bs h. ap (λ r. r then first) (fixed_byte.cut bs h);
  whole = λ bs h. ap (λ r. r then first) (fixed_byte.whole bs h);
  near = λ bs n h. ap (λ a. record { number = a; shift = 1 }) (fixed_byte.near bs n h);
}

-- the entries in a part of a file
abbrev pub entries_in : (shifts : Bool) → ℕ → List ℕ → List Entry
entries_in shifts n bs = fields_of (width_of shifts) (entry_from shifts) n bs

-- ---- a surveyor's list and a stand's, where the other side has so many
-- a surveyor's list in the flag's layout, where there are so many stands
abbrev pub list_by : (shifts : Bool) (other : ℕ) → List ℕ → Reading (List Entry × List ℕ)
list_by shifts other = read_list (layout_of shifts) ((layout_of shifts).longest other) other

-- a stand's list in the flag's layout, where there are so many surveyors
abbrev pub ranking_by : (shifts : Bool) (other : ℕ) → List ℕ → Reading (Ranking × List ℕ)
ranking_by shifts other = read_ranking (layout_of shifts) ((layout_of shifts).longest other) other

-- they agree with how the lists are written
module _ (shifts : Bool) (other : ℕ) where
  abbrev pub list_fit : List Entry → Bool
  list_fit = list_held (layout_of shifts) (agrees_of shifts) ((layout_of shifts).longest other) other

  abbrev pub ranking_fit : Ranking → Bool
  ranking_fit = ranking_held (layout_of shifts) (agrees_of shifts) ((layout_of shifts).longest other) other

  -- a surveyor's list within its limits is read as it is written
  pub list_reads : Reads (list_by shifts other) (entries_bytes (layout_of shifts)) (λ xs. T (list_fit xs))
  list_reads = list (layout_of shifts) (agrees_of shifts) ((layout_of shifts).longest other) other

  -- a stand's list within its limits is read as it is written
  pub ranking_reads : Reads (ranking_by shifts other) (ranking_bytes (layout_of shifts)) (λ R. T (ranking_fit R))
  ranking_reads = ranking (layout_of shifts) (agrees_of shifts) ((layout_of shifts).longest other) other
