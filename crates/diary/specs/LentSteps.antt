-- The lent diary as the model's list of records, and the records that a flat diary holds.
use Rattle.std.specs.Prelude.{ℕ, zero, suc, ◌+◌, ◌*◌, List, [], ◌∷◌, map, get_or, drop}
use Rattle.model.specs.Finder.{Record}
use Rattle.diary.specs.declared.Step.{Step}
use Rattle.diary.specs.FlatDiary.{record_width}

-- the model's record that a step shows, and the records that a slice of steps shows
abbrev pub record_in : Step → Record
record_in s = record { fate = s.fate; surveyor = s.surveyor; stand = s.stand; shift = s.shift; rule = s.rule }

-- the model's records that a slice of steps shows
abbrev pub records_in : List Step → List Record
records_in = map record_in

-- the i-th record of a flat diary, and its first n records
abbrev pub step_at : List ℕ → ℕ → Step
step_at f i = record {
  fate = get_or f (i * record_width) 0;
  surveyor = get_or f (i * record_width + 1) 0;
  stand = get_or f (i * record_width + 2) 0;
  shift = get_or f (i * record_width + 3) 0;
  rule = get_or f (i * record_width + 4) 0;
}

-- the first n records of a flat diary, as steps
unfoldable pub steps_in : ℕ → List ℕ → List Step
steps_in zero f = []
steps_in (suc n) f = step_at f 0 ∷ steps_in n (drop record_width f)
