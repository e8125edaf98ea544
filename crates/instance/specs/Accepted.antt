-- The bytes of an accepted roster: what a call that works on an instance knows of the roster it was read from.
use Rattle.std.specs.Prelude.{ℕ, ◌≡◌, List}
use Rattle.model.specs.Reading.{accepted}
use Rattle.model.specs.Roster.{Roster}
use Rattle.model.specs.RosterFile.{read_roster}

-- the bytes are an accepted roster's
abbrev pub RosterAccepted : List ℕ → Type 0
RosterAccepted f = (R : Roster) × (read_roster f ≡ accepted R)
