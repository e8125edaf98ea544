-- `roster_sections::rankings_section` meets its contract: the count, the lists, and the place behind them. Assumes nothing.
use Rattle.std.proofs.Common.{ℕ, ◌+◌, ◌*◌, ◌≡◌, sym, ap, ◌∙◌, Bool, List, length, rules}
use Rattle.lists.specs.Keep.{gather}
use Rattle.model.specs.Roster.{Ranking, total_t}
use Rattle.model.specs.RosterFile.{read_section, ranking_bytes}
use Rattle.theory_files.specs.Rosters.{rankings_size_by}
use Rattle.model.specs.Reading.{accepted, refused}
use Rattle.answers.specs.RefusalCases.{number_of, reading_of}
use Rattle.roster_reading.specs.Place.{bytes_of}
use Rattle.roster_reading.specs.Layout.{layout_of, agrees_of, width_of, width_some, ranking_by, ranking_reads}
use Rattle.roster_reading.specs.Row.{Marked, marked_as}
use Rattle.roster_reading.specs.Table.{RankingsShown}
use Rattle.roster_reading.specs.Many.{ended_at, told_room, section_untold, section_ends}
use Rattle.roster_sections.proofs.rankings_section.Goals.{After-rankings_at}
use Rattle.roster_sections.proofs.rankings_section.Goals as goal

pub returns-in_err-end : goal.returns-in_err-end
returns-in_err-end c =
    let a = c.args in
    let was = ap reading_of c.in_err-end.was in
    let told : reading_of c.from_residual.result ≡ refused (number_of c.in_err-end.field-0.0) = search rules in
    marked_as (was ∙ sym told)
    (section_untold (ranking_by a.shifts a.other) total_t a.file.now a.at a.n (width_of a.shifts) (2 * a.n) (reading_of c.told_end.result) c.told_end.ensures was)

pub rankings_at-requires : goal.rankings_at-requires
rankings_at-requires c =
    let a = c.args in
    let p = c.requires in (
      told_room (width_of a.shifts) a.file.now a.at (2 * a.n) (reading_of c.told_end.result) c.told_end.ensures (ap reading_of c.in_ok-end.was),
      p.2,
      p.3,
      p.4,
    )

-- the bytes that lists take: their length bytes and their entries
sizes_of : (shifts : Bool) (n : ℕ) (ls : List Ranking) → length ls ≡ n
    → length (gather (ranking_bytes (layout_of shifts)) ls) ≡ 2 * n + width_of shifts * total_t ls
sizes_of shifts n ls h = rankings_size_by (layout_of shifts) (agrees_of shifts) ls ∙ ap (λ k. 2 * k + width_of shifts * total_t ls) h

-- what the lists answer is held against the place told
section : (c : After-rankings_at) → {end : ℕ} → reading_of c.told_end.result ≡ accepted end → let a = c.args in
    Marked (read_section (ranking_by a.shifts a.other) total_t a.n) RankingsShown a.file.now a.at (ended_at (reading_of c.rankings_at.result) end) c.rankings_at.new.table
section c e =
    let a = c.args in
    section_ends (ranking_by a.shifts a.other) total_t a.file.now a.at a.n (width_of a.shifts) (2 * a.n) (reading_of c.told_end.result)
    c.told_end.ensures (ranking_reads a.shifts a.other) (bytes_of a.file.now c.type_inv.file)
    (width_some a.shifts) (sizes_of a.shifts a.n) e (reading_of c.rankings_at.result) c.rankings_at.ensures

pub returns-in_err-stop : goal.returns-in_err-stop
returns-in_err-stop c =
    let n = c.in_err-stop.field-0.0 in
    let told : reading_of c.from_residual-in_err-stop.result ≡ refused (number_of n) = search rules in
    marked_as (ap (λ s. ended_at s c.in_ok-end.end) (ap reading_of c.in_err-stop.was) ∙ sym told)
    (section (goal.at.returns-in_err-stop c).After-rankings_at (ap reading_of c.in_ok-end.was))

pub returns : goal.returns
returns c =
    marked_as (ap (λ s. ended_at s c.in_ok-end.end) (ap reading_of c.in_ok-stop.was) ∙ sym c.ended.ensures)
    (section (goal.at.returns c).After-rankings_at (ap reading_of c.in_ok-end.was))
