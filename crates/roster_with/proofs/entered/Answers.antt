-- `roster_with::entered` meets its contract: 9, then 2, then the roster with the joiner. Assumes nothing.
use Rattle.std.proofs.Common.{◌≡◌, refl, sym, ◌∙◌, Bool, true, false, length, ltb, lt-ltb, le-ltb}
use Rattle.std.specs.Prelude.{Result}
use Rattle.std.specs.declared.result.Result.TheVariants.{Ok, Err}
use Rattle.answers.specs.declared.Refusal.{Refusal}
use Rattle.answers.specs.declared.Refusal.TheVariants.{BytesLeft, TooMany}
use Rattle.roster_parts.specs.declared.RosterBytes.{RosterBytes}
use Rattle.roster_with.specs.Entering.{marks_in}
use Rattle.roster_with.specs.WithJoiner.{joined_bytes}
use Rattle.roster_with.specs.Enters.{EntersIf, EntersBy, enters}
use Rattle.roster_with.proofs.entered.Goals.{After-too_long-long}
use Rattle.roster_with.proofs.entered.Goals as goal

-- by the two tests
tested : (t : After-too_long-long) →
    let a = t.args in
    (behind long : Bool) → ltb a.read (length a.list.now) ≡ behind → t.too_long-long.result ≡ long → (c : Result RosterBytes Refusal)
    → EntersIf behind long (joined_bytes a.file.now a.ns a.nt t.lists_end-end.result a.quota a.list.now (marks_in a.row.now)) c
    → EntersBy a.file.now a.ns a.nt a.quota a.list.now a.read (marks_in a.row.now) c
tested t behind long d l =
    let a = t.args in
    let end = t.lists_end-end in
    enters a.file.now a.ns a.nt a.quota a.list.now a.read (marks_in a.row.now) end.result end.ensures.0 behind long d
    (sym l ∙ t.too_long-long.ensures)

pub returns-then-read-list : goal.returns-then-read-list
returns-then-read-list c =
    tested (goal.at.returns-then-read-list c).After-too_long-long true c.too_long-long.result (lt-ltb _ _ c.if-read-list.true) refl (Err BytesLeft) refl

pub returns-then-long : goal.returns-then-long
returns-then-long c =
    tested (goal.at.returns-then-long c).After-too_long-long false true (le-ltb _ _ c.if-read-list.false) c.if-long.true (Err TooMany) refl

pub returns : goal.returns
returns c =
    tested (goal.at.returns c).After-too_long-long false false (le-ltb _ _ c.if-read-list.false) c.if-long.false (Ok c.joined.result)
    c.joined.ensures
