-- `roster_parts::RosterBytes::append_section` meets its contract: two bytes of the count, then the lists. Assumes nothing.
use Rattle.std.proofs.Common.{ap, ap₂, ◌∙◌, ◌++◌, ◌-◌, ◌/◌, length}
use Rattle.model.specs.Limits.{entry_width}
use Rattle.model.specs.RosterFile.{wide_bytes}
use Rattle.roster_parts.specs.Growth.{grown_then, grown_as}
use Rattle.roster_parts.proofs.RosterBytes.append_section.Goals as goal

pub returns : goal.returns
returns c =
    let part = c.bytes-part.ensures in
    grown_as (ap₂ (λ k z. wide_bytes k ++ z) (c.entry_count-total.ensures ∙ ap (λ z. (length z - c.args.lengths) / entry_width) part) part)
    (grown_then (grown_then c.push.ensures c.push-2.ensures) c.append.ensures)
