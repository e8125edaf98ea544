-- `roster_sections::quotas_at` meets its contract: the part that holds the quotas is checked, and whether they are all. Assumes nothing.
use Rattle.std.proofs.Common.{◌+◌, ◌-◌, ◌*◌, arith, ◌≡◌, sym, ap, ◌∙◌, length, take, drop, length-take, length-drop}
use Rattle.model.specs.RosterFile.{quota_check}
use Rattle.roster_reading.specs.Check.{refusal_of, part_answer, fields_room, fields_bytes, fixed_byte, part_is}
use Rattle.roster_sections.proofs.quotas_at.Goals as goal

pub returns : goal.returns
returns c =
    let a = c.args in
    let there = c.whole_fields-there.result in
    let part = take (a.at + there - a.at) (drop a.at a.file.now) in
    let size : length part ≡ there =
    simp (length-take, length-drop) (omega (arith, fields_room 1 (length a.file.now) a.at a.n c.whole_fields-there.ensures)) in
    let e : a.at + there ≡ a.at + 1 * there = omega arith in
    c.part_answer.ensures
    ∙ ap (λ m. part_answer m there a.n (a.at + there))
    (c.check_quotas-checked.ensures ∙ sym (ap (refusal_of quota_check (λ so q. so + q) 0) (fields_bytes there part size)))
    ∙ part_is quota_check (λ so q. so + q) fixed_byte 0 a.file.now a.at a.n there (a.at + there) c.requires c.whole_fields-there.ensures e
