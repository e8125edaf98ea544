-- program::worked writes the text of what the finder answers.
use Rattle.std.proofs.Common.{ℕ, arith, ◌≡◌, List, length, T, Ok, rules}
use Rattle.model.specs.RosterFile.{read_roster}
use Rattle.theory_files.specs.Reads.{is_bytes}
use Rattle.roster_reading.specs.Place.{bytes_of}
use Rattle.instance.specs.Loaded.{loaded}
use Rattle.diary.specs.FlatDiary.{flat_size}
use Rattle.text_answer.specs.Handed.{HandedFor}
use Rattle.program.specs.BuffersPrinted.{can_print, prints, found_handed, found_readable}
use Rattle.program.proofs.worked.Goals.{After-flat_records-flat}
use Rattle.program.proofs.worked.Goals as goal

-- the flat diary has its size
full : (c : After-flat_records-flat) → length c.flat_records-flat.result ≡ flat_size
full c = search rules

-- what the printer is handed is what the finder found
handed : (c : After-flat_records-flat) → let r = c.find-o.new in
    HandedFor (read_roster c.args.roster.now) (Ok c.find-o.result.answer) c.flat_records-flat.result r.left r.plan r.rival
handed c =
    let whole : T (is_bytes c.args.roster.now) = bytes_of c.args.roster.now (λ j. c.type_inv.roster j) in
    let g = c.instance_of-g in
    let f = c.find-o in
    found_handed c.args.roster.now whole c.requires g.result g.ensures _ _ _ f.result _ _ _ _ f.ensures c.flat_records-flat.ensures

pub find-o-requires : goal.find-o-requires
find-o-requires c =
    let g = c.instance_of-g in
    (loaded c.args.roster.now g.result (bytes_of c.args.roster.now (λ j. c.type_inv.roster j)) g.ensures c.requires.0 c.requires.1, search rules, search rules, search rules)

pub flat_records-flat-requires : goal.flat_records-flat-requires
flat_records-flat-requires c =
    let g = c.instance_of-g in
    let f = c.find-o in
    found_readable c.args.roster.now (bytes_of c.args.roster.now (λ j. c.type_inv.roster j)) c.requires g.result g.ensures _ _ _ f.result _ _ _ f.ensures

pub answer_text-requires : goal.answer_text-requires
answer_text-requires c = (
  can_print c.args.roster.now (bytes_of c.args.roster.now (λ j. c.type_inv.roster j)) (Ok c.find-o.result.answer) _ _ _ _ (handed (goal.at.answer_text-requires c).After-flat_records-flat) (omega (arith, full (goal.at.answer_text-requires c).After-flat_records-flat)) (search rules) (search rules) (search rules),
  search rules,
)

pub returns : goal.returns
returns c =
    prints c.args.roster.now (bytes_of c.args.roster.now (λ j. c.type_inv.roster j)) (Ok c.find-o.result.answer) _ _ _ _ (handed (goal.at.returns c).After-flat_records-flat) _ _ _ (search rules) c.answer_text.ensures
