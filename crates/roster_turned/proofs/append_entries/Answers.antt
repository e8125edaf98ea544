-- `roster_turned::append_entries` meets its contract: the entries from i on are left. Assumes nothing.
use Rattle.std.proofs.Common.{◌+◌, ◌/◌, ◌≤◌, ◌<◌, zero-le, arith, ◌≡◌, refl, sym, ap, ◌∙◌, subst, ◌&&◌, [], ◌∷◌, length, drop}
use mathlib.Core.Bool.{and_assoc, and-true}
use Rattle.lists.specs.Keep.{all?}
use Rattle.model_desk.specs.Seasons.{is_first}
use Rattle.roster_reading.specs.Layout.{entry_of, width_of, width_some}
use Rattle.roster_parts.specs.Growth.{going_starts, going_on, going_ends}
use Rattle.roster_turned.specs.Blocks.{part_entries, other_bytes, entry_room, entries_turn, entries_done}
use Rattle.roster_turned.proofs.append_entries.Goals.{In-loop-i, After-entry_at-x}
use Rattle.roster_turned.proofs.append_entries.Goals as goal

pub nonzero_div-count : goal.nonzero_div-count
nonzero_div-count c = let h = width_some c.args.shifts in omega (arith, c.entry_width-width.ensures)

pub loop-i-init : goal.loop-i-init
loop-i-init c =
    let a = c.args in
    (zero-le, going_starts (other_bytes a.shifts (part_entries a.shifts a.part.now)) a.out.now, refl)

-- another entry is there
there : (p : In-loop-i) → let l = p in let a = l.args in
    l.loop-i.i < length a.part.now / width_of a.shifts
there p =
    subst (λ w. p.loop-i.i < length p.args.part.now / w) p.entry_width-width.ensures p.loop-i-test.true

pub entry_at-x-requires : goal.entry_at-x-requires
entry_at-x-requires c = let a = c.args in entry_room a.shifts a.part.now c.loop-i.i (there (goal.at.entry_at-x-requires c).In-loop-i)

-- the entry of this turn, before those behind it
turn : (p : After-entry_at-x) → let l = p in let a = l.args in
    let xs = part_entries a.shifts a.part.now in
    drop l.loop-i.i xs ≡ entry_of p.entry_at-x.result ∷ drop (l.loop-i.i + 1) xs
turn p =
    let there : let a = p.args in
    p.loop-i.i < length a.part.now / width_of a.shifts =
    subst (λ w. p.loop-i.i < length p.args.part.now / w) p.entry_width-width.ensures p.loop-i-test.true in
    let a = p.args in
    entries_turn a.shifts a.part.now p.loop-i.i (there) (entry_of p.entry_at-x.result) p.entry_at-x.ensures

pub loop-i-preserved : goal.loop-i-preserved
loop-i-preserved c =
    let a = c.args in
    let xs = part_entries a.shifts a.part.now in (
      omega arith,
      going_on (ap (other_bytes a.shifts) (turn (goal.at.loop-i-preserved c).After-entry_at-x)) c.loop-i.invariant.1 c.append_by.ensures,
      and_assoc c.loop-i.first (is_first (entry_of c.entry_at-x.result)) (all? is_first (drop (c.loop-i.i + 1) xs))
          ∙ ap (λ ys. c.loop-i.first && all? is_first ys) (sym (turn (goal.at.loop-i-preserved c).After-entry_at-x)) ∙ c.loop-i.invariant.2,
    )

pub returns : goal.returns
returns c =
    let a = c.args in
    let xs = part_entries a.shifts a.part.now in
    let done : drop c.loop-i.i xs ≡ [] = entries_done a.shifts a.part.now c.loop-i.i
    (subst (λ w. length a.part.now / w ≤ c.loop-i.i) c.entry_width-width.ensures c.loop-i-test.false) in
    record {
      grown = going_ends (ap (other_bytes a.shifts) done) c.loop-i.invariant.1;
      ones = sym (and-true c.loop-i.first) ∙ ap (λ ys. c.loop-i.first && all? is_first ys) (sym done) ∙ c.loop-i.invariant.2;
    }
