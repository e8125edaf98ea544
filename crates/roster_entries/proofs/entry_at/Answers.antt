-- `roster_entries::entry_at` meets its contract, with shifts and without. Assumes nothing.
use Rattle.std.proofs.Common.{ℕ, ◌+◌, ◌*◌, ◌≤◌, ◌<◌, arith, ◌≡◌, sym, ap, ap₂, ◌∙◌, subst, Bool, true, false, List, length, drop, get_or, get_or-drop}
use Rattle.model.specs.Limits.{entry_width}
use Rattle.model.specs.Roster.{Entry}
use Rattle.roster_reading.specs.Layout.{width_of, entry_from}
use Rattle.roster_entries.proofs.entry_at.Goals as goal

module _ (part : List ℕ) (i : ℕ) {shifts : Bool} where
  -- with shifts
  room-two : shifts ≡ true → width_of shifts * i + width_of shifts ≤ length part → entry_width * i + entry_width ≤ length part
  room-two e h = subst (λ b. width_of b * i + width_of b ≤ length part) e h

  two : shifts ≡ true
      → record { number = get_or part (entry_width * i) 0; shift = get_or part (entry_width * i + 1) 0 } ≡ entry_from shifts (drop (width_of shifts * i) part)
  two e =
      let z : entry_width * i ≡ entry_width * i + 0 = omega arith in
      ap₂ {C = Entry} (λ n k. record { number = n; shift = k })
      (ap (λ k. get_or part k 0) z ∙ sym (get_or-drop (entry_width * i) part 0 0)) (sym (get_or-drop (entry_width * i) part 1 0))
      ∙ ap (λ b. entry_from b (drop (width_of b * i) part)) (sym e)

  -- without
  room-one : shifts ≡ false → width_of shifts * i + width_of shifts ≤ length part → i < length part
  room-one e h = let k = subst (λ b. width_of b * i + width_of b ≤ length part) e h in omega arith

  one : shifts ≡ false → record { number = get_or part i 0; shift = 1 } ≡ entry_from shifts (drop (width_of shifts * i) part)
  one e =
      let z : i ≡ 1 * i + 0 = omega arith in
      ap (λ n. record { number = n; shift = 1 }) (ap (λ k. get_or part k 0) z ∙ sym (get_or-drop (1 * i) part 0 0))
      ∙ ap (λ b. entry_from b (drop (width_of b * i) part)) (sym e)

pub overflow_mul-at : goal.overflow_mul-at
overflow_mul-at c = let a = c.args in omega (arith, room-two a.part.now a.i c.if-shifts.true c.requires)

pub overflow_add-behind : goal.overflow_add-behind
overflow_add-behind c = let a = c.args in omega (arith, room-two a.part.now a.i c.if-shifts.true c.requires)

pub bounds-part-at : goal.bounds-part-at
bounds-part-at c =
    omega (arith, room-two c.args.part.now c.args.i c.if-shifts.true c.requires)

pub bounds-part-behind : goal.bounds-part-behind
bounds-part-behind c =
    omega (arith, room-two c.args.part.now c.args.i c.if-shifts.true c.requires)

pub returns-then-shifts : goal.returns-then-shifts
returns-then-shifts c = let a = c.args in two a.part.now a.i c.if-shifts.true

pub bounds-part-i : goal.bounds-part-i
bounds-part-i c = room-one c.args.part.now c.args.i c.if-shifts.false c.requires

pub returns : goal.returns
returns c = let a = c.args in one a.part.now a.i c.if-shifts.false
