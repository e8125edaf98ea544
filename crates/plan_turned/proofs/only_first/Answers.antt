-- `plan_turned::only_first` meets its contract: the pairs from the k-th on settle it. Assumes nothing.
use Rattle.std.proofs.Common.{ℕ, ◌+◌, ◌-◌, ◌*◌, ◌≤◌, zero-le, arith, ◌≡◌, sym, ap, ◌∙◌, Bool, ◌&&◌, length, eqb, rules, eq-eqb, ne_eqb}
use Rattle.lists.specs.Keep.{all?}
use Rattle.pair_bytes.specs.PairAt.{width_of}
use Rattle.plan_turned.specs.Pairs.{pairs_from, first_pair, pairs_turn, pairs_done, next_place, pair_room}
use Rattle.plan_turned.proofs.only_first.Goals.{In-loop-k, After-get-p}
use Rattle.plan_turned.proofs.only_first.Goals as goal

pub loop-k-init : goal.loop-k-init
loop-k-init c =
    let a = c.args in
    let m : a.n ≡ a.n - 0 = omega arith in
    let z : 1 ≡ width_of a.shifts * 0 + 1 = omega arith in
    (zero-le, z, ap (λ k. all? first_pair (pairs_from a.shifts a.file.now k 1)) m)

-- the pair of this turn lies in the file
room : (p : In-loop-k) → let l = p in let a = l.args in
    l.loop-k.at + width_of a.shifts ≤ length a.file.now
room p =
    omega (arith, pair_room (width_of p.args.shifts) p.args.n p.loop-k.k p.loop-k.at p.loop-k-test.true p.loop-k.invariant.1, p.requires.1)

pub get-p-requires : goal.get-p-requires
get-p-requires c = room (goal.at.get-p-requires c).In-loop-k

-- the pair of this turn, before those behind it
turn : (p : After-get-p) → let l = p in let a = l.args in
    all? first_pair (pairs_from a.shifts a.file.now a.n 1)
    ≡ eqb p.get-p.result.shift 1 && all? first_pair (pairs_from a.shifts a.file.now (a.n - (l.loop-k.k + 1)) (l.loop-k.at + width_of a.shifts))
turn p =
    let a = p.args in
    let rest = pairs_from a.shifts a.file.now (a.n - (p.loop-k.k + 1)) (p.loop-k.at + width_of a.shifts) in
    p.loop-k.invariant.2 ∙ ap (all? first_pair) (pairs_turn a.shifts a.file.now a.n p.loop-k.k p.loop-k.at p.loop-k-test.true)
    ∙ sym (ap (λ q. eqb q.shift 1 && all? first_pair rest) p.get-p.ensures)

pub returns-then-p-ne1 : goal.returns-then-p-ne1
returns-then-p-ne1 c =
    let a = c.args in
    let rest = all? first_pair (pairs_from a.shifts a.file.now (a.n - (c.loop-k.k + 1)) (c.loop-k.at + width_of a.shifts)) in
    sym (turn (goal.at.returns-then-p-ne1 c).After-get-p ∙ ap (λ b. b && rest) (ne_eqb c.get-p.result.shift 1 c.if-p-ne1.true))

pub overflow_add-at : goal.overflow_add-at
overflow_add-at c =
    let h = room (goal.at.overflow_add-at c).In-loop-k in
    let w = c.width-width.ensures in
    search rules

pub loop-k-preserved : goal.loop-k-preserved
loop-k-preserved c =
    let a = c.args in
    let w = c.width-width.ensures in
    let rest : ℕ → Bool = λ k. all? first_pair (pairs_from a.shifts a.file.now (a.n - (c.loop-k.k + 1)) (c.loop-k.at + k)) in (
      omega arith,
      ap (λ k. c.loop-k.at + k) w ∙ next_place (width_of a.shifts) c.loop-k.k c.loop-k.at c.loop-k.invariant.1,
      turn (goal.at.loop-k-preserved c).After-get-p ∙ ap (λ b. b && rest (width_of a.shifts)) (eq-eqb c.get-p.result.shift 1 c.if-p-ne1.false) ∙ ap rest (sym w),
    )

pub returns : goal.returns
returns c =
    let a = c.args in
    sym (c.loop-k.invariant.2 ∙ ap (all? first_pair) (pairs_done a.shifts a.file.now a.n c.loop-k.k c.loop-k.at c.loop-k-test.false))
