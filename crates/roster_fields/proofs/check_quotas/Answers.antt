-- `roster_fields::check_quotas` meets its contract: the quotas that are left, behind the sum of those passed, have the refusal of all. Assumes nothing.
use Rattle.std.proofs.Common.{◌+◌, zero-le, arith, ◌≡◌, refl, sym, ◌∙◌, drop, get_or, lt-ltb, le-ltb}
use Rattle.model.specs.RosterFile.{quota_check}
use Rattle.roster_reading.specs.Check.{first_of, refusal_of, refusal_step, refusal_end}
use Rattle.roster_fields.proofs.check_quotas.Goals.{In-loop-i}
use Rattle.roster_fields.proofs.check_quotas.Goals as goal

-- what a turn does to the refusal that is looked for
turn : (c : In-loop-i) → let l = c in let part = l.args.part.now in
    refusal_of quota_check (λ so q. so + q) 0 part ≡ first_of (quota_check l.loop-i.sum (get_or part l.loop-i.i 0))
    (refusal_of quota_check (λ so q. so + q) (l.loop-i.sum + get_or part l.loop-i.i 0) (drop (l.loop-i.i + 1) part))
turn c =
    c.loop-i.invariant.2 ∙ refusal_step quota_check (λ so q. so + q) 0 c.loop-i.sum c.args.part.now c.loop-i.i c.loop-i-test.true

pub loop-i-init : goal.loop-i-init
loop-i-init c = (zero-le, omega arith, refl)

pub returns-then-q-gt-QUOTA_LIMIT : goal.returns-then-q-gt-QUOTA_LIMIT
returns-then-q-gt-QUOTA_LIMIT c = sym (turn (goal.at.returns-then-q-gt-QUOTA_LIMIT c).In-loop-i ∙ simp (lt-ltb _ _ c.if-q-gt-QUOTA_LIMIT.true))

pub returns-then-sum-gt-QUOTA_SUM_LIMIT : goal.returns-then-sum-gt-QUOTA_SUM_LIMIT
returns-then-sum-gt-QUOTA_SUM_LIMIT c = sym (turn (goal.at.returns-then-sum-gt-QUOTA_SUM_LIMIT c).In-loop-i ∙ simp (le-ltb _ _ c.if-q-gt-QUOTA_LIMIT.false, lt-ltb _ _ c.if-sum-gt-QUOTA_SUM_LIMIT.true))

pub loop-i-preserved : goal.loop-i-preserved
loop-i-preserved c = (omega arith, omega arith, turn (goal.at.loop-i-preserved c).In-loop-i ∙ simp (le-ltb _ _ c.if-q-gt-QUOTA_LIMIT.false, le-ltb _ _ c.if-sum-gt-QUOTA_SUM_LIMIT.false))

pub returns : goal.returns
returns c =
    sym (c.loop-i.invariant.2 ∙ refusal_end quota_check (λ so q. so + q) c.loop-i.sum c.args.part.now c.loop-i.i c.loop-i-test.false)
