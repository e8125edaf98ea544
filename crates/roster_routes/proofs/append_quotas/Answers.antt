-- `roster_routes::append_quotas` meets its contract: the quotas from the i-th number on are left. Assumes nothing.
use Rattle.std.proofs.Common.{◌+◌, ◌-◌, zero-le, arith, sym, ap, ◌∙◌, [], ◌∷◌, ◌++◌, get_or}
use Rattle.roster_parts.specs.Growth.{going_first, going_on, going_ends}
use Rattle.roster_routes.specs.Reordered.{quota_at, quotas_in_order, parts_turn, parts_done}
use Rattle.roster_routes.proofs.append_quotas.Goals as goal

pub loop-i-init : goal.loop-i-init
loop-i-init c =
    let a = c.args in
    (zero-le, going_first (quotas_in_order a.file.now a.place a.order.now 0) a.count a.out.now)

pub loop-i-preserved : goal.loop-i-preserved
loop-i-preserved c =
    let t = c.before.before in
    let l = t in
    let a = l.args in
    let left = quotas_in_order a.file.now a.place a.order.now (l.loop-i.i + 1) (a.count - (l.loop-i.i + 1)) in (
      omega arith,
      going_on (parts_turn (quota_at a.file.now a.place a.order.now) a.count l.loop-i.i t.loop-i-test.true
          ∙ sym (ap (λ b. (b ∷ []) ++ left)
          (c.byte_at-q.ensures ∙ ap (λ t. get_or a.file.now (a.place + t) 0) c.byte_at-t.ensures)))
          l.loop-i.invariant.1 c.push.ensures,
    )

pub returns : goal.returns
returns c =
    let a = c.args in
    going_ends (parts_done (quota_at a.file.now a.place a.order.now) a.count c.loop-i.i c.loop-i-test.false) c.loop-i.invariant.1
