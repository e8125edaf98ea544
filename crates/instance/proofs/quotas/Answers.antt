-- `instance::quotas` meets its contract: the quotas below i are written. Assumes nothing.
use Rattle.std.proofs.Common.{◌≡◌, subst, ◌+◌, zero-le, arith, get_or}
use Rattle.arrays.specs.Passes.{Shows, fill_none, fill_next}
use Rattle.instance.proofs.quotas.Goals as goal

pub loop-i-init : goal.loop-i-init
loop-i-init c = let a = c.args in (zero-le, fill_none 0 32 (λ i. get_or a.file.now (a.at + i) 0))

pub loop-i-preserved : goal.loop-i-preserved
loop-i-preserved c =
    let a = c.args in (
      omega arith,
      fill_next 0 32 c.loop-i.q (λ i. get_or a.file.now (a.at + i) 0) c.loop-i.i c.byte_at.result c.byte_at.ensures (omega arith)
          c.loop-i.invariant.1,
    )

pub returns : goal.returns
returns c =
    let a = c.args in
    let e : c.loop-i.i ≡ a.n = omega arith in
    subst (λ k. Shows 0 c.loop-i.q k (λ i. get_or a.file.now (a.at + i) 0)) e c.loop-i.invariant.1.shows
