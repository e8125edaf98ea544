-- `instance::instance_of` meets its contract: its parts are those of the law `decoded`. Assumes nothing.
use Rattle.std.proofs.Common.{arith}
use Rattle.instance.specs.Arrays.{decoded}
use Rattle.instance.proofs.instance_of.Goals as goal

-- the edges are among the cells found
pub filled-requires : goal.filled-requires
filled-requires c =
    let n = c.min-m.ensures in
    (omega (arith, n), λ e h. c.listed_cells-found.ensures.below e (omega (arith, n, h)))

pub returns : goal.returns
returns c =
    decoded c.args.file.now c.filled.result (λ i. omega (arith, c.type_inv.file i))
    (record {
      ns = c.count_at-ns.result;
      nt = c.count_at-nt.result;
      start = c.stamp_lists-at.result;
      listed = _;
      strict = _;
      next = _;
      k = _;
      m = _;
      cell = _;
      qs = c.quotas-quota_s.result;
      qt = c.quotas-quota_t.result;
      ns_is = c.count_at-ns.ensures;
      qs_are = c.quotas-quota_s.ensures;
      nt_is = c.count_at-nt.ensures;
      qt_are = c.quotas-quota_t.ensures;
      start_is = c.stamp_lists-at.ensures.value.0;
      listed_is = c.stamp_lists-at.ensures.table_after;
      strict_is = c.stamp_rankings.ensures.table_after;
      next_is = c.stamp_rankings.ensures.next_after;
      found = c.listed_cells-found.ensures;
      m_is = c.min-m.ensures;
      made = c.filled.ensures;
    })
