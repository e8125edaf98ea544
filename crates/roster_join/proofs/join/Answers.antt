-- `roster_join::join` meets its contract: 3, then 17, then what the list is read to. Assumes nothing.
use Rattle.std.proofs.Common.{arith, ap, ◌∙◌}
use Rattle.lists.specs.Sum.{sum}
use Rattle.theory_files.specs.Reads.{bytes_are}
use Rattle.theory_files.specs.Rosters.{read_write, read_fits}
use Rattle.roster_positions.proofs.Stamping.{short}
use Rattle.roster_parts.specs.Places.{counts_small}
use Rattle.roster_join.specs.Joining.{joins_quota, joins_full, joins_over, joins}
use Rattle.roster_join.proofs.join.Goals as goal

pub returns-then-quota-gt-QUOTA_LIMIT : goal.returns-then-quota-gt-QUOTA_LIMIT
returns-then-quota-gt-QUOTA_LIMIT c =
    let a = c.args in
    let f = a.file.now in
    let is_b = bytes_are f (λ i. omega (arith, c.type_inv.file i)) in
    λ R d. joins_quota f is_b R d a.quota a.list.now c.if-quota-gt-QUOTA_LIMIT.true

pub returns-then-ns-ge-NODE_LIMIT : goal.returns-then-ns-ge-NODE_LIMIT
returns-then-ns-ge-NODE_LIMIT c =
    let a = c.args in
    let f = a.file.now in
    let is_b = bytes_are f (λ i. omega (arith, c.type_inv.file i)) in
    λ R d. joins_full f is_b R d a.quota a.list.now c.if-quota-gt-QUOTA_LIMIT.false c.byte_at-ns.result
    c.byte_at-ns.ensures (omega (arith, c.if-ns-ge-NODE_LIMIT.true))

pub quota_sum-sum-requires : goal.quota_sum-sum-requires
quota_sum-sum-requires c = short c.byte_at-ns.result 255 c.part-quotas.result.now _ c.part-quotas.ensures (omega arith)

pub listed-requires : goal.listed-requires
listed-requires c =
    let f = c.args.file.now in
    let is_b = bytes_are f (λ i. omega (arith, c.type_inv.file i)) in
    let (R, d) = c.requires in
    counts_small f R (read_write f R is_b d) c.byte_at-ns.result
    c.byte_at-ns.ensures (read_fits f R is_b d) c.byte_at-nt.result c.byte_at-nt.ensures

pub returns-then-sum-quota : goal.returns-then-sum-quota
returns-then-sum-quota c =
    let a = c.args in
    let f = a.file.now in
    let is_b = bytes_are f (λ i. omega (arith, c.type_inv.file i)) in
    let isF = bytes_are a.list.now (λ i. omega (arith, c.type_inv.list i)) in
    λ R d. joins f is_b R d a.quota a.list.now c.if-quota-gt-QUOTA_LIMIT.false
    c.byte_at-ns.result c.byte_at-ns.ensures
    (omega (arith, c.if-ns-ge-NODE_LIMIT.false)) c.quota_sum-sum.result
    (c.quota_sum-sum.ensures.0 ∙ ap (sum (λ q. q)) c.part-quotas.ensures)
    c.if-sum-quota.true isF
    c.byte_at-nt.result c.byte_at-nt.ensures c.listed.result c.listed.ensures

pub returns : goal.returns
returns c =
    let a = c.args in
    let f = a.file.now in
    let is_b = bytes_are f (λ i. omega (arith, c.type_inv.file i)) in
    λ R d. joins_over f is_b R d a.quota a.list.now c.if-quota-gt-QUOTA_LIMIT.false
    c.byte_at-ns.result c.byte_at-ns.ensures
    (omega (arith, c.if-ns-ge-NODE_LIMIT.false)) c.quota_sum-sum.result
    (c.quota_sum-sum.ensures.0 ∙ ap (sum (λ q. q)) c.part-quotas.ensures) c.if-sum-quota.false
