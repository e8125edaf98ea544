-- The row is written.
use Rattle.std.proofs.Common.{◌≡◌, ◌-◌, ◌+◌, ◌*◌, arith, sym, subst, ◌∙◌}
use borrow.Rule.Slice.PartMut.{put_mid, same_len_mid}
use Rattle.rival_tables.specs.Filled.{Put, put_part}
use Rattle.rival_tables.proofs.put_row.Goals as goal

pub returns : goal.returns
returns c =
    let a = c.args in
    let k = a.i * 64 + 64 - a.i * 64 in
    let few : k ≡ 64 = omega arith in (
      same_len_mid (a.i * 64) k a.table.now c.copy_from_slice.new.self c.copy_from_slice.ensures.len ∙ c.requires.1,
      subst (λ ys. Put a.table.now a.row.now a.i (put_mid (a.i * 64) k a.table.now ys)) (sym c.copy_from_slice.ensures.after)
          (put_part a.table.now a.row.now a.i k c.requires.0 c.requires.1 c.told-row few),
    )
