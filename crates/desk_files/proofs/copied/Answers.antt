-- `desk_files::copied` meets its contract. Assumes nothing.
use Rattle.std.proofs.Common.{arith, ap, length, length-take}
use Rattle.desk_files.specs.Front.{copied}
use Rattle.desk_files.proofs.copied.Goals as goal

pub copy-requires : goal.copy-requires
copy-requires c =
    omega (arith, ap length c.front-held.ensures, length-take c.args.len c.args.array.now, c.requires)

pub returns : goal.returns
returns c =
    let k = c.copy in
    copied c.args.out.now c.front-held.ensures k.ensures.0 k.ensures.1
