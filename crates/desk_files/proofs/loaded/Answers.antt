-- `desk_files::loaded` meets its contract: on the bytes held. Assumes nothing.
use Rattle.std.proofs.Common.{subst}
use Rattle.desk_loaded.specs.OnDesk.{LoadedAs}
use Rattle.desk_files.specs.Held.{roster_bytes}
use Rattle.desk_files.proofs.loaded.Goals as goal

pub returns : goal.returns
returns c =
    let a = c.args in
    let p = c.front-p in
    subst (λ b. LoadedAs (roster_bytes a.files) b a.needs a.short c.loaded.result) p.ensures
    (subst (λ b. LoadedAs b p.result.now a.needs a.short c.loaded.result) c.front-r.ensures c.loaded.ensures)
