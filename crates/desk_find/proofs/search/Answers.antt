-- `desk_find::search` meets its contract: the finder on the bytes held. Assumes nothing.
use Rattle.std.proofs.Common.{refl}
use Rattle.desk_find.specs.Finding.{done_on}
use Rattle.desk_find.proofs.search.Goals as goal

pub returns : goal.returns
returns c =
    done_on c.front-r.ensures refl c.found-o.ensures
