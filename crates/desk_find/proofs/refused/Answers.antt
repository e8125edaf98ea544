-- desk_find::refused: a refusal, nothing written and no record.
use Rattle.std.proofs.Common.{refl}
use Rattle.desk_find.proofs.refused.Goals as goal

pub returns : goal.returns
returns c = record { answer = refl; lengths = refl; steps = refl; flat = refl }
