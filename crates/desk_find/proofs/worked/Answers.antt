-- desk_find::worked: the finder on the roster's arrays, how much it has written, and its flat diary.
use Rattle.desk_find.specs.Outcomes.{can_read, works}
use Rattle.desk_find.proofs.worked.Goals as goal

pub flat_records-flat-requires : goal.flat_records-flat-requires
flat_records-flat-requires c =
    can_read c.args.g c.requires.0 _ _ _ c.find-o.result _ _ _ c.find-o.ensures

pub returns : goal.returns
returns c =
    works c.args.g c.requires.0 _ _ _ c.find-o.result _ _ _ c.find-o.ensures _ c.flat_records-flat.ensures _ c.written_lengths-written.ensures
