-- `text_lines::put_byte` meets its contract: one store. Assumes nothing.
use Rattle.text_lines.specs.Appended.{append_one}
use Rattle.text_lines.proofs.put_byte.Goals as goal

pub returns : goal.returns
returns c = append_one c.args.out.now c.args.at c.args.byte c.requires
