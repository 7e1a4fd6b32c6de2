use Rattle.compact_run.proofs.NetLaws.{nets_tell_of_masks}
use Rattle.compact_run.proofs.laws.nets_tell_of_masks.Goals as goal

pub returns : goal.returns
returns c = nets_tell_of_masks c.foreign_readings_are_determined.ensures
