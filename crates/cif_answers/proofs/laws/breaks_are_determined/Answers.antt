use Rattle.cif_answers.proofs.Determined.{breaks}
use Rattle.cif_answers.proofs.laws.breaks_are_determined.Goals as goal

pub returns : goal.returns
returns c = λ tech most text short. breaks tech most text short c.foreign_readings_are_determined.ensures
