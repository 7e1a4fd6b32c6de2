use Rattle.cif_answers.proofs.Determined.{verdicts}
use Rattle.cif_answers.proofs.laws.verdicts_are_determined.Goals as goal

pub returns : goal.returns
returns c = λ tech text short. verdicts tech text short c.foreign_readings_are_determined.ensures
