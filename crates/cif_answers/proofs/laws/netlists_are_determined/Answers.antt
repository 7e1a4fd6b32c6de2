use Rattle.cif_answers.proofs.Determined.{netlists}
use Rattle.cif_answers.proofs.laws.netlists_are_determined.Goals as goal

pub returns : goal.returns
returns c = λ tech text short. netlists tech text short c.foreign_readings_are_determined.ensures
    c.netlist_is_determined.ensures.by_links
