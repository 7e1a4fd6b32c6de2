use Rattle.cif_read.{specs.Meaning.reader, proofs.Faults.determined}
use Rattle.cif_read.proofs.laws.readings_are_determined.Goals as goal

pub returns : goal.returns
returns c = determined reader c.commands_are_determined.ensures.next c.commands_are_determined.ensures.tail
