use Rattle.cif_read.proofs.Beginnings.{read_none}
use Rattle.cif_read.proofs.reading.read.Goals as goal

pub read_rest-requires-clause-so_far : goal.read_rest-requires-clause-so_far
read_rest-requires-clause-so_far c =
    read_none c.args.dialect c.args.bytes.now c.new.result c.new.ensures.value c.new.ensures.sound
