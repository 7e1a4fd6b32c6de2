use Rattle.cif_foreign.proofs.Staying.{meanings_stay}
use Rattle.cif_foreign.proofs.laws.meanings_stay.Goals as goal

pub returns : goal.returns
returns c = meanings_stay
