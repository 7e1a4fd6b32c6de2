use Rattle.crossings.{specs.Pairs.{Least, Meets}, proofs.{Counts.FirstWith, EntryBoxes.owners}}
use Rattle.crossings.proofs.unburied.least_among.Given as goal

abbrev pub invariant-loop-entry : goal.invariant-loop-entry
invariant-loop-entry l = Least (FirstWith (owners l.entries) l.entry-index (Meets l.tech l.boxes l.number)) l.least
