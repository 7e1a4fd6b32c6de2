use Rattle.box_tree.specs.{Found.IsTaken, Queries.Holds}
use Rattle.box_tree.proofs.search.take_run.Given as goal

abbrev pub invariant-loop-place : goal.invariant-loop-place
invariant-loop-place l = IsTaken l.entries (Holds l.query) l.place l.found.items
