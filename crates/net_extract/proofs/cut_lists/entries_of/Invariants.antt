use Rattle.net_extract.specs.{CutLists.IsTold, Entries.{AreEntries, cut_entry}}
use Rattle.net_extract.proofs.cut_lists.entries_of.Given as goal

abbrev pub invariant-loop-k : goal.invariant-loop-k
invariant-loop-k l = AreEntries l.k (IsTold l.crowded)
    (cut_entry l.ground.boxes.now l.ground.pieces.now.placed.items) l.entries.items
