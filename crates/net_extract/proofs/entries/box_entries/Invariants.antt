use Rattle.net_extract.specs.Entries.{AreEntries, MayBeBuried, box_entry}
use Rattle.net_extract.proofs.entries.box_entries.Given as goal

abbrev pub invariant-loop-a : goal.invariant-loop-a
invariant-loop-a l =
    AreEntries l.a (MayBeBuried l.ground.tech.now l.ground.boxes.now l.ground.pieces.now.placed.items l.layer)
    (box_entry l.ground.boxes.now l.ground.pieces.now.placed.items) l.entries.items
