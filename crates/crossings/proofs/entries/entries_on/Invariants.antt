use Rattle.crossing_model.specs.Boxes.{IsOn}
use Rattle.crossings.specs.Entries.{AreEntriesBelow, box_entry}
use Rattle.crossings.proofs.entries.entries_on.Given as goal

abbrev pub invariant-loop-number : goal.invariant-loop-number
invariant-loop-number l = AreEntriesBelow (IsOn l.boxes l.layer) (box_entry l.boxes) l.number l.entries.items
