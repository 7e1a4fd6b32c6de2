use Rattle.net_extract.specs.Entries.{AreEntries, IsPieceOn, piece_entry}
use Rattle.net_extract.proofs.entries.piece_entries.Given as goal

abbrev pub invariant-loop-a : goal.invariant-loop-a
invariant-loop-a l = AreEntries l.a (IsPieceOn l.ground.boxes.now l.ground.pieces.now.placed.items l.layer)
    (piece_entry l.ground.pieces.now.placed.items) l.entries.items
