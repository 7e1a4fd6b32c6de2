use Rattle.box_pieces.{specs.Pieces.IsCursor, proofs.BoxByBox.ArePiecesBelow}
use Rattle.box_pieces.proofs.placing.pieces_of.Given as goal

abbrev pub invariant-loop-k : goal.invariant-loop-k
invariant-loop-k l = record {
  pieces : ArePiecesBelow l.boxes l.crossings.items l.k l.placed.items l.starts.items;
  cursor : IsCursor l.crossings.items l.next l.k;
}
