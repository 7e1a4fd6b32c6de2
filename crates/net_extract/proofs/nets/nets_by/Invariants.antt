use Rattle.std.proofs.Common.{◌≡◌, length}
use Rattle.graph_search.proofs.Numbering.{IsNumbering}
use Rattle.net_extract.specs.{Linking.AreBeside, Spreading.IsSearch}
use Rattle.net_extract.proofs.nets.nets_by.Given as goal

abbrev pub invariant-loop-a : goal.invariant-loop-a
invariant-loop-a l = record {
  search : IsSearch l.ground.tech.now l.ground.boxes.now l.ground.pieces.now.placed.items l.search;
  numbering : IsNumbering (AreBeside l.ground.tech.now l.ground.boxes.now l.ground.pieces.now.placed.items)
      l.search.frontier.marks.items l.nets.items l.count;
  counted : length l.nets.items ≡ l.a;
}
