use Rattle.std.proofs.Common.{◌≡◌, length}
use Rattle.graph_search.{specs.Search.IsBeside, proofs.Numbering.IsNumbering}
use Rattle.graph_search.proofs.search.numbers.Given as goal

abbrev pub invariant-loop-part : goal.invariant-loop-part
invariant-loop-part l = record {
  marked : length l.marks.items ≡ length l.neighbours;
  numbering : IsNumbering (IsBeside l.neighbours) l.marks.items l.nets.items l.count;
  counted : length l.nets.items ≡ l.part;
}
