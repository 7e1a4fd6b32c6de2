use Rattle.std.proofs.Common.{◌≡◌, ◌+◌, ◌≤◌, All, map, length, take}
use Rattle.cif_read.specs.{Files.most_boxes, Hierarchies.boxes_of_symbols, Foreign.foreign_symbol}
use Rattle.cif_foreign.specs.Counts.{AreCounts}
use Rattle.cif_foreign.proofs.flattening.count_symbols.Given as goal

abbrev pub invariant-loop-symbol : goal.invariant-loop-symbol
invariant-loop-symbol l = record {
  counts : AreCounts l.counts.items (boxes_of_symbols (map foreign_symbol (take l.symbol-index l.file.symbols)));
  few : All (λ count. count ≤ most_boxes + 1) l.counts.items;
  all : length l.counts.items ≡ l.symbol-index;
}
