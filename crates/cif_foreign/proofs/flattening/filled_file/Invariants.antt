use Rattle.std.proofs.Common.{◌≡◌, map, take}
use Rattle.cif_foreign.specs.Counts.{filled_symbol}
use Rattle.cif_foreign.proofs.flattening.filled_file.Given as goal

abbrev pub invariant-loop-symbol : goal.invariant-loop-symbol
invariant-loop-symbol l = l.symbols.items ≡ map (filled_symbol l.counts) (take l.symbol-index l.file.symbols)
