use Rattle.std.proofs.Common.{◌≡◌, map, take}
use Rattle.cif_read.specs.Narrow.{plain_symbol}
use Rattle.cif_read.proofs.plain.plain_symbols.Given as goal

abbrev pub invariant-loop-symbol : goal.invariant-loop-symbol
invariant-loop-symbol l = l.plain.items ≡ map plain_symbol (take l.symbol-index l.symbols)
