-- The names that a map from names to things holds, in order.
use Rattle.std.specs.Prelude.{map}
use Rattle.checked_cells.specs.{declared.table.NameMap.NameMap, Paths.Names}

abbrev pub entries_of : NameMap → Names
entries_of names = map (λ entry. (entry.0.now, entry.1)) names.bindings.entries
