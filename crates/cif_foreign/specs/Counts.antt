-- How many boxes there are, as far as it is counted, and a file without the steps that have none.
use Rattle.std.specs.{Prelude.{◌≡◌, ℕ, ◌+◌, min, nat_lt, Bool, true, List, length, map, slice_index_or}, List.filter}
use Rattle.cif_read.specs.{Hierarchies.Drawn, Files.most_boxes}
use Rattle.cif_read.specs.declared.file.{ForeignFile.ForeignFile, ForeignSymbol.ForeignSymbol, ForeignStep.ForeignStep}
use Rattle.cif_read.specs.declared.file.ForeignStep.TheVariants.{Own, Called}

-- all that are too many count as one past the most
abbrev pub counted : List Drawn → ℕ
counted boxes = min (length boxes) (most_boxes + 1)

-- these are the counts of the lists
abbrev pub AreCounts : List ℕ → List (List Drawn) → Type 0
AreCounts counts boxes = counts ≡ map counted boxes

-- whether a step has boxes, where the symbols have so many each
abbrev pub has_boxes : List ℕ → ForeignStep → Bool
has_boxes counts (Own box) = true
has_boxes counts (Called symbol turn x y) = nat_lt 0 (slice_index_or counts symbol 0)

abbrev pub filled_symbol : List ℕ → ForeignSymbol → ForeignSymbol
filled_symbol counts symbol = record symbol { steps = filter (has_boxes counts) symbol.steps }

abbrev pub filled_file : List ℕ → ForeignFile → ForeignFile
filled_file counts file =
    record { symbols = map (filled_symbol counts) file.symbols; top = filter (has_boxes counts) file.top }
