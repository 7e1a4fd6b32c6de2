-- What a file that has been read holds, as a hierarchy.
use Rattle.std.specs.Prelude.{ℕ, List}
use Rattle.cif_read.specs.declared.{fault.CifReadFault.CifReadFault, file.ForeignFile.ForeignFile}
use Rattle.cif_read.specs.{Hierarchies.Hierarchy, Foreign.{foreign_hierarchy, IsForeignFile}, Readers.IsCauseBy}
use Rattle.cif_foreign.specs.Meaning.{reader}

abbrev pub hierarchy_of : ForeignFile → Hierarchy
hierarchy_of file = foreign_hierarchy file

-- each symbol calls those before it alone, and not too deep
abbrev pub CanBeFlattened : ForeignFile → Type 0
CanBeFlattened file = IsForeignFile file

-- why a text could not be read
abbrev pub IsCauseOf : List ℕ → CifReadFault → Type 0
IsCauseOf text fault = IsCauseBy reader text fault
