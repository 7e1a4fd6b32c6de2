-- The meaning of a CIF text of any tool, and the first fault of one that has none.
use Rattle.std.specs.Prelude.{ℕ, List}
use Rattle.cif_read.specs.declared.{fault.CifFault.CifFault, dialect.Dialect.TheVariants.Foreign}
use Rattle.cif_read.specs.{Hierarchies.Hierarchy, Acts.State, Readers.{Reader, MeansBy, IsFirstFaultBy, IsDeterminedBy}}
use Rattle.cif_read.specs.Meaning.{reader_of}
use Rattle.cif_read.specs.Meaning as plain

-- the reader to which a call may turn, and may stand in a definition
abbrev pub reader : Reader State Hierarchy
reader = reader_of Foreign

abbrev pub Means : List ℕ → Hierarchy → Type 0
Means text hierarchy = MeansBy reader text hierarchy

abbrev pub IsFirstFault : List ℕ → CifFault → Type 0
IsFirstFault text fault = IsFirstFaultBy reader text fault

-- A text means one hierarchy at most, or has one first fault, and never both.
abbrev pub ForeignReadingsAreDetermined : Type 0
ForeignReadingsAreDetermined = IsDeterminedBy reader

-- A text that means something where calls may only shift, and stand at the top alone, means the same here.
abbrev pub MeaningsStay : Type 0
MeaningsStay = (text : List ℕ) (hierarchy : Hierarchy) → plain.Means text hierarchy → Means text hierarchy
