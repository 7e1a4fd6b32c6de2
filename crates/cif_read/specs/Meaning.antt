-- The meaning of a CIF text, and the first fault of one that has none.
use Rattle.std.specs.Prelude.{ℕ, is_some, Result, List}
use Rattle.cif_lex.specs.declared.command.Command.{Command}
use Rattle.cif_read.specs.declared.{dialect.Dialect.{Dialect, TheVariants.Plain}, fault.CifKind.CifKind}
use Rattle.cif_read.specs.{declared.fault.CifFault.CifFault, Hierarchies.Hierarchy, Acts.{State, start, act}}
use Rattle.cif_read.specs.Readers.{Reader, then_act_by, acts_by, MeansBy, IsFirstFaultBy, IsDeterminedBy}

abbrev pub hierarchy_drawn : State → Hierarchy
hierarchy_drawn state = record { symbols = state.symbols; steps = state.level.steps }

-- the reader of a dialect
abbrev pub reader_of : Dialect → Reader State Hierarchy
reader_of dialect =
    record { start = start; act = act dialect; is_open = λ state. is_some state.begun; drawn = hierarchy_drawn }

-- The reader of one level of symbols: a call may stand at the top alone, and only shifts.
abbrev pub reader : Reader State Hierarchy
reader = reader_of Plain

-- commands one after another, from the first
abbrev pub then_act : Result State CifKind → Command → Result State CifKind
then_act answer command = then_act_by reader answer command

abbrev pub acts : List Command → Result State CifKind
acts commands = acts_by reader commands

abbrev pub Means : List ℕ → Hierarchy → Type 0
Means text hierarchy = MeansBy reader text hierarchy

abbrev pub IsFirstFault : List ℕ → CifFault → Type 0
IsFirstFault text fault = IsFirstFaultBy reader text fault

-- A text means one hierarchy at most, or has one first fault, and never both.
abbrev pub ReadingsAreDetermined : Type 0
ReadingsAreDetermined = IsDeterminedBy reader
