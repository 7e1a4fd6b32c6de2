-- The cause of a refusal by the cause of the step that refused.
use Rattle.cif_read.specs.declared.fault.{CifReadFault.CifReadFault, FlatFault.FlatFault}
use Rattle.cif_read.specs.declared.fault.CifReadFault.TheVariants as reading
use Rattle.cif_read.specs.declared.fault.FlatFault.TheVariants as flattening
use Rattle.net_model.specs.declared.netlist.ExtractFault.{ExtractFault}
use Rattle.net_model.specs.declared.netlist.ExtractFault.TheVariants as extraction
use Rattle.cif_answers.specs.declared.fault.TextFault.{TextFault, TheVariants.{Cif, TooMany, NotProper, OutOfMemory}}

abbrev pub by_reading : CifReadFault → TextFault
by_reading (reading.Cif fault) = Cif fault
by_reading reading.OutOfMemory = OutOfMemory

abbrev pub by_flattening : FlatFault → TextFault
by_flattening flattening.TooMany = TooMany
by_flattening flattening.OutOfMemory = OutOfMemory

abbrev pub by_extraction : ExtractFault → TextFault
by_extraction (extraction.NotProper a b) = NotProper a b
by_extraction extraction.OutOfMemory = OutOfMemory
