-- What a fault of the crossings is to the extraction.
use Rattle.crossing_model.specs.declared.crossing.CrossingFault.{CrossingFault}
use Rattle.crossing_model.specs.declared.crossing.CrossingFault.TheVariants as crossing
use Rattle.net_model.specs.declared.netlist.ExtractFault.{ExtractFault, TheVariants.{NotProper, OutOfMemory}}

abbrev pub fault_of : CrossingFault → ExtractFault
fault_of (crossing.NotProper a b) = NotProper a b
fault_of crossing.OutOfMemory = OutOfMemory
