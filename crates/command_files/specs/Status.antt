-- The numbers with which the program ends.
use Rattle.std.specs.Prelude.{ℕ}
use Rattle.command_files.specs.declared.status.Status.{Status, TheVariants.{Done, OutOfMemory, Usage, ReadFault}}
use Rattle.command_files.specs.declared.status.Status.TheVariants.{WriteFault, TooLong, BadTech, BadSticks, BadGrid}
use Rattle.command_files.specs.declared.status.Status.TheVariants.{TooLarge, Clash, Unsatisfiable, BadCif, RuleBroken}
use Rattle.command_files.specs.declared.status.Status.TheVariants.{NotProper, BadScript}

abbrev pub code_of : Status → ℕ
code_of Done = 0
code_of OutOfMemory = 1
code_of Usage = 2
code_of (ReadFault file) = 3
code_of (WriteFault side) = 4
code_of (TooLong file) = 5
code_of (BadTech fault) = 6
code_of (BadSticks fault) = 7
code_of (BadGrid grid fault) = 8
code_of (TooLarge what) = 9
code_of (Clash cell a b) = 10
code_of (Unsatisfiable pass) = 11
code_of (BadCif fault) = 12
code_of (RuleBroken rule a b) = 13
code_of (NotProper a b) = 14
code_of (BadScript line) = 16
