-- Why words are refused.
use Rattle.clap.specs.declared.error.kind.ErrorKind.{ErrorKind}
use Rattle.clap.specs.declared.error.kind.ErrorKind.TheVariants as kind
use Rattle.run_words.specs.declared.commands.WordsFault.{WordsFault, TheVariants.{Usage, OutOfMemory}}

-- what an error of `clap` comes to: whatever it is, but for want of memory, the words are refused, a request for help
-- among them
abbrev pub fault_by : ErrorKind → WordsFault
fault_by kind.OutOfMemory = OutOfMemory
fault_by other = Usage
