-- The technology that a text is, or the first of its faults.
use Rattle.std.specs.Prelude.{◌≡◌, ℕ, if◌then◌else◌, List, Option, Some, None, option_map, Result, Ok, Err}
use Rattle.std.specs.{Option.ok_or, Str.is_utf8}
use Rattle.toml.specs.{Data.Members, Parse.parse_document}
use Rattle.rule_table.specs.{declared.keys.Numbers.Numbers, Keys.has_buried, Faults.fault_of}
use Rattle.tech_file.specs.declared.faults.{KeyFault.KeyFault, TechFileFault.{TechFileFault, TheVariants.NotToml}}
use Rattle.tech_file.specs.declared.faults.TechFileFault.TheVariants.{Missing, WrongType, Unknown, Numbers as Unfit}
use Rattle.tech_file.specs.declared.faults.ReadTechFault.{ReadTechFault, TheVariants.{File, OutOfMemory}}
use Rattle.tech_file.specs.{Numbers.{◌>>=◌, numbers_in}, Unknown.{unknown_keys, least}}
use Rattle.tech_file.specs.declared.faults.KeyFault.TheVariants as of_key

-- the table that a text is: UTF-8, and TOML
unfoldable pub table_of : List ℕ → Result Members TechFileFault
table_of text = ok_or (if is_utf8 text then parse_document text else None) NotToml

-- the fault of a key, as one of the text
abbrev pub fault_at : KeyFault → TechFileFault
fault_at (of_key.Missing key) = Missing key
fault_at (of_key.WrongType key) = WrongType key

abbrev pub numbers_or_fault : Result Numbers KeyFault → Result Numbers TechFileFault
numbers_or_fault (Ok n) = Ok n
numbers_or_fault (Err fault) = Err (fault_at fault)

-- the numbers, unless there is a fault
unfoldable pub unless : Option TechFileFault → Numbers → Result Numbers TechFileFault
unless None n = Ok n
unless (Some fault) n = Err fault

-- the numbers of the technology that a table is, or its first fault
unfoldable pub technology_in : Members → Result Numbers TechFileFault
technology_in top = do
  n ← numbers_or_fault (numbers_in top)
  known ← unless (option_map Unknown (least (unknown_keys (has_buried n) top))) n
  unless (option_map Unfit (fault_of n)) n

-- the numbers of the technology that a text is, or its first fault
unfoldable pub technology_of : List ℕ → Result Numbers TechFileFault
technology_of text = do
  top ← table_of text
  technology_in top

-- A refusal is the fault of what was read, unless memory ran out.
abbrev pub Refuses : {A : Type 0} → ReadTechFault → Result A TechFileFault → Type 0
Refuses (File fault) read = read ≡ Err fault
Refuses OutOfMemory read = Unit {0}
