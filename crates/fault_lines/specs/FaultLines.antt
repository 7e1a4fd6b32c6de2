-- The lines that say what is wrong with a technology, a design, a script or a CIF text.
use Rattle.std.specs.Prelude.{ℕ, List, [], ◌∷◌, ◌++◌, codes, decimal}
use Rattle.rule_table.specs.{Keys.dotted_key, declared.faults.TechFault.TechFault}
use Rattle.stick_text.specs.declared.fault.{StickKind.StickKind, StickFault.StickFault}
use Rattle.stick_text.specs.declared.fault.StickKind.TheVariants as kinds
use Rattle.rule_table.specs.declared.faults.TechFault.TheVariants as numbers
use Rattle.cif_read.specs.declared.fault.{CifFault.CifFault, CifKind.CifKind}
use Rattle.cif_read.specs.declared.fault.CifKind.TheVariants as cif
use Rattle.tech_file.specs.declared.faults.TechFileFault.{TechFileFault}
use Rattle.tech_file.specs.declared.faults.TechFileFault.TheVariants as faults

-- the fault's name, and its key where it has one
abbrev pub numbers_words : TechFault → List ℕ
numbers_words (numbers.OutOfRange key) = codes "OutOfRange " ++ dotted_key key
numbers_words numbers.OddGrid = codes "OddGrid"
numbers_words (numbers.OddWidth key) = codes "OddWidth " ++ dotted_key key
numbers_words (numbers.ZeroSpacing key) = codes "ZeroSpacing " ++ dotted_key key
numbers_words numbers.ShortChannel = codes "ShortChannel"
numbers_words numbers.ShortExtension = codes "ShortExtension"
numbers_words numbers.NarrowFet = codes "NarrowFet"
numbers_words numbers.PadTooSmall = codes "PadTooSmall"

abbrev pub tech_words : TechFileFault → List ℕ
tech_words faults.NotToml = codes "NotToml"
tech_words (faults.Missing key) = codes "Missing " ++ dotted_key key
tech_words (faults.WrongType key) = codes "WrongType " ++ dotted_key key
tech_words (faults.Unknown key) = codes "Unknown " ++ key
tech_words (faults.Numbers fault) = numbers_words fault

abbrev pub tech_line : TechFileFault → List ℕ
tech_line fault = codes "sticks: technology: " ++ (tech_words fault ++ (10 ∷ []))

abbrev pub kind_word : StickKind → List ℕ
kind_word kinds.BadByte = codes "BadByte"
kind_word kinds.NumberTooLarge = codes "NumberTooLarge"
kind_word kinds.BadLine = codes "BadLine"
kind_word kinds.Unended = codes "Unended"
kind_word kinds.TooManyCells = codes "TooManyCells"
kind_word kinds.RepeatedName = codes "RepeatedName"
kind_word kinds.UnknownName = codes "UnknownName"
kind_word kinds.UseCycle = codes "UseCycle"
kind_word kinds.UseDepth = codes "UseDepth"
kind_word kinds.UsedPorts = codes "UsedPorts"
kind_word kinds.FarPlace = codes "FarPlace"
kind_word kinds.BadSize = codes "BadSize"
kind_word kinds.NarrowWire = codes "NarrowWire"
kind_word kinds.WrongTerminal = codes "WrongTerminal"
kind_word kinds.NotStraight = codes "NotStraight"
kind_word kinds.WrongLayer = codes "WrongLayer"
kind_word kinds.WrongSide = codes "WrongSide"
kind_word kinds.WideWire = codes "WideWire"
kind_word kinds.PortWires = codes "PortWires"
kind_word kinds.BadLimit = codes "BadLimit"
kind_word kinds.NoBuried = codes "NoBuried"

abbrev pub stick_line : StickFault → List ℕ
stick_line fault = codes "sticks: line " ++ (decimal fault.line ++ (codes ": " ++ (kind_word fault.kind ++ (10 ∷ []))))

abbrev pub cif_word : CifKind → List ℕ
cif_word cif.BadCommand = codes "BadCommand"
cif_word cif.BadNumber = codes "BadNumber"
cif_word cif.NestedDefinition = codes "NestedDefinition"
cif_word cif.RepeatedSymbol = codes "RepeatedSymbol"
cif_word cif.UnknownSymbol = codes "UnknownSymbol"
cif_word cif.NoLayer = codes "NoLayer"
cif_word cif.OddScale = codes "OddScale"
cif_word cif.TooDeep = codes "TooDeep"
cif_word cif.NoEnd = codes "NoEnd"
cif_word cif.AfterEnd = codes "AfterEnd"

abbrev pub cif_line : CifFault → List ℕ
cif_line fault = codes "sticks: byte " ++ (decimal fault.offset ++ (codes ": " ++ (cif_word fault.kind ++ (10 ∷ []))))

-- a line of a script, counted from 1
abbrev pub script_line : ℕ → List ℕ
script_line number = codes "sticks: script line " ++ (decimal number ++ (10 ∷ []))

-- two boxes, by their numbers
abbrev pub improper_line : ℕ → ℕ → List ℕ
improper_line a b = codes "sticks: not proper: boxes " ++ (decimal a ++ (codes " " ++ (decimal b ++ (10 ∷ []))))

-- a rule and two boxes, by their numbers
abbrev pub broken_line : ℕ → ℕ → ℕ → List ℕ
broken_line rule a b =
    codes "sticks: rule "
    ++ (decimal rule ++ (codes ": boxes " ++ (decimal a ++ (codes " " ++ (decimal b ++ (10 ∷ []))))))
