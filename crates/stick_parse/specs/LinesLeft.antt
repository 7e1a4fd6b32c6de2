-- What is left of a text while it is read.
use Rattle.std.specs.Prelude.{◌≡◌, ℕ, ◌+◌, List, [], ◌∷◌, length, Option, Result, Err}
use Rattle.stick_text.specs.declared.fault.{ParseFault.ParseFault, StickKind.StickKind}
use Rattle.stick_text.specs.{declared.design.Statement.Statement, Lines.{Entry, with_entry}}
use Rattle.stick_parse.specs.declared.cursor.Lines.{Lines}
use Rattle.stick_text.specs.declared.fault.ParseFault.TheVariants as faults

-- the entries of what lines say, of which the first has this number
abbrev pub entries_said : ℕ → List (Result (Option Statement) StickKind) → List Entry
entries_said number [] = []
entries_said number (said ∷ more) = with_entry number said (entries_said (number + 1) more)

-- the lines that are left and say something
abbrev pub left : Lines → List Entry
left l = entries_said (l.number + 1) l.said.items

-- the number of the last line of the text
abbrev pub last_of : Lines → ℕ
last_of l = l.number + length l.said.items

-- the first of the entries has this fault
abbrev pub BeginsWith : ParseFault → List Entry → Type 0
BeginsWith faults.OutOfMemory es = Unit {0}
BeginsWith (faults.Stick fault) es = (more : List Entry)
    × (es ≡ record { number = fault.line; said = Err fault.kind } ∷ more)
