-- The first fault of a text that says no design.
use Rattle.std.specs.Prelude.{◌≡◌, ℕ, ◌≤◌, ◌⊎◌, Bool, true, false, List, [], ◌∷◌, ◌++◌, count_by, Result, Ok, Err}
use Rattle.stick_text.specs.declared.fault.StickKind.{StickKind, TheVariants.{BadLine, Unended, TooManyCells}}
use Rattle.stick_text.specs.declared.{fault.{StickFault.StickFault, ParseFault.ParseFault}, design.Design.Design}
use Rattle.stick_text.specs.{declared.design.Statement.{Statement, TheVariants.Cell}, Lines.Entry, Order.last_line}
use Rattle.stick_text.specs.Says.{AreLinesOf, said_lines, SaysDesign}
use Rattle.stick_text.specs.declared.fault.ParseFault.TheVariants as faults

-- some design begins with these lines, however many cells it has: more lines after them make it whole
abbrev pub BeginDesign : List Entry → Type 0
BeginDesign entries = (more : List Entry) × (design : Design) × AreLinesOf design (entries ++ more)

abbrev pub says_cell : Result Statement StickKind → Bool
says_cell (Ok (Cell name)) = true
says_cell said = false

-- how many of the lines are `cell` lines
abbrev pub cell_lines : List Entry → ℕ
cell_lines entries = count_by (λ entry. says_cell entry.said) entries

-- a design begins with these lines, and none of them is the 257th `cell` line
pub record AreSound (entries : List Entry) : Type 0 where
  pub begin : BeginDesign entries
  pub few_cells : cell_lines entries ≤ 256

-- ---- why a line after lines that are sound is a fault

-- it can't be read: its fault is its own
abbrev pub IsUnreadable : Entry → StickKind → Type 0
IsUnreadable next kind = next.said ≡ Err kind

-- it can be read, and no design begins with the lines in front and it
pub record IsMisplaced (prefix : List Entry) (next : Entry) (kind : StickKind) : Type 0 where
  pub statement : Statement
  pub said : next.said ≡ Ok statement
  pub none : ¬ BeginDesign (prefix ++ next ∷ [])
  pub told : kind ≡ BadLine

-- a design could go on with it, and it is the 257th `cell` line
pub record IsOneTooMany (prefix : List Entry) (next : Entry) (kind : StickKind) : Type 0 where
  pub name : List ℕ
  pub said : next.said ≡ Ok (Cell name)
  pub begin : BeginDesign (prefix ++ next ∷ [])
  pub full : cell_lines prefix ≡ 256
  pub told : kind ≡ TooManyCells

-- ---- the first fault

-- some line is the first with a fault
pub record BreaksAt (text : List ℕ) (fault : StickFault) : Type 0 where
  pub prefix : List Entry
  pub next : Entry
  pub after : List Entry
  pub parts : said_lines text ≡ prefix ++ next ∷ after
  pub sound : AreSound prefix
  pub line : fault.line ≡ next.number
  pub cause : IsUnreadable next fault.kind ⊎ (IsMisplaced prefix next fault.kind ⊎ IsOneTooMany prefix next fault.kind)

-- a design begins with all lines, and they are none: told at the last line, and at line 1 of an empty text
pub record IsUnended (text : List ℕ) (fault : StickFault) : Type 0 where
  pub sound : AreSound (said_lines text)
  pub none : (design : Design) → ¬ SaysDesign text design
  pub told : fault ≡ record { line = last_line text; kind = Unended }

abbrev pub IsFirstFault : List ℕ → StickFault → Type 0
IsFirstFault text fault = BreaksAt text fault ⊎ IsUnended text fault

-- what `parse` tells of a text, unless memory ran out
abbrev pub Tells : List ℕ → Result Design ParseFault → Type 0
Tells text (Ok design) = SaysDesign text design
Tells text (Err (faults.Stick fault)) = IsFirstFault text fault
Tells text (Err faults.OutOfMemory) = Unit {0}
