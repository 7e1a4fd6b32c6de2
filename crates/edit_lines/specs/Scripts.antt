-- The script of edits: each line adds a limit to a cell, written as in the cell, or takes one of its limits away.
use Rattle.std.specs.{Prelude.{ℕ, List, if◌then◌else◌, Result, Ok, Err, codes}, Str.bytes_eq}
use Rattle.stick_text.specs.declared.{fault.StickKind.{StickKind, TheVariants.BadLine}, design.Form.Form}
use Rattle.stick_text.specs.{declared.design.Form.TheVariants.Limit, Reading.◌>>=◌, Words.{Word, path_at, name_at}}
use Rattle.stick_text.specs.{Words.{count_at, ended}, Forms.limit_of, Writable.IsForm}
use Rattle.script_lines.specs.Scripts.{steps_of}
use Rattle.edit_lines.specs.declared.script.EditLine.{EditLine, TheVariants.{Add, Take}}

-- the edit that adds a limit
abbrev pub added : List ℕ → Form → Result EditLine StickKind
added cell (Limit vertical a b at_most n) = Ok (Add cell vertical a b at_most n)
added cell form = Err BadLine

-- CELL, and what stands in a limit's line after its keyword
unfoldable pub add_of : List Word → Result EditLine StickKind
add_of words = do
  cell ← name_at words
  limit ← limit_of cell.1
  added cell.0 limit

-- CELL K
unfoldable pub take_of : List Word → Result EditLine StickKind
take_of words = do
  cell ← name_at words
  k ← count_at cell.1
  over ← ended k.1
  Ok (Take cell.0 k.0)

unfoldable pub edit_named : List ℕ → List Word → Result EditLine StickKind
edit_named keyword words =
    if bytes_eq keyword (codes "add") then add_of words
    else (if bytes_eq keyword (codes "drop") then take_of words
    else Err BadLine)

-- `add CELL AXIS A B OP N` or `drop CELL K`
unfoldable pub edit_of : List Word → Result EditLine StickKind
edit_of words = do
  keyword ← path_at words
  edit_named keyword.0 keyword.1

-- the edits of a script, or the number of its first bad line
unfoldable pub edits_of : List ℕ → Result (List EditLine) ℕ
edits_of text = steps_of edit_of text

-- a limit that is added can stand in a stick text
abbrev pub HasText : EditLine → Type 0
HasText (Add cell vertical a b at_most n) = IsForm (Limit vertical a b at_most n)
HasText (Take cell k) = Unit {0}

-- the name of the cell that is edited
abbrev pub cell_in : EditLine → List ℕ
cell_in (Add cell vertical a b at_most n) = cell
cell_in (Take cell k) = cell
