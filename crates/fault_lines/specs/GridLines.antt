-- The line that says what is wrong with a grid.
use Rattle.std.specs.Prelude.{ℕ, Bool, Option, Some, None, List, [], ◌∷◌, ◌++◌, codes, decimal, if◌then◌else◌}
use Rattle.stick_text.specs.declared.fault.GridFault.{GridFault, TheVariants.{Empty, UnknownCell, RaggedRow}}
use Rattle.stick_text.specs.declared.fault.GridFault.TheVariants.{PortMismatch}

abbrev pub border_word : Bool → List ℕ
border_word top = if top then codes " top " else codes " right "

-- the place of an instance after some words
abbrev pub place_words : List ℕ → ℕ → ℕ → List ℕ
place_words words row col = words ++ (decimal row ++ (codes " " ++ decimal col))

-- the fault's name, and its numbers where it has some
abbrev pub grid_words : GridFault → List ℕ
grid_words Empty = codes "Empty"
grid_words (UnknownCell row col) = place_words (codes "UnknownCell ") row col
grid_words (RaggedRow row) = codes "RaggedRow " ++ decimal row
grid_words (PortMismatch row col top index) =
    place_words (codes "PortMismatch ") row col ++ (border_word top ++ decimal index)

-- the name of a grid, where it has one
abbrev pub name_words : Option (List ℕ) → List ℕ
name_words None = []
name_words (Some name) = 32 ∷ name

abbrev pub grid_line : Option (List ℕ) → GridFault → List ℕ
grid_line name fault = codes "sticks: grid" ++ (name_words name ++ (codes ": " ++ (grid_words fault ++ (10 ∷ []))))
