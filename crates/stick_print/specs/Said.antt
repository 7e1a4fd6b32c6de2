-- The words of each line, and that a line has them which says it.
use Rattle.std.specs.Prelude.{◌≡◌, ℕ, pos, Bool, true, false, List, [], ◌∷◌, map, Option, Some, None, Ok}
use Rattle.stick_text.specs.declared.design.Form.{Form, TheVariants.{Joint, Contact, Buried, Fet, Port, Inst, Wire}}
use Rattle.stick_text.specs.declared.design.{Form.TheVariants.Limit, Statement.{Statement, TheVariants.{Version, Cell}}}
use Rattle.stick_text.specs.{declared.design.Statement.TheVariants.{Item, Grid, Row, End}, Words.{Word, Path, Number}}
use Rattle.stick_text.specs.{Words.{AtMost, AtLeast}, Forms.statement_of, Writable.IsStatement}
use Rattle.stick_print.specs.Canonical.{layer_word, side_word, kind_word, direction_word, axis_word, keyword_of}

-- ---- what stands after the keyword

abbrev pub width_said : Option ℕ → List Word
width_said None = []
width_said (Some width) = Number (pos width) ∷ []

abbrev pub name_said : Option (List ℕ) → List Word
name_said None = []
name_said (Some name) = Path name ∷ []

abbrev pub bound_said : Bool → Word
bound_said true = AtMost
bound_said false = AtLeast

abbrev pub form_said : Form → List Word
form_said (Joint name layer col row width) =
    Path name ∷ Path (layer_word layer) ∷ Number (pos col) ∷ Number (pos row) ∷ width_said width
form_said (Contact name lower col row) = Path name ∷ Path (layer_word lower) ∷ Number (pos col) ∷ Number (pos row) ∷ []
form_said (Buried name col row) = Path name ∷ Number (pos col) ∷ Number (pos row) ∷ []
form_said (Fet name depletion vertical col row w l) =
    Path name ∷ Path (kind_word depletion) ∷ Path (direction_word vertical) ∷ Number (pos col) ∷ Number (pos row) ∷
    Number (pos w) ∷ Number (pos l) ∷ []
form_said (Port name side layer place) =
    Path name ∷ Path (side_word side) ∷ Path (layer_word layer) ∷ Number (pos place) ∷ []
form_said (Inst name cell col row) = Path name ∷ Path cell ∷ Number (pos col) ∷ Number (pos row) ∷ []
form_said (Wire layer a b width) = Path (layer_word layer) ∷ Path a ∷ Path b ∷ width_said width
form_said (Limit vertical a b at_most n) =
    Path (axis_word vertical) ∷ Path a ∷ Path b ∷ bound_said at_most ∷ Number n ∷ []

abbrev pub said : Statement → List Word
said (Version version) = Number (pos version) ∷ []
said (Cell name) = Path name ∷ []
said (Item form) = form_said form
said (Grid name) = name_said name
said (Row row) = map (λ name. Path name) row.names
said End = []

-- a line that says this is read so, and no line of other words is
pub record HasItsWords (statement : Statement) : Type 0 where
  pub read : IsStatement statement → statement_of (Path (keyword_of statement) ∷ said statement) ≡ Ok statement
  pub only : (words : List Word) → statement_of words ≡ Ok statement
      → words ≡ Path (keyword_of statement) ∷ said statement

abbrev pub EachHasItsWords : Type 0
EachHasItsWords = (statement : Statement) → HasItsWords statement
