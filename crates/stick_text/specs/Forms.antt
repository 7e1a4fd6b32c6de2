-- What a line of words says: a keyword, and what stands after it.
use Rattle.std.specs.Prelude.{◌≡◌, ◌⊎◌, ℕ, if◌then◌else◌, List, [], ◌∷◌, Some, None, Result, Ok, Err, codes}
use Rattle.std.specs.Str.{bytes_eq}
use Rattle.stick_text.specs.declared.fault.{StickKind.{StickKind, TheVariants.BadLine}, LineFault.LineFault}
use Rattle.stick_text.specs.declared.design.Form.{Form, TheVariants.{Joint, Contact, Buried, Fet, Port, Inst, Wire}}
use Rattle.stick_text.specs.declared.design.{Form.TheVariants.Limit, Statement.{Statement, TheVariants.{Version, Cell}}}
use Rattle.stick_text.specs.{declared.design.Statement.TheVariants.{Item, Grid, Row, End}, Reading.{◌>>=◌, FailsLine}}
use Rattle.stick_text.specs.Words.{Word, Prefix, path_at, name_at, number_at, count_at, optional_count_at, at_most_at}
use Rattle.stick_text.specs.Words.{layer_at, lower_at, side_at, either_at, ended}

-- ---- a line word by word

-- nothing is read of the words yet
abbrev pub start : {F : Type 0} → F → List Word → Prefix F
start make words = Ok (make, words)

-- what is made so far is given the next thing that is read
infixl 10 ◌&◌
abbrev pub ◌&◌ : {A B : Type 0} → Prefix (A → B) → (List Word → Prefix A) → Prefix B
made & next = do
  make ← made
  value ← next make.1
  Ok (make.0 value.0, value.1)

-- what is made where no word is left
abbrev pub whole : {A : Type 0} → Prefix A → Result A StickKind
whole made = do
  line ← made
  done ← ended line.1
  Ok line.0

-- two numbers stand in front, and these words after them
abbrev pub AreCounts : List Word → ℕ → ℕ → List Word → Type 0
AreCounts words first second rest = (between : List Word) × (count_at words ≡ Ok (first, between))
    × (count_at between ≡ Ok (second, rest))

-- no two numbers stand in front, unless memory ran out
abbrev pub LacksCounts : LineFault → List Word → Type 0
LacksCounts fault words = FailsLine fault (count_at words)
    ⊎ ((first : ℕ) × (between : List Word) × (count_at words ≡ Ok (first, between))
    × FailsLine fault (count_at between))

-- ---- the lines of a cell, after their keyword

-- NAME LAYER COL ROW [WIDTH]
unfoldable pub joint_of : List Word → Result Form StickKind
joint_of words = whole (start Joint words & name_at & layer_at & count_at & count_at & optional_count_at)

-- NAME LOWER COL ROW
unfoldable pub contact_of : List Word → Result Form StickKind
contact_of words = whole (start Contact words & name_at & lower_at & count_at & count_at)

-- NAME COL ROW
unfoldable pub buried_of : List Word → Result Form StickKind
buried_of words = whole (start Buried words & name_at & count_at & count_at)

-- NAME KIND DIR COL ROW W L
unfoldable pub fet_of : List Word → Result Form StickKind
fet_of words =
    whole (start Fet words & name_at & either_at (codes "enh") (codes "dep") & either_at (codes "h") (codes "v") &
    count_at & count_at & count_at & count_at)

-- NAME SIDE LAYER PLACE
unfoldable pub port_of : List Word → Result Form StickKind
port_of words = whole (start Port words & name_at & side_at & layer_at & count_at)

-- NAME CELL COL ROW
unfoldable pub use_of : List Word → Result Form StickKind
use_of words = whole (start Inst words & name_at & name_at & count_at & count_at)

-- LAYER A B [WIDTH]
unfoldable pub wire_of : List Word → Result Form StickKind
wire_of words = whole (start Wire words & layer_at & path_at & path_at & optional_count_at)

-- AXIS A B OP N
unfoldable pub limit_of : List Word → Result Form StickKind
limit_of words =
    whole (start Limit words & either_at (codes "x") (codes "y") & path_at & path_at & at_most_at & number_at)

-- ---- the lines round cells and grids, after their keyword

-- N
unfoldable pub version_of : List Word → Result Statement StickKind
version_of words = whole (start Version words & count_at)

-- NAME
unfoldable pub cell_of : List Word → Result Statement StickKind
cell_of words = whole (start Cell words & name_at)

-- nothing, or NAME
unfoldable pub grid_of : List Word → Result Statement StickKind
grid_of [] = Ok (Grid None)
grid_of (word ∷ rest) = whole (start (λ name. Grid (Some name)) (word ∷ rest) & name_at)

unfoldable pub names_of : List Word → Result (List (List ℕ)) StickKind
names_of [] = Ok []
names_of (word ∷ rest) = do
  name ← name_at (word ∷ rest)
  names ← names_of rest
  Ok (name.0 ∷ names)

-- NAME NAME .., at least one
unfoldable pub row_of : List Word → Result Statement StickKind
row_of [] = Err BadLine
row_of (word ∷ rest) = do
  names ← names_of (word ∷ rest)
  Ok (Row (record { names = names }))

-- nothing
unfoldable pub end_of : List Word → Result Statement StickKind
end_of words = whole (start End words)

-- ---- the keywords

unfoldable pub form_named : List ℕ → List Word → Result Form StickKind
form_named keyword words =
    if bytes_eq keyword (codes "joint") then joint_of words
    else (if bytes_eq keyword (codes "contact") then contact_of words
    else (if bytes_eq keyword (codes "buried") then buried_of words
    else (if bytes_eq keyword (codes "fet") then fet_of words
    else (if bytes_eq keyword (codes "port") then port_of words
    else (if bytes_eq keyword (codes "use") then use_of words
    else (if bytes_eq keyword (codes "wire") then wire_of words
    else (if bytes_eq keyword (codes "limit") then limit_of words
    else Err BadLine)))))))

unfoldable pub item_named : List ℕ → List Word → Result Statement StickKind
item_named keyword words = do
  form ← form_named keyword words
  Ok (Item form)

unfoldable pub statement_named : List ℕ → List Word → Result Statement StickKind
statement_named keyword words =
    if bytes_eq keyword (codes "sticks") then version_of words
    else (if bytes_eq keyword (codes "cell") then cell_of words
    else (if bytes_eq keyword (codes "end") then end_of words
    else (if bytes_eq keyword (codes "grid") then grid_of words
    else (if bytes_eq keyword (codes "row") then row_of words
    else item_named keyword words))))

unfoldable pub statement_of : List Word → Result Statement StickKind
statement_of words = do
  keyword ← path_at words
  statement_named keyword.0 keyword.1
