-- The words of a line, and what stands at the front of some words.
use Rattle.std.specs.Prelude.{ℕ, ℤ, pos, negsuc, Bool, true, false, nat_le, if◌then◌else◌, List, [], ◌∷◌, Option, Some}
use Rattle.std.specs.{Prelude.{None, Result, Ok, Err, codes}, Str.bytes_eq}
use Rattle.stick_lex.specs.{declared.token.{Token.Token, TokenKind.TokenKind}, Tokens.{text_of, is_name}}
use Rattle.stick_lex.specs.declared.token.TokenKind.TheVariants as kinds
use Rattle.stick_text.specs.declared.{fault.StickKind.{StickKind, TheVariants.BadLine}, design.Layer.Layer}
use Rattle.stick_text.specs.{declared.design.Layer.TheVariants.{Diffusion, Poly, Metal}, Reading.◌>>=◌}
use Rattle.lam_geom.specs.declared.boxes.Side.{Side, TheVariants.{Left, Right, Bottom, Top}}

pub data Word : Type 0 where
  Path : List ℕ → Word
  Number : ℤ → Word
  AtMost : Word
  AtLeast : Word

-- what a token of the line says
abbrev pub word_by : TokenKind → List ℕ → ℤ → Word
word_by kinds.Path text value = Path text
word_by kinds.Number text value = Number value
word_by kinds.AtMost text value = AtMost
word_by kinds.AtLeast text value = AtLeast

abbrev pub word_of : List ℕ → Token → Word
word_of line token = word_by token.kind (text_of line token) token.value

-- ---- what stands in front, and the words after it

abbrev pub Prefix : Type 0 → Type 0
Prefix A = Result (A × List Word) StickKind

unfoldable pub path_at : List Word → Prefix (List ℕ)
path_at (Path text ∷ rest) = Ok (text, rest)
path_at words = Err BadLine

-- a path that is one name
unfoldable pub name_at : List Word → Prefix (List ℕ)
name_at words = do
  path ← path_at words
  if is_name path.0 then Ok path else Err BadLine

unfoldable pub number_at : List Word → Prefix ℤ
number_at (Number n ∷ rest) = Ok (n, rest)
number_at words = Err BadLine

-- a number that is not negative; past a million no word of a line has one, by a law, since its token is too large
abbrev pub count_of : ℤ → List Word → Prefix ℕ
count_of (pos n) rest = if nat_le n 1000000 then Ok (n, rest) else Err BadLine
count_of (negsuc n) rest = Err BadLine

unfoldable pub count_at : List Word → Prefix ℕ
count_at words = do
  number ← number_at words
  count_of number.0 number.1

-- a number where words are left
unfoldable pub optional_count_at : List Word → Prefix (Option ℕ)
optional_count_at [] = Ok (None, [])
optional_count_at (word ∷ rest) = do
  count ← count_at (word ∷ rest)
  Ok (Some count.0, count.1)

-- true for `<=`
unfoldable pub at_most_at : List Word → Prefix Bool
at_most_at (AtMost ∷ rest) = Ok (true, rest)
at_most_at (AtLeast ∷ rest) = Ok (false, rest)
at_most_at words = Err BadLine

-- ---- a word out of a few

-- the value of a path that stands for one
abbrev pub value_at : {A : Type 0} → (List ℕ → Result A StickKind) → List Word → Prefix A
value_at value_of words = do
  path ← path_at words
  value ← value_of path.0
  Ok (value, path.1)

abbrev pub layer_named : List ℕ → Result Layer StickKind
layer_named text = if bytes_eq text (codes "diff") then Ok Diffusion
    else (if bytes_eq text (codes "poly") then Ok Poly
    else (if bytes_eq text (codes "metal") then Ok Metal else Err BadLine))

unfoldable pub layer_at : List Word → Prefix Layer
layer_at words = value_at layer_named words

-- the lower layer of a contact
abbrev pub lower_named : List ℕ → Result Layer StickKind
lower_named text = if bytes_eq text (codes "diff") then Ok Diffusion
    else (if bytes_eq text (codes "poly") then Ok Poly else Err BadLine)

unfoldable pub lower_at : List Word → Prefix Layer
lower_at words = value_at lower_named words

abbrev pub side_named : List ℕ → Result Side StickKind
side_named text = if bytes_eq text (codes "left") then Ok Left
    else (if bytes_eq text (codes "right") then Ok Right
    else (if bytes_eq text (codes "bottom") then Ok Bottom
    else (if bytes_eq text (codes "top") then Ok Top else Err BadLine)))

unfoldable pub side_at : List Word → Prefix Side
side_at words = value_at side_named words

-- one of two words: false for the first, true for the second
abbrev pub second_of : List ℕ → List ℕ → List ℕ → Result Bool StickKind
second_of first second text = if bytes_eq text first then Ok false
    else (if bytes_eq text second then Ok true else Err BadLine)

unfoldable pub either_at : List ℕ → List ℕ → List Word → Prefix Bool
either_at first second words = value_at (second_of first second) words

-- no word is left
unfoldable pub ended : List Word → Result (Unit {0}) StickKind
ended [] = Ok tt
ended (word ∷ rest) = Err BadLine
