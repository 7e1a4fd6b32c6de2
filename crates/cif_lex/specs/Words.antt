-- The words of a CIF command: letters, numbers, and the name of a layer.
use Rattle.std.specs.Prelude.{◌≡◌, ℕ, ◌+◌, ◌^◌, ◌<◌, ℤ, pos, neg_ℤ, min, Bool, true, false, ◌||◌, All, IsTrue, IsFalse}
use Rattle.std.specs.{Prelude.{if◌then◌else◌, List, [], ◌∷◌, ◌++◌, length}, Char.{is_ascii_digit, is_ascii_uppercase}}
use Rattle.std.specs.Str.Parse.{digits_value}
use Rattle.cif_lex.specs.Blanks.{minus, IsGap}

pub data Word : Type 0 where
  letter : ℕ → Word
  number : ℤ → Word
  name : List ℕ → Word

-- ---- numbers

-- the greatest distance of a number from 0
abbrev pub limit : ℕ
limit = 2 ^ 30

-- A number is an optional minus, and after it at least one digit.
pub record IsNumeral (is_negative : Bool) (digits text : List ℕ) : Type 0 where
  pub some : 0 < length digits
  pub all : All (λ b. IsTrue (is_ascii_digit b)) digits
  pub spelled : text ≡ (if is_negative then minus ∷ digits else digits)

-- How far a number is from 0. All that are past the limit count as one past it.
abbrev pub capped : List ℕ → ℕ
capped digits = min (digits_value 10 digits) (limit + 1)

abbrev pub signed : Bool → ℕ → ℤ
signed true n = neg_ℤ (pos n)
signed false n = pos n

-- ---- words

abbrev pub is_name_byte : ℕ → Bool
is_name_byte b = is_ascii_uppercase b || is_ascii_digit b

-- the bytes of a word
abbrev pub IsSpelled : Word → List ℕ → Type 0
IsSpelled (letter b) text = text ≡ b ∷ []
IsSpelled (number n) text = (is_negative : Bool) × (digits : List ℕ) × IsNumeral is_negative digits text
    × (n ≡ signed is_negative (capped digits))
IsSpelled (name bytes) text = (text ≡ bytes) × (0 < length bytes) × All (λ b. IsTrue (is_name_byte b)) bytes

-- the text does not go on with such a byte
abbrev pub StopsAt : (ℕ → Bool) → List ℕ → Type 0
StopsAt goes_on [] = Unit {0}
StopsAt goes_on (b ∷ bs) = IsFalse (goes_on b)

-- a number and a name are as long as they can be
abbrev pub IsWhole : Word → List ℕ → Type 0
IsWhole (letter b) after = Unit {0}
IsWhole (number n) after = StopsAt is_ascii_digit after
IsWhole (name bytes) after = StopsAt is_name_byte after

-- Words one after another: gaps may stand between any two, and after the last.
abbrev pub AreSpelled : List Word → List ℕ → Type 0
AreSpelled [] text = text ≡ []
AreSpelled (word ∷ words) text =
    (own gap rest : List ℕ) × (text ≡ own ++ (gap ++ rest)) × IsSpelled word own × IsGap gap
    × IsWhole word (gap ++ rest) × AreSpelled words rest
