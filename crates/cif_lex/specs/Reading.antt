-- How the words of a command are read from a text, each with the gap after it.
use Rattle.std.specs.Prelude.{◌≡◌, ℕ, ◌<◌, ◌≤◌, ℤ, pos, neg_ℤ, ◌≤ℤ◌, ◌⊎◌, Option, MatchOption, List, [], ◌∷◌, ◌++◌}
use Rattle.std.specs.Prelude.{length, drop}
use Rattle.cif_lex.specs.declared.{numbers.{Number.Number, Pair.Pair}, placement.Transformation.Transformation}
use Rattle.cif_lex.specs.declared.placement.Transformation.TheVariants.{Shift, MirrorX, MirrorY, Turn}
use Rattle.cif_lex.specs.{declared.calls.Transformed.Transformed, Blanks.{IsGap, IsCutOff, IsFilled}}
use Rattle.cif_lex.specs.{Transformations.words_of, Words.{Word, number, IsSpelled, IsWhole}}

-- what stands after a gap: the end, a comment that has no end, or something filled
abbrev pub IsStop : List ℕ → Type 0
IsStop text = IsCutOff text ⊎ IsFilled text

-- the text after the gap that a text begins with
pub record IsAfterGap (text rest : List ℕ) : Type 0 where
  pub gap : List ℕ
  pub is_gap : IsGap gap
  pub joined : text ≡ gap ++ rest
  pub stop : IsStop rest

-- the text after the word that a text begins with, and after its gap
pub record IsRead (word : Word) (text rest : List ℕ) : Type 0 where
  pub own : List ℕ
  pub after : List ℕ
  pub joined : text ≡ own ++ after
  pub is_spelled : IsSpelled word own
  pub is_whole : IsWhole word after
  pub is_after : IsAfterGap after rest

-- the text after the words that a text begins with
abbrev pub AreRead : List Word → List ℕ → List ℕ → Type 0
AreRead [] text rest = text ≡ rest
AreRead (word ∷ words) text rest = (mid : List ℕ) × IsRead word text mid × AreRead words mid rest

-- ---- numbers

-- at most one past the limit either side of 0
pub record IsSmall (n : ℤ) : Type 0 where
  pub low : neg_ℤ (pos 1073741825) ≤ℤ n
  pub high : n ≤ℤ pos 1073741825

pub record IsNumberRead (text : List ℕ) (read : Number) : Type 0 where
  pub some : 0 < read.length
  pub within : read.length ≤ length text
  pub small : IsSmall read.value
  pub is_read : IsRead (number read.value) text (drop read.length text)

-- the number that a text begins with, or that there is none
abbrev pub IsNumberAnswer : List ℕ → Option Number → Type 0
IsNumberAnswer text answer = MatchOption answer ((n : ℤ) (rest : List ℕ) → IsRead (number n) text rest → ⊥)
    (IsNumberRead text)

pub record IsPairRead (text : List ℕ) (read : Pair) : Type 0 where
  pub some : 0 < read.length
  pub within : read.length ≤ length text
  pub first_small : IsSmall read.first
  pub second_small : IsSmall read.second
  pub are_read : AreRead (number read.first ∷ number read.second ∷ []) text (drop read.length text)

-- the two numbers that a text begins with, or that there are none
abbrev pub IsPairAnswer : List ℕ → Option Pair → Type 0
IsPairAnswer text answer =
    MatchOption answer ((m n : ℤ) (rest : List ℕ) → AreRead (number m ∷ number n ∷ []) text rest → ⊥) (IsPairRead text)

-- ---- transformations

abbrev pub HasSmallNumbers : Transformation → Type 0
HasSmallNumbers (Shift x y) = IsSmall x × IsSmall y
HasSmallNumbers MirrorX = Unit {0}
HasSmallNumbers MirrorY = Unit {0}
HasSmallNumbers (Turn a b) = IsSmall a × IsSmall b

pub record IsTransformationRead (text : List ℕ) (read : Transformed) : Type 0 where
  pub some : 0 < read.length
  pub within : read.length ≤ length text
  pub small : HasSmallNumbers read.transformation
  pub are_read : AreRead (words_of read.transformation) text (drop read.length text)

-- the transformation that a text begins with, or that there is none
abbrev pub IsTransformationAnswer : List ℕ → Option Transformed → Type 0
IsTransformationAnswer text answer =
    MatchOption answer ((t : Transformation) (rest : List ℕ) → AreRead (words_of t) text rest → ⊥)
    (IsTransformationRead text)
