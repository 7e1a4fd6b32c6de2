-- What stands between the words of a CIF text: blanks and comments.
use Rattle.std.specs.Prelude.{◌≡◌, ℕ, ◌<◌, ◌==◌, Bool, not, ◌||◌, ◌⊎◌, All, IsTrue, List, [], ◌∷◌, length, take}
use Rattle.std.specs.{Prelude.{flat_map, count_by}, Char.{is_ascii_digit, is_ascii_uppercase}}

abbrev pub opening : ℕ
opening = 40

abbrev pub closing : ℕ
closing = 41

abbrev pub minus : ℕ
minus = 45

abbrev pub semicolon : ℕ
semicolon = 59

-- every byte but capitals, digits, minus, parentheses and the semicolon
abbrev pub is_blank : ℕ → Bool
is_blank b =
    not (is_ascii_uppercase b || is_ascii_digit b || (b == minus) || (b == opening) || (b == closing)
    || (b == semicolon))

-- how many parentheses open and close in a text
abbrev pub opened : List ℕ → ℕ
opened text = count_by (λ b. b == opening) text

abbrev pub closed : List ℕ → ℕ
closed text = count_by (λ b. b == closing) text

-- in front of each place but the first and the end, more parentheses have opened than closed
abbrev pub StaysOpen : List ℕ → Type 0
StaysOpen text = (k : ℕ) → 0 < k → k < length text → closed (take k text) < opened (take k text)

-- A comment: a parenthesis opens it, and the one that closes that one ends it. Parentheses in it are balanced.
pub record IsComment (text : List ℕ) : Type 0 where
  pub inside : List ℕ
  pub begun : text ≡ opening ∷ inside
  pub balanced : opened text ≡ closed text
  pub open_inside : StaysOpen text

-- A comment that has no end: it is open up to the end of the text.
pub record IsUnclosed (text : List ℕ) : Type 0 where
  pub inside : List ℕ
  pub begun : text ≡ opening ∷ inside
  pub unbalanced : closed text < opened text
  pub open_inside : StaysOpen text

-- one blank, or one comment
abbrev pub IsFiller : List ℕ → Type 0
IsFiller text = ((b : ℕ) × (text ≡ b ∷ []) × IsTrue (is_blank b)) ⊎ IsComment text

-- A gap: any number of blanks and comments.
pub record IsGap (text : List ℕ) : Type 0 where
  pub fillers : List (List ℕ)
  pub joined : text ≡ flat_map (λ filler. filler) fillers
  pub each : All IsFiller fillers

-- the text has ended, or a comment has begun that has no end
abbrev pub IsCutOff : List ℕ → Type 0
IsCutOff text = (text ≡ []) ⊎ IsUnclosed text

-- neither a gap nor the end: what stands here is no blank, and no parenthesis that opens a comment, with an end or
-- without one
pub record IsFilled (text : List ℕ) : Type 0 where
  pub first : ℕ
  pub more : List ℕ
  pub begun : text ≡ first ∷ more
  pub no_blank : IsTrue (is_blank first) → ⊥
  pub no_opening : first ≡ opening → ⊥
