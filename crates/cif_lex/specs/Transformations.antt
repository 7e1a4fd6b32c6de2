-- The transformations of a call: their words, and what they do to a point.
use Rattle.std.specs.Prelude.{◌≡◌, ℕ, zero, suc, ◌%◌, ◌<◌, ℤ, pos, neg_ℤ, ◌+ℤ◌, ◌≤ℤ◌, nat_lt, int_lt, if◌then◌else◌}
use Rattle.std.specs.Prelude.{List, [], ◌∷◌}
use Rattle.cif_lex.specs.declared.placement.Transformation.{Transformation, TheVariants.{Shift, MirrorX, MirrorY, Turn}}
use Rattle.cif_lex.specs.{declared.placement.Placement.Placement, Words.{Word, letter, number}}

abbrev pub Point : Type 0
Point = ℤ × ℤ

-- ---- what is done to a point

abbrev pub shifted : ℤ → ℤ → Point → Point
shifted x y p = (p.0 +ℤ x, p.1 +ℤ y)

-- x times -1, and y times -1
abbrev pub x_mirrored : Point → Point
x_mirrored p = (neg_ℤ p.0, p.1)

abbrev pub y_mirrored : Point → Point
y_mirrored p = (p.0, neg_ℤ p.1)

-- a quarter turn, from the x axis to the y axis; and so many of them
abbrev pub quarter : Point → Point
quarter p = (neg_ℤ p.1, p.0)

abbrev pub quarters : ℕ → Point → Point
quarters zero p = p
quarters (suc n) p = quarter (quarters n p)

-- how many quarter turns take the x axis towards (a, b), of which one number is 0
abbrev pub quarters_towards : ℤ → ℤ → ℕ
quarters_towards a b = if int_lt (pos 0) a then 0
    else (if int_lt (pos 0) b then 1 else (if int_lt a (pos 0) then 2 else 3))

abbrev pub applied : Transformation → Point → Point
applied (Shift x y) p = shifted x y p
applied MirrorX p = x_mirrored p
applied MirrorY p = y_mirrored p
applied (Turn a b) p = quarters (quarters_towards a b) p

-- one after another, from left to right
abbrev pub all_applied : List Transformation → Point → Point
all_applied [] p = p
all_applied (t ∷ ts) p = all_applied ts (applied t p)

-- ---- a placement, which says in one what transformations do one after another

-- below 4 that many quarter turns; 4 more means that x is multiplied by -1 first
abbrev pub turned : ℕ → Point → Point
turned turn p = quarters (turn % 4) (if nat_lt turn 4 then p else x_mirrored p)

-- the turn, then the shift
abbrev pub placed : Placement → Point → Point
placed place p = shifted place.x place.y (turned place.turn p)

pub record IsComposedOf (ts : List Transformation) (place : Placement) : Type 0 where
  pub turn : place.turn < 8
  pub same : (p : Point) → placed place p ≡ all_applied ts p

-- ---- words

-- `T x y`, `M X`, `M Y`, `R a b`
abbrev pub words_of : Transformation → List Word
words_of (Shift x y) = letter 84 ∷ number x ∷ number y ∷ []
words_of MirrorX = letter 77 ∷ letter 88 ∷ []
words_of MirrorY = letter 77 ∷ letter 89 ∷ []
words_of (Turn a b) = letter 82 ∷ number a ∷ number b ∷ []

-- ---- sizes

-- both numbers are no farther from 0 than this
pub record IsNear (reach : ℕ) (p : Point) : Type 0 where
  pub left : neg_ℤ (pos reach) ≤ℤ p.0
  pub right : p.0 ≤ℤ pos reach
  pub below : neg_ℤ (pos reach) ≤ℤ p.1
  pub above : p.1 ≤ℤ pos reach

-- where the origin comes to
abbrev pub shift_of : Placement → Point
shift_of place = (place.x, place.y)
