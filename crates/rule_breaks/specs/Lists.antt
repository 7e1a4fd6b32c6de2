-- All breaks of some boxes: the first of them, up to a number, in order of rule, first box and second box.
use Rattle.std.specs.Prelude.{◌≡◌, ◌↔◌, ℕ, ◌<◌, ◌≤◌, ◌⊎◌, All, Bool, Contains, IsTrue, MatchBool, Option, Some, None}
use Rattle.std.specs.Prelude.{List, [], ◌∷◌, length}
use Rattle.lam_geom.specs.declared.boxes.MaskBox.{MaskBox}
use Rattle.rule_table.specs.declared.technology.Tech.{Tech}
use Rattle.rule_breaks.specs.{declared.rule.{Break.Break, Rule.Rule}, Breaks.{number_of, IsBreak}}

-- a rule by its number, and two boxes at which it is broken
pub record IsBroken (tech : Tech) (boxes : List MaskBox) (x : Break) : Type 0 where
  pub rule : Rule
  pub numbered : x.rule ≡ number_of rule
  pub broken : IsBreak tech boxes rule x.a x.b

-- by rule, then by the first box, then by the second
abbrev pub IsBefore : Break → Break → Type 0
IsBefore x y = (x.rule < y.rule) ⊎ ((x.rule ≡ y.rule) × ((x.a < y.a) ⊎ ((x.a ≡ y.a) × (x.b < y.b))))

-- each stands before all that follow
abbrev pub AreBreaksInOrder : List Break → Type 0
AreBreaksInOrder [] = Unit {0}
AreBreaksInOrder (x ∷ xs) = All (IsBefore x) xs × AreBreaksInOrder xs

-- a break that a list leaves out
pub record IsLeftOut (tech : Tech) (boxes : List MaskBox) (list : List Break) (x : Break) : Type 0 where
  pub broken : IsBroken tech boxes x
  pub out : Contains list x → ⊥

-- The first breaks, in order, as many as asked for where there are more; and whether there are more.
pub record AreFirstBreaks (tech : Tech) (boxes : List MaskBox) (most : ℕ) (list : List Break) (more : Bool) : Type
    0 where
  pub each : All (IsBroken tech boxes) list
  pub in_order : AreBreaksInOrder list
  pub first : (x y : Break) → IsLeftOut tech boxes list x → Contains list y → IsBefore y x
  pub few : length list ≤ most
  pub full : IsTrue more → length list ≡ most
  pub left : IsTrue more ↔ ((x : Break) × IsLeftOut tech boxes list x)

-- ---- as far as a search has come

abbrev pub place : Rule → ℕ → ℕ → Break
place rule a b = record { rule = number_of rule; a = a; b = b }

-- before all breaks of a rule; where no rule is left, after all
abbrev pub place_of : Option Rule → Break
place_of (Some rule) = place rule 0 0
place_of None = record { rule = 13; a = 0; b = 0 }

-- exactly the breaks before a place are listed
pub record ListBefore (tech : Tech) (boxes : List MaskBox) (next : Break) (list : List Break) : Type 0 where
  pub each : All (λ (x : Break). IsBroken tech boxes x × IsBefore x next) list
  pub in_order : AreBreaksInOrder list
  pub complete : (x : Break) → IsBroken tech boxes x → IsBefore x next → Contains list x

-- as many are listed as asked for, and there is one more
pub record IsCut (tech : Tech) (boxes : List MaskBox) (most : ℕ) (list : List Break) : Type 0 where
  pub next : Break
  pub broken : IsBroken tech boxes next
  pub before : ListBefore tech boxes next list
  pub full : length list ≡ most

-- What a search for the breaks after those that are listed leaves: whether it was cut, or else how far it came.
abbrev pub IsListed : Tech → List MaskBox → ℕ → Break → Bool → List Break → Type 0
IsListed tech boxes most next cut list =
    MatchBool cut (IsCut tech boxes most list) (ListBefore tech boxes next list × (length list ≤ most))

-- the first of a list is of a rule after this number, if there is one
abbrev pub BeginsAfter : ℕ → List Break → Type 0
BeginsAfter number [] = Unit {0}
BeginsAfter number (x ∷ xs) = number < x.rule
