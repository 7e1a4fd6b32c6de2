-- The first breaks of a rule in ranges of boxes.
use Rattle.std.specs.Prelude.{◌≡◌, ℕ, ◌<◌, ◌≤◌, ◌⊎◌, Option, Some, None, List, [], ◌∷◌}
use Rattle.lam_geom.specs.declared.boxes.MaskBox.{MaskBox}
use Rattle.rule_table.specs.declared.technology.Tech.{Tech}
use Rattle.rule_breaks.specs.{declared.rule.{Break.Break, Rule.Rule}, Breaks.{number_of, IsBreak}}

-- the first break of a rule whose first box has a number from one on
pub record IsFirstFrom (tech : Tech) (boxes : List MaskBox) (rule : Rule) (from to : ℕ) (first : Break) : Type 0 where
  pub of_rule : first.rule ≡ number_of rule
  pub low : from ≤ first.a
  pub high : first.a < to
  pub broken : IsBreak tech boxes rule first.a first.b
  pub least : (a b : ℕ) → from ≤ a → IsBreak tech boxes rule a b → (first.a < a) ⊎ ((first.a ≡ a) × (first.b ≤ b))

-- the first break of a rule at a first box in a range, or that there is none
abbrev pub IsFirstIn : Tech → List MaskBox → Rule → ℕ → ℕ → Option Break → Type 0
IsFirstIn tech boxes rule from to None = (a b : ℕ) → from ≤ a → a < to → IsBreak tech boxes rule a b → ⊥
IsFirstIn tech boxes rule from to (Some first) = IsFirstFrom tech boxes rule from to first

-- a rule is broken at a first box before this one
pub record IsBrokenBefore (tech : Tech) (boxes : List MaskBox) (rule : Rule) (from : ℕ) : Type 0 where
  pub a : ℕ
  pub b : ℕ
  pub before : a < from
  pub broken : IsBreak tech boxes rule a b

-- What a search in a range finds. Where the rule is broken before the range, which then is of no account, it may end
-- early and find anything.
abbrev pub IsFirstUnlessBefore : Tech → List MaskBox → Rule → ℕ → ℕ → Option Break → Type 0
IsFirstUnlessBefore tech boxes rule from to found = (IsBrokenBefore tech boxes rule from → ⊥)
    → IsFirstIn tech boxes rule from to found

-- the first that is there
abbrev pub first_or : Option Break → Option Break → Option Break
first_or (Some first) rest = Some first
first_or None rest = rest

abbrev pub first_some : List (Option Break) → Option Break
first_some [] = None
first_some (first ∷ rest) = first_or first (first_some rest)
