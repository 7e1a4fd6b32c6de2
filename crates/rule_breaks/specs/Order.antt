-- The rules one after the other.
use Rattle.std.specs.Prelude.{ℕ, ◌+◌, Option, Some, None, List, [], ◌∷◌, slice_index_or}
use Rattle.lam_geom.specs.declared.boxes.MaskBox.{MaskBox}
use Rattle.rule_table.specs.declared.technology.Tech.{Tech}
use Rattle.rule_breaks.specs.declared.rule.Rule.{Rule, TheVariants.{Width, CutSize, ProperCrossing, PolyToDiffusion}}
use Rattle.rule_breaks.specs.declared.rule.Rule.TheVariants.{CutCover, MetalSpacing, PolySpacing, DiffusionSpacing}
use Rattle.rule_breaks.specs.declared.rule.Rule.TheVariants.{CutSpacing, CutToChannel, ImplantToChannel}
use Rattle.rule_breaks.specs.{declared.rule.Rule.TheVariants.WindowToChannel, Breaks.{number_of, IsBreak}}

-- the rule with a number, from 1
abbrev pub rule_of : ℕ → Rule
rule_of number =
    slice_index_or
    (Width ∷ Width ∷ CutSize ∷ ProperCrossing ∷ PolyToDiffusion ∷ CutCover ∷ MetalSpacing ∷ PolySpacing ∷
    DiffusionSpacing ∷ CutSpacing ∷ CutToChannel ∷ ImplantToChannel ∷ WindowToChannel ∷ []) number Width

-- the rule after this one, if there is one
abbrev pub next_of : Rule → Option Rule
next_of WindowToChannel = None
next_of rule = Some (rule_of (number_of rule + 1))

-- a rule is broken nowhere
abbrev pub IsKept : Tech → List MaskBox → Rule → Type 0
IsKept tech boxes rule = (a b : ℕ) → IsBreak tech boxes rule a b → ⊥
