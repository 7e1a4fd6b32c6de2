-- Clean layouts stay clean.
use Rattle.std.specs.Prelude.{ℤ, All, List}
use Rattle.lam_geom.specs.declared.boxes.Axis.{Axis, TheVariants.{X, Y}}
use Rattle.rule_table.specs.declared.technology.Tech.{Tech}
use Rattle.sym_items.specs.{declared.items.{Item.Item, Coords.Coords}, Values.value_of}
use Rattle.pair_rules.specs.{Clean.IsClean, Candidates.{candidates_of, Keeps}}

-- a layout with other values on one axis
abbrev pub moved : Axis → Coords → List ℤ → Coords
moved X c values = record { x = values; y = c.y }
moved Y c values = record { x = c.x; y = values }

-- a clean layout stays clean where the values of one axis move to any that keep the inequality of every candidate of
-- that axis
abbrev pub StaysClean : Axis → Tech → Coords → List Item → Type 0
StaysClean axis t c items =
    (values : List ℤ) → IsClean t c items → All (Keeps axis (value_of values) items) (candidates_of axis t c items)
    → IsClean t (moved axis c values) items
