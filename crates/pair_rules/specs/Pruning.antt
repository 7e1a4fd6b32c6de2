-- Pruning loses nothing: the candidates that are kept bring the others with them.
use Rattle.std.specs.Prelude.{ℕ, ℤ, List, All}
use Rattle.lam_geom.specs.declared.boxes.Axis.{Axis}
use Rattle.rule_table.specs.declared.technology.Tech.{Tech}
use Rattle.sym_items.specs.{declared.items.{Item.Item, Coords.Coords}, Boxes.HasBox, Extents.IsLongUnder}
use Rattle.pair_rules.specs.{Candidates.{candidates_of, Keeps}, Kept.kept_of}

-- in a layout that gives each item a box: values that give each item its least extent and keep the kept pairs apart
-- keep all candidates apart
abbrev pub LosesNothing : Axis → Tech → Coords → List Item → Type 0
LosesNothing axis t c items =
    All (HasBox c) items → (x : ℕ → ℤ) → All (IsLongUnder axis x) items
    → All (Keeps axis x items) (kept_of axis t c items) → All (Keeps axis x items) (candidates_of axis t c items)
