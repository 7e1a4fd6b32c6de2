-- Kept pairs: the candidates whose inequality does not follow from those of two others.
use Rattle.std.specs.Prelude.{ℕ, ◌<◌, ◌≢◌, ℤ, ◌+ℤ◌, ◌≤ℤ◌, Bool, false, not, ◌&&◌, ◌==◌, int_le, Option, Some, List}
use Rattle.std.specs.{Prelude.{length, filter}, List.list_any}
use Rattle.lam_geom.specs.declared.boxes.Axis.{Axis}
use Rattle.rule_table.specs.declared.technology.Tech.{Tech}
use Rattle.sym_items.specs.{declared.items.{Item.Item, Coords.Coords}, Transposed.item_along}
use Rattle.pair_rules.specs.{declared.pairs.Pair.Pair, Bound.item_at, Candidates.{IsCandidate, spacing_at}}
use Rattle.pair_rules.specs.Candidates.{item_numbers, candidates_of, high_end, low_end}

-- the least extent of item k on an axis
abbrev pub least_of : Axis → List Item → ℕ → ℤ
least_of axis items k = (item_along axis (item_at items k)).least_x

-- item k shadows a pair (i, j): (i, k) and (k, j) are candidates, and their spacings with the least extent of k are
-- at least that of (i, j)
pub record Shadows (axis : Axis) (t : Tech) (c : Coords) (items : List Item) (p : Pair) (k : ℕ) : Type 0 where
  pub before : ℤ
  pub after : ℤ
  pub first : IsCandidate axis t c (item_at items p.i) (item_at items k) before
  pub second : IsCandidate axis t c (item_at items k) (item_at items p.j) after
  pub reaches : p.s ≤ℤ ((before +ℤ least_of axis items k) +ℤ after)

-- A kept pair: two of the items that are a candidate with its spacing, whose ends lie on different variables, and
-- that no item shadows.
pub record IsKept (axis : Axis) (t : Tech) (c : Coords) (items : List Item) (p : Pair) : Type 0 where
  pub i_among : p.i < length items
  pub j_among : p.j < length items
  pub candidate : IsCandidate axis t c (item_at items p.i) (item_at items p.j) p.s
  pub varies : (high_end axis items p.i).var ≢ (low_end axis items p.j).var
  pub unshadowed : (k : ℕ) → k < length items → ¬ Shadows axis t c items p k

-- The same, computed: two spacings that are there, with an extent between them, reach as far as the third; so an item
-- shadows a pair; the ends of a pair lie on one variable, so its inequality compares constants; and a candidate is
-- kept.
abbrev pub reaches : ℤ → Option ℤ → ℤ → Option ℤ → Bool
reaches s (Some before) least (Some after) = int_le s ((before +ℤ least) +ℤ after)
reaches s _ least _ = false

abbrev pub shadows : Axis → Tech → Coords → List Item → Pair → ℕ → Bool
shadows axis t c items p k =
    reaches p.s (spacing_at axis t c items p.i k) (least_of axis items k) (spacing_at axis t c items k p.j)

abbrev pub is_constant : Axis → List Item → Pair → Bool
is_constant axis items p = (high_end axis items p.i).var == (low_end axis items p.j).var

abbrev pub is_kept : Axis → Tech → Coords → List Item → Pair → Bool
is_kept axis t c items p = not (is_constant axis items p)
    && not (list_any (shadows axis t c items p) (item_numbers items))

-- all kept pairs of an axis, in order of (j, i)
abbrev pub kept_of : Axis → Tech → Coords → List Item → List Pair
kept_of axis t c items = filter (is_kept axis t c items) (candidates_of axis t c items)
