-- Candidates: bound items that face each other along an axis, and what they keep.
use Rattle.std.specs.Prelude.{◌≡◌, ℕ, ℤ, ◌+ℤ◌, ◌-ℤ◌, ◌≤ℤ◌, ◌<ℤ◌, Bool, ◌&&◌, int_lt, int_le, Option, Some, None}
use Rattle.std.specs.{Prelude.{is_some, List, [], ◌∷◌, ◌++◌, length, flat_map}, Bool.then_some, List.range_with_len}
use Rattle.lam_geom.specs.declared.boxes.Axis.{Axis}
use Rattle.rule_table.specs.declared.technology.Tech.{Tech}
use Rattle.sym_items.specs.declared.items.{End.End, Item.Item, Coords.Coords}
use Rattle.sym_items.specs.{Values.end_under, Sides.{Sides, sides_in, gap_on_y}, Transposed.{item_along, sides_along}}
use Rattle.pair_rules.specs.{declared.pairs.Pair.Pair, Bound.{item_at, bound_spacing}}

-- the sides of an item in a layout, turned so that an axis runs from left to right
abbrev pub sides_at : Axis → Coords → Item → Sides
sides_at axis c a = sides_along axis (sides_in c a)

-- A candidate (a, b) of an axis with a spacing: the items are bound with it, their gap across the axis is below it,
-- and the first ends at least so far before the second begins.
pub record IsCandidate (axis : Axis) (t : Tech) (c : Coords) (a b : Item) (s : ℤ) : Type 0 where
  pub bound : bound_spacing t a b ≡ Some s
  pub near_across : gap_on_y (sides_at axis c a) (sides_at axis c b) <ℤ s
  pub apart : ((sides_at axis c a).right +ℤ s) ≤ℤ (sides_at axis c b).left

-- The same, computed: one box is nearer to another than the spacing on y, and ends at least the spacing before it on
-- x; the spacing, where it stands so; and the spacing of the candidate (a, b), none where it is no candidate.
abbrev pub is_before : ℤ → Sides → Sides → Bool
is_before s a b = int_lt (gap_on_y a b) s && int_le (a.right +ℤ s) b.left

abbrev pub spacing_before : Option ℤ → Sides → Sides → Option ℤ
spacing_before None a b = None
spacing_before (Some s) a b = then_some (is_before s a b) s

unfoldable pub facing_spacing : Axis → Tech → Coords → Item → Item → Option ℤ
facing_spacing axis t c a b = spacing_before (bound_spacing t a b) (sides_at axis c a) (sides_at axis c b)

-- the same of the items number i and j, and whether they are a candidate
abbrev pub spacing_at : Axis → Tech → Coords → List Item → ℕ → ℕ → Option ℤ
spacing_at axis t c items i j = facing_spacing axis t c (item_at items i) (item_at items j)

abbrev pub is_facing : Axis → Tech → Coords → List Item → ℕ → ℕ → Bool
is_facing axis t c items i j = is_some (spacing_at axis t c items i j)

-- the pair of items number i and j, with its spacing
abbrev pub pair_with : Option ℤ → ℕ → ℕ → List Pair
pair_with None i j = []
pair_with (Some s) i j = record { i = i; j = j; s = s } ∷ []

abbrev pub pairs_at : Axis → Tech → Coords → List Item → ℕ → ℕ → List Pair
pairs_at axis t c items j i = pair_with (spacing_at axis t c items i j) i j

-- the numbers of the items
abbrev pub item_numbers : List Item → List ℕ
item_numbers items = range_with_len 0 (length items)

-- the candidates that end at item j, in order of i
abbrev pub candidates_to : Axis → Tech → Coords → List Item → ℕ → List Pair
candidates_to axis t c items j = flat_map (pairs_at axis t c items j) (item_numbers items)

-- some pairs, the first of a list, were added after others
pub record AddsFirst (all old new : List Pair) : Type 0 where
  pub first : List Pair
  pub rest : List Pair
  pub in_order : all ≡ first ++ rest
  pub added : new ≡ old ++ first

-- all candidates of an axis, in order of (j, i)
abbrev pub candidates_of : Axis → Tech → Coords → List Item → List Pair
candidates_of axis t c items = flat_map (candidates_to axis t c items) (item_numbers items)

-- the ends that a pair (i, j) keeps apart: the high end of i, and the low end of j
abbrev pub high_end : Axis → List Item → ℕ → End
high_end axis items i = (item_along axis (item_at items i)).xh

abbrev pub low_end : Axis → List Item → ℕ → End
low_end axis items j = (item_along axis (item_at items j)).xl

-- the inequality of a pair under some values of the axis' variables: the low end of j less the high end of i is at
-- least the spacing
abbrev pub Keeps : Axis → (ℕ → ℤ) → List Item → Pair → Type 0
Keeps axis x items p = p.s ≤ℤ (end_under x (low_end axis items p.j) -ℤ end_under x (high_end axis items p.i))
