-- The numbers of the items of kept pairs, the later one on the axis first.
use Rattle.std.specs.Prelude.{ℕ, ℤ, List}
use Rattle.lam_geom.specs.declared.boxes.Axis.{Axis}
use Rattle.rule_table.specs.declared.technology.Tech.{Tech}
use Rattle.sym_items.specs.declared.items.{Item.Item, Coords.Coords}
use Rattle.pair_set.specs.Sets.{IsBefore}
use Rattle.pair_rules.specs.{declared.pairs.Pair.Pair, Candidates.pairs_at, Kept.IsKept}

-- two numbers are those of a kept pair
pub record IsKeptNumbers (axis : Axis) (t : Tech) (c : Coords) (items : List Item) (pair : ℕ × ℕ) : Type 0 where
  pub s : ℤ
  pub kept : (let p : Pair = record { i = pair.1; j = pair.0; s = s } in IsKept axis t c items p)

-- one pair comes before another: by the later item, and then by the other one
abbrev pub PairBefore : Pair → Pair → Type 0
PairBefore p q = IsBefore (p.j, p.i) (q.j, q.i)

-- the pair of two numbers, with its spacing, if they are a candidate
abbrev pub pairs_of_numbers : Axis → Tech → Coords → List Item → ℕ × ℕ → List Pair
pairs_of_numbers axis t c items pair = pairs_at axis t c items pair.0 pair.1
