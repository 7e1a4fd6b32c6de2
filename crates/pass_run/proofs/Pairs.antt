-- The pairs of a master: candidates and kept pairs.
use Rattle.std.proofs.Common.{pos, ◌≤ℤ◌, ◌<◌, List, length, All}
use Rattle.lam_geom.specs.declared.boxes.Axis.{Axis}
use Rattle.rule_table.specs.declared.technology.Tech.{Tech}
use Rattle.sym_items.specs.declared.items.{Item.Item, Coords.Coords}
use Rattle.pair_rules.specs.{declared.pairs.Pair.Pair, Bound.item_at, Candidates.candidates_of, Kept.kept_of}
use Rattle.pair_rules.proofs.{Spacings.facing_bounds, PairLists.all_candidates, Pruning.kept_among}

-- a pair of two of the items
abbrev pub IsAmong : List Item → Pair → Type 0
IsAmong items p = (p.i < length items) × (p.j < length items)

pub candidates_among : (axis : Axis) (tech : Tech) (c : Coords) (items : List Item)
    → All (IsAmong items) (candidates_of axis tech c items)
candidates_among axis tech c items =
    all_candidates axis tech c items (IsAmong items) (λ i j s i_lt j_lt faces. (i_lt, j_lt))

pub kept_pairs_among : (axis : Axis) (tech : Tech) (c : Coords) (items : List Item)
    → All (IsAmong items) (kept_of axis tech c items)
kept_pairs_among axis tech c items = kept_among axis tech c items (IsAmong items) (candidates_among axis tech c items)

-- the spacing of a pair is from 1 to 4096
abbrev pub IsSpaced : Pair → Type 0
IsSpaced p = (pos 1 ≤ℤ p.s) × (p.s ≤ℤ pos 4096)

pub kept_spaced : (axis : Axis) (tech : Tech) (c : Coords) (items : List Item)
    → All IsSpaced (kept_of axis tech c items)
kept_spaced axis tech c items =
    kept_among axis tech c items IsSpaced
    (all_candidates axis tech c items IsSpaced
    (λ i j s i_lt j_lt faces. facing_bounds axis tech c (item_at items i) (item_at items j) s faces))
