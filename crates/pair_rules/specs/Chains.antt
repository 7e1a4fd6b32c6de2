-- What stands for a candidate that is not kept: a chain of pairs.
use Rattle.std.specs.Prelude.{◌≡◌, ◌⊎◌, ℕ, ◌<◌, ℤ, pos, ◌+ℤ◌, ◌≤ℤ◌, List, [], ◌∷◌, length, All}
use Rattle.lam_geom.specs.declared.boxes.Axis.{Axis}
use Rattle.rule_table.specs.declared.technology.Tech.{Tech}
use Rattle.sym_items.specs.{declared.items.{Item.Item, Coords.Coords}, Boxes.HasBox}
use Rattle.pair_rules.specs.{declared.pairs.Pair.Pair, Bound.item_at, Candidates.{IsCandidate, candidates_of, high_end}}
use Rattle.pair_rules.specs.{Candidates.low_end, Kept.{IsKept, least_of}}

-- two of the items that are a candidate with the spacing of a pair, and whose ends lie on one variable, so that they
-- never move apart
pub record IsRigid (axis : Axis) (t : Tech) (c : Coords) (items : List Item) (p : Pair) : Type 0 where
  pub i_among : p.i < length items
  pub j_among : p.j < length items
  pub candidate : IsCandidate axis t c (item_at items p.i) (item_at items p.j) p.s
  pub one_variable : (high_end axis items p.i).var ≡ (low_end axis items p.j).var

-- the links of a chain: kept pairs and rigid ones
abbrev pub IsChainLink : Axis → Tech → Coords → List Item → Pair → Type 0
IsChainLink axis t c items p = IsKept axis t c items p ⊎ IsRigid axis t c items p

-- pairs that lead from item i to item j: each begins with the item that the one before it ends with
abbrev pub LeadsTo : ℕ → List Pair → ℕ → Type 0
LeadsTo i [] j = i ≡ j
LeadsTo i (p ∷ ps) j = (p.i ≡ i) × LeadsTo p.j ps j

-- how far they reach: their spacings, each with the least extent of the item that the pair ends with
abbrev pub reach_of : Axis → List Item → List Pair → ℤ
reach_of axis items [] = pos 0
reach_of axis items (p ∷ ps) = (p.s +ℤ least_of axis items p.j) +ℤ reach_of axis items ps

-- some chain of links leads from item i to item j, and reaches as far as the spacing s with the least extent of j
pub record IsChained (axis : Axis) (t : Tech) (c : Coords) (items : List Item) (i j : ℕ) (s : ℤ) : Type 0 where
  pub chain : List Pair
  pub links : All (IsChainLink axis t c items) chain
  pub leads : LeadsTo i chain j
  pub far : (s +ℤ least_of axis items j) ≤ℤ reach_of axis items chain

-- in a layout that gives each item a box a chain stands for each candidate
abbrev pub LeavesChains : Axis → Tech → Coords → List Item → Type 0
LeavesChains axis t c items = All (HasBox c) items
    → All (λ (p : Pair). IsChained axis t c items p.i p.j p.s) (candidates_of axis t c items)
