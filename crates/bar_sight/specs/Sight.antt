-- What is known of a row, and what a look from a bar adds.
use Rattle.std.specs.Prelude.{◌≡◌, ◌≢◌, ◌⊎◌, ℕ, ◌<◌, ◌<ℤ◌, ℤ, ◌^◌, false, IsTrue, List, length, slice_index_or, All}
use Rattle.std.specs.List.{Contains}
use Rattle.pair_set.specs.{declared.set.PairSet.PairSet, Sets.{pairs_of, limit_of}}
use Rattle.bar_rows.specs.{declared.bars.Bar.Bar, Rows.{bar_at, IsPlacedBar, Sees, Varies, numbers_of}}
use Rattle.bar_rows.specs.Facing.{Screens}
use Rattle.bar_tree.specs.Trees.{IsTreeOf, IsStarted}
use Rattle.bar_sight.specs.declared.row.{Last.Last, Row.Row}

-- what is read past the end of a list
abbrev pub no_last : Last
no_last = record { of_mains = false; of_others = false }

abbrev pub last_at : List Last → ℕ → Last
last_at lasts p = slice_index_or lasts p no_last

-- what is said of the bar at place p is so: no main bar of its owner lies farther along, and none of the others
pub record IsLast (bars : List Bar) (last : Last) (p : ℕ) : Type 0 where
  pub of_mains : IsTrue last.of_mains → (q : ℕ) → p < q → q < length bars → IsTrue (bar_at bars q).is_main
      → (bar_at bars q).owner ≢ (bar_at bars p).owner
  pub of_others : IsTrue last.of_others → (q : ℕ) → p < q → q < length bars → (bar_at bars q).is_main ≡ false
      → (bar_at bars q).owner ≢ (bar_at bars p).owner

pub record AreLasts (bars : List Bar) (lasts : List Last) : Type 0 where
  pub one_each : length lasts ≡ length bars
  pub each : (p : ℕ) → p < length bars → IsLast bars (last_at lasts p) p

-- a row: few bars that lie within bounds, and trees in which main bars have started, and others
pub record IsRow (row : Row) : Type 0 where
  pub few : length row.bars.items < 2 ^ 32
  pub placed : All IsPlacedBar row.bars.items
  pub lasts : AreLasts row.bars.items row.lasts.items
  pub mains : IsTreeOf row.bars.items row.mains
  pub others : IsTreeOf row.bars.items row.others
  pub only_mains : (p : ℕ) → IsStarted row.mains p → IsTrue (bar_at row.bars.items p).is_main
  pub only_others : (p : ℕ) → IsStarted row.others p → (bar_at row.bars.items p).is_main ≡ false

-- a row with the same bars, of which others may have started
pub record IsSameRow (old new : Row) : Type 0 where
  pub bars : new.bars ≡ old.bars
  pub lasts : new.lasts ≡ old.lasts
  pub self_rule : new.self_rule ≡ old.self_rule
  pub turned : new.turned ≡ old.turned

-- the bar at place p has started
pub record HasBegun (row : Row) (p : ℕ) : Type 0 where
  pub main : IsTrue (bar_at row.bars.items p).is_main → IsStarted row.mains p
  pub other : (bar_at row.bars.items p).is_main ≡ false → IsStarted row.others p

-- each bar that starts before a place has started
abbrev pub AllBegun : Row → ℤ → Type 0
AllBegun row now = (p : ℕ) → p < length row.bars.items → (bar_at row.bars.items p).start <ℤ now → HasBegun row p

-- the bar at place k screens those at two others, between which it stands
pub record IsScreen (row : Row) (place far k : ℕ) : Type 0 where
  pub after : place < k
  pub before : k < far
  pub screens : Screens row.self_rule (bar_at row.bars.items place) (bar_at row.bars.items far)
      (bar_at row.bars.items k)

-- a pair is that of a bar and of one farther along that it sees, with ends on different variables
pub record IsSeenFrom (row : Row) (place : ℕ) (pair : ℕ × ℕ) : Type 0 where
  pub far : ℕ
  pub sees : Sees row.self_rule row.bars.items place far
  pub varies : Varies row.bars.items place far
  pub numbers : numbers_of row.turned row.bars.items place far ≡ pair

-- pairs of a bar were added to a set
pub record AddsFrom (row : Row) (place : ℕ) (old new : PairSet) : Type 0 where
  pub limit : limit_of new ≡ limit_of old
  pub kept : (pair : ℕ × ℕ) → Contains (pairs_of old) pair → Contains (pairs_of new) pair
  pub added : (pair : ℕ × ℕ) → Contains (pairs_of new) pair
      → Contains (pairs_of old) pair ⊎ IsSeenFrom row place pair
