-- What the sweeps over a row add.
use Rattle.std.specs.Prelude.{◌≡◌, ◌⊎◌, ℕ, ◌<◌, ℤ, pos, ◌≤ℤ◌, ◌≤◌, ◌<ℤ◌, Bool, true, false, List, length, map}
use Rattle.std.specs.Prelude.{reverse, All}
use Rattle.std.specs.{Prelude.slice_index_or, List.{AllPairs, Contains}}
use Rattle.pair_set.specs.{declared.set.PairSet.PairSet, Sets.{pairs_of, limit_of}}
use Rattle.bar_sight.specs.{declared.row.{Last.Last, Row.Row}, Sight.{IsRow, HasBegun}}
use Rattle.bar_rows.specs.{declared.bars.Bar.Bar, Rows.IsSeen}

-- the numbers below a count, each once or more, in any order
pub record ArePlaces (count : ℕ) (places : List ℕ) : Type 0 where
  pub in_range : All (λ k. k < count) places
  pub each : (k : ℕ) → k < count → Contains places k

-- where the bar at a place starts, or 0 where there is none
abbrev pub start_at : List Bar → ℕ → ℤ
start_at bars p = slice_index_or (map (λ (b : Bar). b.start) bars) p (pos 0)

-- the places of a row, in order of where their bars start
pub record AreStarts (bars : List Bar) (starts : List ℕ) : Type 0 where
  pub places : ArePlaces (length bars) starts
  pub in_order : AllPairs (λ a b. start_at bars a ≤ℤ start_at bars b) starts

-- a row in which the bars at the first of some places have started
pub record HaveBegun (row : Row) (starts : List ℕ) (next : ℕ) : Type 0 where
  pub is_row : IsRow row
  pub among : next ≤ length starts
  pub begun : (k d : ℕ) → k < next → HasBegun row (slice_index_or starts k d)

-- what was met of an owner, with one bar more
abbrev pub with_met : Last → Bool → Last
with_met met true = record met { of_mains = false }
with_met met false = record met { of_others = false }

-- the first of two bars ends before the second, or, in a row that is not turned round, where it ends
abbrev pub EndsInTime : Bool → Bar → Bar → Type 0
EndsInTime false a b = a.end ≤ℤ b.end
EndsInTime true a b = a.end <ℤ b.end

-- a bar and a row turned round
abbrev pub turned_bar : Bar → Bar
turned_bar b = record b { low = b.high; high = b.low }

abbrev pub turned_row : List Bar → List Bar
turned_row bars = map turned_bar (reverse bars)

-- pairs of a row were added to a set
pub record AddsSeen (self_rule turned : Bool) (bars : List Bar) (old new : PairSet) : Type 0 where
  pub limit : limit_of new ≡ limit_of old
  pub kept : (pair : ℕ × ℕ) → Contains (pairs_of old) pair → Contains (pairs_of new) pair
  pub added : (pair : ℕ × ℕ) → Contains (pairs_of new) pair
      → Contains (pairs_of old) pair ⊎ IsSeen self_rule turned bars pair
