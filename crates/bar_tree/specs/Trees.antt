-- Trees over the places of a row of bars.
use Rattle.std.specs.Prelude.{◌≡◌, ℕ, ◌<◌, ◌≤◌, ◌^◌, ◌/◌, pos, Bool, true, false, IsTrue, List, length, slice_index_or, All}
use Rattle.bar_rows.specs.{declared.bars.Bar.Bar, Rows.bar_at}
use Rattle.sym_items.specs.Standing.{nowhere}
use Rattle.bar_tree.specs.declared.{node.{Node.Node, Query.Query}, tree.{Level.Level, Tree.Tree}}
use Rattle.bar_tree.specs.Nodes.{Fits, Covers, IsNode}

-- the bar at a place has started, by a list that says so of each place
abbrev pub HasStarted : List Bool → ℕ → Type 0
HasStarted started p = slice_index_or started p false ≡ true

abbrev pub IsStarted : Tree → ℕ → Type 0
IsStarted tree p = HasStarted tree.started.items p

-- a node that knows of no bar
abbrev pub no_node : Node
no_node =
    record {
      first_key = 0;
      second_key = 0;
      first = pos 0;
      second = pos 0;
      rest = pos 0;
      late = pos 0;
      contacts = record { low = nowhere; high = nowhere };
      is_empty = true;
    }

-- a level over so many places, each of whose nodes stands for as many
pub record IsLevelOver (places : ℕ) (level : Level) : Type 0 where
  pub few : level.shift < 40
  pub width : level.width ≡ 2 ^ level.shift
  pub nodes : All IsNode level.nodes.items
  pub each : (p : ℕ) → p < places → p / level.width < length level.nodes.items

-- each node knows of the started bars at the places for which it stands
abbrev pub KnowsOf : List Bar → List Bool → Level → Type 0
KnowsOf bars started level = (p : ℕ) → p < length bars → HasStarted started p
    → Covers (slice_index_or level.nodes.items (p / level.width) no_node) (bar_at bars p)

-- a level over the places of these bars, which knows of those that have started
pub record IsLevelOf (bars : List Bar) (started : List Bool) (level : Level) : Type 0 where
  pub over : IsLevelOver (length bars) level
  pub covers : KnowsOf bars started level

-- a tree over the places of these bars
pub record IsTreeOf (bars : List Bar) (tree : Tree) : Type 0 where
  pub places : length tree.started.items ≡ length bars
  pub few : length bars < 2 ^ 32
  pub levels : All (IsLevelOf bars tree.started.items) tree.levels.items
  pub empty : IsTrue tree.is_empty → (p : ℕ) → IsStarted tree p → ⊥

-- the bar at a place has started and is asked for
abbrev pub IsAskedFor : List Bar → Tree → Query → ℕ → Type 0
IsAskedFor bars tree q p = IsStarted tree p × Fits q (bar_at bars p)

-- a place is the first from one up to before another at which this is so
pub record IsFirstAsked (bars : List Bar) (tree : Tree) (q : Query) (from to p : ℕ) : Type 0 where
  pub after : from ≤ p
  pub before : p < to
  pub asked : IsAskedFor bars tree q p
  pub first : (k : ℕ) → from ≤ k → k < p → IsAskedFor bars tree q k → ⊥
