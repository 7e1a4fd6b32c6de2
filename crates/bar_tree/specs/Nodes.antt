-- What a search asks for, and what a node knows.
use Rattle.std.specs.Prelude.{◌≡◌, ◌≢◌, ◌⊎◌, ℕ, ◌≤ℤ◌, ◌<ℤ◌, Some, true}
use Rattle.bar_rows.specs.{declared.bars.Bar.Bar, Contacts.{HasContact, ShareContact}}
use Rattle.bar_tree.specs.declared.node.{Node.Node, Query.Query}

-- a bar is asked for: it ends behind a place, starts at another or later, has none of two keys, and shares none of
-- some contacts
pub record Fits (q : Query) (b : Bar) : Type 0 where
  pub ends : q.above <ℤ b.end
  pub starts : q.from ≤ℤ b.start
  pub first : q.key ≢ Some b.key
  pub second : q.other ≢ Some b.key
  pub apart : ShareContact q.contacts b.contacts → ⊥

-- a bar ends at most at the greatest end of the others, or at that of its key
abbrev pub EndsWithin : Node → Bar → Type 0
EndsWithin n b = (b.end ≤ℤ n.rest) ⊎ (((b.key ≡ n.first_key) × (b.end ≤ℤ n.first))
    ⊎ ((b.key ≡ n.second_key) × (b.end ≤ℤ n.second)))

-- a node knows of a bar
pub record Covers (n : Node) (b : Bar) : Type 0 where
  pub some : n.is_empty ≢ true
  pub end : EndsWithin n b
  pub start : b.start ≤ℤ n.late
  pub contacts : (k : ℕ) → HasContact n.contacts k → HasContact b.contacts k

-- the greatest ends of a node stand in order
pub record IsNode (n : Node) : Type 0 where
  pub first : n.second ≤ℤ n.first
  pub second : n.rest ≤ℤ n.second

-- the greatest end of the others is the least
pub record HasLeastRest (n : Node) : Type 0 where
  pub first : n.rest ≤ℤ n.first
  pub second : n.rest ≤ℤ n.second

-- two nodes say the same of all but ends
pub record IsAlike (a b : Node) : Type 0 where
  pub late : b.late ≡ a.late
  pub contacts : b.contacts ≡ a.contacts
  pub some : b.is_empty ≡ a.is_empty
