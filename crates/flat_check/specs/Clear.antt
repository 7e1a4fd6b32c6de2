-- Whether some entry of one tree answers a question beside an entry of another, and what the bounds of groups say of
-- it.
use Rattle.std.specs.Prelude.{◌≡◌, ℕ, ◌+◌, ◌<◌, ◌≤◌, ◌⊎◌, ℤ, ◌+ℤ◌, ◌<ℤ◌, ◌≤ℤ◌, Contains, Option, Some, None, List}
use Rattle.std.specs.Prelude.{length}
use Rattle.lam_geom.specs.{declared.boxes.Span.Span, Gaps.gap_of_boxes}
use Rattle.box_tree.specs.declared.query.{Query.Query, Question.{Question, TheVariants.{NearOfOther, NearOfOtherTag}}}
use Rattle.box_tree.specs.declared.{query.Question.TheVariants.{NearApart, NearOutside}, entries.Ends.Ends}
use Rattle.box_tree.specs.{declared.{entries.{Group.Group, Entry.Entry}, tree.Parts.Parts}, Queries.Holds}
use Rattle.box_tree.specs.{Tree.{IsBounded, IsPlacedGroup, IsTreeOf, entry_of}, UnvisitedTrees.group_at}

-- a question as an entry asks it: of entries with another owner than its own, and with another tag
abbrev pub asked_by : Entry → Question → Question
asked_by entry (NearOfOther reach owner) = NearOfOther reach entry.owner
asked_by entry (NearOfOtherTag reach owner tag) = NearOfOtherTag reach entry.owner entry.tag
asked_by entry question = question

-- what it asks beside its own area
abbrev pub query_beside : Question → Entry → Query
query_beside question entry = record { area = entry.area; question = asked_by entry question }

-- no entry of one list answers a question beside one of another
abbrev pub AreClear : Question → List Entry → List Entry → Type 0
AreClear question from to = (s t : Entry) → Contains from s → Contains to t → Holds (query_beside question s) t → ⊥

-- ---- runs of trees

abbrev pub IsTree : Parts → Type 0
IsTree parts = IsTreeOf parts.entries.now parts.groups.now

-- the entry at a place of a tree's order
abbrev pub entry_in : Parts → ℕ → Entry
entry_in parts p = entry_of parts.entries.now p

-- a group by its number
abbrev pub group_in : Parts → ℕ → Group
group_in parts k = group_at parts.groups.now k

-- one of the groups of a tree
pub record IsGroupIn (parts : Parts) (group : Group) : Type 0 where
  pub placed : IsPlacedGroup group
  pub ends : group.start + group.count ≤ length parts.entries.now
  pub bounded : (p : ℕ) → group.start ≤ p → p < group.start + group.count → IsBounded group (entry_in parts p)

-- the runs of the lowest groups of one tree, from one group up to before another: beside none of their entries does
-- an entry of the other tree answer a question
abbrev pub AreRunsClear : Parts → Parts → Question → ℕ → ℕ → Type 0
AreRunsClear own others question from to = (k : ℕ) → from ≤ k → k < to → (group_in own k).inside ≡ 0
    → (p : ℕ) (t : Entry) → (group_in own k).start ≤ p → p < (group_in own k).start + (group_in own k).count
    → Contains others.entries.now t → Holds (query_beside question (entry_in own p)) t → ⊥

-- no entry of a group's run holds a query
abbrev pub IsFree : Parts → Group → Query → Type 0
IsFree parts group query = (p : ℕ) → group.start ≤ p → p < group.start + group.count
    → Holds query (entry_in parts p) → ⊥

-- nor what an entry of another group's run, up to a place, asks
abbrev pub AreFree : Parts → Group → Parts → ℕ → ℕ → Question → Type 0
AreFree parts group own from to question =
    (p : ℕ) → from ≤ p → p < to → IsFree parts group (query_beside question (entry_in own p))

-- ---- the bounds of two groups

-- two groups have one tag each, and it is the same
abbrev pub AreOneTag : Option ℕ → Option ℕ → Type 0
AreOneTag (Some one) (Some other) = one ≡ other
AreOneTag (Some one) None = ⊥
AreOneTag None other = ⊥

-- each span that reaches the one ends overlaps each that reaches the others
abbrev pub AllMeet : Ends → Ends → Type 0
AllMeet a b = (a.lo <ℤ b.hi) × (b.lo <ℤ a.hi)

-- each span that reaches these ends goes past a span by a margin at both of its ends
abbrev pub AllPass : Ends → Span → ℤ → Type 0
AllPass ends span margin = ((ends.lo +ℤ margin) ≤ℤ span.lo) × ((span.hi +ℤ margin) ≤ℤ ends.hi)

-- The bounds of two groups refuse what a question asks beside the distance: all their entries have one tag, or all
-- overlap, or all of the first go past all of the second by the margin.
abbrev pub BoundsRefuse : Question → Group → Group → Type 0
BoundsRefuse (NearOfOtherTag reach owner tag) group other = AreOneTag group.tag other.tag
BoundsRefuse (NearApart reach) group other =
    AllMeet group.inner.x other.inner.x × AllMeet group.inner.y other.inner.y
BoundsRefuse (NearOutside reach margin) group other =
    AllPass group.inner.x other.outer.x margin × AllPass group.inner.y other.outer.y margin
BoundsRefuse question group other = ⊥

-- two groups lie further apart than the reach of a question, or their bounds refuse it
abbrev pub LieApart : Group → Group → Question → ℤ → Type 0
LieApart group other question reach =
    (reach <ℤ gap_of_boxes group.outer other.outer) ⊎ BoundsRefuse question group other
