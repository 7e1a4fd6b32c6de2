-- Trees of entries of which some have been visited, and groups of which all have been.
use Rattle.std.specs.Prelude.{◌≡◌, ℕ, ◌+◌, ◌<◌, ◌≤◌, pos, Bool, false, IsTrue, None, Option, List, drop, length}
use Rattle.std.specs.Prelude.{slice_index_or}
use Rattle.box_tree.specs.declared.{query.Query.Query, entries.{Group.Group, Entry.Entry}}
use Rattle.box_tree.specs.declared.{unvisited_trees.UnvisitedTree.UnvisitedTree, tree.OwnedParts.OwnedParts}
use Rattle.box_tree.specs.{Queries.Holds, Tree.{IsBounded, IsPlacedGroup, IsTreeOf, begin_of, no_entry, entry_of}}

-- ---- groups by number

abbrev pub no_group : Group
no_group = record {
  outer = no_entry.area;
  inner = record { x = record { lo = pos 0; hi = pos 0 }; y = record { lo = pos 0; hi = pos 0 } };
  tag = None;
  start = 0;
  count = 0;
  inside = 0;
}

abbrev pub group_at : List Group → ℕ → Group
group_at groups g = slice_index_or groups g no_group

-- the entry at a place
abbrev pub entry_in : OwnedParts → ℕ → Entry
entry_in parts p = entry_of parts.entries.items p

abbrev pub AreTreeParts : OwnedParts → Type 0
AreTreeParts parts = IsTreeOf parts.entries.items parts.groups.items

-- where the run of the group at a place begins, or all end
abbrev pub begin_at : OwnedParts → ℕ → ℕ
begin_at parts at = begin_of (drop at parts.groups.items) (length parts.entries.items)

-- a group that was read: its run, and that of the one after it
pub record IsRead (parts : OwnedParts) (at : ℕ) (group : Group) : Type 0 where
  pub is : group_at parts.groups.items at ≡ group
  pub placed : IsPlacedGroup group
  pub begins : begin_at parts at ≡ group.start
  pub closes : begin_at parts (at + 1 + group.inside) ≡ group.start + group.count
  pub opens : 0 < group.inside → begin_at parts (at + 1) ≡ group.start
  pub ends : group.start + group.count ≤ length parts.entries.items
  pub within : at + 1 + group.inside ≤ length parts.groups.items
  pub bounded : (p : ℕ) → group.start ≤ p → p < group.start + group.count → IsBounded group (entry_in parts p)

-- the tags of entries are below a number
abbrev pub AreTagsWithin : ℕ → List Entry → Type 0
AreTagsWithin count entries = (k : ℕ) → k < length entries → (entry_of entries k).tag < count

-- ---- groups of which all entries have been visited

-- an entry has been visited if its tag has a mark; else it is left
abbrev pub IsLeft : List (Option ℕ) → ℕ → Type 0
IsLeft marks tag = slice_index_or marks tag None ≡ None

abbrev pub IsInRun : Group → ℕ → Type 0
IsInRun group p = (group.start ≤ p) × (p < group.start + group.count)

-- a place in a group that is exhausted
pub record InExhausted (groups : List Group) (exhausted : List Bool) (p : ℕ) : Type 0 where
  pub g : ℕ
  pub flagged : IsTrue (slice_index_or exhausted g false)
  pub in_run : IsInRun (group_at groups g) p

abbrev pub IsRunExhausted : List Group → List Bool → ℕ → Type 0
IsRunExhausted groups exhausted at = (p : ℕ) → IsInRun (group_at groups at) p → InExhausted groups exhausted p

abbrev pub IsVisitedAt : OwnedParts → List (Option ℕ) → ℕ → Type 0
IsVisitedAt parts marks p = IsLeft marks (entry_in parts p).tag → ⊥

abbrev pub IsRunVisited : OwnedParts → List (Option ℕ) → ℕ → ℕ → Type 0
IsRunVisited parts marks first end = (p : ℕ) → first ≤ p → p < end → IsVisitedAt parts marks p

-- all entries of groups that are exhausted have been visited
pub record AreExhausted (parts : OwnedParts) (marks : List (Option ℕ)) (exhausted : List Bool) : Type 0 where
  pub counted : length exhausted ≡ length parts.groups.items
  pub each : (p : ℕ) → InExhausted parts.groups.items exhausted p → IsVisitedAt parts marks p

pub record IsUnvisitedTree (marks : List (Option ℕ)) (unvisited_tree : UnvisitedTree) : Type 0 where
  pub parts : AreTreeParts unvisited_tree.parts
  pub tags : AreTagsWithin (length marks) unvisited_tree.parts.entries.items
  pub exhausted : AreExhausted unvisited_tree.parts marks unvisited_tree.exhausted.items

-- an unvisited tree of these entries, of which no group is exhausted
pub record IsNewUnvisitedTree (entries : List Entry) (unvisited_tree : UnvisitedTree) : Type 0 where
  pub parts : AreTreeParts unvisited_tree.parts
  pub entries_are : unvisited_tree.parts.entries.items ≡ entries
  pub counted : length unvisited_tree.exhausted.items ≡ length unvisited_tree.parts.groups.items
  pub unspent : (g : ℕ) → IsTrue (slice_index_or unvisited_tree.exhausted.items g false) → ⊥

-- ---- what is found

-- the tag of an entry that has a property
pub record IsOf (entries : List Entry) (Is : Entry → Type 0) (y : ℕ) : Type 0 where
  pub k : ℕ
  pub among : k < length entries
  pub tag : (entry_of entries k).tag ≡ y
  pub is : Is (entry_of entries k)

-- the tag of an entry that holds a query and is left
pub record IsUnvisited (entries : List Entry) (query : Query) (marks : List (Option ℕ)) (y : ℕ) : Type 0 where
  pub of : IsOf entries (Holds query) y
  pub left : IsLeft marks y

-- the same of an entry at some places
pub record IsUnvisitedWithin (parts : OwnedParts) (query : Query) (marks : List (Option ℕ)) (first end y : ℕ) : Type
    0 where
  pub p : ℕ
  pub from : first ≤ p
  pub before : p < end
  pub tag : (entry_in parts p).tag ≡ y
  pub holds : Holds query (entry_in parts p)
  pub left : IsLeft marks y
