-- The tree over a list of entries: groups, each of which has a run of them and stands before the groups inside it.
use Rattle.std.specs.Prelude.{◌≡◌, ℕ, ◌+◌, ◌*◌, ◌^◌, ◌<◌, ◌≤◌, pos, ◌≤ℤ◌, All, Option, Some, None, List, [], ◌∷◌, length}
use Rattle.std.specs.Prelude.{drop, slice_index_or}
use Rattle.lam_geom.specs.{declared.boxes.{BoxXY.BoxXY, Span.Span}, Gaps.Encloses, Places.{IsPlace, IsPlacedBox}}
use Rattle.box_tree.specs.declared.entries.{Ends.Ends, Group.Group, Inner.Inner, Entry.Entry}

-- ---- the bounds of a group

-- a span begins no later than the one end, and ends no earlier than the other
abbrev pub Reaches : Ends → Span → Type 0
Reaches ends span = (span.lo ≤ℤ ends.lo) × (ends.hi ≤ℤ span.hi)

-- so does an area on both axes
abbrev pub ReachesBoth : Inner → BoxXY → Type 0
ReachesBoth inner area = Reaches inner.x area.x × Reaches inner.y area.y

-- a tag is the one that all have, if there is one
abbrev pub IsOneTag : Option ℕ → ℕ → Type 0
IsOneTag (Some one) tag = tag ≡ one
IsOneTag None tag = Unit {0}

-- an entry lies within the bounds of a group
pub record IsBounded (group : Group) (entry : Entry) : Type 0 where
  pub outer : Encloses group.outer entry.area (pos 0)
  pub inner : ReachesBoth group.inner entry.area
  pub tag : IsOneTag group.tag entry.tag

abbrev pub ArePlacedEnds : Ends → Type 0
ArePlacedEnds ends = IsPlace ends.lo × IsPlace ends.hi

abbrev pub ArePlacedInner : Inner → Type 0
ArePlacedInner inner = ArePlacedEnds inner.x × ArePlacedEnds inner.y

-- the bounds of a group can be measured
pub record IsPlacedGroup (group : Group) : Type 0 where
  pub outer : IsPlacedBox group.outer
  pub inner : ArePlacedInner group.inner

-- ---- the groups

abbrev pub no_span : Span
no_span = record { lo = pos 0; hi = pos 0; ordered = record { le = tt } }

abbrev pub no_entry : Entry
no_entry = record { area = record { x = no_span; y = no_span }; owner = 0; tag = 0 }

-- the entry at a place
abbrev pub entry_of : List Entry → ℕ → Entry
entry_of entries p = slice_index_or entries p no_entry

-- where the run of the first of some groups begins; where there is none, at the end of all runs
abbrev pub begin_of : List Group → ℕ → ℕ
begin_of [] end = end
begin_of (group ∷ rest) end = group.start

-- A group before the rest of the groups: the groups inside it have its run, one after another, and after them the run
-- of the next group begins.
pub record IsGroupOf (entries : List Entry) (end : ℕ) (group : Group)
    (rest : List Group) : Type 0 where
  pub placed : IsPlacedGroup group
  pub inside : group.inside ≤ length rest
  pub opens : 0 < group.inside → begin_of rest end ≡ group.start
  pub closes : begin_of (drop group.inside rest) end ≡ group.start + group.count
  pub ends : group.start + group.count ≤ end
  pub within : (p : ℕ) → group.start ≤ p → p < group.start + group.count → IsBounded group (entry_of entries p)

-- groups whose runs end there
abbrev pub AreGroups : List Entry → ℕ → List Group → Type 0
AreGroups entries end [] = Unit {0}
AreGroups entries end (group ∷ rest) = IsGroupOf entries end group rest × AreGroups entries end rest

-- ---- the tree

-- groups of all entries
pub record IsTreeOf (entries : List Entry) (groups : List Group) : Type 0 where
  pub few : length entries ≤ 2 ^ 21
  pub placed : All (λ (entry : Entry). IsPlacedBox entry.area) entries
  pub groups_of : AreGroups entries (length entries) groups
  pub first : begin_of groups (length entries) ≡ 0
  pub few_groups : length groups ≤ 2 * length entries
