-- The walk over the groups of a tree of boxes of the other's layer.
use Rattle.std.proofs.Common.{◌≡◌, ℕ, ◌<◌, ◌≤◌, pos, List, length, get_or, subst, arith}
use Rattle.std.proofs.lemmas.Option.{slice_get-get_or}
use Rattle.lam_geom.specs.{declared.boxes.{BoxXY.BoxXY, MaskBox.MaskBox}, Gaps.Encloses}
use Rattle.rule_table.specs.declared.technology.Tech.{Tech}
use Rattle.box_tree.specs.{declared.entries.{Group.Group, Entry.Entry}, Tree.{IsTreeOf, no_entry, entry_of}}
use Rattle.box_tree.proofs.Trees.{IsBarren, IsPassed, group_here, passed_all}
use Rattle.crossing_model.specs.Boxes.{area_at}
use Rattle.crossings.specs.{Pairs.Meets, Entries.{AreEntriesFacing, box_entry}}
use Rattle.crossings.proofs.{Meetings.meets_overlap, EntryBoxes.{overlapped_there, entry_area}}

-- box a meets the box of an entry
abbrev pub MeetsEntry : Tech → List MaskBox → ℕ → Entry → Type 0
MeetsEntry tech boxes a s = Meets tech boxes a s.owner

-- a group inside an area in which the box meets none
pub barren_inside : (tech : Tech) (boxes : List MaskBox) (a : ℕ) (entries : List Entry)
    (groups : List Group) (at : ℕ) (group : Group) → AreEntriesFacing boxes a entries → IsTreeOf entries groups
    → at < length groups → group ≡ get_or groups at group
    → ((k : ℕ) → Encloses group.outer (area_at boxes k) (pos 0) → Meets tech boxes a k → ⊥)
    → IsBarren entries group (MeetsEntry tech boxes a)
barren_inside tech boxes a entries groups at group facing t lt is none = λ p low high met.
    let here = group_here entries (length entries) at groups group t.groups_of lt is in
    let s = entry_of entries p in
    let place : p < length entries = omega (arith, high, here.ends) in
    let there = slice_get-get_or entries p no_entry place in
    let inside = subst (λ (area : BoxXY). Encloses group.outer area (pos 0))
    (entry_area boxes a entries p s facing there) (here.within p low high).outer in
    none s.owner inside met

-- past all groups
pub meets_none : (tech : Tech) (boxes : List MaskBox) (a : ℕ) (entries : List Entry) (groups : List Group) (at : ℕ)
    → AreEntriesFacing boxes a entries → length groups ≤ at
    → IsPassed entries groups (MeetsEntry tech boxes a) at → (k : ℕ) → Meets tech boxes a k → ⊥
meets_none tech boxes a entries groups at facing end passed k met =
    let there = overlapped_there boxes a k entries facing (meets_overlap tech boxes a k met) in
    passed_all entries groups (MeetsEntry tech boxes a) at end passed there.0 (box_entry boxes k) there.1 met
