-- The items of a class as a tree of their boxes, and the first item that is too near to another.
use Rattle.std.specs.Prelude.{◌≡◌, ℕ, ◌<◌, ◌≤◌, Bool, true, false, IsTrue, All, Some, pos, ◌-ℤ◌, if◌then◌else◌}
use Rattle.std.specs.Prelude.{List, length, slice_get, slice_index_or}
use Rattle.box_tree.specs.declared.query.Question.{Question, TheVariants.{NearOfOther, NearOfOtherTag}}
use Rattle.box_tree.specs.declared.{entries.{Group.Group, Entry.Entry}, tree.OwnedParts.OwnedParts}
use Rattle.box_tree.specs.UnvisitedTrees.{AreTreeParts, IsInRun, group_at, entry_in}
use Rattle.lam_geom.specs.Places.{IsPlacedBox}
use Rattle.rule_table.specs.declared.{classes.{Class.Class, Rule.Rule}, technology.Tech.Tech}
use Rattle.sym_items.specs.{declared.items.{Item.Item, Coords.Coords}, Sides.{sides_of, sides_in}}
use Rattle.pair_rules.specs.Bound.{item_at}
use Rattle.coarse_grid.specs.{declared.class_tree.ClassTree.ClassTree, Clash.{is_near, is_near_at}}

-- ---- the tree of a class

-- an entry stands for an item of a class: its area is the item's box, its owner the item's number, and its tag the
-- item's net
pub record IsItemEntry (c : Coords) (items : List Item) (class : Class) (entry : Entry) : Type 0 where
  pub among : entry.owner < length items
  pub class_is : (item_at items entry.owner).class ≡ class
  pub tag : entry.tag ≡ (item_at items entry.owner).net
  pub sides : sides_of entry.area ≡ sides_in c (item_at items entry.owner)

-- some entry stands for item i
pub record HasEntry (entries : List Entry) (i : ℕ) : Type 0 where
  pub k : ℕ
  pub entry : Entry
  pub there : slice_get entries k ≡ Some entry
  pub owner : entry.owner ≡ i

-- the entries of the items of a class among the first n items
pub record AreItemEntries (c : Coords) (items : List Item) (class : Class) (n : ℕ) (entries : List Entry) : Type 0 where
  pub few : length entries ≤ n
  pub placed : All (λ (s : Entry). IsPlacedBox s.area) entries
  pub sound : All (IsItemEntry c items class) entries
  pub complete : (i : ℕ) → i < n → (item_at items i).class ≡ class → HasEntry entries i

-- a tree of entries that stand for items
pub record AreParts (items : List Item) (parts : OwnedParts) : Type 0 where
  pub tree : AreTreeParts parts
  pub owners : All (λ (s : Entry). s.owner < length items) parts.entries.items

-- the item at a place of a tree's order
abbrev pub item_in : List Item → OwnedParts → ℕ → Item
item_in items parts p = item_at items (entry_in parts p).owner

-- items are alike that are of one class and one net and stand at the same buried contacts: they are bound to the same
-- items of other owners
abbrev pub AreAlike : Item → Item → Type 0
AreAlike a b = (a.class ≡ b.class) × (a.net ≡ b.net) × (a.at_low ≡ b.at_low) × (a.at_high ≡ b.at_high)

-- a group has items, and all are alike
pub record IsRunAlike (items : List Item) (parts : OwnedParts) (group : Group) : Type 0 where
  pub some : 0 < group.count
  pub each : (p : ℕ) → IsInRun group p → AreAlike (item_in items parts p) (item_in items parts group.start)

-- flags of the first n groups: where one is set, the items of the group are alike
pub record AreFlagged (items : List Item) (parts : OwnedParts) (n : ℕ) (flags : List Bool) : Type 0 where
  pub counted : length flags ≡ n
  pub alike : (at : ℕ) → at < n → IsTrue (slice_index_or flags at false)
      → IsRunAlike items parts (group_at parts.groups.items at)

-- the tree of the items of its class
pub record IsClassTree (c : Coords) (items : List Item) (tree : ClassTree) : Type 0 where
  pub entries : AreItemEntries c items tree.class (length items) tree.parts.entries.items
  pub parts : AreParts items tree.parts
  pub flags : AreFlagged items tree.parts (length tree.parts.groups.items) tree.alike.items

-- ---- items that are too near to another

-- item k is of a class, and too near to item i
pub record IsNearOf (tech : Tech) (c : Coords) (items : List Item) (class : Class) (i k : ℕ) : Type 0 where
  pub among : k < length items
  pub class_is : (item_at items k).class ≡ class
  pub near : is_near_at tech c items i k ≡ true

-- what is asked of the entries of a class that has this rule with the class of item i, which is of this net
abbrev pub question_of : Rule → ℕ → ℕ → Question
question_of rule i net = if rule.net_exempt then NearOfOtherTag (rule.s -ℤ pos 1) i net else NearOfOther
    (rule.s -ℤ pos 1) i

-- no item of a group is too near to item i
abbrev pub IsFarRun : Tech → Coords → List Item → OwnedParts → Group → ℕ → Type 0
IsFarRun tech c items parts group i = (p : ℕ) → IsInRun group p
    → is_near tech c (item_at items i) (item_in items parts p) ≡ false

-- some item is too near to item i
abbrev pub HasNear : Tech → Coords → List Item → ℕ → Type 0
HasNear tech c items i = (k : ℕ) × (k < length items) × (is_near_at tech c items i k ≡ true)

-- the first item before the item `end` to which one of a class is too near, or `end` where there is none; to this one
-- some item is
pub record IsFirstOf (tech : Tech) (c : Coords) (items : List Item) (class : Class) (end first : ℕ) : Type 0 where
  pub within : first ≤ end
  pub none : (i k : ℕ) → i < first → IsNearOf tech c items class i k → ⊥
  pub near : first < end → HasNear tech c items first

-- the first item to which some item is too near, or the number of all items where there is none
pub record IsFirstNear (tech : Tech) (c : Coords) (items : List Item) (first : ℕ) : Type 0 where
  pub within : first ≤ length items
  pub none : (i k : ℕ) → i < first → k < length items → is_near_at tech c items i k ≡ false
  pub near : first < length items → HasNear tech c items first
