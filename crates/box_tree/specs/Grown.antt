-- What the making of a tree adds to its groups.
use Rattle.std.specs.Prelude.{◌≡◌, ℕ, ◌+◌, ◌*◌, ◌^◌, ◌≤◌, All, List, ◌∷◌, ◌++◌, length}
use Rattle.lam_geom.specs.Places.{IsPlacedBox}
use Rattle.box_tree.specs.{declared.entries.{Group.Group, Entry.Entry}, Tree.AreGroups}
use Rattle.box_tree.specs.declared.grow.{Sorted.Sorted, Subtree.Subtree}

-- groups can be made of entries
pub record CanGrow (sorted : Sorted) : Type 0 where
  pub few : length sorted.entries.now ≤ 2 ^ 21
  pub placed : All (λ (entry : Entry). IsPlacedBox entry.area) sorted.entries.now

-- after some groups stands one that has the run from a place to another, with the groups inside it: fewer than twice as
-- many as its entries
pub record IsGrown (entries : List Entry) (start end : ℕ) (before after : List Group) (group : Group) : Type
    0 where
  pub inner : List Group
  pub after_is : after ≡ before ++ group ∷ inner
  pub groups : AreGroups entries end (group ∷ inner)
  pub starts : group.start ≡ start
  pub ends : start + group.count ≡ end
  pub inside : group.inside ≡ length inner
  pub few : length after + 2 * start + 1 ≤ length before + 2 * end

-- the groups of a run, made apart from the others behind so many places that are free
pub record IsSubtree (entries : List Entry) (start end free : ℕ) (made : Subtree) : Type 0 where
  pub before : List Group
  pub are_free : length before ≡ free
  pub grown : IsGrown entries start end before made.groups.items made.top
