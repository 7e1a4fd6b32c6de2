-- The tree of the items of a class: its entries, and the flags of its groups.
use Rattle.std.proofs.Common.{◌≡◌, ◌∙◌, ℕ, ◌+◌, ◌<◌, Bool, false, List, [], ◌∷◌, ◌++◌, Contains, length, Some, refl, sym}
use Rattle.std.proofs.Common.{ap}
use Rattle.std.proofs.{Common.{subst, arith}, lemmas.List.{get_or_append_left, get_or_push, length_push}}
use Rattle.std.proofs.lemmas.{List.Elements.All-push, Option.{get_or_from_slice_get, slice_get_within}}
use Rattle.std.{proofs.lemmas.Option.slice_get-get_or, specs.Prelude.IsTrue}
use Rattle.lam_geom.specs.Places.{IsPlacedBox}
use Rattle.box_tree.specs.{UnvisitedTrees.group_at, declared.{entries.Entry.Entry, tree.OwnedParts.OwnedParts}}
use Rattle.box_tree.{specs.{Orders.AreReordered, Tree.IsTreeOf}, proofs.Orders.{reordered_all, reordered_contains, reordered_length}}
use Rattle.rule_table.specs.declared.classes.Class.{Class}
use Rattle.sym_items.specs.declared.items.{Item.Item, Coords.Coords}
use Rattle.pair_rules.specs.Bound.{item_at}
use Rattle.coarse_grid.specs.Nearby.{IsItemEntry, HasEntry, AreItemEntries, AreFlagged, AreParts, IsRunAlike}
use Rattle.coarse_grid.proofs.Nears.{by_lt}

-- ---- entries

-- an entry, and one more after it
entry_there : (entries : List Entry) (i : ℕ) (own : Entry) → HasEntry entries i → HasEntry (entries ++ own ∷ []) i
entry_there entries i own h =
    let lt = slice_get_within entries h.k h.entry h.there in
    let within : h.k < length (entries ++ own ∷ []) = omega (arith, lt, length_push entries own) in
    record {
      k = h.k;
      entry = h.entry;
      there = slice_get-get_or (entries ++ own ∷ []) h.k own within ∙ ap Some
          (get_or_append_left entries (own ∷ []) own h.k lt ∙ get_or_from_slice_get entries h.k h.entry own h.there);
      owner = h.owner;
    }

-- the last of all
entry_last : (entries : List Entry) (own : Entry) → HasEntry (entries ++ own ∷ []) own.owner
entry_last entries own =
    let within : length entries < length (entries ++ own ∷ []) = omega (arith, length_push entries own) in
    record {
      k = length entries;
      entry = own;
      there = slice_get-get_or (entries ++ own ∷ []) (length entries) own within
          ∙ ap Some (get_or_push entries own own (length entries) refl);
      owner = refl;
    }

-- one more item, which is of the class
pub entries_more : (c : Coords) (items : List Item) (class : Class) (n : ℕ) (entries : List Entry) (own : Entry)
    → AreItemEntries c items class n entries → own.owner ≡ n → IsPlacedBox own.area → IsItemEntry c items class own
    → AreItemEntries c items class (n + 1) (entries ++ own ∷ [])
entries_more c items class n entries own h owner placed is = record {
  few = omega (arith, h.few, length_push entries own);
  placed = All-push (λ (s : Entry). IsPlacedBox s.area) entries own h.placed placed;
  sound = All-push (IsItemEntry c items class) entries own h.sound is;
  complete = λ i lt class_is. by_lt i n
      (λ before. entry_there entries i own (h.complete i before class_is))
      (λ at. let same : own.owner ≡ i = omega (arith, owner, at, lt) in subst (HasEntry (entries ++ own ∷ [])) same
      (entry_last entries own));
}

-- one more of another class
pub entries_past : (c : Coords) (items : List Item) (class : Class) (n : ℕ) (entries : List Entry)
    → AreItemEntries c items class n entries → ((item_at items n).class ≡ class → ⊥)
    → AreItemEntries c items class (n + 1) entries
entries_past c items class n entries h other = record {
  few = omega (arith, h.few);
  placed = h.placed;
  sound = h.sound;
  complete = λ i lt class_is. by_lt i n
      (λ before. h.complete i before class_is)
      (λ at. let same : i ≡ n = omega (arith, at, lt) in absurd
      (other (subst (λ (k : ℕ). (item_at items k).class ≡ class) same class_is)));
}

-- ---- flags

-- one more flag
pub flags_more : (items : List Item) (parts : OwnedParts) (n : ℕ) (flags : List Bool) (own : Bool)
    → AreFlagged items parts n flags → (IsTrue own → IsRunAlike items parts (group_at parts.groups.items n))
    → AreFlagged items parts (n + 1) (flags ++ own ∷ [])
flags_more items parts n flags own h is = record {
  counted = omega (arith, h.counted, length_push flags own);
  alike = λ at lt flag. by_lt at n
      (λ before. h.alike at before (sym (get_or_append_left flags (own ∷ []) false at
      (omega (arith, before, h.counted))) ∙ flag))
      (λ past. let same : n ≡ at = omega (arith, past, lt) in
      let counted : length flags ≡ at = omega (arith, same, h.counted) in
      subst (λ (k : ℕ). IsRunAlike items parts (group_at parts.groups.items k)) same
      (is (sym (get_or_push flags own false at counted) ∙ flag)));
}

-- ---- the tree

-- the entries in another order
entries_reordered : (c : Coords) (items : List Item) (class : Class) (n : ℕ) (given entries : List Entry)
    → AreReordered given entries → AreItemEntries c items class n given → AreItemEntries c items class n entries
entries_reordered c items class n given entries r h = record {
  few = omega (arith, h.few, reordered_length given entries r);
  placed = reordered_all (λ (s : Entry). IsPlacedBox s.area) given entries r h.placed;
  sound = reordered_all (IsItemEntry c items class) given entries r h.sound;
  complete = λ i lt class_is.
      (let old = h.complete i lt class_is in
      let within = slice_get_within given old.k old.entry old.there in
      let among : Contains given old.entry = (
        old.k,
        within,
        get_or_from_slice_get given old.k old.entry old.entry old.there,
      ) in
      let now = reordered_contains given entries old.entry r among in
      record {
        k = now.0;
        entry = old.entry;
        there = slice_get-get_or entries now.0 old.entry now.1 ∙ ap Some now.2;
        owner = old.owner;
      });
}

-- a tree of these entries that was taken apart
pub parts_made : (c : Coords) (items : List Item) (class : Class) (given tree : List Entry) (parts : OwnedParts)
    → AreReordered given tree → parts.entries.items ≡ tree → IsTreeOf tree parts.groups.items
    → AreItemEntries c items class (length items) given
    → AreItemEntries c items class (length items) parts.entries.items × AreParts items parts
parts_made c items class given tree parts moved is stands h =
    let E : List Entry → Type 0 = AreItemEntries c items class (length items) in
    let T : List Entry → Type 0 = λ ss. IsTreeOf ss parts.groups.items in
    let shown : E parts.entries.items =
    subst E (sym is) (entries_reordered c items class (length items) given tree moved h) in
    (shown, record { tree = subst T (sym is) stands; owners = λ k d lt. (shown.sound k d lt).among })
