-- Groups none of whose items is too near to an item, and what the tree of a class is asked beside it.
use Rattle.std.proofs.Common.{◌≡◌, ◌≢◌, ◌∙◌, ℕ, ◌<◌, ◌≤◌, ◌==◌, ◌||◌, Bool, true, false, cond, if◌then◌else◌, ℤ, pos}
use Rattle.std.proofs.Common.{◌-ℤ◌, ◌≤ℤ◌, ◌<ℤ◌, List, length, get_or, All, Option, Some, None, refl, sym, ap, subst}
use Rattle.std.{proofs.{Common.arith, lemmas.{Int.ints, List.get_or_read}}, specs.Prelude.IsTrue}
use Rattle.lam_geom.specs.{declared.boxes.BoxXY.BoxXY, Gaps.gap_of_boxes}
use Rattle.box_tree.specs.{UnvisitedTrees.{group_at, no_group}, declared.entries.{Group.Group, Entry.Entry}}
use Rattle.box_tree.specs.declared.query.{Question.TheVariants.{NearOfOther, NearOfOtherTag}, Query.Query}
use Rattle.box_tree.specs.{declared.tree.OwnedParts.OwnedParts, Queries.{Answers, Holds}, Tree.{IsBounded, IsGroupOf}}
use Rattle.box_tree.{specs.Tree.{no_entry, entry_of}, proofs.Trees.{IsBarren, IsPassed, passed_all}}
use Rattle.rule_table.specs.{declared.{classes.{Class.Class, Rule.Rule}, technology.Tech.Tech}, Technology.spacing_of}
use Rattle.sym_items.specs.{declared.items.{Item.Item, Coords.Coords}, Sides.{sides_of, sides_in, gap_of_sides, gap_in}}
use Rattle.sym_items.specs.Standing.{stand_together}
use Rattle.pair_rules.specs.Bound.{IsBound, item_at, is_joined, bound_spacing, spacing_by}
use Rattle.pair_rules.proofs.BoundItems.{out_of_bound}
use Rattle.coarse_grid.specs.Clash.{is_below, is_near, is_near_at}
use Rattle.coarse_grid.specs.Nearby.{AreAlike, AreParts, AreItemEntries, IsFarRun, IsNearOf, IsItemEntry, question_of}

pub not_true : (b : Bool) → (b ≡ true → ⊥) → b ≡ false
not_true true h = absurd (h refl)
not_true false h = refl

-- ---- alike items

-- what an item of another owner is not bound to is bound to nothing like it
pub unbound_alike : (tech : Tech) (a first other : Item) → AreAlike other first → (a.owner == first.owner) ≡ false
    → bound_spacing tech a first ≡ None → bound_spacing tech a other ≡ None
unfolding bound_spacing stand_together
unbound_alike tech a first other alike owners none =
    let o : Option ℤ = spacing_by (spacing_of tech a.class first.class) a.net first.net in
    let rule : spacing_by (spacing_of tech a.class other.class) a.net other.net ≡ o = cc in
    let joined : is_joined a other ≡ is_joined a first = cc in
    free (a.owner == first.owner) (a.owner == other.owner) (is_joined a first) (is_joined a other) o
    (spacing_by (spacing_of tech a.class other.class) a.net other.net) owners joined rule none
  where
    free : (p q j k : Bool) (o u : Option ℤ) → p ≡ false → k ≡ j → u ≡ o → cond (p || j) None o ≡ None
        → cond (q || k) None u ≡ None
    free true q j k o u e f g h = cc
    free false true j k o u e f g h = refl
    free false false j k o u e f g h = cc

-- ---- items that are too near one another

-- they are bound, and their gap is below the spacing
record IsTight (tech : Tech) (c : Coords) (a b : Item) : Type 0 where
  s : ℤ
  bound : IsBound tech a b s
  below : gap_in c a b <ℤ s

tight : (tech : Tech) (c : Coords) (a b : Item) → is_near tech c a b ≡ true → IsTight tech c a b
tight tech c a b near = by_spacing (bound_spacing tech a b) refl near
  where
    by_spacing : (o : Option ℤ) → bound_spacing tech a b ≡ o → is_below (gap_in c a b) o ≡ true → IsTight tech c a b
    by_spacing None e h = cc
    by_spacing (Some s) e h = record { s = s; bound = out_of_bound tech a b s e; below = grind (arith, ints) }

-- no item is too near to itself
pub near_other : (tech : Tech) (c : Coords) (items : List Item) (i k : ℕ) → is_near_at tech c items i k ≡ true → i ≢ k
near_other tech c items i k near same =
    let t = tight tech c (item_at items i) (item_at items k) near in
    t.bound.owners (ap (λ (n : ℕ). (item_at items n).owner) same)

-- items of classes without a rule are not too near one another
pub unruled_near : (tech : Tech) (c : Coords) (items : List Item) (class : Class) (i k : ℕ)
    → spacing_of tech (item_at items i).class class ≡ None → IsNearOf tech c items class i k → ⊥
unruled_near tech c items class i k none near =
    let t = tight tech c (item_at items i) (item_at items k) near.near in
    let ruled : spacing_of tech (item_at items i).class class ≡ Some t.bound.rule = ap
    (λ (d : Class). spacing_of tech (item_at items i).class d) (sym near.class_is) ∙ t.bound.ruled in
    let no : ⊥ = cc in no

-- ---- what is asked

-- the gap of two items' boxes is that of the items
gap_by_sides : (c : Coords) (x y : Item) (a b : BoxXY) → sides_of a ≡ sides_in c x → sides_of b ≡ sides_in c y
    → gap_of_boxes a b ≡ gap_in c x y
gap_by_sides c x y a b p q = ap (λ s. gap_of_sides s (sides_of b)) p ∙ ap (λ s. gap_of_sides (sides_in c x) s) q

by_net : (exempt : Bool) (reach : ℤ) (i net : ℕ) (area : BoxXY) (entry : Entry) → gap_of_boxes area entry.area ≤ℤ reach
    → entry.owner ≢ i → (IsTrue exempt → entry.tag ≢ net)
    → Answers (if exempt then NearOfOtherTag reach i net else NearOfOther reach i) area entry
by_net true reach i net area entry near owner tag = (near, owner, tag refl)
by_net false reach i net area entry near owner tag = (near, owner)

-- what an entry holds whose item is too near to item i
pub asked : (tech : Tech) (c : Coords) (items : List Item) (class : Class) (rule : Rule) (i : ℕ) (area : BoxXY)
    (entry : Entry) → spacing_of tech (item_at items i).class class ≡ Some rule
    → sides_of area ≡ sides_in c (item_at items i)
    → IsItemEntry c items class entry → is_near_at tech c items i entry.owner ≡ true
    → Answers (question_of rule i (item_at items i).net) area entry
asked tech c items class rule i area entry ruled sides is near =
    let a = item_at items i in
    let b = item_at items entry.owner in
    let t = tight tech c a b near in
    let own : spacing_of tech a.class b.class ≡ Some rule = ap (λ (k : Class). spacing_of tech a.class k) is.class_is
    ∙ ruled in
    let same : t.bound.rule ≡ rule = (let e : Some t.bound.rule ≡ Some rule = sym t.bound.ruled ∙ own in cc) in
    let spacing : rule.s ≡ t.s = ap (λ (r : Rule). r.s) (sym same) ∙ t.bound.spacing in
    let gap = gap_by_sides c a b area entry.area sides is.sides in
    by_net rule.net_exempt (rule.s -ℤ pos 1) i a.net area entry
    (within (gap_of_boxes area entry.area) (gap_in c a b) rule.s t.s gap spacing t.below)
    (λ e. near_other tech c items i entry.owner near (sym e))
    (λ exempt e. t.bound.nets (ap (λ (r : Rule). r.net_exempt) same ∙ exempt) (sym e ∙ is.tag))
  where
    within : (g h r s : ℤ) → g ≡ h → r ≡ s → h <ℤ s → g ≤ℤ (r -ℤ pos 1)
    within g h r s p q below = omega (arith, ints, p, q, below)

-- ---- the walk over the groups

-- the item of an entry is too near to item i
abbrev pub NearEntry : Tech → Coords → List Item → ℕ → Entry → Type 0
NearEntry tech c items i s = is_near_at tech c items i s.owner ≡ true

-- a group that was read
pub group_read : (parts : OwnedParts) (at : ℕ) (group : Group) → at < length parts.groups.items
    → group ≡ get_or parts.groups.items at group → group ≡ group_at parts.groups.items at
group_read parts at group lt is = get_or_read parts.groups.items at group lt is no_group

-- what its bounds rule out
pub far_by_bounds : (tech : Tech) (c : Coords) (items : List Item) (class : Class) (parts : OwnedParts)
    (group : Group) (rest : List Group) (query : Query) (i : ℕ) → All (IsItemEntry c items class) parts.entries.items
    → IsGroupOf parts.entries.items (length parts.entries.items) group rest
    → ((entry : Entry) → IsItemEntry c items class entry → NearEntry tech c items i entry → Holds query entry)
    → ((entry : Entry) → IsBounded group entry → Holds query entry → ⊥) → IsFarRun tech c items parts group i
far_by_bounds tech c items class parts group rest query i sound here asked none p within =
    let entries = parts.entries.items in
    let entry = entry_of entries p in
    let place : p < length entries = omega (arith, within.1, here.ends) in
    let is : IsItemEntry c items class entry = sound p no_entry place in
    not_true (is_near_at tech c items i entry.owner) (λ near. none entry (here.within p within.0 within.1)
    (asked entry is near))

pub barren_run : (tech : Tech) (c : Coords) (items : List Item) (parts : OwnedParts) (group : Group) (i : ℕ)
    → IsFarRun tech c items parts group i
    → IsBarren parts.entries.items group (NearEntry tech c items i)
barren_run tech c items parts group i far p low high near = let apart = far p (low, high) in let no : ⊥ = cc in no

-- past all groups
pub none_passed : (tech : Tech) (c : Coords) (items : List Item) (class : Class) (parts : OwnedParts) (i at : ℕ)
    → AreItemEntries c items class (length items) parts.entries.items → AreParts items parts
    → length parts.groups.items ≤ at
    → IsPassed parts.entries.items parts.groups.items (NearEntry tech c items i) at → (k : ℕ)
    → IsNearOf tech c items class i k → ⊥
none_passed tech c items class parts i at h p past passed k near =
    let has = h.complete k near.among near.class_is in
    passed_all parts.entries.items parts.groups.items (NearEntry tech c items i) at past passed
    has.k has.entry has.there
    (subst (λ (n : ℕ). is_near_at tech c items i n ≡ true) (sym has.owner) near.near)
