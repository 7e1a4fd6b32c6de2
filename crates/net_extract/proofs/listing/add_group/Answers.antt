use Rattle.std.proofs.Common.{arith, ◌≡◌, ◌<◌, pos, List, length, get_or, sym, ap, subst}
use Rattle.std.proofs.lemmas.List.{get_or_read}
use Rattle.box_tree.specs.{declared.entries.Entry.Entry, Tree.no_entry}
use Rattle.lam_geom.specs.{declared.boxes.BoxXY.BoxXY, Gaps.Encloses, Places.IsPlacedBox}
use Rattle.net_extract.specs.{declared.over.Vicinity.Vicinity, Listing.AreNearGroup}
use Rattle.net_extract.proofs.Owning.{group_read, near_group}
use Rattle.net_extract.proofs.listing.add_group.Goals as goal

pub find_near-requires-clause-near : goal.find_near-requires-clause-near
find_near-requires-clause-near c =
    let sides = c.args.sides.now in
    let g = group_read sides c.args.at c.index-groups-at.result c.requires.sides c.requires.among c.index-groups-at.is in
    let P : Vicinity → Type 0 = λ v. IsPlacedBox v.area in
    subst P (sym c.beside-near.ensures) g.placed.outer

pub overflow_add-place-end : goal.overflow_add-place-end
overflow_add-place-end c =
    let sides = c.args.sides.now in
    let g = group_read sides c.args.at c.index-groups-at.result c.requires.sides c.requires.among c.index-groups-at.is in
    let tree = c.requires.sides.tree in
    omega (arith, g.ends, tree.few)

pub bounds-entries-place : goal.bounds-entries-place
bounds-entries-place c =
    let sides = c.args.sides.now in
    let g = group_read sides c.args.at c.index-groups-at.result c.requires.sides c.requires.among c.index-groups-at.is in
    omega (arith, g.ends, c.loop-place-test.true)

pub find_own-requires-clause-nearby : goal.find_own-requires-clause-nearby
find_own-requires-clause-nearby c =
    let sides = c.args.sides.now in
    let s = c.requires.sides in
    let g = group_read sides c.args.at c.index-groups-at.result s c.requires.among c.index-groups-at.is in
    let p = c.loop-place.place in
    let near = c.beside-near.ensures in
    let own : Entry = c.index-entries-place.result in
    let lt : p < length sides.own.entries.now = omega (arith, g.ends, c.loop-place-test.true) in
    let read : own ≡ get_or sides.own.entries.now p no_entry =
    get_or_read sides.own.entries.now p own lt c.index-entries-place.is no_entry in
    let W : Entry → BoxXY → Type 0 = λ e area. Encloses area e.area (pos 0) in
    let A : BoxXY → Type 0 = W own in
    let E : Entry → Type 0 = λ e. W e c.index-groups-at.result.outer in
    let N : List Entry → Type 0 = AreNearGroup sides own c.in_ok-few.few in
    subst N (sym c.deref.ensures.value)
    (near_group sides own c.beside-near.result c.in_ok-few.few c.clear.new.self.items c.find_near.new.found.items s
    c.clear.ensures.items (ap (λ (v : Vicinity). v.reach) near) (ap (λ (v : Vicinity). v.owner) near)
    (subst A (sym (ap (λ (v : Vicinity). v.area) near))
    (subst E (sym read) (g.within p c.loop-place.auto.place c.loop-place-test.true).outer))
    c.in_ok-few.ensures)

pub find_own-requires-clause-own : goal.find_own-requires-clause-own
find_own-requires-clause-own c =
    let sides = c.args.sides.now in
    let g = group_read sides c.args.at c.index-groups-at.result c.requires.sides c.requires.among c.index-groups-at.is in
    (c.loop-place.place, omega (arith, g.ends, c.loop-place-test.true), sym c.index-entries-place.is)

pub add_own-requires-clause-own : goal.add_own-requires-clause-own
add_own-requires-clause-own c =
    let sides = c.args.sides.now in
    let g = group_read sides c.args.at c.index-groups-at.result c.requires.sides c.requires.among c.index-groups-at.is in
    (c.loop-place.place, omega (arith, g.ends, c.loop-place-test.true), sym c.index-entries-place.is)
