use Rattle.std.proofs.Common.{true, Bool, Contains, subst}
use Rattle.std.proofs.lemmas.List.{Elements.Contains-get_or}
use Rattle.net_extract.specs.{declared.over.Vicinity.Vicinity, Listing.AreNearGroup, Nearby.{AreFound, query_of}}
use Rattle.net_extract.proofs.Owning.{all_trees, found_own, some_placed}
use Rattle.net_extract.proofs.listing.find_own.Goals as goal

pub find_near-requires-clause-trees : goal.find_near-requires-clause-trees
find_near-requires-clause-trees c =
    let s = c.requires.sides in
    let g = c.args.sides.now.ground in
    all_trees g.boxes.now g.pieces.now.placed.items s.layers c.args.sides.now.facing.now s.facing

pub push_near-requires-clause-nearby : goal.push_near-requires-clause-nearby
push_near-requires-clause-nearby c = λ k d lt.
    some_placed c.args.sides.now _ c.requires.sides
    (c.requires.nearby.sound _ (Contains-get_or c.args.nearby.now k d lt))

pub returns-in_ok-push_near : goal.returns-in_ok-push_near
returns-in_ok-push_near c =
    let sides = c.args.sides.now in
    let own = c.args.own.now in
    let nearby = c.args.nearby.now in
    let N : Bool → Type 0 = λ few. AreNearGroup sides own few nearby in
    let R : Vicinity → Type 0 = λ near. AreFound (Contains nearby) (query_of near) true c.clear.new.self.items
    c.push_near.new.found.items in
    found_own sides own nearby c.clear.new.self.items c.push_near.new.found.items c.requires.sides
    c.clear.ensures.items (subst N c.if-few.true c.requires.nearby)
    (subst R c.beside-near.ensures c.in_ok-push_near.ensures)
