use Rattle.std.proofs.Common.{List, [], ◌∷◌, refl, sym, subst}
use Rattle.box_tree.specs.declared.entries.{Entry.Entry, Group.Group}
use Rattle.box_tree.specs.Tree.{IsTreeOf}
use Rattle.net_extract.specs.{Entries.ArePieceEntries, Grounds.placed_on}
use Rattle.net_extract.proofs.touching.put_touching.Goals as goal

pub put_lists-requires-clause-sides : goal.put_lists-requires-clause-sides
put_lists-requires-clause-sides g c = λ κs le.
    let parts = c.args.parts.now in
    let layer = c.requires.parts.0 in
    let tree = c.requires.parts.1 in
    let E : List Entry → Type 0 = λ es. IsTreeOf es c.deref-2.result.now in
    let G : List Group → Type 0 = λ gs. IsTreeOf parts.entries.items gs in
    let A : List Entry → Type 0 = ArePieceEntries c.args.ground.now.boxes.now (placed_on c.args.ground.now) layer in
    record {
      ground = c.requires.ground;
      tree = subst E (sym c.deref.ensures.value) (subst G (sym c.deref-2.ensures.value) tree.stands);
      layers = layer ∷ [];
      owners = (layer, refl, subst A (sym c.deref.ensures.value) tree.shows);
      facing = (tree, tt);
    }
