use Rattle.std.proofs.lemmas.Result.{IfOk-weaker}
use Rattle.box_tree.specs.Orders.{AreReordered}
use Rattle.net_extract.{specs.Entries.AreMetalBoxes, proofs.MetalPieces.{metal_fits, metal_reordered}}
use Rattle.net_extract.proofs.metal.metal_tree.Goals as goal

pub in_shares-requires-clause-few : goal.in_shares-requires-clause-few
in_shares-requires-clause-few g c = λ κs le.
    (metal_fits c.args.boxes.now _ c.requires.searchable c.in_ok-entries.ensures).0

pub in_shares-requires-clause-placed : goal.in_shares-requires-clause-placed
in_shares-requires-clause-placed g c = λ κs le.
    (metal_fits c.args.boxes.now _ c.requires.searchable c.in_ok-entries.ensures).1

pub returns : goal.returns
returns g c =
    let boxes = c.args.boxes.now in
    let given = c.in_ok-entries.entries.items in
    IfOk-weaker c.in_shares.result (AreReordered given) (AreMetalBoxes boxes)
    (λ tree moved. metal_reordered boxes given tree c.in_ok-entries.ensures moved) c.in_shares.ensures
