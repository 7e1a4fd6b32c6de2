use Rattle.std.proofs.{Common.length, lemmas.Result.IfOk-weaker}
use Rattle.box_tree.specs.Orders.{AreReordered}
use Rattle.crossing_model.specs.Boxes.{IsOn}
use Rattle.lam_geom.specs.declared.boxes.MaskLayer.TheVariants.{NC}
use Rattle.crossings.specs.Entries.{AreBoxesOn, box_entry}
use Rattle.crossings.proofs.{EntryBoxes.{entries_few, entries_placed}, EntryLists.entries_reordered}
use Rattle.net_extract.proofs.nets.cut_tree.Goals as goal

pub in_shares-requires-clause-few : goal.in_shares-requires-clause-few
in_shares-requires-clause-few g c = λ κs le.
    entries_few c.args.boxes.now NC _ c.requires.searchable c.in_ok-entries.ensures

pub in_shares-requires-clause-placed : goal.in_shares-requires-clause-placed
in_shares-requires-clause-placed g c = λ κs le.
    entries_placed c.args.boxes.now NC _ c.requires.searchable c.in_ok-entries.ensures

pub returns : goal.returns
returns g c =
    let boxes = c.args.boxes.now in
    let given = c.in_ok-entries.entries.items in
    IfOk-weaker c.in_shares.result (AreReordered given) (AreBoxesOn boxes NC)
    (λ tree moved. entries_reordered (IsOn boxes NC) (box_entry boxes) (length boxes) given tree moved
    c.in_ok-entries.ensures) c.in_shares.ensures
