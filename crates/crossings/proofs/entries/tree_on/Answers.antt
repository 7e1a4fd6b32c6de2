use Rattle.std.proofs.{Common.length, lemmas.Result.IfOk-weaker}
use Rattle.box_tree.specs.Orders.{AreReordered}
use Rattle.crossing_model.specs.Boxes.{IsOn}
use Rattle.crossings.specs.Entries.{AreBoxesOn, box_entry}
use Rattle.crossings.proofs.{EntryBoxes.{entries_few, entries_placed}, EntryLists.entries_reordered}
use Rattle.crossings.proofs.entries.tree_on.Goals as goal

pub new-requires-clause-few : goal.new-requires-clause-few
new-requires-clause-few c = entries_few c.args.boxes.now c.args.layer _ c.requires c.in_ok-entries.ensures

pub new-requires-clause-placed : goal.new-requires-clause-placed
new-requires-clause-placed c = entries_placed c.args.boxes.now c.args.layer _ c.requires c.in_ok-entries.ensures

pub returns : goal.returns
returns c =
    let on = AreBoxesOn c.args.boxes.now c.args.layer in
    let given = c.in_ok-entries.entries.items in
    IfOk-weaker c.new.result (AreReordered given) on (λ tree moved.
    entries_reordered (IsOn c.args.boxes.now c.args.layer) (box_entry c.args.boxes.now) (length c.args.boxes.now) given
    tree moved c.in_ok-entries.ensures) c.new.ensures
