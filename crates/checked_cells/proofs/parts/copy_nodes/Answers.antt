use Rattle.std.proofs.Common.{ap, ◌∙◌}
use Rattle.cell_model.specs.declared.cell.Node.{Node}
use Rattle.checked_cells.{specs.CheckedCell.copied_node, proofs.Copying.image_more}
use Rattle.checked_cells.proofs.parts.copy_nodes.Goals as goal

pub loop-node-preserved : goal.loop-node-preserved
loop-node-preserved c =
    let a = c.args in
    let copy : Node → Node = copied_node a.use_name.now a.shift.0 a.shift.1 in
    image_more copy a.copied.now c.loop-node.node-index c.node-item.result a.nodes.now.items c.loop-node.nodes.items
    c.push.new.self.items c.in_ok-copied_node.field-0 c.loop-node-test.true c.loop-node.invariant
    (c.in_ok-copied_node.ensures ∙ ap copy c.node-item.is) c.in_ok-push.ensures.items
