use Rattle.std.proofs.Common.{List, length, get_or, ap, ◌∙◌, arith}
use Rattle.cell_model.specs.declared.cell.Node.{Node}
use Rattle.slack_text.proofs.Adding.{node_added, place_back}
use Rattle.slack_text.proofs.lines.push_nodes.Goals as goal

pub loop-k-preserved : goal.loop-k-preserved
loop-k-preserved c =
    let k = c.loop-k.k in
    let node = c.index-nodes-k.result in
    let count = ap (λ (ns : List Node). length ns) c.as_slice-nodes.ensures in
    let test = c.loop-k-test.true in
    node_added c.args.cell.now c.args.cell.now.nodes c.args.first k c.args.least.now c.args.most.now node _ _
    c.args.text.now.items c.loop-k.text.items c.push_node.new.text.items (omega arith)
    (c.index-nodes-k.is ∙ ap (λ (ns : List Node). get_or ns k node) c.as_slice-nodes.ensures)
    (place_back c.value.result _ c.value.ensures.place c.value.ensures.value)
    (place_back c.value-in-loop-k.result _ c.value-in-loop-k.ensures.place c.value-in-loop-k.ensures.value)
    c.loop-k.invariant c.in_ok-push_node.ensures
