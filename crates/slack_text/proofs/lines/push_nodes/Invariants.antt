use Rattle.std.proofs.Common.{◌≡◌, ◌++◌, map, take}
use Rattle.cell_model.specs.declared.cell.Node.{Node}
use Rattle.pitch_join.specs.Names.{within_cell}
use Rattle.slack_text.specs.Slack.{slack_lines}
use Rattle.slack_text.proofs.lines.push_nodes.Given as goal

abbrev pub invariant-loop-k : goal.invariant-loop-k
invariant-loop-k l = l.text.items ≡ l.initial.text.items
    ++ slack_lines (map (λ (node : Node). within_cell l.cell node.name) (take l.k l.cell.nodes)) l.first l.least
    l.most
