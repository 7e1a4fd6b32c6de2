use Rattle.std.{proofs.Common.{◌≡◌, ◌+◌, ◌++◌, length}, specs.List.{flat_map, range_with_len}}
use Rattle.pitch_join.specs.Names.{cross_name}
use Rattle.slack_text.specs.Slack.{slack_lines}
use Rattle.slack_text.proofs.lines.push_wires.Given as goal

abbrev pub invariant-loop-k : goal.invariant-loop-k
invariant-loop-k l = record {
  lines : l.text.items ≡ l.initial.text.items ++ slack_lines
      (flat_map (cross_name l.axis l.cell) (range_with_len 0 l.k)) l.first l.least l.most;
  next : l.v ≡ l.first + length (flat_map (cross_name l.axis l.cell) (range_with_len 0 l.k));
}
