use Rattle.std.{proofs.Common.{◌≡◌, ◌++◌}, specs.List.{flat_map, range_with_len}}
use Rattle.pitch_join.specs.Joined.{base_of}
use Rattle.slack_text.specs.Slack.{master_slack}
use Rattle.slack_text.proofs.text.axis_slack.Given as goal

abbrev pub invariant-loop-master : goal.invariant-loop-master
invariant-loop-master l = record {
  texts : l.text.items ≡ l.initial.text.items ++ flat_map (master_slack l.axis l.masters l.least l.most)
      (range_with_len 0 l.master-index);
  next : l.far ≡ base_of l.axis l.masters l.master-index;
}
