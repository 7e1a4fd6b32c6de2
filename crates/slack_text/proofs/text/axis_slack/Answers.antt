use Rattle.std.proofs.Common.{arith}
use Rattle.list_facts.proofs.Pieces.{piece_added}
use Rattle.slack_text.{specs.Slack.master_slack, proofs.Cells.{master_added, master_read, names_end, names_within}}
use Rattle.slack_text.proofs.text.axis_slack.Goals as goal

pub push_cell-requires-clause-in_least : goal.push_cell-requires-clause-in_least
push_cell-requires-clause-in_least c =
    let masters = c.args.masters.now in
    let m = c.loop-master.master-index in
    let each = c.requires.least_each in
    let within = names_within c.args.axis masters m c.loop-master.far c.master-item.result c.loop-master-test.true
    (master_read masters m c.master-item.result c.loop-master-test.true c.master-item.is)
    c.loop-master.invariant.next in
    omega arith

pub push_cell-requires-clause-in_most : goal.push_cell-requires-clause-in_most
push_cell-requires-clause-in_most c =
    let masters = c.args.masters.now in
    let m = c.loop-master.master-index in
    let each = c.requires.most_each in
    let within = names_within c.args.axis masters m c.loop-master.far c.master-item.result c.loop-master-test.true
    (master_read masters m c.master-item.result c.loop-master-test.true c.master-item.is)
    c.loop-master.invariant.next in
    omega arith

pub loop-master-preserved : goal.loop-master-preserved
loop-master-preserved c =
    let axis = c.args.axis in
    let masters = c.args.masters.now in
    let m = c.loop-master.master-index in
    let master = c.master-item.result in
    let far = c.loop-master.far in
    let was = c.loop-master.invariant in
    let is = master_read masters m master c.loop-master-test.true c.master-item.is in
    record {
      texts = piece_added (master_slack axis masters c.args.least.now c.args.most.now) m c.push_axis.new.text.items
          c.loop-master.text.items c.push_cell.new.text.items was.texts
          (master_added axis masters c.args.least.now c.args.most.now m far master c.loop-master.text.items
          c.push_cell.new.text.items is was.next c.in_ok-far.ensures.text);
      next = names_end axis masters m far c.in_ok-far.far master c.loop-master-test.true is was.next
          c.in_ok-far.ensures.next;
    }
