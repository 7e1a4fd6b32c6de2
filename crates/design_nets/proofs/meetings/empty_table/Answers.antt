use Rattle.design_nets.proofs.Steps.{rows_more}
use Rattle.design_nets.proofs.meetings.empty_table.Goals as goal

pub loop-preserved : goal.loop-preserved
loop-preserved c =
    let inv = c.loop.invariant in
    let row = c.in_ok-empty_lists.ensures in
    let more = rows_more c.loop.table.items c.push.new.self.items c.loop.counter c.args.count _
    c.in_ok-push.ensures.items row.counted row.empty
    (record { rows = inv.rows; columns = inv.columns; empty = inv.empty }) in
    record { rows = more.rows; columns = more.columns; empty = more.empty }
