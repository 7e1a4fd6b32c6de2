use Rattle.cif_read.proofs.Portions.{ready_here}
use Rattle.cif_read.proofs.reading.carry_out.Goals as goal

pub go_on-requires-clause-next : goal.go_on-requires-clause-next
go_on-requires-clause-next c =
    (ready_here c.args.bytes.now c.loop-ready.read c.args.portion.now.to c.deref-ready-items.result.now
    c.loop-ready.ready-index _ c.loop-ready-test.true c.loop-ready.invariant.ready).0
