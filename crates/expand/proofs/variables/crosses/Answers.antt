use Rattle.std.proofs.Common.{◌<◌, List, length, ap, arith}
use Rattle.cell_model.specs.declared.cell.Wire.{Wire}
use Rattle.expand.proofs.CrossVariables.{crosses_more, along_read}
use Rattle.expand.proofs.variables.crosses.Goals as goal

pub loop-wire-preserved : goal.loop-wire-preserved
loop-wire-preserved c =
    let ws = c.as_slice-wires.ensures in
    let n = ap (λ (vs : List Wire). length vs) ws in
    let lt : c.loop-wire.wire-index < length c.as_slice-wires.result.now = c.loop-wire-test.true in
    crosses_more c.args.cell.now c.loop-wire.wire-index _ _ _ _ _ _ _ _ (omega arith) (along_read _ _ _ _ ws lt)
    c.next_cross.ensures.across c.next_cross.ensures.up
    c.counted-across.ensures.value c.counted-up.ensures.value c.loop-wire.invariant c.in_ok-push.ensures.items
