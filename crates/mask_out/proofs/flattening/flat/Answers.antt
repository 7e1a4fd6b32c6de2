use Rattle.mask_out.proofs.Shifted.{calls_at, call_flattened}
use Rattle.mask_out.proofs.flattening.flat.Goals as goal

pub push_called-requires-clause-within : goal.push_called-requires-clause-within
push_called-requires-clause-within c =
    let at = calls_at c.args.picture.now.symbols c.as_slice-symbols.result.now c.args.picture.now.calls
    c.as_slice-call-items.result.now c.loop-call.call-index c.index-symbols-call.result c.as_slice.result.now
    c.as_slice-symbols.ensures c.as_slice-call-items.ensures c.loop-call-test.true c.requires
    c.index-symbols-call.is c.as_slice.ensures in
    at.within

pub loop-call-preserved : goal.loop-call-preserved
loop-call-preserved c =
    let at = calls_at c.args.picture.now.symbols c.as_slice-symbols.result.now c.args.picture.now.calls
    c.as_slice-call-items.result.now c.loop-call.call-index c.index-symbols-call.result c.as_slice.result.now
    c.as_slice-symbols.ensures c.as_slice-call-items.ensures c.loop-call-test.true c.requires
    c.index-symbols-call.is c.as_slice.ensures in
    record {
      placed = c.in_ok-push_called.ensures.placed;
      drawn = call_flattened c.args.picture.now.symbols c.args.picture.now.calls c.loop-call.call-index _
          c.as_slice.result.now _ _ at c.loop-call.invariant.drawn c.in_ok-push_called.ensures.boxes;
    }
