use Rattle.std.proofs.Common.{◌-◌, length, arith}
use Rattle.cif_text.proofs.{Lines.feed_last, Cuts.{line_too_long, steps_back}}
use Rattle.cif_text.proofs.cutting.end_of_chunk.Goals as goal

pub returns-then-text-start-le-MAX_CHUNK-clause-line : goal.returns-then-text-start-le-MAX_CHUNK-clause-line
returns-then-text-start-le-MAX_CHUNK-clause-line c =
    feed_last c.args.text.now c.requires.lines (length c.args.text.now - 1) (omega arith)

pub loop-end-preserved : goal.loop-end-preserved
loop-end-preserved c =
    let back = steps_back c.args.text.now c.args.start c.loop-end.end c.requires.lines (omega arith)
    c.loop-end.invariant.after c.loop-end.invariant.none c.loop-end-test.true in
    record {
      after = back.after;
      within = omega arith;
      none = back.none;
    }

pub returns-clause-full : goal.returns-clause-full
returns-clause-full c = λ _. line_too_long c.args.text.now c.args.start c.loop-end.end c.loop-end.invariant.after
    (omega arith) c.loop-end.invariant.within c.loop-end.invariant.none
