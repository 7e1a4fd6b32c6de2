use Rattle.std.proofs.Common.{rules, take, drop, sym, take-append-drop}
use Rattle.lam_io.proofs.mem_sink.MemSinkSink.put.Goals as goal

pub returns-then-is_planned-2-clause-err : goal.returns-then-is_planned-2-clause-err
returns-then-is_planned-2-clause-err c = (
  take c.min-taken.result c.args.chunk.now,
  drop c.min-taken.result c.args.chunk.now,
  sym
      (take-append-drop _ _),
  search rules,
)
