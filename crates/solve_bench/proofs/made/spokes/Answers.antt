use Rattle.std.proofs.Common.{◌+◌, List, refl, sym, subst, arith}
use Rattle.cons_graph.specs.declared.edges.Edge.{Edge}
use Rattle.solve_bench.proofs.Reaching.{AreReaching, spoke_reached}
use Rattle.solve_bench.proofs.made.spokes.Goals as goal

pub loop-v-preserved : goal.loop-v-preserved
loop-v-preserved c =
    let P : List Edge → Type 0 = AreReaching c.args.vars (c.loop-v.v + 1) in
    subst P (sym c.in_ok-push.ensures.items)
    (spoke_reached c.args.vars c.loop-v.v c.loop-v.edges.items _ c.loop-v.invariant (omega arith) (omega arith)
    refl refl refl)
