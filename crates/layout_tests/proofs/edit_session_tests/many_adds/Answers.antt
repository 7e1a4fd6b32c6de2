use Rattle.std.proofs.Common.{ℕ, sym, subst}
use Rattle.cons_graph.specs.Constraints.{IsEdgeAmong}
use Rattle.layout_tests.proofs.edit_session_tests.many_adds.Goals as goal

pub add-requires : goal.add-requires
add-requires g c =
    let A : ℕ → Type 0 = λ n. IsEdgeAmong n c.last_edge.result in
    subst A (sym c.loop-len.invariant) c.last_edge.ensures
