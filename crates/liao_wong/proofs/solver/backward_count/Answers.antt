use Rattle.std.{proofs.Common.{◌≡◌, ℕ, ◌+◌, List, length, sym, ap, subst, ◌∙◌, arith}, specs.List.range_with_len}
use Rattle.cons_graph.specs.declared.edges.Edge.{Edge}
use Rattle.liao_wong.{specs.{Held.ArePlaces, Going.backward_of}, proofs.Outputs.{count_one, count_none, count_low}}
use Rattle.liao_wong.proofs.solver.backward_count.Goals.{then-not-goes_up, else-not-goes_up}
use Rattle.liao_wong.proofs.solver.backward_count.Goals as goal

pub overflow_add-count : goal.overflow_add-count
overflow_add-count c =
    omega (
      arith,
      c.loop-edge.invariant,
      count_low c.args.edges.now c.args.order.now.variables.now
          c.loop-edge.edge-index,
      c.loop-edge-test.true,
      c.requires.few,
    )

pub loop-edge-preserved : goal.loop-edge-preserved
loop-edge-preserved c =
    let edges : List Edge = c.args.edges.now in
    let order : List ℕ = c.args.order.now.variables.now in
    let i : ℕ = c.loop-edge.edge-index in
    let A : List ℕ → Type 0 = λ ps. ArePlaces order (length ps) ps in
    let at' : ArePlaces order (length c.deref.result.now) c.deref.result.now =
    subst A (sym c.deref.ensures.value) c.requires.places in
    elim c.if-not-goes_up.branch
    as (λ _. c.if-not-goes_up.count ≡ length (backward_of edges order (range_with_len 0 (i + 1)))) [
      | then-not-goes_up w ↦ w.count-is ∙ ap (λ n. n + 1) c.loop-edge.invariant
          ∙ sym (count_one edges order i (sym (w.if-not-goes_up.ensures order at')))
      | else-not-goes_up w ↦ w.count-is ∙ c.loop-edge.invariant
          ∙ sym (count_none edges order i (sym (w.if-not-goes_up.ensures order at')))
    ]
