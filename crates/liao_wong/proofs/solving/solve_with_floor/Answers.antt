use Rattle.std.{proofs.Common.{ℕ, ◌<◌, List, length, sym, subst, arith}, specs.List.All}
use Rattle.cons_graph.specs.{declared.edges.Edge.Edge, SimpleWalks.IsSimplePositiveCycle, Walks.HasPositiveCycle}
use Rattle.round_log.{specs.Orders.NamesEachOnce, proofs.{Least.positive_cycle_excludes, Outcomes.has_cycle}}
use Rattle.liao_wong.{specs.Held.ArePlaces, proofs.Outputs.{order_is_long, IfCycle-map}}
use Rattle.liao_wong.proofs.solving.solve_with_floor.Goals as goal

pub places_of-requires-clause-names : goal.places_of-requires-clause-names
places_of-requires-clause-names c =
    let P : ℕ → Type 0 = λ n. NamesEachOnce n c.args.order.now in
    subst P (sym (order_is_long c.args.g.now.vars c.args.order.now c.requires.names)) c.requires.names

pub places_of-requires-clause-few : goal.places_of-requires-clause-few
places_of-requires-clause-few c =
    let few = c.edges-edges.ensures.shape.few_vars in
    omega (arith, few, order_is_long c.args.g.now.vars c.args.order.now c.requires.names)

pub backward_count-backward-requires-clause-in_range : goal.backward_count-backward-requires-clause-in_range
backward_count-backward-requires-clause-in_range c =
    let long = order_is_long c.args.g.now.vars c.args.order.now c.requires.names in
    let one = c.in-Ok.ensures.0 in
    let P : List Edge → Type 0 =
    λ es. All (λ e. (e.from < length c.in-Ok.places.items) × (e.to < length c.in-Ok.places.items)) es in
    subst P (sym c.edges-edges.ensures.value) (λ k d lt.
    let e = c.edges-edges.ensures.shape.edges_among k d lt in
    let a = e.from_in_range in
    let b = e.to_in_range in
    (omega (arith, long, one, a), omega (arith, long, one, b)))

pub run_rounds-requires-clause-places : goal.run_rounds-requires-clause-places
run_rounds-requires-clause-places c =
    let P : ℕ → Type 0 = λ n. ArePlaces c.args.order.now n c.in-Ok.places.items in
    subst P (order_is_long c.args.g.now.vars c.args.order.now c.requires.names) c.in-Ok.ensures

pub returns-in-Ok-None-clause-cyclic : goal.returns-in-Ok-None-clause-cyclic
returns-in-Ok-None-clause-cyclic c =
    let edges : List Edge = c.args.g.now.edges in
    let P : List ℕ → Type 0 = λ x. IsSimplePositiveCycle edges x in
    let Q : List ℕ → Type 0 = λ x. HasPositiveCycle edges in
    IfCycle-map c.cycle_at.result P Q (λ x h. has_cycle edges x h) c.cycle_at.ensures.cycle

pub returns-in-Ok-read_out-clause-no_cycle : goal.returns-in-Ok-read_out-clause-no_cycle
returns-in-Ok-read_out-clause-no_cycle c =
    λ h. positive_cycle_excludes c.args.g.now.edges h.0 _ h.1 c.in-Ok-read_out.ensures.least.solves
