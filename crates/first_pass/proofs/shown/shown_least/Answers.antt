use Rattle.std.proofs.{Common.{◌-◌, List, length, take, drop, subst, All, Contains}, lemmas.List.take_rest}
use Rattle.cons_graph.specs.{declared.edges.Edge.Edge, Solutions.value_of}
use Rattle.first_pass.proofs.Shows.{least_shown}
use Rattle.first_pass.proofs.shown.shown_least.Goals as goal

pub returns-clause-least : goal.returns-clause-least
returns-clause-least c =
    let session = c.args.session.now in
    let limits = c.args.limits.now in
    let edges : List Edge = c.edges-edges.result.now in
    let after : All (Contains limits) (take (length edges - c.args.listed) (drop c.args.listed edges)) =
    c.are_limits.ensures c.if-not-are_limits.false in
    let among : All (Contains limits) (drop c.args.listed edges) =
    subst (λ (es : List Edge). All (Contains limits) es) (take_rest edges c.args.listed) after in
    least_shown session.vars c.args.listed session.edges limits (value_of c.in_ok-x.x.now) c.in_ok-x.ensures.least
    (c.are_met.ensures c.if-not-are_met.false)
    (subst (λ (es : List Edge). All (Contains limits) (drop c.args.listed es)) c.edges-edges.ensures.value among)
