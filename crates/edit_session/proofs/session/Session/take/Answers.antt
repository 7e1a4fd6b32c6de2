use Rattle.std.{proofs.Common.{◌≢◌, ◌<◌, List, length, sym, ap, subst, ◌∙◌}, specs.List.remove}
use Rattle.cons_graph.specs.{declared.edges.Edge.Edge, Constraints.IsConstraintGraph, EdgeNumbers.edge_at}
use Rattle.edit_session.proofs.Kept.{graph_less}
use Rattle.edit_session.proofs.session.Session.take.Goals as goal

pub new-requires : goal.new-requires
new-requires c =
    let s = c.self.inside in
    let view = ap (λ g. g.edges) c.self.view_is in
    let A : List Edge → Type 0 = λ es. c.args.place < length es in
    let B : List Edge → Type 0 = λ es. (edge_at es c.args.place).from ≢ 0 in
    let C : List Edge → Type 0 = λ es. IsConstraintGraph (record { vars = s.vars; edges = es }) in
    let D : List Edge → Type 0 = λ es. IsConstraintGraph (record { vars = s.vars; edges = remove es c.args.place }) in
    subst C (sym c.remove.ensures.items)
    (subst D (sym (c.in_ok-left.ensures.items ∙ c.deref.ensures.value))
    (graph_less s.vars s.edges.items c.args.place c.self.invariant.shape.shape
    (subst A (sym view) c.requires.in_range) (subst B (sym view) c.requires.not_from_origin)))
