use Rattle.std.proofs.{Common.{◌≡◌, ℤ, pos, List, length, sym, ap, subst, arith}, lemmas.List.Elements.All-from_get_or}
use Rattle.std.specs.List.{All}
use Rattle.cons_graph.specs.{declared.edges.Edge.Edge, Walks.HasPositiveCycle, Solutions.value_of}
use Rattle.liao_wong.specs.Answers.{IsWithinLimit}
use Rattle.edit_session.proofs.{Kept.no_cycle, Sizes.least_small}
use Rattle.edit_session.proofs.session.Session.least.Goals as goal

pub returns-clause-small : goal.returns-clause-small
returns-clause-small c =
    let s = c.self.inside in
    let n : length s.x.items ≡ s.vars = c.self.invariant.one_each in
    let P : List ℤ → Type 0 = λ x. All IsWithinLimit x in
    subst P (sym c.deref.ensures.value)
    (All-from_get_or IsWithinLimit s.x.items (pos 0)
    (λ v lt. least_small (record { vars = s.vars; edges = s.edges.items }) (value_of s.x.items) v
    c.self.invariant.shape.shape (c.self.invariant.least c.if-self.false) (omega (arith, lt, n))))

pub returns-clause-cyclic : goal.returns-clause-cyclic
returns-clause-cyclic c =
    let s = c.self.inside in
    let P : List Edge → Type 0 = λ es. HasPositiveCycle es → ⊥ in
    let none : HasPositiveCycle c.args.self.now.edges → ⊥ =
    subst P (ap (λ g. g.edges) c.self.view_is)
    (no_cycle s.vars s.edges.items (value_of s.x.items) (c.self.invariant.least c.if-self.false)) in
    (λ e. absurd cc, λ h. absurd (none h))
