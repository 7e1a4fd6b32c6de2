use Rattle.std.proofs.Common.{◌≡◌, ℕ, suc, ◌<◌, Bool, true, false, not, ℤ, List, [], ◌∷◌, ◌++◌, length, sym, ap, subst}
use Rattle.std.proofs.{Common.{◌∙◌, refl, arith}, lemmas.Bool.true≢false}
use Rattle.cons_graph.specs.{declared.edges.Edge.Edge, Constraints.{IsConstraintGraph, IsSmallGraph, IsEdgeAmong}}
use Rattle.cons_graph.specs.{Solutions.{IsLeastSolution, value_of}, Walks.HasPositiveCycle}
use Rattle.edit_session.specs.{Links.AreLinks, Raised.IsAppended, Kept.IsKept}
use Rattle.edit_session.proofs.{Linked.length_more, Kept.{graph_more, appended, cycle_more}}
use Rattle.edit_session.proofs.session.Session.add.Goals as goal

-- what is kept of a list with one more edge
kept : (vars : ℕ) (edges more : List Edge) (e : Edge) (latest before : List ℕ) (x : List ℤ) (cyclic : Bool)
    (marks : List Bool) → IsSmallGraph (record { vars = vars; edges = edges }) → more ≡ edges ++ e ∷ []
    → length edges < 4194304 → IsEdgeAmong vars e → AreLinks vars (edges ++ e ∷ []) latest before → length x ≡ vars
    → length marks ≡ vars → (cyclic ≡ false → IsLeastSolution vars more (value_of x))
    → (cyclic ≡ true → HasPositiveCycle more)
    → IsKept (record { vars = vars; edges = more }) latest before x cyclic marks
kept vars edges more e latest before x cyclic marks s is lt among links one_each one_mark least cycle =
    let G : List Edge → Type 0 = λ es. IsConstraintGraph (record { vars = vars; edges = es }) in
    let L : List Edge → Type 0 = λ es. AreLinks vars es latest before in
    let count : length more ≡ suc (length edges) = ap length is ∙ length_more edges e in
    record {
      shape = record {
        shape = subst G (sym is) (graph_more vars edges e s.shape among);
        few = omega (arith, count, lt);
      };
      links = subst L (sym is) links;
      one_each = one_each;
      one_mark_each = one_mark;
      least = least;
      cycle = cycle;
    }

not_false : (b : Bool) → not b ≡ false → b ≡ true
not_false true e = refl
not_false false e = absurd cc

not_true : (b : Bool) → not b ≡ true → b ≡ false
not_true true e = absurd cc
not_true false e = refl

pub raise_last-requires-clause-appended : goal.raise_last-requires-clause-appended
raise_last-requires-clause-appended c =
    let s = c.self.inside in
    let V : ℕ → Type 0 = λ n. IsEdgeAmong n c.args.e in
    let among : IsEdgeAmong s.vars c.args.e = subst V (sym (ap (λ g. g.vars) c.self.view_is)) c.requires in
    let P : List Edge → Type 0 = λ es. IsAppended es s.x.items s.waiting.marks in
    subst P (sym (c.deref-then-not-self.ensures.value ∙ c.in-Ok-push.ensures.items))
    (appended s.vars s.edges.items c.args.e s.x.items s.waiting.marks c.self.invariant.shape.shape among
    c.self.invariant.one_each c.self.invariant.one_mark_each (c.self.invariant.least c.if-not-self.true))

pub invariant_of-self-then-not-self : goal.invariant_of-self-then-not-self
invariant_of-self-then-not-self c =
    let s = c.self.inside in
    let r = c.raise_last.ensures in
    let V : ℕ → Type 0 = λ n. IsEdgeAmong n c.args.e in
    let among : IsEdgeAmong s.vars c.args.e = subst V (sym (ap (λ g. g.vars) c.self.view_is)) c.requires in
    let same : length s.x.items ≡ s.vars = c.self.invariant.one_each in
    let A : ℕ → Type 0 = λ n. AreLinks n s.edges.items s.links.latest.items s.links.before.items in
    let B : ℕ → Type 0 = λ n. AreLinks n (s.edges.items ++ c.args.e ∷ []) c.add.new.self.latest.items
    c.add.new.self.before.items in
    let wide : length s.links.latest.items ≡ s.vars = c.self.invariant.links.one_each in
    let links : AreLinks s.vars (s.edges.items ++ c.args.e ∷ []) c.add.new.self.latest.items
    c.add.new.self.before.items =
    subst B wide (c.in-Ok.ensures.ok s.edges.items c.args.e refl (subst A (sym wide) c.self.invariant.links)) in
    let L : ℕ → Type 0 = λ n. IsLeastSolution n c.deref-then-not-self.result.now (value_of c.raise_last.new.x.items) in
    let M : List Edge → Type 0 = λ es. IsLeastSolution s.vars es (value_of c.raise_last.new.x.items) in
    let C : List Edge → Type 0 = λ es. HasPositiveCycle es in
    kept s.vars s.edges.items c.push.new.self.items c.args.e c.add.new.self.latest.items c.add.new.self.before.items
    c.raise_last.new.x.items (not c.raise_last.result) c.raise_last.new.waiting.marks c.self.invariant.shape
    c.in-Ok-push.ensures.items (omega arith) among links (r.one_each ∙ same) (r.one_mark_each ∙ same)
    (λ f. subst M c.deref-then-not-self.ensures.value (subst L same (r.least (not_false c.raise_last.result f))))
    (λ t. subst C c.deref-then-not-self.ensures.value (r.cycle (not_true c.raise_last.result t)))

pub invariant_of-self-else-not-self : goal.invariant_of-self-else-not-self
invariant_of-self-else-not-self c =
    let s = c.self.inside in
    let V : ℕ → Type 0 = λ n. IsEdgeAmong n c.args.e in
    let among : IsEdgeAmong s.vars c.args.e = subst V (sym (ap (λ g. g.vars) c.self.view_is)) c.requires in
    let A : ℕ → Type 0 = λ n. AreLinks n s.edges.items s.links.latest.items s.links.before.items in
    let B : ℕ → Type 0 = λ n. AreLinks n (s.edges.items ++ c.args.e ∷ []) c.add.new.self.latest.items
    c.add.new.self.before.items in
    let wide : length s.links.latest.items ≡ s.vars = c.self.invariant.links.one_each in
    let links : AreLinks s.vars (s.edges.items ++ c.args.e ∷ []) c.add.new.self.latest.items
    c.add.new.self.before.items =
    subst B wide (c.in-Ok.ensures.ok s.edges.items c.args.e refl (subst A (sym wide) c.self.invariant.links)) in
    let yes' : s.cyclic ≡ true = c.if-not-self.false in
    let C : List Edge → Type 0 = λ es. HasPositiveCycle es in
    kept s.vars s.edges.items c.push.new.self.items c.args.e c.add.new.self.latest.items c.add.new.self.before.items
    s.x.items s.cyclic s.waiting.marks c.self.invariant.shape c.in-Ok-push.ensures.items (omega arith) among links
    c.self.invariant.one_each c.self.invariant.one_mark_each
    (λ f. absurd (true≢false (sym yes' ∙ f)))
    (λ t. subst C (sym c.in-Ok-push.ensures.items) (cycle_more s.edges.items c.args.e (c.self.invariant.cycle t)))
