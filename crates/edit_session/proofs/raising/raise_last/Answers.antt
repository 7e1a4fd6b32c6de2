use Rattle.std.proofs.Common.{◌≡◌, ℕ, w64, rules, ℤ, ◌+ℤ◌, ◌<ℤ◌, FitsSigned, to_z, of_z, List, length, sym, subst, ◌∙◌}
use Rattle.std.proofs.{Common.refl, lemmas.Int.to_z-of_z}
use Rattle.cons_graph.specs.{declared.edges.Edge.Edge, Solutions.{Meets, value_of}}
use Rattle.edit_session.specs.Raised.{IsRaised}
use Rattle.edit_session.proofs.{Rises.{look_next, look_done, settled}, Starts.{last_of, last_met, last_raised}}
use Rattle.edit_session.proofs.raising.raise_last.Goals as goal

pub returns-in_default-clause-least : goal.returns-in_default-clause-least
returns-in_default-clause-least c = λ _.
    let P : List ℤ → Type 0 = λ l. Meets (value_of l) (last_of c.args.edges.now) in
    last_met c.args.edges.now c.args.x.now.items c.args.waiting.now.marks c.requires.appended
    (subst P c.deref.ensures.value c.in_default.ensures.met)

pub loop-v-init : goal.loop-v-init
loop-v-init c =
    let edges : List Edge = c.args.edges.now in
    let x : List ℤ = c.args.x.now.items in
    let e : Edge = last_of edges in
    let fits : FitsSigned w64 c.in-Some.value = search rules in
    let plain : to_z w64 (of_z w64 c.in-Some.value) ≡ c.in-Some.value = to_z-of_z w64 c.in-Some.value fits in
    let P : List ℤ → Type 0 = λ l. c.in-Some.value ≡ value_of l e.from +ℤ e.len in
    let Q : List ℤ → Type 0 = λ l. value_of l e.to <ℤ c.in-Some.value in
    let R : ℤ → Type 0 = λ a. value_of x e.to <ℤ a in
    last_raised edges x c.args.waiting.now.marks c.push.new.self.marks (to_z w64 (of_z w64 c.in-Some.value))
    c.requires.appended (plain ∙ subst P c.deref.ensures.value c.in-Some.ensures.value)
    (subst R (sym plain) (subst Q c.deref.ensures.value c.in-Some.ensures.higher)) c.push.ensures.one_each
    c.push.ensures.waits

pub look_from-requires-clause-raised : goal.look_from-requires-clause-raised
look_from-requires-clause-raised c =
    let edges : List Edge = c.args.edges.now in
    let L : ℕ → Type 0 = λ n. IsRaised n (last_of edges).from edges c.loop-v.x.items c.pop.new.self.marks
    c.in-Some-pop.v (length edges) in
    subst L (sym c.loop-v.invariant.one_each)
    (look_next (length c.args.x.now.items) (last_of edges).from edges c.loop-v.x.items c.loop-v.waiting.marks
    c.pop.new.self.marks 0 c.in-Some-pop.v c.loop-v.invariant c.pop.ensures.one_each c.in-Some-pop.ensures.still)

pub loop-v-preserved : goal.loop-v-preserved
loop-v-preserved c =
    let edges : List Edge = c.args.edges.now in
    let L : ℕ → Type 0 = λ n. IsRaised n (last_of edges).from edges c.look_from.new.x.items
    c.look_from.new.waiting.marks c.in-Some-pop.v 0 in
    look_done (length c.args.x.now.items) (last_of edges).from edges c.look_from.new.x.items
    c.look_from.new.waiting.marks c.in-Some-pop.v 0
    (subst L c.loop-v.invariant.one_each (c.if-not-look_from.ensures.raised refl))

pub returns-clause-least : goal.returns-clause-least
returns-clause-least c = λ _. settled (length c.args.x.now.items) (last_of c.args.edges.now).from c.args.edges.now
    c.loop-v.x.items c.loop-v.waiting.marks 0 c.loop-v.invariant c.in_default-pop.ensures.none
