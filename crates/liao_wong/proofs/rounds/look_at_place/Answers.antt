use Rattle.std.proofs.Common.{◌≡◌, ℕ, ◌<◌, Bool, List, fold, get_or, sym, ap, subst, ◌∙◌}
use Rattle.cons_graph.specs.{declared.edges.Edge.Edge, EdgeNumbers.{edge_at, leaving}}
use Rattle.round_log.specs.{declared.log.Entry.Entry, Looks.look}
use Rattle.liao_wong.specs.{Held.Held, Going.forward_of, Worklist.{IsWorklist, HasLookedForward, HasLookedAtPlace}}
use Rattle.liao_wong.proofs.{Worklists.{backward_wait, worklist_passed, passed_place}, Leaving.all_leave}
use Rattle.liao_wong.proofs.rounds.look_at_place.Goals as goal

pub look_at_forward-requires-clause-leave : goal.look_at_forward-requires-clause-leave
look_at_forward-requires-clause-leave c =
    let v : ℕ = get_or c.args.order.now.variables.now c.args.place 0 in
    let small : v < c.args.g.now.vars = c.requires.ready.names.in_range c.args.place 0 c.requires.in_order in
    all_leave c.args.g.now.edges c.edges.result.now v c.out_of.result.now c.heads_out_of.result.now
    c.edges.ensures.value (c.out_of.ensures ∙ c.requires.index.leave v small)
    (c.heads_out_of.ensures ∙ c.requires.index.lead v small)

pub returns-clause-looks : goal.returns-clause-looks
returns-clause-looks c =
    let edges : List Edge = c.args.g.now.edges in
    let order : List ℕ = c.args.order.now.variables.now in
    let v : ℕ = get_or order c.args.place 0 in
    let held : Held = c.args.raises.now in
    let R : List Edge → List ℕ → Held =
    λ es ns.
    record { vars = held.vars; raises = fold (look (edge_at es)) held.raises (forward_of es order ns) } in
    c.in_ok-look_at_forward.ensures.looks ∙ ap (λ es. R es c.out_of.result.now) c.edges.ensures.value
    ∙ ap (R edges) (c.out_of.ensures
    ∙ c.requires.index.leave v (c.requires.ready.names.in_range c.args.place 0 c.requires.in_order))

-- what holds of the forward looks, of the list and the numbers that they are made by
looked_at : (edges es : List Edge) (order : List ℕ) (v : ℕ) (ns : List ℕ) (old new : List Bool) (rs : List Entry)
    → es ≡ edges → ns ≡ leaving edges v
    → HasLookedForward es order ns v old new rs → HasLookedForward edges order (leaving edges v) v old new rs
looked_at edges es order v ns old new rs same is h =
    let N : List ℕ → Type 0 = λ l. HasLookedForward es order l v old new rs in
    let E : List Edge → Type 0 = λ l. HasLookedForward l order (leaving edges v) v old new rs in
    subst E same (subst N is h)

pub returns-clause-worklist : goal.returns-clause-worklist
returns-clause-worklist c =
    let vars : ℕ = c.args.g.now.vars in
    let edges : List Edge = c.args.g.now.edges in
    let es : List Edge = c.edges.result.now in
    let same : es ≡ edges = c.edges.ensures.value in
    let order : List ℕ = c.args.order.now.variables.now in
    let v : ℕ = get_or order c.args.place 0 in
    let ns : List ℕ = c.out_of.result.now in
    let is : ns ≡ leaving edges v = c.out_of.ensures
    ∙ c.requires.index.leave v (c.requires.ready.names.in_range c.args.place 0 c.requires.in_order) in
    let rs : List Entry = c.look_at_forward.new.raises.raises in
    let ready : List Bool = c.look_at_forward.new.work.ready in
    let waiting : List Bool = c.look_at_forward.new.work.waiting in
    let W : List Edge → Type 0 = λ l. IsWorklist l order ready waiting rs in
    let R : List Bool → Type 0 = λ l. IsWorklist edges order l waiting rs in
    let looked = looked_at edges es order v ns c.args.work.now.ready ready rs same is
    c.in_ok-look_at_forward.ensures.looked in
    subst R (sym c.clear.ensures)
    (worklist_passed vars edges order ready waiting rs c.args.place c.requires.ready.shape c.requires.ready.names
    c.requires.in_order (subst W same c.in_ok-look_at_forward.ensures.worklist) looked.quiet
    (backward_wait edges es order v ns waiting same is c.in_ok-look_at_forward.ensures.waiting))

pub returns-clause-place : goal.returns-clause-place
returns-clause-place c =
    let vars : ℕ = c.args.g.now.vars in
    let edges : List Edge = c.args.g.now.edges in
    let es : List Edge = c.edges.result.now in
    let same : es ≡ edges = c.edges.ensures.value in
    let order : List ℕ = c.args.order.now.variables.now in
    let v : ℕ = get_or order c.args.place 0 in
    let ns : List ℕ = c.out_of.result.now in
    let is : ns ≡ leaving edges v = c.out_of.ensures
    ∙ c.requires.index.leave v (c.requires.ready.names.in_range c.args.place 0 c.requires.in_order) in
    let old : List Bool = c.args.work.now.ready in
    let rs : List Entry = c.look_at_forward.new.raises.raises in
    let ready : List Bool = c.look_at_forward.new.work.ready in
    let R : List Bool → Type 0 = λ l. HasLookedAtPlace c.args.place old l in
    subst R (sym c.clear.ensures)
    (passed_place order vars c.args.place edges (leaving edges v) old ready rs c.requires.ready.names
    c.requires.in_order c.in_ok-look_at_forward.ensures.worklist.one_ready_each
    (looked_at edges es order v ns old ready rs same is c.in_ok-look_at_forward.ensures.looked))
