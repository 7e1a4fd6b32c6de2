use Rattle.std.proofs.Common.{Vec, Global, Result, Ok, Err, ◌≡◌, ℕ, ◌<◌, List, [], map, length, sym, ap, subst, ◌∙◌}
use Rattle.std.specs.{List.All, Result.IfOk}
use Rattle.cons_graph.specs.{declared.edges.Edge.Edge, SimpleWalks.IsSimplePositiveCycle}
use Rattle.round_log.specs.{declared.log.Entry.Entry, Looks.chain, Logs.{raises_in, up_to_entry, raises_of}}
use Rattle.round_log.{specs.Entries.AreEntries, proofs.Logged.{entries_are, cycle_is, loop_in_range, cycle_simple}}
use Rattle.round_log.specs.WalksBack as back
use Rattle.round_log.proofs.reading.cycle_of.Goals as goal

pub loop_from-requires-clause-entries_are : goal.loop_from-requires-clause-entries_are
loop_from-requires-clause-entries_are c =
    let P : List Entry → Type 0 = λ es. AreEntries c.vars.result es in
    let Q : ℕ → Type 0 = λ n. AreEntries n c.args.log.now.entries in
    subst P (sym c.as_slice.ensures)
    (subst Q (sym c.vars.ensures.value)
    (entries_are c.args.g.now c.args.log.now c.vars.ensures.shape c.requires.log))

pub turned-requires : goal.turned-requires
turned-requires c =
    let W : List Entry → List ℕ = λ es. map (λ r. r.edge) (back.loop_back [] (chain (raises_of es) c.args.entry)) in
    let A : List ℕ → Type 0 = λ ks. All (λ k. k < length c.edges.result.now) ks in
    let B : List Edge → Type 0 = λ es. All (λ k. k < length es) (W c.args.log.now.entries) in
    subst A (sym (c.deref.ensures.value ∙ c.in_ok-walk.ensures ∙ ap W c.as_slice.ensures))
    (subst B (sym c.edges.ensures.value)
    (loop_in_range c.args.g.now.edges (raises_in c.args.log.now) c.args.entry c.requires.log.made))

pub returns-clause-value : goal.returns-clause-value
returns-clause-value c =
    let edges : List Edge = c.args.g.now.edges in
    let W : List Entry → List ℕ = λ es. map (λ r. r.edge) (back.loop_back [] (chain (raises_of es) c.args.entry)) in
    let P : List ℕ → Type 0 = λ x. IfOk c.turned.result (λ w. w.items ≡ x) in
    let walk : c.deref.result.now ≡ W c.args.log.now.entries = c.deref.ensures.value ∙ c.in_ok-walk.ensures
    ∙ ap W c.as_slice.ensures in
    subst P (ap (λ es. back.turned es c.deref.result.now) c.edges.ensures.value ∙ ap (back.turned edges) walk
    ∙ cycle_is edges (raises_in c.args.log.now) c.args.entry c.requires.in_log
    c.requires.comes_back) c.turned.ensures

-- a fact of the value in an answer, from what the value is
known_items : {E : Type 0} (r : Result (Vec ℕ Global) E) (x : List ℕ) (P : List ℕ → Type 0)
    → IfOk r (λ w. w.items ≡ x) → P x → IfOk r (λ w. P w.items)
known_items (Ok w) x P e p = subst P (sym e) p
known_items (Err e) x P i p = tt

pub returns-clause-cycle : goal.returns-clause-cycle
returns-clause-cycle c =
    let edges : List Edge = c.args.g.now.edges in
    let C : List ℕ → Type 0 = λ x. IsSimplePositiveCycle edges x in
    known_items c.turned.result (back.cycle_of edges (up_to_entry (raises_in c.args.log.now) c.args.entry)) C
    (returns-clause-value c)
    (cycle_simple edges (raises_in c.args.log.now) c.args.entry c.requires.log.made c.requires.comes_back)
