use Rattle.std.proofs.Common.{◌≡◌, ℕ, ◌<◌, Bool, false, List, inl, inr, length, ap, ◌∙◌, arith}
use Rattle.std.proofs.lemmas.{Bool.cases_lt, List.get_or_past}
use Rattle.round_log.proofs.Ends.{order_length}
use Rattle.liao_wong.{specs.Marked.is_marked, proofs.Worklists.worklist_start}
use Rattle.liao_wong.proofs.solver.run_rounds.Goals as goal

pub new-requires-2-clause-variables : goal.new-requires-2-clause-variables
new-requires-2-clause-variables c =
    let few = order_length c.args.order.now.variables.now c.args.g.now.vars c.requires.names in
    let small = c.requires.start.shape.few_vars in
    omega (arith, few, small)

pub new-requires-2-clause-edges : goal.new-requires-2-clause-edges
new-requires-2-clause-edges c =
    let few = c.requires.few in
    let same = ap length c.edges.ensures.value in
    omega (arith, few, same)

-- beyond their bound too no marks are
none_marked : (flags : List Bool) (bound : ℕ) → length flags ≡ bound
    → ((n : ℕ) → n < bound → is_marked flags n ≡ false) → (n : ℕ) → is_marked flags n ≡ false
none_marked flags bound l none n =
    elim (cases_lt n bound) [ inl lt ↦ none n lt | inr ge ↦ get_or_past flags n false (omega arith) ]

pub run_by-requires-clause-worklist : goal.run_by-requires-clause-worklist
run_by-requires-clause-worklist c =
    let g = c.args.g.now in
    let order = c.args.order.now.variables.now in
    let work = c.in_ok-work.work in
    let is = c.in_ok-work.ensures in
    worklist_start g.vars g.edges order work.ready work.waiting c.args.raises.now.raises c.requires.start.shape
    c.requires.names is.one_ready_each is.ready (is.one_waiting_each ∙ ap length c.edges.ensures.value)
    (none_marked work.waiting _ is.one_waiting_each is.waiting)

pub run_by-requires-clause-start : goal.run_by-requires-clause-start
run_by-requires-clause-start c = c.requires.start

pub run_by-requires-clause-index : goal.run_by-requires-clause-index
run_by-requires-clause-index c = c.in_ok-index.ensures

pub returns-clause-not_many : goal.returns-clause-not_many
returns-clause-not_many c = c.run_by.ensures.not_many

pub returns-clause-ended : goal.returns-clause-ended
returns-clause-ended c = c.run_by.ensures.ended
