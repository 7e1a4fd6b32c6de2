use Rattle.std.proofs.Common.{◌≡◌, ℕ, ◌+◌, Bool, true, false, List, length, sym, ap, subst, ◌∙◌, arith}
use Rattle.round_log.specs.{declared.log.Entry.Entry, Rounds.{Progress, forward_part, schedule_of, round}}
use Rattle.round_log.{specs.{Rounds.backward_part, Looks.backward_numbers}}
use Rattle.cons_graph.specs.{Constraints.Constraints, EdgeNumbers.edge_at}
use Rattle.liao_wong.specs.{Held.Held, Going.IsReady, Sweeping.IsTrimmed}
use Rattle.liao_wong.proofs.{Worklists.{worklist_trimmed}, Course.{has_started, ready_between}}
use Rattle.liao_wong.proofs.Course.{stopped_here, ended_here, goes_on, trimmed, few_backward}
use Rattle.liao_wong.proofs.solver.run_by.Goals as goal

pub look_backward-requires-clause-ready : goal.look_backward-requires-clause-ready
look_backward-requires-clause-ready c =
    let P : Held → Type 0 = λ h. IsReady c.args.g.now.vars c.args.g.now.edges c.args.order.now.variables.now
    c.args.order.now.places.items h in
    subst P (sym c.in_ok-look_forward.ensures.part)
    (ready_between c.args.g.now c.args.order.now.variables.now c.args.order.now.places.items c.rounds.rounds
    c.args.floor c.rounds.raises c.requires.start.shape c.requires.names c.requires.places
    c.rounds.invariant.come)

pub overflow_add-rounds : goal.overflow_add-rounds
overflow_add-rounds c =
    let few = c.rounds.invariant.come.few in
    omega (arith, few, few_backward c.args.g.now.edges c.args.order.now.variables.now, c.requires.few)

-- the two parts of a round are the round
came : (g : Constraints) (order : List ℕ) (held mid : Held) (new : List Entry) (got stopped : Bool) → got ≡ stopped
    → record { raises = new; stopped = got } ≡ backward_part (edge_at g.edges) (backward_numbers g.edges order)
    mid.raises → mid ≡ record { vars = g.vars; raises = forward_part (schedule_of g.edges order) held.raises }
    → record { raises = new; stopped = stopped } ≡ round (schedule_of g.edges order) held.raises
came g order held mid new got stopped s part first =
    let R : Bool → Progress = λ b. record { raises = new; stopped = b } in
    ap R (sym s) ∙ part ∙ ap (λ (h : Held). backward_part (edge_at g.edges) (backward_numbers g.edges order) h.raises)
    first

pub returns-then-branch-clause-stopped : goal.returns-then-branch-clause-stopped
returns-then-branch-clause-stopped c =
    let g : Constraints = c.args.g.now in
    let order : List ℕ = c.args.order.now.variables.now in
    let held : Held = c.rounds.raises in
    let new : List Entry = c.look_backward.new.raises.raises in
    stopped_here g order c.rounds.rounds c.args.floor held new c.requires.start.shape c.requires.names
    c.rounds.invariant.come
    (came g order held c.look_forward.new.raises new c.in_ok-look_backward.field-0 true c.if-branch.true
    c.in_ok-look_backward.ensures.part c.in_ok-look_forward.ensures.part)

pub returns-then-len-before-clause-ended : goal.returns-then-len-before-clause-ended
returns-then-len-before-clause-ended c =
    let g : Constraints = c.args.g.now in
    let order : List ℕ = c.args.order.now.variables.now in
    let held : Held = c.rounds.raises in
    let new : List Entry = c.look_backward.new.raises.raises in
    ended_here g order c.rounds.rounds c.args.floor held new c.requires.start.shape c.requires.names
    c.rounds.invariant.come
    (came g order held c.look_forward.new.raises new c.in_ok-look_backward.field-0 false c.if-branch.false
    c.in_ok-look_backward.ensures.part c.in_ok-look_forward.ensures.part)
    (sym c.len.ensures ∙ c.if-len-before.true ∙ c.len-before.ensures
    ∙ ap (λ h. length h.raises) c.in_ok-look_forward.ensures.part)

pub rounds-init : goal.rounds-init
rounds-init c = record {
  come = has_started c.args.g.now c.args.order.now.variables.now c.args.floor c.args.raises.now c.requires.start;
  worklist = c.requires.worklist;
}

pub rounds-preserved : goal.rounds-preserved
rounds-preserved c =
    let g : Constraints = c.args.g.now in
    let order : List ℕ = c.args.order.now.variables.now in
    let held : Held = c.rounds.raises in
    let after : Held = c.look_backward.new.raises in
    let trim : IsTrimmed c.args.floor after c.trim.new.raises = c.in_ok-left.ensures in
    let came_on = goes_on g order c.rounds.rounds after.vars c.args.floor held after.raises c.requires.start.shape
    c.requires.names c.rounds.invariant.come c.in_ok-look_backward.ensures.vars
    (came g order held c.look_forward.new.raises after.raises c.in_ok-look_backward.field-0 false c.if-branch.false
    c.in_ok-look_backward.ensures.part c.in_ok-look_forward.ensures.part)
    (λ same.
    c.if-len-before.false
    (c.len.ensures ∙ same
    ∙ sym (c.len-before.ensures ∙ ap (λ h. length h.raises) c.in_ok-look_forward.ensures.part))) in
    record {
      come = trimmed g order (c.rounds.rounds + 1) c.args.floor (record { vars = after.vars; raises = after.raises })
          c.trim.new.raises came_on trim;
      worklist = worklist_trimmed g.edges order c.look_backward.new.work.ready c.look_backward.new.work.waiting
          c.args.floor after c.trim.new.raises (c.in_ok-look_backward.ensures.worklist c.if-branch.false) trim;
    }

pub rounds-smaller : goal.rounds-smaller
rounds-smaller c =
    let few = c.rounds.invariant.come.few in
    omega (arith, few)

pub returns-then-len-before-clause-not_many : goal.returns-then-len-before-clause-not_many
returns-then-len-before-clause-not_many c =
    let few = c.rounds.invariant.come.few in
    omega (arith, few)
