use Rattle.std.proofs.Common.{ap, ◌∙◌}
use Rattle.pass_run.specs.{OneStep.IsStoppedPass, Report.cycle_text}
use Rattle.pass_run.proofs.Solved.{order_of, cycle_few, stopped, stopped_first}
use Rattle.pass_run.proofs.pass.pass_in_order.Goals as goal

pub solve_reached-requires : goal.solve_reached-requires
solve_reached-requires c =
    order_of c.args.axis c.args.tech.now c.args.plan.now c.args.masters.now c.args.before.now
    c.args.listed.now.graph.vars c.args.order.now c.requires.planned c.requires.laid c.requires.listed.vars
    c.requires.order

pub made_of-requires-clause-run : goal.made_of-requires-clause-run
made_of-requires-clause-run c = record {
  is_list = c.requires.listed;
  order = c.args.order.now;
  along = c.requires.order;
  least = c.in-Ok.ensures.least;
  one_each = c.in-Ok.ensures.one_each;
  small = c.in-Ok.ensures.small;
  backward = c.in-Ok.ensures.backward;
  of_rounds = c.in-Ok.ensures.log;
  labels = c.in-Ok.ensures.labels;
}

pub cycle_text-requires-clause-few : goal.cycle_text-requires-clause-few
cycle_text-requires-clause-few c =
    let cycle = rw c.in-Err-Cycle.field-0-is at c.in-Err-Cycle.ensures.cycle in
    cycle_few c.args.listed.now.graph c.as_slice.result.now c.requires.listed.shape (rw c.as_slice.ensures cycle)

pub returns-in_ok-text-in-Err-Cycle-clause-stopped : goal.returns-in_ok-text-in-Err-Cycle-clause-stopped
returns-in_ok-text-in-Err-Cycle-clause-stopped c =
    let listed = c.args.listed.now in
    let cycle = c.in-Err-Cycle.cycle in
    let is = c.in-Err-Cycle.field-0-is in
    let run : IsStoppedPass c.args.axis c.args.tech.now c.args.plan.now c.args.masters.now c.args.before.now listed
    cycle = record {
      is_list = c.requires.listed;
      order = c.args.order.now;
      along = c.requires.order;
      cyclic = rw is at c.in-Err-Cycle.ensures.cyclic;
      simple = rw is at c.in-Err-Cycle.ensures.cycle;
      stops = rw is at c.in-Err-Cycle.ensures.stopped;
    } in (
      stopped c.requires.laid run c.args.pass c.in_ok-text-in-Err-Cycle.text.items
          (c.in_ok-text-in-Err-Cycle.ensures
          ∙ ap (λ ns. cycle_text listed.names listed.graph.edges c.args.pass c.args.axis
          ns) c.as_slice.ensures),
      stopped_first c.requires.laid run c.requires.planned c.requires.lawful,
    )
