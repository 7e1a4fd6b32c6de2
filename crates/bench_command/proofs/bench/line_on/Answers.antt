use Rattle.std.proofs.Common.{ap, ◌∙◌}
use Rattle.design_nets.proofs.Finished.{finished_near}
use Rattle.bench_command.specs.{declared.bench.Tally.Tally, Bench.bench_line}
use Rattle.design_layouts.proofs.Shapes.{few_shapes}
use Rattle.design_layouts.proofs.Layouts.{of_plan}
use Rattle.bench_command.proofs.bench.line_on.Goals as goal

pub stick_netlist-requires-clause-planned : goal.stick_netlist-requires-clause-planned
stick_netlist-requires-clause-planned c = of_plan c.requires.planned

pub stick_netlist-requires-clause-near : goal.stick_netlist-requires-clause-near
stick_netlist-requires-clause-near c =
    rw c.as_slice-layouts.ensures
    (finished_near c.args.tech.now c.args.plan.now c.args.masters.now c.args.passes.now.coords
    (of_plan c.requires.planned) c.requires.finished c.requires.drawable)

pub stick_netlist-requires-clause-few : goal.stick_netlist-requires-clause-few
stick_netlist-requires-clause-few c =
    few_shapes c.args.tech.now c.args.plan.now c.args.masters.now c.requires.planned c.requires.few_boxes

pub returns-clause-line : goal.returns-clause-line
returns-clause-line c = (
  c.in_ok-list.list,
  rw c.as_slice-layouts.ensures at c.in_ok-list.ensures,
  c.in_ok-bench_line.ensures
      ∙ ap (λ (t : Tally). bench_line c.args.n t) c.tally_of.ensures,
)
