use Rattle.design_layouts.proofs.Shapes.{few_shapes}
use Rattle.design_layouts.proofs.Layouts.{of_plan}
use Rattle.design_commands.proofs.nets.nets.Goals as goal

pub named_nets-requires-clause-planned : goal.named_nets-requires-clause-planned
named_nets-requires-clause-planned g c = rw c.deref.ensures.value (of_plan c.in_ok-made.ensures.planned)

pub named_nets-requires-clause-few : goal.named_nets-requires-clause-few
named_nets-requires-clause-few g c =
    rw c.deref.ensures.value
    (few_shapes c.args.tech.now c.in_ok-made.made.plan c.in_ok-made.made.masters.items
    c.in_ok-made.ensures.planned c.in_ok-made.ensures.few_boxes)
