use Rattle.std.proofs.Common.{ap}
use Rattle.pitch_join.specs.declared.joint.Joint.{Joint}
use Rattle.pass_run.proofs.Shape.{graph_shape}
use Rattle.pass_run.proofs.edges.ordered_list.Goals as goal

pub new-requires : goal.new-requires
new-requires g c =
    let joint = c.in_ok-order.field-0.joint in
    let now = c.add_all_kept.new.joint in
    let fixed = c.in_ok-order.ensures.joint in
    rw (ap (λ (j : Joint). j.vars) c.in_ok-kept.ensures.others)
    (graph_shape c.args.axis c.args.tech.now c.args.masters.now c.args.layouts.now joint.vars joint.edges.items
    now.edges.items c.masters_are_lawful.ensures c.requires.laid fixed.vars
    (fixed.shape c.requires.planned.few_parts) c.in_ok-kept.ensures.edges)
