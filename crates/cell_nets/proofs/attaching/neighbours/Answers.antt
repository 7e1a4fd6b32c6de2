use Rattle.std.{proofs.Common.{◌≡◌, List, length, ap, arith, pos}, specs.Prelude.option_to_list}
use Rattle.cell_model.specs.{declared.cell.{Wire.Wire, Axis2.TheVariants.Across}, Nets.parts_of}
use Rattle.rule_table.specs.declared.classes.Layer.TheVariants.{Diffusion}
use Rattle.cell_model.specs.declared.cell.WireEnd.TheVariants as ends
use Rattle.cell_nets.proofs.Attachments.{node_parts_few, first_parts_end, neighbours_read}
use Rattle.cell_nets.proofs.attaching.neighbours.Goals as goal

-- what a wire past the end would be read as
abbrev read_wire : Wire
read_wire = record { layer = Diffusion; width = pos 0; low = ends.Node 0; high = ends.Node 0; along = Across }

pub overflow_add-part : goal.overflow_add-part
overflow_add-part c =
    let nodes = c.args.cell.now.nodes in
    let n = first_parts_end nodes _ _ c.in_ok-firsts.firsts.items c.index-nodes.result.now c.as_slice.ensures
    c.in_ok-firsts.ensures c.as_slice-2.ensures c.index-nodes.ensures in
    let f = node_parts_few nodes in
    let w : length c.as_slice-wires.result.now ≡ length c.args.cell.now.wires =
    ap (λ (ws : List Wire). length ws) c.as_slice-wires.ensures in
    let l = c.requires.light in
    omega arith

pub attach-requires-clause-wire : goal.attach-requires-clause-wire
attach-requires-clause-wire c =
    let nodes = c.args.cell.now.nodes in
    let n = first_parts_end nodes _ _ c.in_ok-firsts.firsts.items c.index-nodes.result.now c.as_slice.ensures
    c.in_ok-firsts.ensures c.as_slice-2.ensures c.index-nodes.ensures in
    let w : length c.as_slice-wires.result.now ≡ length c.args.cell.now.wires =
    ap (λ (ws : List Wire). length ws) c.as_slice-wires.ensures in
    let i = c.loop-k.invariant.counted in
    omega arith

pub attach-requires-in-loop-k-clause-wire : goal.attach-requires-in-loop-k-clause-wire
attach-requires-in-loop-k-clause-wire c =
    let nodes = c.args.cell.now.nodes in
    let n = first_parts_end nodes _ _ c.in_ok-firsts.firsts.items c.index-nodes.result.now c.as_slice.ensures
    c.in_ok-firsts.ensures c.as_slice-2.ensures c.index-nodes.ensures in
    let w : length c.as_slice-wires.result.now ≡ length c.args.cell.now.wires =
    ap (λ (ws : List Wire). length ws) c.as_slice-wires.ensures in
    let i = c.loop-k.invariant.counted in
    omega (arith, c.in_ok-attach.ensures.counted)

pub loop-k-preserved : goal.loop-k-preserved
loop-k-preserved c =
    let nodes = c.args.cell.now.nodes in
    let n = first_parts_end nodes _ _ c.in_ok-firsts.firsts.items c.index-nodes.result.now c.as_slice.ensures
    c.in_ok-firsts.ensures c.as_slice-2.ensures c.index-nodes.ensures in
    let of = c.as_slice-wires.result.now in
    neighbours_read nodes c.args.cell.now.wires of c.index-nodes.result.now c.loop-k.k read_wire
    (option_to_list c.end_part-low.result) (option_to_list c.end_part-high.result)
    c.loop-k.lists.items c.attach.new.lists.items c.attach-in-loop-k.new.lists.items (parts_of c.args.cell.now)
    c.loop-k-test.true c.as_slice-wires.ensures n
    c.end_part-low.ensures.value c.end_part-high.ensures.value c.in_ok-attach.ensures.attached
    c.in_ok-attach-2.ensures.attached c.loop-k.invariant
