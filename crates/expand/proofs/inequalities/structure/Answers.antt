use Rattle.std.proofs.Common.{◌≡◌}
use Rattle.expand.{specs.Structure.structure_of, proofs.{Among.items_near, Edges.structure_pushed, GraphEdges.shape_of}}
use Rattle.expand.proofs.inequalities.structure.Goals as goal

pub push_extents-requires : goal.push_extents-requires
push_extents-requires c = items_near c.args.axis c.args.tech.now c.args.cell.now c.args.items.now _ c.requires.sound
    c.requires.items c.as_slice-list.ensures

pub push_margins-requires : goal.push_margins-requires
push_margins-requires c = items_near c.args.axis c.args.tech.now c.args.cell.now c.args.items.now _ c.requires.sound
    c.requires.items c.as_slice-list.ensures

pub returns : goal.returns
returns c =
    let a = c.args in
    let is : c.push_limits.new.edges.items ≡ structure_of a.axis a.tech.now a.cell.now a.items.now.list =
    structure_pushed a.axis a.tech.now a.cell.now c.as_slice-list.result.now a.items.now.list c.size_edge.result _ _ _
    _ _ _
    c.as_slice-list.ensures c.size_edge.ensures c.new-edges.ensures.items c.in_ok-push.ensures.items
    c.in_ok-push_extents.ensures c.in_ok-push_overlaps.ensures c.in_ok-push_margins.ensures
    c.in_ok-push_limits.ensures in
    record {
      value = is;
      shape = shape_of a.axis a.tech.now a.cell.now a.items.now c.push_limits.new.edges.items
          c.requires.sound c.requires.light c.requires.items is;
    }
