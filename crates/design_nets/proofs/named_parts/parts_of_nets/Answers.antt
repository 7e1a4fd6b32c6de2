use Rattle.std.proofs.Common.{◌<◌, length, ◌∙◌, arith}
use Rattle.design_nets.specs.NamedParts.{parts_in}
use Rattle.design_nets.proofs.Numbered.{nets_read, cell_read, numbered_moved, Number, instance_listed, parts_more}
use Rattle.design_nets.proofs.named_parts.parts_of_nets.Goals as goal

pub list_cell-requires : goal.list_cell-requires
list_cell-requires c =
    let masters = c.args.masters.now in
    let sticks = c.args.sticks.now in
    let s = c.loop-s.s in
    let lt : s < length sticks.instances.items =
    (let test = c.loop-s-test.true in let long = c.len-s-end.ensures in let held = sticks.instances.ok in
    omega (arith, test, long, held)) in
    numbered_moved masters sticks c.requires s _ c.index-in-loop-s.result.now
    (cell_read masters sticks c.requires s c.index.result.now c.index-masters-master.result lt c.index.ensures)
    (nets_read masters sticks c.requires s c.index.result.now c.index-in-loop-s.result.now lt c.index.ensures
    c.index-in-loop-s.ensures) lt

pub loop-s-preserved : goal.loop-s-preserved
loop-s-preserved c =
    let masters = c.args.masters.now in
    let sticks = c.args.sticks.now in
    let s = c.loop-s.s in
    let lt : s < length sticks.instances.items =
    (let test = c.loop-s-test.true in let long = c.len-s-end.ensures in let held = sticks.instances.ok in
    omega (arith, test, long, held)) in
    let listed = instance_listed masters sticks c.requires s _ c.index-in-loop-s.result.now c.loop-s.lists.items
    c.list_cell.new.lists.items
    (cell_read masters sticks c.requires s c.index.result.now c.index-masters-master.result lt c.index.ensures)
    (nets_read masters sticks c.requires s c.index.result.now c.index-in-loop-s.result.now lt c.index.ensures
    c.index-in-loop-s.ensures) c.in_ok-list_cell.ensures in
    record {
      counted = listed.counted ∙ c.loop-s.invariant.counted;
      each = parts_more (Number masters sticks c.requires) (parts_in masters sticks.instances.items) s sticks.count
          c.loop-s.lists.items c.list_cell.new.lists.items c.loop-s.invariant.counted c.loop-s.invariant.each listed;
    }
