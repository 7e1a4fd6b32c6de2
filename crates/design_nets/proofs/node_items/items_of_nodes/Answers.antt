use Rattle.std.proofs.{Common.{◌+◌, List, sym, subst}, lemmas.List.get_or_read}
use Rattle.expand.specs.declared.master.Master.{Master}
use Rattle.pitch_join.specs.Masters.{no_master}
use Rattle.design_nets.specs.{declared.node_items.NodeItems.NodeItems, Transistors.AreNodeItems}
use Rattle.design_nets.proofs.NodeItems.{AreFirstItems, items_more}
use Rattle.design_nets.proofs.node_items.items_of_nodes.Goals as goal

pub loop-m-preserved : goal.loop-m-preserved
loop-m-preserved c =
    let masters : List Master = c.args.masters.now in
    let own = get_or_read masters c.loop-m.m c.index-masters-m.result c.loop-m-test.true c.index-masters-m.is
    no_master in
    subst (λ (all : List NodeItems). AreFirstItems masters (c.loop-m.m + 1) all) (sym c.in_ok-push.ensures.items)
    (items_more masters c.loop-m.m c.loop-m.all.items c.in_ok-node_items.field-0 c.loop-m.invariant
    (subst (λ (master : Master). AreNodeItems master c.in_ok-node_items.field-0) own c.in_ok-node_items.ensures))
