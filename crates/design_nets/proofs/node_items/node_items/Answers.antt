use Rattle.std.{proofs.Common.{List, length, ap, ◌∙◌}, specs.List.range_with_len}
use Rattle.rule_table.specs.declared.classes.Class.TheVariants.{P, G}
use Rattle.cell_model.specs.declared.cell.Node.{Node}
use Rattle.sym_items.specs.declared.items.Item.{Item}
use Rattle.design_nets.{specs.Shapes.drawn_in, proofs.NodeItems.{drawn_within, numbers_within, of_owners_at}}
use Rattle.design_nets.proofs.node_items.node_items.Goals as goal

pub of_owners-requires : goal.of_owners-requires
of_owners-requires c = drawn_within c.args.master.now.items.list c.as_slice-items.result.now c.args.drawn.now
    c.as_slice-items.ensures c.requires

pub of_owners-requires-2 : goal.of_owners-requires-2
of_owners-requires-2 c = numbers_within (length c.as_slice-items.result.now) c.deref.result.now
    (c.deref.ensures.value ∙ c.in_ok-every.ensures)

pub returns : goal.returns
returns c =
    let items : List Item = c.args.master.now.items.list in
    let nodes = ap (λ (ns : List Node). length ns) c.as_slice-nodes.ensures in
    let every = c.deref.ensures.value
    ∙ (c.in_ok-every.ensures ∙ ap (λ (is : List Item). range_with_len 0 (length is)) c.as_slice-items.ensures) in
    record {
      polys = of_owners_at c.as_slice-items.result.now items c.args.drawn.now (drawn_in c.args.master.now) P
          (length c.as_slice-nodes.result.now) (length c.args.master.now.cell.nodes) c.in_ok-polys.polys.items
          c.as_slice-items.ensures c.requires nodes c.in_ok-polys.ensures;
      channels = of_owners_at c.as_slice-items.result.now items c.deref.result.now (range_with_len 0 (length items)) G
          (length c.as_slice-nodes.result.now) (length c.args.master.now.cell.nodes) c.in_ok-channels.channels.items
          c.as_slice-items.ensures every nodes c.in_ok-channels.ensures;
    }
