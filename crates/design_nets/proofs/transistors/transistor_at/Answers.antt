use Rattle.std.proofs.Common.{ℕ, ◌+◌, length, get_or, List, sym, subst, refl, arith, ap, ◌∙◌}
use Rattle.std.proofs.lemmas.List.{get_or_read, get_or_default}
use Rattle.sym_items.specs.{Boxes.HasBox, Layouts.{layout_at, no_layout}, Sides.sides_in, declared.items.Item.Item}
use Rattle.sym_items.specs.declared.items.Coords.{Coords}
use Rattle.expand.specs.declared.master.Master.{Master}
use Rattle.pitch_join.specs.Masters.{no_master}
use Rattle.pair_rules.specs.Bound.{item_at}
use Rattle.instance_laws.specs.{Shapes.sides_in_grains, Rules.shifted_sides}
use Rattle.design_nets.{specs.{Shapes.no_shape, Transistors.LiesNear}, proofs.FetReads.{no_call, seen, read}}
use Rattle.design_nets.proofs.transistors.transistor_at.Goals as goal

pub bounds-calls-instance : goal.bounds-calls-instance
bounds-calls-instance c =
    let out = c.requires.laid_out in
    let one_is = get_or_read c.args.shapes.now.all.items c.args.k c.index.result.now c.requires.among c.index.ensures
    no_shape in
    let sees = seen c.args.tech.now c.args.plan.now c.args.masters.now c.args.layouts.now c.args.calls.now
    c.args.shapes.now out c.args.k c.requires.among c.index.result.now one_is in
    sees.instance

pub offset_bounds-calls-instance : goal.offset_bounds-calls-instance
offset_bounds-calls-instance c =
    let out = c.requires.laid_out in
    let one_is = get_or_read c.args.shapes.now.all.items c.args.k c.index.result.now c.requires.among c.index.ensures
    no_shape in
    let sees = seen c.args.tech.now c.args.plan.now c.args.masters.now c.args.layouts.now c.args.calls.now
    c.args.shapes.now out c.args.k c.requires.among c.index.result.now one_is in
    let within = sees.instance in
    omega (arith, within)

pub bounds-masters-master : goal.bounds-masters-master
bounds-masters-master c =
    let out = c.requires.laid_out in
    let one_is = get_or_read c.args.shapes.now.all.items c.args.k c.index.result.now c.requires.among c.index.ensures
    no_shape in
    let sees = seen c.args.tech.now c.args.plan.now c.args.masters.now c.args.layouts.now c.args.calls.now
    c.args.shapes.now out c.args.k c.requires.among c.index.result.now one_is in
    sees.master

pub bounds-items-item : goal.bounds-items-item
bounds-items-item c =
    let out = c.requires.laid_out in
    let one_is = get_or_read c.args.shapes.now.all.items c.args.k c.index.result.now c.requires.among c.index.ensures
    no_shape in
    let sees = seen c.args.tech.now c.args.plan.now c.args.masters.now c.args.layouts.now c.args.calls.now
    c.args.shapes.now out c.args.k c.requires.among c.index.result.now one_is in
    let same = c.as_slice-items.ensures
    ∙ ap (λ (z : Master). z.items.list)
    (get_or_default c.args.masters.now (get_or c.args.calls.now c.index.result.now.instance no_call).symbol
    c.index-masters-master.result no_master sees.master) in
    let within = sees.item in
    omega (arith, within, ap (λ (is : List Item). length is) same)

pub offset_bounds-items-item : goal.offset_bounds-items-item
offset_bounds-items-item c =
    let out = c.requires.laid_out in
    let one_is = get_or_read c.args.shapes.now.all.items c.args.k c.index.result.now c.requires.among c.index.ensures
    no_shape in
    let sees = seen c.args.tech.now c.args.plan.now c.args.masters.now c.args.layouts.now c.args.calls.now
    c.args.shapes.now out c.args.k c.requires.among c.index.result.now one_is in
    let same = c.as_slice-items.ensures
    ∙ ap (λ (z : Master). z.items.list)
    (get_or_default c.args.masters.now (get_or c.args.calls.now c.index.result.now.instance no_call).symbol
    c.index-masters-master.result no_master sees.master) in
    let within = sees.item in
    omega (arith, within, ap (λ (is : List Item). length is) same)

pub bounds-found-master : goal.bounds-found-master
bounds-found-master c =
    let out = c.requires.laid_out in
    let one_is = get_or_read c.args.shapes.now.all.items c.args.k c.index.result.now c.requires.among c.index.ensures
    no_shape in
    let sees = seen c.args.tech.now c.args.plan.now c.args.masters.now c.args.layouts.now c.args.calls.now
    c.args.shapes.now out c.args.k c.requires.among c.index.result.now one_is in
    let within = sees.master in
    let counted = c.requires.found.counted in
    omega (arith, within, counted)

pub index-requires-2 : goal.index-requires-2
index-requires-2 c =
    let out = c.requires.laid_out in
    let one_is = get_or_read c.args.shapes.now.all.items c.args.k c.index.result.now c.requires.among c.index.ensures
    no_shape in
    let sees = seen c.args.tech.now c.args.plan.now c.args.masters.now c.args.layouts.now c.args.calls.now
    c.args.shapes.now out c.args.k c.requires.among c.index.result.now one_is in
    let reads = read c.args.tech.now c.args.plan.now c.args.masters.now c.args.layouts.now c.args.calls.now
    c.args.shapes.now out c.args.k c.requires.among
    c.transistors_have_boxes.ensures c.args.fet c.requires.fet c.args.found.now c.requires.found
    c.index.result.now (get_or c.args.calls.now c.index.result.now.instance no_call).symbol
    c.index-masters-master.result c.as_slice-items.result.now c.index-found-master.result
    c.index-found-master.result
    one_is refl c.as_slice-items.ensures c.index-found-master.is in
    (let few = reads.channels in omega (arith, few, c.index-found-master.result.channels.ok.0))

pub bounds-items-index : goal.bounds-items-index
bounds-items-index c =
    let out = c.requires.laid_out in
    let one_is = get_or_read c.args.shapes.now.all.items c.args.k c.index.result.now c.requires.among c.index.ensures
    no_shape in
    let sees = seen c.args.tech.now c.args.plan.now c.args.masters.now c.args.layouts.now c.args.calls.now
    c.args.shapes.now out c.args.k c.requires.among c.index.result.now one_is in
    let reads = read c.args.tech.now c.args.plan.now c.args.masters.now c.args.layouts.now c.args.calls.now
    c.args.shapes.now out c.args.k c.requires.among
    c.transistors_have_boxes.ensures c.args.fet c.requires.fet c.args.found.now c.requires.found
    c.index.result.now (get_or c.args.calls.now c.index.result.now.instance no_call).symbol
    c.index-masters-master.result c.as_slice-items.result.now c.index-found-master.result
    c.index-found-master.result
    one_is refl c.as_slice-items.ensures c.index-found-master.is in
    let channel = get_or_read c.index-found-master.result.channels.items
    (item_at c.as_slice-items.result.now c.index.result.now.item).owner c.index-2.result.now reads.channels
    c.index-2.ensures 0 in
    let within = reads.channel in
    omega (arith, within, channel)

pub offset_bounds-items-index : goal.offset_bounds-items-index
offset_bounds-items-index c =
    let out = c.requires.laid_out in
    let one_is = get_or_read c.args.shapes.now.all.items c.args.k c.index.result.now c.requires.among c.index.ensures
    no_shape in
    let sees = seen c.args.tech.now c.args.plan.now c.args.masters.now c.args.layouts.now c.args.calls.now
    c.args.shapes.now out c.args.k c.requires.among c.index.result.now one_is in
    let reads = read c.args.tech.now c.args.plan.now c.args.masters.now c.args.layouts.now c.args.calls.now
    c.args.shapes.now out c.args.k c.requires.among
    c.transistors_have_boxes.ensures c.args.fet c.requires.fet c.args.found.now c.requires.found
    c.index.result.now (get_or c.args.calls.now c.index.result.now.instance no_call).symbol
    c.index-masters-master.result c.as_slice-items.result.now c.index-found-master.result
    c.index-found-master.result
    one_is refl c.as_slice-items.ensures c.index-found-master.is in
    let channel = get_or_read c.index-found-master.result.channels.items
    (item_at c.as_slice-items.result.now c.index.result.now.item).owner c.index-2.result.now reads.channels
    c.index-2.ensures 0 in
    let within = reads.channel in
    omega (arith, within, channel)

pub index-requires-3 : goal.index-requires-3
index-requires-3 c =
    let out = c.requires.laid_out in
    let one_is = get_or_read c.args.shapes.now.all.items c.args.k c.index.result.now c.requires.among c.index.ensures
    no_shape in
    let sees = seen c.args.tech.now c.args.plan.now c.args.masters.now c.args.layouts.now c.args.calls.now
    c.args.shapes.now out c.args.k c.requires.among c.index.result.now one_is in
    (let few = sees.first in omega (arith, few, c.args.shapes.now.firsts.ok.0))

pub index-requires-4 : goal.index-requires-4
index-requires-4 c =
    let out = c.requires.laid_out in
    let one_is = get_or_read c.args.shapes.now.all.items c.args.k c.index.result.now c.requires.among c.index.ensures
    no_shape in
    let sees = seen c.args.tech.now c.args.plan.now c.args.masters.now c.args.layouts.now c.args.calls.now
    c.args.shapes.now out c.args.k c.requires.among c.index.result.now one_is in
    let reads = read c.args.tech.now c.args.plan.now c.args.masters.now c.args.layouts.now c.args.calls.now
    c.args.shapes.now out c.args.k c.requires.among
    c.transistors_have_boxes.ensures c.args.fet c.requires.fet c.args.found.now c.requires.found
    c.index.result.now (get_or c.args.calls.now c.index.result.now.instance no_call).symbol
    c.index-masters-master.result c.as_slice-items.result.now c.index-found-master.result
    c.index-found-master.result
    one_is refl c.as_slice-items.ensures c.index-found-master.is in
    (let few = reads.polys in omega (arith, few, c.index-found-master.result.polys.ok.0))

pub overflow_cast-result : goal.overflow_cast-result
overflow_cast-result c =
    let out = c.requires.laid_out in
    let one_is = get_or_read c.args.shapes.now.all.items c.args.k c.index.result.now c.requires.among c.index.ensures
    no_shape in
    let sees = seen c.args.tech.now c.args.plan.now c.args.masters.now c.args.layouts.now c.args.calls.now
    c.args.shapes.now out c.args.k c.requires.among c.index.result.now one_is in
    let reads = read c.args.tech.now c.args.plan.now c.args.masters.now c.args.layouts.now c.args.calls.now
    c.args.shapes.now out c.args.k c.requires.among
    c.transistors_have_boxes.ensures c.args.fet c.requires.fet c.args.found.now c.requires.found
    c.index.result.now (get_or c.args.calls.now c.index.result.now.instance no_call).symbol
    c.index-masters-master.result c.as_slice-items.result.now c.index-found-master.result
    c.index-found-master.result
    one_is refl c.as_slice-items.ensures c.index-found-master.is in
    let poly = get_or_read c.index-found-master.result.polys.items
    (item_at c.as_slice-items.result.now c.index.result.now.item).owner c.index-4.result.now reads.polys
    c.index-4.ensures 0 in
    let few = reads.few in
    omega (arith, few, poly)

pub overflow_add-result : goal.overflow_add-result
overflow_add-result c =
    let out = c.requires.laid_out in
    let one_is = get_or_read c.args.shapes.now.all.items c.args.k c.index.result.now c.requires.among c.index.ensures
    no_shape in
    let sees = seen c.args.tech.now c.args.plan.now c.args.masters.now c.args.layouts.now c.args.calls.now
    c.args.shapes.now out c.args.k c.requires.among c.index.result.now one_is in
    let reads = read c.args.tech.now c.args.plan.now c.args.masters.now c.args.layouts.now c.args.calls.now
    c.args.shapes.now out c.args.k c.requires.among
    c.transistors_have_boxes.ensures c.args.fet c.requires.fet c.args.found.now c.requires.found
    c.index.result.now (get_or c.args.calls.now c.index.result.now.instance no_call).symbol
    c.index-masters-master.result c.as_slice-items.result.now c.index-found-master.result
    c.index-found-master.result
    one_is refl c.as_slice-items.ensures c.index-found-master.is in
    let poly = get_or_read c.index-found-master.result.polys.items
    (item_at c.as_slice-items.result.now c.index.result.now.item).owner c.index-4.result.now reads.polys
    c.index-4.ensures 0 in
    let first = get_or_read c.args.shapes.now.firsts.items c.index.result.now.instance c.index-3.result.now sees.first
    c.index-3.ensures 0 in
    let few = reads.few in
    omega (arith, few, poly, first)

pub bounds-layouts-master : goal.bounds-layouts-master
bounds-layouts-master c =
    let out = c.requires.laid_out in
    let one_is = get_or_read c.args.shapes.now.all.items c.args.k c.index.result.now c.requires.among c.index.ensures
    no_shape in
    let sees = seen c.args.tech.now c.args.plan.now c.args.masters.now c.args.layouts.now c.args.calls.now
    c.args.shapes.now out c.args.k c.requires.among c.index.result.now one_is in
    let within = sees.master in
    let counted = out.counted in
    omega (arith, within, counted)

pub channel_at-requires-clause-has_box : goal.channel_at-requires-clause-has_box
channel_at-requires-clause-has_box c =
    let out = c.requires.laid_out in
    let one_is = get_or_read c.args.shapes.now.all.items c.args.k c.index.result.now c.requires.among c.index.ensures
    no_shape in
    let sees = seen c.args.tech.now c.args.plan.now c.args.masters.now c.args.layouts.now c.args.calls.now
    c.args.shapes.now out c.args.k c.requires.among c.index.result.now one_is in
    let reads = read c.args.tech.now c.args.plan.now c.args.masters.now c.args.layouts.now c.args.calls.now
    c.args.shapes.now out c.args.k c.requires.among
    c.transistors_have_boxes.ensures c.args.fet c.requires.fet c.args.found.now c.requires.found
    c.index.result.now (get_or c.args.calls.now c.index.result.now.instance no_call).symbol
    c.index-masters-master.result c.as_slice-items.result.now c.index-found-master.result
    c.index-found-master.result
    one_is refl c.as_slice-items.ensures c.index-found-master.is in
    let channel = get_or_read c.index-found-master.result.channels.items
    (item_at c.as_slice-items.result.now c.index.result.now.item).owner c.index-2.result.now reads.channels
    c.index-2.ensures 0 in
    let layout = get_or_read c.args.layouts.now (get_or c.args.calls.now c.index.result.now.instance no_call).symbol
    c.index-layouts-master.result
    (let within = sees.master in let counted = out.counted in omega (arith, within, counted))
    c.index-layouts-master.is no_layout in
    subst (λ (l : Coords). HasBox l (item_at c.as_slice-items.result.now c.index-2.result.now)) (sym layout)
    (subst (λ (n : ℕ).
    HasBox (layout_at c.args.layouts.now (get_or c.args.calls.now c.index.result.now.instance no_call).symbol)
    (item_at c.as_slice-items.result.now n)) (sym channel) reads.has_box)

pub channel_at-requires-clause-near : goal.channel_at-requires-clause-near
channel_at-requires-clause-near c =
    let out = c.requires.laid_out in
    let one_is = get_or_read c.args.shapes.now.all.items c.args.k c.index.result.now c.requires.among c.index.ensures
    no_shape in
    let sees = seen c.args.tech.now c.args.plan.now c.args.masters.now c.args.layouts.now c.args.calls.now
    c.args.shapes.now out c.args.k c.requires.among c.index.result.now one_is in
    let reads = read c.args.tech.now c.args.plan.now c.args.masters.now c.args.layouts.now c.args.calls.now
    c.args.shapes.now out c.args.k c.requires.among
    c.transistors_have_boxes.ensures c.args.fet c.requires.fet c.args.found.now c.requires.found
    c.index.result.now (get_or c.args.calls.now c.index.result.now.instance no_call).symbol
    c.index-masters-master.result c.as_slice-items.result.now c.index-found-master.result
    c.index-found-master.result
    one_is refl c.as_slice-items.ensures c.index-found-master.is in
    let channel = get_or_read c.index-found-master.result.channels.items
    (item_at c.as_slice-items.result.now c.index.result.now.item).owner c.index-2.result.now reads.channels
    c.index-2.ensures 0 in
    let layout = get_or_read c.args.layouts.now (get_or c.args.calls.now c.index.result.now.instance no_call).symbol
    c.index-layouts-master.result
    (let within = sees.master in let counted = out.counted in omega (arith, within, counted))
    c.index-layouts-master.is no_layout in
    subst (λ (l : Coords). LiesNear (sides_in l (item_at c.as_slice-items.result.now c.index-2.result.now)))
    (sym layout)
    (subst (λ (n : ℕ).
    LiesNear
    (sides_in (layout_at c.args.layouts.now (get_or c.args.calls.now c.index.result.now.instance no_call).symbol)
    (item_at c.as_slice-items.result.now n))) (sym channel) reads.near)

pub channel_at-requires-clause-x : goal.channel_at-requires-clause-x
channel_at-requires-clause-x c =
    let out = c.requires.laid_out in
    let one_is = get_or_read c.args.shapes.now.all.items c.args.k c.index.result.now c.requires.among c.index.ensures
    no_shape in
    let sees = seen c.args.tech.now c.args.plan.now c.args.masters.now c.args.layouts.now c.args.calls.now
    c.args.shapes.now out c.args.k c.requires.among c.index.result.now one_is in
    sees.called.x

pub channel_at-requires-clause-y : goal.channel_at-requires-clause-y
channel_at-requires-clause-y c =
    let out = c.requires.laid_out in
    let one_is = get_or_read c.args.shapes.now.all.items c.args.k c.index.result.now c.requires.among c.index.ensures
    no_shape in
    let sees = seen c.args.tech.now c.args.plan.now c.args.masters.now c.args.layouts.now c.args.calls.now
    c.args.shapes.now out c.args.k c.requires.among c.index.result.now one_is in
    sees.called.y

pub returns-clause-transistor : goal.returns-clause-transistor
returns-clause-transistor c =
    let out = c.requires.laid_out in
    let one_is = get_or_read c.args.shapes.now.all.items c.args.k c.index.result.now c.requires.among c.index.ensures
    no_shape in
    let sees = seen c.args.tech.now c.args.plan.now c.args.masters.now c.args.layouts.now c.args.calls.now
    c.args.shapes.now out c.args.k c.requires.among c.index.result.now one_is in
    let reads = read c.args.tech.now c.args.plan.now c.args.masters.now c.args.layouts.now c.args.calls.now
    c.args.shapes.now out c.args.k c.requires.among
    c.transistors_have_boxes.ensures c.args.fet c.requires.fet c.args.found.now c.requires.found
    c.index.result.now (get_or c.args.calls.now c.index.result.now.instance no_call).symbol
    c.index-masters-master.result c.as_slice-items.result.now c.index-found-master.result
    c.index-found-master.result
    one_is refl c.as_slice-items.ensures c.index-found-master.is in
    let channel = get_or_read c.index-found-master.result.channels.items
    (item_at c.as_slice-items.result.now c.index.result.now.item).owner c.index-2.result.now reads.channels
    c.index-2.ensures 0 in
    let poly = get_or_read c.index-found-master.result.polys.items
    (item_at c.as_slice-items.result.now c.index.result.now.item).owner c.index-4.result.now reads.polys
    c.index-4.ensures 0 in
    let first = get_or_read c.args.shapes.now.firsts.items c.index.result.now.instance c.index-3.result.now sees.first
    c.index-3.ensures 0 in
    let layout = get_or_read c.args.layouts.now (get_or c.args.calls.now c.index.result.now.instance no_call).symbol
    c.index-layouts-master.result
    (let within = sees.master in let counted = out.counted in omega (arith, within, counted))
    c.index-layouts-master.is no_layout in
    let call = get_or c.args.calls.now c.index.result.now.instance no_call in
    reads.transistor
    (record {
      poly = c.index-3.result.now + c.index-4.result.now;
      diffusion = c.args.k;
      axis = c.args.fet.axis;
      channel = c.channel_at.result;
      depletion = c.args.fet.depletion;
    })
    (omega (arith, poly, first)) refl refl refl
    (c.channel_at.ensures.sides
    ∙ (ap (λ (l : Coords). sides_in_grains c.args.tech.now
    (shifted_sides call.x call.y (sides_in l (item_at c.as_slice-items.result.now c.index-2.result.now)))) layout
    ∙ ap (λ (n : ℕ). sides_in_grains c.args.tech.now
    (shifted_sides call.x call.y
    (sides_in (layout_at c.args.layouts.now (get_or c.args.calls.now c.index.result.now.instance no_call).symbol)
    (item_at c.as_slice-items.result.now n)))) channel))
