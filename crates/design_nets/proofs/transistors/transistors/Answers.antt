use Rattle.std.proofs.Common.{◌≡◌, ℕ, ◌+◌, ◌<◌, List, length, get_or, refl, sym, subst, ap, ◌∙◌, arith}
use Rattle.std.proofs.lemmas.List.{get_or_read}
use Rattle.cell_model.specs.declared.cell.Cell.{Cell}
use Rattle.sym_items.specs.declared.items.Item.{Item}
use Rattle.pair_rules.specs.Bound.{no_item}
use Rattle.crossing_model.specs.declared.crossing.Crossing.{Crossing}
use Rattle.design_nets.specs.{declared.shapes.Shapes.Shapes, Instances.instances_of, Shapes.no_shape}
use Rattle.design_nets.{specs.Transistors.{IsFetItem, cell_shown}, proofs.{FetReads.seen, Crossed.AreCrossedBelow}}
use Rattle.design_nets.proofs.Crossed.{one_crossed, one_passed, all_crossed, none_shown, cell_read}
use Rattle.design_nets.proofs.{Shown.shapes_counted, transistors.transistors.Goals.{in-Some+in_ok-push, in_default}}
use Rattle.plan_model.specs.Plan.{grids_of}
use Rattle.design_nets.proofs.transistors.transistors.Goals as goal

among : (shapes : Shapes) (k n : ℕ) → k < n → n ≡ shapes.all.len → k < length shapes.all.items
among shapes k n lt e = (let h = shapes.all.ok in omega (arith, lt, e, h))

pub offset_bounds-calls-instance : goal.offset_bounds-calls-instance
offset_bounds-calls-instance c =
    let lt = among c.args.shapes.now c.loop-k.k c.len-k-end.result c.loop-k-test.true c.len-k-end.ensures in
    let one_is = get_or_read c.args.shapes.now.all.items c.loop-k.k c.index.result.now lt c.index.ensures no_shape in
    let within =
    (seen c.args.tech.now c.args.plan.now c.args.masters.now c.args.layouts.now c.args.calls.now c.args.shapes.now
    c.requires.laid_out c.loop-k.k lt c.index.result.now one_is).instance in
    omega (arith, within)

pub bounds-calls-instance : goal.bounds-calls-instance
bounds-calls-instance c =
    let lt = among c.args.shapes.now c.loop-k.k c.len-k-end.result c.loop-k-test.true c.len-k-end.ensures in
    let one_is = get_or_read c.args.shapes.now.all.items c.loop-k.k c.index.result.now lt c.index.ensures no_shape in
    (seen c.args.tech.now c.args.plan.now c.args.masters.now c.args.layouts.now c.args.calls.now c.args.shapes.now
    c.requires.laid_out c.loop-k.k lt c.index.result.now one_is).instance

pub bounds-masters-calls : goal.bounds-masters-calls
bounds-masters-calls c =
    let lt = among c.args.shapes.now c.loop-k.k c.len-k-end.result c.loop-k-test.true c.len-k-end.ensures in
    let one_is = get_or_read c.args.shapes.now.all.items c.loop-k.k c.index.result.now lt c.index.ensures no_shape in
    (seen c.args.tech.now c.args.plan.now c.args.masters.now c.args.layouts.now c.args.calls.now c.args.shapes.now
    c.requires.laid_out c.loop-k.k lt c.index.result.now one_is).master

pub offset_bounds-as_slice-item : goal.offset_bounds-as_slice-item
offset_bounds-as_slice-item c =
    let lt = among c.args.shapes.now c.loop-k.k c.len-k-end.result c.loop-k-test.true c.len-k-end.ensures in
    let one_is = get_or_read c.args.shapes.now.all.items c.loop-k.k c.index.result.now lt c.index.ensures no_shape in
    let within =
    (cell_read c.args.tech.now c.args.plan.now c.args.masters.now c.args.layouts.now c.args.calls.now
    c.args.shapes.now c.requires.laid_out c.loop-k.k lt c.index.result.now c.index-masters-calls.result
    c.as_slice.result.now
    no_item one_is c.index-masters-calls.is c.as_slice.ensures).2 in
    omega (arith, within)

pub bounds-as_slice-item : goal.bounds-as_slice-item
bounds-as_slice-item c =
    let lt = among c.args.shapes.now c.loop-k.k c.len-k-end.result c.loop-k-test.true c.len-k-end.ensures in
    let one_is = get_or_read c.args.shapes.now.all.items c.loop-k.k c.index.result.now lt c.index.ensures no_shape in
    (cell_read c.args.tech.now c.args.plan.now c.args.masters.now c.args.layouts.now c.args.calls.now
    c.args.shapes.now c.requires.laid_out c.loop-k.k lt c.index.result.now c.index-masters-calls.result
    c.as_slice.result.now no_item
    one_is c.index-masters-calls.is c.as_slice.ensures).2

pub transistor_at-requires-clause-fet : goal.transistor_at-requires-clause-fet
transistor_at-requires-clause-fet c =
    let lt = among c.args.shapes.now c.loop-k.k c.len-k-end.result c.loop-k-test.true c.len-k-end.ensures in
    let one_is = get_or_read c.args.shapes.now.all.items c.loop-k.k c.index.result.now lt c.index.ensures no_shape in
    let r = cell_read c.args.tech.now c.args.plan.now c.args.masters.now c.args.layouts.now c.args.calls.now
    c.args.shapes.now c.requires.laid_out c.loop-k.k lt c.index.result.now c.index-masters-calls.result
    c.as_slice.result.now no_item
    one_is c.index-masters-calls.is c.as_slice.ensures in
    subst (λ (i : Item). IsFetItem (cell_shown c.args.plan.now c.args.masters.now c.args.shapes.now c.loop-k.k) i
    c.in-Some.fet) r.1
    (subst (λ (z : Cell). IsFetItem z (get_or c.as_slice.result.now c.index.result.now.item no_item) c.in-Some.fet)
    r.0 c.in-Some.ensures.some)

pub loop-k-preserved : goal.loop-k-preserved
loop-k-preserved c =
    let tech = c.args.tech.now in
    let plan = c.args.plan.now in
    let masters = c.args.masters.now in
    let layouts = c.args.layouts.now in
    let k = c.loop-k.k in
    let P : List Crossing → Type 0 = λ cs. AreCrossedBelow tech plan masters layouts (k + 1) cs in
    elim c.match-fet_of.branch [
      | in-Some+in_ok-push w ↦
          subst P (sym (ap (λ v. v.items) w.all-is ∙ w.in_ok-push.ensures.items))
          (one_crossed tech plan masters layouts k c.loop-k.all.items w.transistor_at.result c.loop-k.invariant
          w.transistor_at.ensures.transistor w.transistor_at.ensures.diffusion w.transistor_at.ensures.placed)
      | in_default w ↦
          (let lt = among c.args.shapes.now k c.len-k-end.result c.loop-k-test.true c.len-k-end.ensures in
          let one_is = get_or_read c.args.shapes.now.all.items k c.index.result.now lt c.index.ensures no_shape in
          let r = cell_read tech plan masters layouts c.args.calls.now c.args.shapes.now c.requires.laid_out k lt
          c.index.result.now c.index-masters-calls.result c.as_slice.result.now no_item one_is
          c.index-masters-calls.is c.as_slice.ensures in
          let none = none_shown tech plan masters layouts c.args.calls.now c.args.shapes.now c.requires.laid_out k lt
          c.index-masters-calls.result.cell (get_or c.as_slice.result.now c.index.result.now.item no_item) r.0 r.1
          w.in_default.ensures.none in
          subst P (sym (ap (λ v. v.items) w.all-is))
          (one_passed tech plan masters layouts k c.loop-k.all.items c.loop-k.invariant none))
    ]

pub returns-clause-all : goal.returns-clause-all
returns-clause-all c =
    let shapes = c.args.shapes.now in
    let counted = shapes_counted c.args.plan.now c.args.masters.now (instances_of (grids_of c.args.plan.now)) refl
    shapes.all.items shapes.firsts.items c.requires.laid_out.shown in
    let ended = c.loop-k-test.false in
    let auto = c.loop-k.auto.k-end in
    let long = c.len-k-end.ensures in
    let h = shapes.all.ok in
    all_crossed c.args.tech.now c.args.plan.now c.args.masters.now c.args.layouts.now c.loop-k.k c.loop-k.all.items
    c.transistors_have_boxes.ensures (omega (arith, counted, ended, auto, long, h)) c.loop-k.invariant
