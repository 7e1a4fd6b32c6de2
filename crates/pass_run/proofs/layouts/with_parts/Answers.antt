use Rattle.std.proofs.{Common.{ap, ◌∙◌, arith}, lemmas.List.get_or_default}
use Rattle.sym_items.specs.Layouts.{no_layout}
use Rattle.expand.specs.{declared.master.Master.Master, Variables.variables_of}
use Rattle.pitch_join.{specs.Masters.no_master, proofs.Bases.{base_at, base_within, bases_counted}}
use Rattle.pass_run.{specs.Layouts.with_values_at, proofs.{Lists.image_added, Values.part_moved}}
use Rattle.pass_run.proofs.layouts.with_parts.Goals as goal

pub bounds-base-m : goal.bounds-base-m
bounds-base-m c =
    let count = bases_counted c.args.axis c.args.masters.now c.args.base.now c.requires.bases in
    let lt = c.loop-m-test.true in
    omega arith

pub with_part-requires-clause-within : goal.with_part-requires-clause-within
with_part-requires-clause-within c =
    let axis = c.args.axis in
    let masters = c.args.masters.now in
    let m = c.loop-m.m in
    let lt = c.loop-m-test.true in
    let at = base_at axis masters c.args.base.now m c.requires.bases lt in
    let within = base_within axis masters m lt in
    let vars = ap (λ (x : Master). variables_of axis x.cell)
    (c.index-masters-m.is ∙ get_or_default masters m _ no_master lt) in
    let one_each = c.requires.one_each in
    omega arith

pub loop-m-preserved : goal.loop-m-preserved
loop-m-preserved c =
    let masters = c.args.masters.now in
    let before = c.args.before.now in
    let axis = c.args.axis in
    let x = c.args.x.now in
    let m = c.loop-m.m in
    let lt = c.loop-m-test.true in
    let counted = c.requires.counted in
    image_added (with_values_at axis masters before x) m c.in_ok-with_part.field-0 c.loop-m.layouts.items
    c.push.new.self.items c.loop-m.invariant
    (part_moved axis masters before x m _ c.index-masters-m.result c.index-before-m.result c.in_ok-with_part.field-0
    (c.index-masters-m.is ∙ get_or_default masters m _ no_master lt)
    (c.index-before-m.is ∙ get_or_default before m _ no_layout (omega arith))
    (base_at axis masters c.args.base.now m c.requires.bases lt) c.in_ok-with_part.ensures)
    c.in_ok-push.ensures.items
