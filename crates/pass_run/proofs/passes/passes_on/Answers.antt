use Rattle.std.proofs.Common.{suc, List, length, drop, refl, ap, ◌∙◌, arith}
use Rattle.std.proofs.lemmas.{List.{length-take-le, take_all, drop_all}, Result.err_from_is_err_and}
use Rattle.lam_geom.specs.declared.boxes.Axis.{Axis, TheVariants.X}
use Rattle.pass_run.specs.{Layouts.starts_of, Passes.axes_of}
use Rattle.pass_run.proofs.{Chain.axes_counted, Going.{going_start, going_told, passes_given, refused_there}}
use Rattle.pass_run.proofs.{OneRefusal.stops_at_first, Lasts.{are_greatest_values, are_tight}}
use Rattle.pass_run.proofs.passes.passes_on.Goals as goal

pub loop-axis-init : goal.loop-axis-init
loop-axis-init g c = record {
  going = (let none = c.none_yet-so_far.ensures in
      going_start c.args.tech.now c.args.plan.now c.args.masters.now c.args.with_most c.args.axes.now
      c.none_yet-so_far.result c.requires.planned.each c.requires.clean
      (none.layouts ∙ c.requires.starts) none.steps none.report none.greatest_values);
  axes = ap (λ steps. axes_of steps) c.none_yet-so_far.ensures.steps;
  coming = refl;
}

pub next_pass-requires-clause-few : goal.next_pass-requires-clause-few
next_pass-requires-clause-few g c =
    let counted = axes_counted c.loop-axis.so_far.steps.items in
    let axes = ap (λ (axes : List Axis). length axes) c.loop-axis.invariant.axes in
    let few = c.requires.few in
    let test = c.loop-axis-test.true in
    let shorter = length-take-le c.loop-axis.axis-index c.args.axes.now (omega arith) in
    omega arith

pub returns-in_err-so_far-clause-refused : goal.returns-in_err-so_far-clause-refused
returns-in_err-so_far-clause-refused g c =
    let p = err_from_is_err_and c.from_residual.result c.from_residual.ensures.1 in
    let r = c.in_err-so_far.ensures.refused (drop (suc c.loop-axis.axis-index) c.args.axes.now) in
    rw (p.1, p.2)
    (refused_there c.args.tech.now c.args.plan.now c.args.masters.now c.args.axes.now
    (axes_of c.loop-axis.so_far.steps.items) c.loop-axis.axis-index X _
    (omega arith) c.loop-axis.invariant.axes r)

pub returns-clause-made : goal.returns-clause-made
returns-clause-made g c =
    let e = c.in_ok-given.ensures in
    let test = c.loop-axis-test.false in
    let all = c.loop-axis.invariant.axes ∙ take_all c.loop-axis.axis-index c.args.axes.now (omega arith) in
    passes_given c.loop-axis.invariant.going c.args.axes.now c.in_ok-given.field-0 all e.coords e.steps e.report

pub returns-in_err-so_far-clause-first : goal.returns-in_err-so_far-clause-first
returns-in_err-so_far-clause-first g c =
    let p = err_from_is_err_and c.from_residual.result c.from_residual.ensures.1 in
    let r = c.in_err-so_far.ensures.refused (drop (suc c.loop-axis.axis-index) c.args.axes.now) in
    rw (p.1, p.2)
    (stops_at_first c.args.tech.now c.args.plan.now c.args.masters.now c.args.axes.now _
    (refused_there c.args.tech.now c.args.plan.now c.args.masters.now c.args.axes.now
    (axes_of c.loop-axis.so_far.steps.items) c.loop-axis.axis-index X _
    (omega arith) c.loop-axis.invariant.axes r))

pub returns-clause-greatest_values : goal.returns-clause-greatest_values
returns-clause-greatest_values g c = λ asked.
    let e = c.in_ok-given.ensures in
    let test = c.loop-axis-test.false in
    let none = drop_all c.loop-axis.axis-index c.args.axes.now (omega arith) in
    are_greatest_values c.args.tech.now c.args.plan.now c.args.masters.now
    (starts_of c.args.tech.now c.args.masters.now)
    c.in_ok-given.field-0.steps c.in_ok-given.field-0.greatest_values
    (going_told c.loop-axis.invariant.going c.in_ok-given.field-0 none e.steps e.greatest_values asked)

pub returns-clause-tight : goal.returns-clause-tight
returns-clause-tight g c = λ asked.
    let e = c.in_ok-given.ensures in
    let test = c.loop-axis-test.false in
    let none = drop_all c.loop-axis.axis-index c.args.axes.now (omega arith) in
    are_tight c.args.tech.now c.args.plan.now c.args.masters.now (starts_of c.args.tech.now c.args.masters.now)
    c.in_ok-given.field-0.steps c.in_ok-given.field-0.greatest_values
    (going_told c.loop-axis.invariant.going c.in_ok-given.field-0 none e.steps e.greatest_values asked)
