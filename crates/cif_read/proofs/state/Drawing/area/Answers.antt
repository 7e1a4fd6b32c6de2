use Rattle.std.proofs.Common.{◌∙◌, Some, ap, refl, arith}
use Rattle.cif_read.specs.{Acts.{is_odd_area, drawn_box, scaled}, declared.file.ForeignStep.TheVariants.Own}
use Rattle.cif_read.specs.{Hierarchies.own, Readings.level_from}
use Rattle.cif_read.proofs.{Scales.seen_all, Sound.{boxed_done, steps_more, level_step}}
use Rattle.cif_read.proofs.state.Drawing.area.Goals as goal

pub returns-in-Ok-clause-done : goal.returns-in-Ok-clause-done
returns-in-Ok-clause-done c =
    let a = c.args in
    let r = c.ranges in
    let d = a.self.now in
    let s = d.scale in
    let even = c.if-is_odd_area.ensures ∙ seen_all (is_odd_area s.above s.below) a.l a.w a.x a.y r.l r.w r.x r.y in
    let layer = c.in-Some-named.layer in
    let value = c.scaled_box-scaled.ensures.value
    ∙ seen_all
    (λ l w x y. drawn_box layer (scaled s.above s.below l) (scaled s.above s.below w) (scaled s.above s.below x)
    (scaled s.above s.below y)) a.l a.w a.x a.y r.l r.w r.x r.y in
    let steps = steps_more d.steps c.push.new.self (Own c.scaled_box-scaled.result) _ c.in-Ok.ensures (ap own value) in
    boxed_done (level_from d) d.layer layer a.l a.w a.x a.y _ (c.in-Some.is ∙ ap Some c.in-Some-named.is) even steps

pub returns-in-Ok-clause-sound : goal.returns-in-Ok-clause-sound
returns-in-Ok-clause-sound c = λ depths h.
    level_step depths c.args.self.now _ (Own c.scaled_box-scaled.result) h refl c.in-Ok.ensures
    c.scaled_box-scaled.ensures.solid (omega arith)
