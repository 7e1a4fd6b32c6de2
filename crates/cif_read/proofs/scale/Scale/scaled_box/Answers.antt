use Rattle.std.proofs.Common.{◌∙◌, refl}
use Rattle.cif_read.proofs.Scales.{good_area, even_area, seen_within, seen_odd, seen_some, seen_extent, seen_value}
use Rattle.cif_read.proofs.Scales.{seen_scaled}
use Rattle.cif_read.proofs.scale.Scale.scaled_box.Goals as goal

pub scaled-requires-2-clause-near : goal.scaled-requires-2-clause-near
scaled-requires-2-clause-near c =
    let a = c.args in
    seen_within _ a.w c.ranges.w (good_area a.l a.w a.x a.y c.requires.good).w_near

pub scaled-requires-3-clause-near : goal.scaled-requires-3-clause-near
scaled-requires-3-clause-near c =
    let a = c.args in
    seen_within _ a.x c.ranges.x (good_area a.l a.w a.x a.y c.requires.good).x_near

pub scaled-requires-4-clause-near : goal.scaled-requires-4-clause-near
scaled-requires-4-clause-near c =
    let a = c.args in
    seen_within _ a.y c.ranges.y (good_area a.l a.w a.x a.y c.requires.good).y_near

pub drawn_box-requires-clause-long : goal.drawn_box-requires-clause-long
drawn_box-requires-clause-long c =
    let a = c.args in
    let b = a.self.now in
    let even = even_area b.above b.below a.l a.w a.x a.y c.requires.even in
    let good = good_area a.l a.w a.x a.y c.requires.good in
    let odd = seen_odd b.above b.below a.l c.requires.sound.above c.requires.sound.below c.ranges.l in
    seen_extent c.scaled.result (c.scaled.ensures.positive (odd ∙ even.l_even) (seen_some a.l c.ranges.l good.long))
    c.scaled.ensures.near

pub drawn_box-requires-clause-wide : goal.drawn_box-requires-clause-wide
drawn_box-requires-clause-wide c =
    let a = c.args in
    let b = a.self.now in
    let even = even_area b.above b.below a.l a.w a.x a.y c.requires.even in
    let good = good_area a.l a.w a.x a.y c.requires.good in
    let odd = seen_odd b.above b.below a.w c.requires.sound.above c.requires.sound.below c.ranges.w in
    seen_extent c.scaled-2.result
    (c.scaled-2.ensures.positive (odd ∙ even.w_even) (seen_some a.w c.ranges.w good.wide)) c.scaled-2.ensures.near

pub returns-clause-value : goal.returns-clause-value
returns-clause-value c =
    let a = c.args in
    let b = a.self.now in
    let above = c.requires.sound.above in
    let below = c.requires.sound.below in
    let l = seen_value c.scaled.result _ c.scaled.ensures.near
    (c.scaled.ensures.value ∙ seen_scaled b.above b.below a.l above below c.ranges.l) in
    let w = seen_value c.scaled-2.result _ c.scaled-2.ensures.near
    (c.scaled-2.ensures.value ∙ seen_scaled b.above b.below a.w above below c.ranges.w) in
    let x = seen_value c.scaled-3.result _ c.scaled-3.ensures.near
    (c.scaled-3.ensures.value ∙ seen_scaled b.above b.below a.x above below c.ranges.x) in
    let y = seen_value c.scaled-4.result _ c.scaled-4.ensures.near
    (c.scaled-4.ensures.value ∙ seen_scaled b.above b.below a.y above below c.ranges.y) in
    c.drawn_box.ensures.value ∙ (rw (l, w, x, y) refl)
