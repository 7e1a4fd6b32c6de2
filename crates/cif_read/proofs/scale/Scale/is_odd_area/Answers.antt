use Rattle.std.proofs.Common.{arith}
use Rattle.cif_read.proofs.Scales.{good_area, farther, seen_within, seen_odd}
use Rattle.cif_read.proofs.scale.Scale.is_odd_area.Goals as goal

pub is_odd-requires-else-is_odd-clause-near : goal.is_odd-requires-else-is_odd-clause-near
is_odd-requires-else-is_odd-clause-near c =
    let a = c.args in
    seen_within _ a.w c.ranges.w (farther a.w (good_area a.l a.w a.x a.y c.requires.good).w_near)

pub is_odd-requires-else-is_odd-2-clause-near : goal.is_odd-requires-else-is_odd-2-clause-near
is_odd-requires-else-is_odd-2-clause-near c =
    let a = c.args in
    seen_within _ a.x c.ranges.x (farther a.x (good_area a.l a.w a.x a.y c.requires.good).x_near)

pub is_odd-requires-else-is_odd-3-clause-near : goal.is_odd-requires-else-is_odd-3-clause-near
is_odd-requires-else-is_odd-3-clause-near c =
    let a = c.args in
    seen_within _ a.y c.ranges.y (farther a.y (good_area a.l a.w a.x a.y c.requires.good).y_near)

pub returns-then-is_odd-3 : goal.returns-then-is_odd-3
returns-then-is_odd-3 c =
    let b = c.args.self.now in
    let above = c.requires.sound.above in
    let below = c.requires.sound.below in
    let l = seen_odd b.above b.below c.args.l above below c.ranges.l in
    let w = seen_odd b.above b.below c.args.w above below c.ranges.w in
    let x = seen_odd b.above b.below c.args.x above below c.ranges.x in
    grind (arith, l, w, x)

pub returns-else-is_odd-3 : goal.returns-else-is_odd-3
returns-else-is_odd-3 c =
    let b = c.args.self.now in
    let above = c.requires.sound.above in
    let below = c.requires.sound.below in
    let l = seen_odd b.above b.below c.args.l above below c.ranges.l in
    let w = seen_odd b.above b.below c.args.w above below c.ranges.w in
    let x = seen_odd b.above b.below c.args.x above below c.ranges.x in
    let y = seen_odd b.above b.below c.args.y above below c.ranges.y in
    grind (arith, l, w, x, y)
