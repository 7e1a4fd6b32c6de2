use Rattle.std.proofs.{Common.{ℕ, ℤ, take, get_or, arith}, lemmas.Int.{ints, clamps}}
use Rattle.lam_geom.specs.declared.boxes.Axis.TheVariants.{X}
use Rattle.sym_items.specs.Layouts.{size_in}
use Rattle.extents.proofs.Sums.{total_next, total_positive}
use Rattle.extents.proofs.extent.row_width.Goals as goal

pub loop-m-preserved : goal.loop-m-preserved
loop-m-preserved c =
    let f : ℕ → ℤ = size_in X c.args.layouts.now in
    let i = c.loop-m.m-index in
    let row = c.args.row.now in
    let lt = c.loop-m-test.true in
    let next = total_next f row i 0 lt in
    let before = total_positive f c.requires.sizes (take i row) in
    let more = c.requires.sizes (get_or row i 0) in
    let w = c.width.ensures in
    let r = c.longer-sum.ensures.value in
    let positive = c.longer-sum.ensures.positive in
    let inv = c.loop-m.invariant in
    omega (arith, ints, clamps, next, before, more, w, r, positive, inv, c.requires.least, c.requires.most)
