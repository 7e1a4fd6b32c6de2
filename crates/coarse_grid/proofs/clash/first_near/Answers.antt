use Rattle.std.proofs.Common.{◌≡◌, ap, ◌∙◌, sym, arith}
use Rattle.coarse_grid.{specs.Clash.is_near_at, proofs.Nears.by_lt}
use Rattle.coarse_grid.proofs.clash.first_near.Goals as goal

pub loop-j-preserved : goal.loop-j-preserved
loop-j-preserved c = λ k above below.
    by_lt k c.loop-j.j (λ before. c.loop-j.invariant k above before)
    (λ at. let same : k ≡ c.loop-j.j = omega arith in
    let h = c.if-is_near.ensures in
    ap (λ j. is_near_at c.args.tech.now c.args.coords.now c.args.items.now c.args.i j) same ∙ sym h)
