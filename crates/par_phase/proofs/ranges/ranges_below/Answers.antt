use Rattle.std.proofs.Common.{◌≡◌, ap, ◌∙◌, subst, arith, length, length-append}
use Rattle.par_phase.{specs.{Ranges.AreRanges, Blocks.block_start}, proofs.Cuts.{start_last, start_later}}
use Rattle.par_phase.proofs.InRanges.{ranges_more}
use Rattle.par_phase.proofs.ranges.ranges_below.Goals as goal

pub loop-k-preserved : goal.loop-k-preserved
loop-k-preserved c =
    let later = start_later c.args.len c.args.count c.loop-k.k c.requires in
    let grown = c.in_ok-push.ensures.items in (
      rw grown (rw (c.block_start-from.ensures.start, c.block_start-to.ensures.start)
          (ranges_more 0 _ _ c.loop-k.ranges.items c.loop-k.invariant.0 later)),
      omega (arith, simp length-append at (ap length grown)),
    )

pub returns-clause-ranges : goal.returns-clause-ranges
returns-clause-ranges c =
    let all : c.loop-k.k ≡ c.args.count = omega arith in
    subst (AreRanges 0 c.loop-k.ranges.items)
    (ap (block_start c.args.len c.args.count) all ∙ start_last c.args.len c.args.count c.requires)
    c.loop-k.invariant.0
