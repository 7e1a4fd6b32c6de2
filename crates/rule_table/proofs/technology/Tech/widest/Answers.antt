use Rattle.std.proofs.{Common.arith, lemmas.Int.ints}
use Rattle.rule_table.proofs.{Sound.sound, Margins.{widest_positive, widest_below, widest_above}}
use Rattle.rule_table.proofs.technology.Tech.widest.Goals as goal

pub returns-clause-bounds : goal.returns-clause-bounds
returns-clause-bounds c =
    let n = c.args.self.now.numbers in
    let h = sound n c.args.self.now.sound in (
      omega (arith, ints, c.widest.ensures, widest_positive n h),
      omega (arith, ints, c.widest.ensures, widest_below n h),
    )

pub returns-clause-over_margins : goal.returns-clause-over_margins
returns-clause-over_margins c a = omega (arith, ints, c.widest.ensures, widest_above c.args.self.now.numbers a)
