use Rattle.std.proofs.{Common.{arith, rules, to_z-of_z, w64}, lemmas.Int.ints}
use mir.Val.{SFits}
use Rattle.rule_table.proofs.{Sound.sound, Margins.{margin_low, margin_exactly, margin_below, widest_above}}
use Rattle.rule_table.proofs.technology.Tech.margin.Goals as goal

pub returns-clause-bounds : goal.returns-clause-bounds
returns-clause-bounds c =
    let n = c.args.self.now.numbers in
    let h = sound n c.args.self.now.sound in (
      omega (arith, ints, c.margin.ensures, margin_low n c.args.a),
      omega (arith, ints, c.margin.ensures, margin_below n h c.args.a),
    )

pub returns-clause-positive : goal.returns-clause-positive
returns-clause-positive c =
    let fits : SFits w64 c.margin.result = search rules in
    rw (to_z-of_z, c.margin.ensures) (margin_exactly _ (sound _ c.args.self.now.sound) _)

pub returns-clause-within_widest : goal.returns-clause-within_widest
returns-clause-within_widest c = omega (arith, ints, c.margin.ensures, widest_above c.args.self.now.numbers c.args.a)
