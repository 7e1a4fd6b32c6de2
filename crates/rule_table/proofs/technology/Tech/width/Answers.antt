use Rattle.std.proofs.{Common.{arith, rules, to_z-of_z, w64}, lemmas.Int.ints}
use mir.Val.{SFits}
use Rattle.rule_table.proofs.{Sound.sound, Widths.{size_of_width, width_within}}
use Rattle.rule_table.proofs.technology.Tech.width.Goals as goal

pub returns-clause-size : goal.returns-clause-size
returns-clause-size c =
    let fits : SFits w64 c.width.result = search rules in
    rw (to_z-of_z, c.width.ensures) (size_of_width _ (sound _ c.args.self.now.sound) c.args.layer)

pub returns-clause-within_pad : goal.returns-clause-within_pad
returns-clause-within_pad c =
    let h = sound c.args.self.now.numbers c.args.self.now.sound in
    omega (arith, ints, c.width.ensures, width_within c.args.self.now.numbers h c.args.layer)
