use Rattle.std.proofs.{Common.{arith, rules, to_z-of_z, w64}, lemmas.Int.ints}
use mir.Val.{SFits}
use Rattle.rule_table.proofs.{Sound.sound, Widths.{pad_bounds, pad_even, width_within}}
use Rattle.rule_table.proofs.technology.Tech.pad.Goals as goal

pub pad-requires : goal.pad-requires
pad-requires c = (sound _ c.args.self.now.sound).in_range

pub returns-clause-bounds : goal.returns-clause-bounds
returns-clause-bounds c =
    let n = c.args.self.now.numbers in
    let h = pad_bounds n (sound n c.args.self.now.sound) in
    (omega (arith, ints, c.pad.ensures), omega (arith, ints, c.pad.ensures))

pub returns-clause-even : goal.returns-clause-even
returns-clause-even c =
    let fits : SFits w64 c.pad.result = search rules in
    rw (to_z-of_z, c.pad.ensures) (pad_even _ (sound _ c.args.self.now.sound))

pub returns-clause-over_widths : goal.returns-clause-over_widths
returns-clause-over_widths c layer =
    let h = sound c.args.self.now.numbers c.args.self.now.sound in
    omega (arith, ints, c.pad.ensures, width_within c.args.self.now.numbers h layer)
