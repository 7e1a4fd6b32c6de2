use Rattle.std.proofs.Common.{rules, to_z-of_z, w64, refl}
use mir.Val.{SFits}
use Rattle.rule_table.specs.Keys.{first_outside}
use Rattle.rule_table.proofs.keys.Numbers.first_outside.Goals as goal

pub returns : goal.returns
unfolding first_outside
returns c =
    let fits : SFits w64 c.most_of_buried.result = search rules in
    rw (
      c.or.ensures,
      c.first_above.ensures,
      c.first_above-2.ensures,
      to_z-of_z,
      c.common.ensures,
      c.buried.ensures,
      c.most_of_buried.ensures,
    ) refl
