use Rattle.std.proofs.Common.{arith, to_z-of_z, sym}
use Rattle.tech_file.specs.Numbers.{with_buried}
use Rattle.tech_file.proofs.numbers.with_buried.Goals as goal

pub returns : goal.returns
unfolding with_buried
returns c = rw (sym c.in_ok-extension_buried.ensures, sym c.in_ok-spacing_buried_channel.ensures)
    (grind (arith, to_z-of_z))
