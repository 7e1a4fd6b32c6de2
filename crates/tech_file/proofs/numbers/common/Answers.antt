use Rattle.std.proofs.Common.{arith, to_z-of_z, sym}
use Rattle.tech_file.specs.Numbers.{common_in}
use Rattle.tech_file.proofs.numbers.common.Goals as goal

pub returns : goal.returns
unfolding common_in
returns c =
    rw (
      sym c.in_ok-version.ensures,
      sym c.in_ok-unit.ensures,
      sym c.in_ok-width.ensures,
      sym c.in_ok-spacing.ensures,
      sym c.in_ok-spacing_poly_diffusion.ensures,
      sym c.in_ok-cut_spacing.ensures,
      sym c.in_ok-extension.ensures,
      sym c.in_ok-cut_size.ensures,
      sym c.in_ok-cut_enclosure.ensures,
    )
    (grind (arith, to_z-of_z))
