-- The lengths that rules ask for, and how far the boxes of a broken pair can lie apart.
use Rattle.std.specs.Prelude.{ℤ, pos, ◌-ℤ◌, Option, Some, None}
use Rattle.lam_geom.specs.declared.boxes.MaskLayer.{MaskLayer}
use Rattle.rule_table.specs.{declared.technology.Tech.Tech, Technology.numbers_of}
use Rattle.crossing_model.specs.Boxes.{grains}
use Rattle.rule_breaks.specs.declared.rule.Rule.{Rule, TheVariants.{Width, CutSize, ProperCrossing, PolyToDiffusion}}
use Rattle.rule_breaks.specs.declared.rule.Rule.TheVariants.{CutCover, MetalSpacing, PolySpacing, DiffusionSpacing}
use Rattle.rule_breaks.specs.declared.rule.Rule.TheVariants.{CutSpacing, CutToChannel, ImplantToChannel}
use Rattle.rule_breaks.specs.{declared.rule.Rule.TheVariants.WindowToChannel, Breaks.width_on}

-- the spacing of which a rule on pairs speaks, in u
abbrev pub spacing_of_rule : Tech → Rule → ℤ
spacing_of_rule tech PolyToDiffusion = (numbers_of tech).spacing_poly_diffusion
spacing_of_rule tech MetalSpacing = (numbers_of tech).spacing_metal
spacing_of_rule tech PolySpacing = (numbers_of tech).spacing_poly
spacing_of_rule tech DiffusionSpacing = (numbers_of tech).spacing_diffusion
spacing_of_rule tech CutSpacing = (numbers_of tech).spacing_cut
spacing_of_rule tech CutToChannel = (numbers_of tech).spacing_cut_channel
spacing_of_rule tech ImplantToChannel = (numbers_of tech).spacing_implant_channel
spacing_of_rule tech WindowToChannel = (numbers_of tech).spacing_buried_channel
spacing_of_rule tech rule = pos 0

-- the length that a rule asks for at a box on a layer, in u, if it asks for one
abbrev pub least_of : Tech → Rule → MaskLayer → Option ℤ
least_of tech Width layer = width_on tech layer
least_of tech CutSize layer = Some (numbers_of tech).cut_size
least_of tech ProperCrossing layer = None
least_of tech CutCover layer = Some (numbers_of tech).cut_enclosure
least_of tech rule layer = Some (spacing_of_rule tech rule)

-- the greatest gap that is below that spacing, in grains
abbrev pub reach_of : Tech → Rule → ℤ
reach_of tech rule = grains tech (spacing_of_rule tech rule) -ℤ pos 1

-- how far an implant goes past its channel, in grains
abbrev pub extension_of : Tech → ℤ
extension_of tech = grains tech (numbers_of tech).extension_implant
