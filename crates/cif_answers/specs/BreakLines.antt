-- The text of a list of breaks: how many, a line for each, and whether there are more. Lengths are in grains, half
-- hundredths of a micron.
use Rattle.std.specs.Prelude.{ℕ, ◌+◌, ◌*◌, ◌/◌, ◌%◌, ◌==◌, ℤ, pos, negsuc, Bool, Option, Some, None, List, [], ◌∷◌}
use Rattle.std.specs.Prelude.{◌++◌, length, flat_map, codes, decimal, if◌then◌else◌}
use Rattle.lam_geom.specs.declared.boxes.{BoxXY.BoxXY, MaskBox.MaskBox, MaskLayer.{MaskLayer, TheVariants.{ND, NP, NC}}}
use Rattle.lam_geom.specs.declared.boxes.MaskLayer.TheVariants.{NM, NI, NB}
use Rattle.rule_table.specs.declared.technology.Tech.{Tech}
use Rattle.crossing_model.specs.Boxes.{area_at, layer_at, grains}
use Rattle.rule_breaks.specs.declared.rule.{Break.Break, Rule.{Rule, TheVariants.{Width, CutSize, ProperCrossing}}}
use Rattle.rule_breaks.specs.declared.rule.Rule.TheVariants.{PolyToDiffusion, CutCover, MetalSpacing, PolySpacing}
use Rattle.rule_breaks.specs.declared.rule.Rule.TheVariants.{DiffusionSpacing, CutSpacing, CutToChannel}
use Rattle.rule_breaks.specs.{declared.rule.Rule.TheVariants.{ImplantToChannel, WindowToChannel}, Order.rule_of}
use Rattle.rule_breaks.specs.Reaches.{least_of}

-- ---- lengths

-- thousandths as a number with exactly three decimals
abbrev pub decimals : ℕ → List ℕ
decimals n =
    decimal (n / 1000) ++ (codes "." ++ (decimal (n / 100 % 10) ++ (decimal (n / 10 % 10) ++ decimal (n % 10))))

-- a length in microns: a grain is five thousandths
abbrev pub microns : ℤ → List ℕ
microns (pos n) = decimals (5 * n)
microns (negsuc n) = codes "-" ++ decimals (5 * (n + 1))

-- ---- rules

-- the key of a layer's width
abbrev pub width_key : MaskLayer → List ℕ
width_key ND = codes "width.diffusion"
width_key NP = codes "width.poly"
width_key layer = codes "width.metal"

-- the key of a technology by which a rule goes, at a box on this layer; the rule on crossings has a word of its own
abbrev pub key_of : Rule → MaskLayer → List ℕ
key_of Width layer = width_key layer
key_of CutSize layer = codes "cut.size"
key_of ProperCrossing layer = codes "crossing"
key_of PolyToDiffusion layer = codes "spacing.poly_diffusion"
key_of CutCover layer = codes "cut.enclosure"
key_of MetalSpacing layer = codes "spacing.metal"
key_of PolySpacing layer = codes "spacing.poly"
key_of DiffusionSpacing layer = codes "spacing.diffusion"
key_of CutSpacing layer = codes "spacing.cut"
key_of CutToChannel layer = codes "spacing.cut_channel"
key_of ImplantToChannel layer = codes "spacing.implant_channel"
key_of WindowToChannel layer = codes "spacing.buried_channel"

abbrev pub least_words : Tech → Option ℤ → List ℕ
least_words tech None = []
least_words tech (Some length) = codes " least " ++ microns (grains tech length)

-- `rule R KEY[ least S]`
abbrev pub rule_words : Tech → ℕ → MaskLayer → List ℕ
rule_words tech number layer =
    codes "rule "
    ++ (decimal number
    ++ (codes " " ++ (key_of (rule_of number) layer ++ least_words tech (least_of tech (rule_of number) layer))))

-- ---- boxes

abbrev pub name_of : MaskLayer → List ℕ
name_of ND = codes "ND"
name_of NP = codes "NP"
name_of NC = codes "NC"
name_of NM = codes "NM"
name_of NI = codes "NI"
name_of NB = codes "NB"

-- ` X1 Y1 X2 Y2`: the low corner, then the high one
abbrev pub corner_words : BoxXY → List ℕ
corner_words area =
    codes " "
    ++ (microns area.x.lo
    ++ (codes " "
    ++ (microns area.y.lo ++ (codes " " ++ (microns area.x.hi ++ (codes " " ++ microns area.y.hi))))))

-- ` box K LAYER X1 Y1 X2 Y2`
abbrev pub box_words : List MaskBox → ℕ → List ℕ
box_words boxes k =
    codes " box " ++ (decimal k ++ (codes " " ++ (name_of (layer_at boxes k) ++ corner_words (area_at boxes k))))

-- ---- lines

-- the rule, its box, and the other one where it is on two
abbrev pub line_of_break : Tech → List MaskBox → Break → List ℕ
line_of_break tech boxes x =
    rule_words tech x.rule (layer_at boxes x.a)
    ++ (box_words boxes x.a ++ ((if x.a == x.b then [] else box_words boxes x.b) ++ codes "\n"))

-- `breaks K`
abbrev pub count_line : ℕ → List ℕ
count_line count = codes "breaks " ++ (decimal count ++ codes "\n")

abbrev pub more_line : Bool → List ℕ
more_line more = if more then codes "more\n" else []

unfoldable pub text_of_breaks : Tech → List MaskBox → List Break → Bool → List ℕ
text_of_breaks tech boxes list more =
    count_line (length list) ++ (flat_map (line_of_break tech boxes) list ++ more_line more)
