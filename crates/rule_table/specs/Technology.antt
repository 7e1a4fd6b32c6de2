-- What a technology shows of its numbers.
use Rattle.std.specs.Prelude.{ℤ, pos, Bool, Option}
use Rattle.rule_table.specs.{Keys.has_buried, Spacing.{spacing_in, has_class, margin_in, widest_in, width_in, pad_in}}
use Rattle.rule_table.specs.declared.{keys.Numbers.Numbers, classes.{Rule.Rule, Class.Class, Layer.Layer}}
use Rattle.rule_table.specs.declared.technology.Tech.{Tech}

abbrev pub numbers_of : Tech → Numbers
numbers_of t = t.numbers

-- the technology has buried contacts
abbrev pub has_buried_of : Tech → Bool
has_buried_of t = has_buried (numbers_of t)

abbrev pub spacing_of : Tech → Class → Class → Option Rule
spacing_of t = spacing_in (numbers_of t)

abbrev pub has_class_of : Tech → Class → Bool
has_class_of t = has_class (numbers_of t)

abbrev pub margin_of : Tech → Class → ℤ
margin_of t = margin_in (numbers_of t)

abbrev pub widest_of : Tech → ℤ
widest_of t = widest_in (numbers_of t)

abbrev pub width_of : Tech → Layer → ℤ
width_of t = width_in (numbers_of t)

abbrev pub pad_of : Tech → ℤ
pad_of t = pad_in (numbers_of t)

-- the numbers that the program ships with
abbrev pub shipped_numbers : Numbers
shipped_numbers = record {
  version = pos 1;
  unit = pos 150;
  width_diffusion = pos 4;
  width_poly = pos 4;
  width_metal = pos 6;
  spacing_diffusion = pos 6;
  spacing_poly = pos 4;
  spacing_metal = pos 6;
  spacing_poly_diffusion = pos 2;
  spacing_cut = pos 4;
  spacing_cut_channel = pos 4;
  spacing_implant_channel = pos 3;
  extension_poly = pos 4;
  extension_diffusion = pos 4;
  extension_implant = pos 3;
  cut_size = pos 4;
  cut_enclosure = pos 2;
  extension_buried = pos 0;
  spacing_buried_channel = pos 0;
}

-- the same with buried contacts
abbrev pub shipped2_numbers : Numbers
shipped2_numbers = record shipped_numbers { version = pos 2; extension_buried = pos 4; spacing_buried_channel = pos 4 }
