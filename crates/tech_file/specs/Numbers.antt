-- The numbers of a technology file's table, or the first key at which there is none.
use Rattle.std.specs.Prelude.{ℕ, ◌+◌, ℤ, pos, if◌then◌else◌, List, [], Option, Some, None, Result, Ok, Err}
use Rattle.toml.specs.Data.{Data, Members, integer, table, get_member}
use Rattle.rule_table.specs.{Keys.{Key, key_parts, has_buried}, declared.keys.Numbers.Numbers}
use Rattle.tech_file.specs.declared.faults.KeyFault.{KeyFault, TheVariants.{Missing, WrongType}}

infixl 10 ◌>>=◌
abbrev pub ◌>>=◌ : {A B F : Type 0} → Result A F → (A → Result B F) → Result B F
(Ok x) >>= f = f x
(Err e) >>= f = Err e

-- the integer that stands at the key with this number
unfoldable pub integer_at : ℕ → Option Data → Result ℤ KeyFault
integer_at key None = Err (Missing key)
integer_at key (Some (integer z)) = Ok z
integer_at key (Some _) = Err (WrongType key)

-- the integer at a name in the table that stands there
unfoldable pub integer_in : ℕ → List ℕ → Option Data → Result ℤ KeyFault
integer_in key name None = Err (Missing key)
integer_in key name (Some (table ms)) = integer_at key (get_member name ms)
integer_in key name (Some _) = Err (WrongType key)

-- the integer at the key with this number: under its name at the top, or in its table
abbrev pub integer_under : ℕ → Key → Members → Result ℤ KeyFault
integer_under number ([], name) top = integer_at number (get_member name top)
integer_under number (header, name) top = integer_in number name (get_member header top)

unfoldable pub integer_of : Members → ℕ → Result ℤ KeyFault
integer_of top number = integer_under number (key_parts number) top

-- the integers at three keys that follow one another
unfoldable pub three_from : Members → ℕ → Result (ℤ × ℤ × ℤ) KeyFault
three_from top first = do
  x ← integer_of top first
  y ← integer_of top (first + 1)
  z ← integer_of top (first + 2)
  Ok (x, y, z)

-- the numbers of every version, or the first fault of a key
unfoldable pub common_in : Members → Result Numbers KeyFault
common_in top = do
  version ← integer_of top 0
  unit ← integer_of top 1
  width ← three_from top 2
  spacing ← three_from top 5
  poly_diffusion ← integer_of top 8
  cut_spacing ← three_from top 9
  extension ← three_from top 12
  cut_size ← integer_of top 15
  cut_enclosure ← integer_of top 16
  Ok (record {
    version = version;
    unit = unit;
    width_diffusion = width.0;
    width_poly = width.1;
    width_metal = width.2;
    spacing_diffusion = spacing.0;
    spacing_poly = spacing.1;
    spacing_metal = spacing.2;
    spacing_poly_diffusion = poly_diffusion;
    spacing_cut = cut_spacing.0;
    spacing_cut_channel = cut_spacing.1;
    spacing_implant_channel = cut_spacing.2;
    extension_poly = extension.0;
    extension_diffusion = extension.1;
    extension_implant = extension.2;
    cut_size = cut_size;
    cut_enclosure = cut_enclosure;
    extension_buried = pos 0;
    spacing_buried_channel = pos 0;
  })

-- the same with those of buried contacts
unfoldable pub with_buried : Members → Numbers → Result Numbers KeyFault
with_buried top n = do
  extension ← integer_of top 17
  spacing ← integer_of top 18
  Ok (record n { extension_buried = extension; spacing_buried_channel = spacing })

-- all numbers, which are two more in version 2
unfoldable pub numbers_in : Members → Result Numbers KeyFault
numbers_in top = do
  n ← common_in top
  if has_buried n then with_buried top n else Ok n
