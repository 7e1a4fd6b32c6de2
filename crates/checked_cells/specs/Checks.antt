-- The checks on names, places and sizes.
use Rattle.std.specs.Prelude.{ℕ, ◌%◌, ◌==◌, ◌&&◌, Bool, nat_le, nat_lt, ℤ, pos, int_le, List, Option, Some}
use Rattle.std.specs.Prelude.{None, is_none, Result, Ok}
use Rattle.rule_table.specs.declared.{technology.Tech.Tech, classes.Layer.{Layer, TheVariants.{Diffusion, Poly, Metal}}}
use Rattle.rule_table.specs.Technology.{width_of}
use Rattle.stick_text.specs.declared.fault.StickKind.{StickKind, TheVariants.{BadSize, NarrowWire}}
use Rattle.stick_text.specs.{declared.design.Layer.Layer as DrawnLayer, Reading.{◌>>=◌, demand}}
use Rattle.stick_text.specs.declared.design.Layer.TheVariants as drawn
use Rattle.checked_cells.specs.Paths.{Names, named}

-- the technology's layer that a stick text names
abbrev pub layer_of : DrawnLayer → Layer
layer_of drawn.Diffusion = Diffusion
layer_of drawn.Poly = Poly
layer_of drawn.Metal = Metal

-- the name is not among these
abbrev pub is_fresh : Names → List ℕ → Bool
is_fresh table name = is_none (named table name)

-- a column, a row or a place is not too far out
abbrev pub is_place : ℕ → Bool
is_place n = nat_le n 4095

-- a size is even and not too large
abbrev pub is_even_size : ℕ → Bool
is_even_size n = (n % 2 == 0) && nat_le n 4096

-- the width that is given, which is even, not 0, not too large and no less than the layer's, or else the layer's
unfoldable pub sized : Tech → Layer → Option ℕ → Result ℤ StickKind
sized tech layer None = Ok (width_of tech layer)
sized tech layer (Some width) = do
  even ← demand (is_even_size width && nat_lt 0 width) BadSize
  wide ← demand (int_le (width_of tech layer) (pos width)) NarrowWire
  Ok (pos width)

-- the sizes of a transistor: even, not too large, and no less than the widths of diffusion and poly
abbrev pub is_channel : Tech → ℕ → ℕ → Bool
is_channel tech w l = (is_even_size w && is_even_size l)
    && (int_le (width_of tech Diffusion) (pos w) && int_le (width_of tech Poly) (pos l))
