-- The items and the layout that the tests type in: a diffusion contact, a metal joint to the right of it, and a
-- window and an implant round these. And a picture of two symbols and three calls.
use Rattle.std.specs.Prelude.{ℕ, ℤ, pos, neg_ℤ, List, [], ◌∷◌, codes}
use Rattle.lam_geom.specs.declared.boxes.MaskLayer.{MaskLayer, TheVariants.{ND, NM}}
use Rattle.rule_table.specs.declared.classes.Class.{Class, TheVariants.{M, C, Dm, Dc, I, B}}
use Rattle.sym_items.specs.{declared.items.{End.End, Item.Item, Coords.Coords}, Standing.nowhere}
use Rattle.mask_out.specs.{declared.drawing.Call.Call, Masks.Mask, Pictures.Drawing}

abbrev pub below : ℕ → ℕ → End
below v half = record { var = v; off = neg_ℤ (pos half) }

abbrev pub above : ℕ → ℕ → End
above v half = record { var = v; off = pos half }

-- a square on an x variable and y variable 2
abbrev pub square : Class → ℕ → ℕ → Item
square class v half =
    record {
      class = class;
      net = 0;
      owner = 0;
      xl = below v half;
      xh = above v half;
      yl = below 2 half;
      yh = above 2 half;
      least_x = pos 4;
      least_y = pos 4;
      at_low = nowhere;
      at_high = nowhere;
    }

abbrev pub squares : List Item
squares = square B 2 6 ∷ square M 2 4 ∷ square C 2 2 ∷ square Dm 2 4 ∷ square Dc 2 4 ∷ square M 3 3 ∷ square I 3 5 ∷ []

abbrev pub layout : Coords
layout = record { x = pos 0 ∷ pos 48 ∷ pos 12 ∷ pos 30 ∷ []; y = pos 0 ∷ pos 24 ∷ pos 12 ∷ [] }

-- ---- a picture

abbrev pub mask : MaskLayer → ℤ → ℤ → ℤ → ℤ → Mask
mask layer left right bottom top =
    record { layer = layer; sides = record { left = left; right = right; bottom = bottom; top = top } }

abbrev pub call : ℕ → ℤ → ℤ → Call
call symbol x y = record { symbol = symbol; x = x; y = y }

-- a joint of metal; metal with diffusion inside it
abbrev pub joint : Drawing
joint = record { name = codes "a"; masks = mask NM (pos 0) (pos 6) (pos 0) (pos 6) ∷ [] }

abbrev pub pair : Drawing
pair = record {
  name = codes "b";
  masks = mask ND (pos 1) (pos 5) (pos 2) (pos 4) ∷ mask NM (pos 0) (pos 6) (pos 0)
      (pos 8) ∷ [];
}

abbrev pub drawings : List Drawing
drawings = joint ∷ pair ∷ []

abbrev pub calls : List Call
calls = call 0 (pos 0) (pos 0) ∷ call 1 (pos 38) (pos 0) ∷ call 0 (pos 6) (pos 27) ∷ []
