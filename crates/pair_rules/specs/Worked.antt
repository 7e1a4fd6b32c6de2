-- The items and the layouts that the tests type in: metal joints 6 wide on a grid whose columns and rows start 12
-- apart, and wires between them. Variable 0 of an axis is the origin, 1 the far border, then come the centres of the
-- joints, then the places of the wires across it.
use Rattle.std.specs.Prelude.{ℕ, pos, neg_ℤ, ◌+◌, List, [], ◌∷◌}
use Rattle.rule_table.specs.declared.classes.Class.TheVariants.{M}
use Rattle.sym_items.specs.{declared.items.{End.End, Item.Item, Coords.Coords}, Standing.nowhere}

-- half a width below the value of a variable, and half a width above
abbrev pub below : ℕ → End
below v = record { var = v; off = neg_ℤ (pos 3) }

abbrev pub above : ℕ → End
above v = record { var = v; off = pos 3 }

-- a metal box of some owner and net: half a width past its left and right variables of x, and past its low and high
-- ones of y
abbrev pub metal : ℕ → ℕ → ℕ → ℕ → ℕ → ℕ → Item
metal owner net left right low high =
    record {
      class = M;
      net = net;
      owner = owner;
      xl = below left;
      xh = above right;
      yl = below low;
      yh = above high;
      least_x = pos 6;
      least_y = pos 6;
      at_low = nowhere;
      at_high = nowhere;
    }

abbrev pub joint : ℕ → ℕ → Item
joint owner net = metal owner net (2 + owner) (2 + owner) (2 + owner) (2 + owner)

-- three joints in a row, each of a net of its own
abbrev pub row_of_three : List Item
row_of_three = joint 0 0 ∷ joint 1 1 ∷ joint 2 2 ∷ []

abbrev pub row_start : Coords
row_start =
    record { x = pos 0 ∷ pos 48 ∷ pos 12 ∷ pos 24 ∷ pos 36 ∷ []; y = pos 0 ∷ pos 24 ∷ pos 12 ∷ pos 12 ∷ pos 12 ∷ [] }

-- two columns of two joints, with a wire up each column
abbrev pub two_columns : List Item
two_columns = joint 0 0 ∷ joint 1 0 ∷ joint 2 1 ∷ joint 3 1 ∷ metal 4 0 6 6 2 3 ∷ metal 5 1 7 7 4 5 ∷ []

abbrev pub columns_start : Coords
columns_start =
    record {
      x = pos 0 ∷ pos 36 ∷ pos 12 ∷ pos 12 ∷ pos 24 ∷ pos 24 ∷ pos 12 ∷ pos 24 ∷ [];
      y = pos 0 ∷ pos 36 ∷ pos 12 ∷ pos 24 ∷ pos 12 ∷ pos 24 ∷ [];
    }
