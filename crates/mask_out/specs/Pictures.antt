-- The picture of a plan: a symbol for each master, and a call for each instance. And its boxes, one by one.
use Rattle.std.specs.Prelude.{◌≡◌, ℕ, ◌^◌, ◌<◌, ◌≤◌, ℤ, pos, neg_ℤ, ◌+ℤ◌, ◌≤ℤ◌, All, List, [], length, map, flat_map}
use Rattle.std.specs.{Prelude.slice_index_or, List.{sum_by, zip}}
use Rattle.sym_items.specs.{declared.items.Coords.Coords, Boxes.HasBox, Layouts.layout_at, Sides.Sides}
use Rattle.expand.specs.declared.master.Master.{Master}
use Rattle.plan_model.specs.Instances.{InstancePlace, grid_at, master_at_spot, spots_of, left_in_row, bottom_in_grid}
use Rattle.plan_model.specs.{Instances.{left_of_grid, left_of, bottom_of}, Rows.row_at}
use Rattle.mask_out.specs.{Masks.{Mask, mask_of, masks_in}, declared.drawing.{Symbol.Symbol, Call.Call}}

-- ---- symbols

-- a symbol by its name and its masks
pub record Drawing : Type 0 where
  pub name : List ℕ
  pub masks : List Mask

abbrev pub drawing_of : Symbol → Drawing
drawing_of symbol = record { name = symbol.name; masks = map mask_of symbol.boxes }

-- that of a master in its layout, and those of all masters
abbrev pub drawing_in : Master × Coords → Drawing
drawing_in drawn = record { name = drawn.0.cell.name; masks = masks_in drawn.1 drawn.0.items.list }

abbrev pub drawings_in : List Master → List Coords → List Drawing
drawings_in masters layouts = map drawing_in (zip masters layouts)

-- that of master m
abbrev pub IsDrawingAt : List Master → List Coords → ℕ → Drawing → Type 0
IsDrawingAt masters layouts m drawing =
    (d : Master) → drawing ≡ drawing_in (slice_index_or masters m d, layout_at layouts m)

-- each item of each master has a box in the master's layout
abbrev pub HaveBoxes : List Coords → List Master → Type 0
HaveBoxes layouts masters = (m : ℕ) (d : Master) → m < length masters
    → All (HasBox (layout_at layouts m)) (slice_index_or masters m d).items.list

-- ---- calls

-- an instance calls its master's symbol to where the instance stands
abbrev pub call_at : (ℕ → ℤ) → (ℕ → ℤ) → ℤ → List (List (List ℕ)) → InstancePlace → Call
call_at width height widest grids spot =
    record {
      symbol = master_at_spot grids spot;
      x = left_of width widest grids spot;
      y = bottom_of height grids spot;
    }

-- grids in order, of each the rows from the bottom, and each row from the left
abbrev pub calls_of : (ℕ → ℤ) → (ℕ → ℤ) → ℤ → List (List (List ℕ)) → List Call
calls_of width height widest grids = map (call_at width height widest grids) (spots_of grids)

-- ---- sums of widths and of heights that can be reckoned with

abbrev pub IsInReach : ℤ → Type 0
IsInReach z = (pos 0 ≤ℤ z) × (z ≤ℤ pos (2 ^ 40))

-- the widths of the first instances of a row, together
abbrev pub IsRowInReach : (ℕ → ℤ) → List ℕ → Type 0
IsRowInReach width row = (c : ℕ) → c ≤ length row → IsInReach (left_in_row width row c)

pub record IsGridInReach (width height : ℕ → ℤ) (rows : List (List ℕ)) : Type 0 where
  pub across : (r : ℕ) → r < length rows → IsRowInReach width (row_at rows r)
  pub up : (r : ℕ) → r ≤ length rows → IsInReach (bottom_in_grid height rows r)

-- the places of all instances, and the ends of all rows and columns
pub record IsDrawable (width height : ℕ → ℤ) (widest : ℤ) (grids : List (List (List ℕ))) : Type 0 where
  pub each : (g : ℕ) → g < length grids → IsGridInReach width height (grid_at grids g)
  pub across : (g : ℕ) → g < length grids → IsInReach (left_of_grid width widest grids g)

-- ---- the boxes of a picture

-- so far to the right and so far up
abbrev pub shifted_sides : ℤ → ℤ → Sides → Sides
shifted_sides x y s = record { left = x +ℤ s.left; right = x +ℤ s.right; bottom = y +ℤ s.bottom; top = y +ℤ s.top }

abbrev pub shifted : Call → Mask → Mask
shifted call m = record { layer = m.layer; sides = shifted_sides call.x call.y m.sides }

-- the masks of the symbol with this number, and of a call
abbrev pub no_drawing : Drawing
no_drawing = record { name = []; masks = [] }

abbrev pub masks_at : List Drawing → ℕ → List Mask
masks_at drawings n = (slice_index_or drawings n no_drawing).masks

abbrev pub masks_called : List Drawing → Call → List Mask
masks_called drawings call = map (shifted call) (masks_at drawings call.symbol)

-- call by call
abbrev pub flat_of : List Drawing → List Call → List Mask
flat_of drawings calls = flat_map (masks_called drawings) calls

-- within so much of the origin, on either side
abbrev pub IsWithin : ℕ → ℤ → Type 0
IsWithin reach z = (neg_ℤ (pos reach) ≤ℤ z) × (z ≤ℤ pos reach)

pub record LiesWithin (reach : ℕ) (m : Mask) : Type 0 where
  pub left : IsWithin reach m.sides.left
  pub right : IsWithin reach m.sides.right
  pub bottom : IsWithin reach m.sides.bottom
  pub top : IsWithin reach m.sides.top

-- a call of one of so many symbols, which is shifted by two sums in reach at most
pub record IsCallOf (count : ℕ) (call : Call) : Type 0 where
  pub symbol : call.symbol < count
  pub x : IsWithin (2 ^ 41) call.x
  pub y : IsWithin (2 ^ 41) call.y

-- a picture whose symbols lie within 2^40 of the origin
pub record CanBeFlattened (drawings : List Drawing) (calls : List Call) : Type 0 where
  pub near : All (λ drawing. All (LiesWithin (2 ^ 40)) drawing.masks) drawings
  pub called : All (IsCallOf (length drawings)) calls

-- how many boxes the symbols of all calls have
abbrev pub boxes_called : List Drawing → List Call → ℕ
boxes_called drawings calls = sum_by (λ (call : Call). length (masks_at drawings call.symbol)) calls
