-- What a CIF text draws: symbols, and what stands at the top. A call turns and shifts a symbol, and may stand in a
-- symbol. Lengths are in grains, half hundredths of a micron.
use Rattle.std.specs.Prelude.{ℕ, ◌+◌, ℤ, ◌+ℤ◌, max, List, [], ◌∷◌, ◌++◌, map, flat_map, fold, slice_index_or}
use Rattle.std.specs.Int.{int_min, int_max}
use Rattle.lam_geom.specs.declared.boxes.MaskLayer.{MaskLayer}
use Rattle.cif_lex.specs.{declared.placement.Placement.Placement, Transformations.placed}

-- a box on a layer that is kept, by its four sides
pub record Drawn : Type 0 where
  pub layer : MaskLayer
  pub left : ℤ
  pub right : ℤ
  pub bottom : ℤ
  pub top : ℤ

-- a box, or the symbol in this position, turned and shifted
pub data Step : Type 0 where
  own : Drawn → Step
  called : ℕ → Placement → Step

-- a symbol, by its number
pub record Symbol : Type 0 where
  pub number : ℤ
  pub steps : List Step

-- symbols in the order of their definitions, steps in the order of the text
pub record Hierarchy : Type 0 where
  pub symbols : List Symbol
  pub steps : List Step

-- ---- all boxes, one by one

-- a box that is turned and shifted: its corners are, and it lies between them
abbrev pub placed_box : Placement → Drawn → Drawn
placed_box place box =
    let p = placed place (box.left, box.bottom) in
    let q = placed place (box.right, box.top) in
    record {
      layer = box.layer;
      left = int_min p.0 q.0;
      right = int_max p.0 q.0;
      bottom = int_min p.1 q.1;
      top = int_max p.1 q.1;
    }

-- one that is only shifted, so far to the right and so far up
abbrev pub moved : ℤ → ℤ → Drawn → Drawn
moved x y box =
    record {
      layer = box.layer;
      left = box.left +ℤ x;
      right = box.right +ℤ x;
      bottom = box.bottom +ℤ y;
      top = box.top +ℤ y;
    }

-- the boxes of a step and of steps, where those of each symbol are these
abbrev pub boxes_of_step : List (List Drawn) → Step → List Drawn
boxes_of_step boxes (own box) = box ∷ []
boxes_of_step boxes (called symbol place) = map (placed_box place) (slice_index_or boxes symbol [])

abbrev pub boxes_of_steps : List (List Drawn) → List Step → List Drawn
boxes_of_steps boxes steps = flat_map (boxes_of_step boxes) steps

-- the boxes of each symbol, from the first: a symbol calls those before it
abbrev pub then_boxes : List (List Drawn) → Symbol → List (List Drawn)
then_boxes boxes symbol = boxes ++ (boxes_of_steps boxes symbol.steps ∷ [])

abbrev pub boxes_of_symbols : List Symbol → List (List Drawn)
boxes_of_symbols symbols = fold then_boxes [] symbols

-- step by step, calls in place
abbrev pub flattened : Hierarchy → List Drawn
flattened hierarchy = boxes_of_steps (boxes_of_symbols hierarchy.symbols) hierarchy.steps

-- ---- depth

-- that of a step's symbol, where those of the symbols are these; and one more than the greatest of some steps
abbrev pub depth_of_step : List ℕ → Step → ℕ
depth_of_step depths (own box) = 0
depth_of_step depths (called symbol place) = slice_index_or depths symbol 0

abbrev pub depth_of_steps : List ℕ → List Step → ℕ
depth_of_steps depths steps = fold max 0 (map (depth_of_step depths) steps) + 1

-- the depth of each symbol, from the first: that of one without calls is 1
abbrev pub then_depth : List ℕ → Symbol → List ℕ
then_depth depths symbol = depths ++ (depth_of_steps depths symbol.steps ∷ [])

abbrev pub depths_of : List Symbol → List ℕ
depths_of symbols = fold then_depth [] symbols

-- the greatest depth of a symbol
abbrev pub most_depth : ℕ
most_depth = 64
