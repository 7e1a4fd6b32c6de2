-- What the text of a picture means: its boxes, in grains, half hundredths of a micron.
use Rattle.std.specs.Prelude.{◌≡◌, ℕ, ◌+◌, ◌^◌, ◌<◌, ℤ, pos, neg_ℤ, ◌+ℤ◌, ◌-ℤ◌, ◌*ℤ◌, ◌≤ℤ◌, ◌<ℤ◌, ◌≢◌, All, List}
use Rattle.std.specs.{Prelude.{length, map, filter, flat_map, slice_index_or}, List.range_with_len}
use Rattle.mask_out.specs.declared.drawing.Call.{Call}
use Rattle.mask_out.specs.{Masks.{Mask, is_same_layer, mask_layers}, Pictures.{Drawing, no_drawing, flat_of}}
use Rattle.cif_text.specs.Calls.{cif_of}
use Rattle.cif_foreign.specs.Meaning as foreign
use Rattle.cif_read.specs.{Meaning.Means, Hierarchies.{Drawn, Symbol, Step, own, called, Hierarchy, flattened}}

-- ---- pictures whose numbers fit into a text

-- no farther from 0 than the numbers of a text may be
abbrev pub IsNumber : ℤ → Type 0
IsNumber z = (neg_ℤ (pos (2 ^ 30)) ≤ℤ z) × (z ≤ℤ pos (2 ^ 30))

-- u is an even number of hundredths of a micron
pub record IsUnit (unit : ℤ) : Type 0 where
  pub half : ℤ
  pub even : unit ≡ pos 2 *ℤ half
  pub least : pos 1 ≤ℤ half
  pub greatest : half ≤ℤ pos 2048

-- a mask that has an inside, and whose extents and centre, in halves of u, are numbers of a text
pub record IsWritableMask (m : Mask) : Type 0 where
  pub wide : m.sides.left <ℤ m.sides.right
  pub high : m.sides.bottom <ℤ m.sides.top
  pub width : IsNumber (pos 2 *ℤ (m.sides.right -ℤ m.sides.left))
  pub height : IsNumber (pos 2 *ℤ (m.sides.top -ℤ m.sides.bottom))
  pub x : IsNumber (m.sides.left +ℤ m.sides.right)
  pub y : IsNumber (m.sides.bottom +ℤ m.sides.top)

-- A symbol whose name has no semicolon, and whose masks stand layer by layer.
pub record IsWritableDrawing (drawing : Drawing) : Type 0 where
  pub named : All (λ b. b ≢ 59) drawing.name
  pub masks : All IsWritableMask drawing.masks
  pub by_layer : drawing.masks ≡ flat_map (λ layer. filter (λ (m : Mask). is_same_layer layer m.layer) drawing.masks)
      mask_layers

-- a call of one of so many symbols, whose shifts are numbers of a text
pub record IsWritableCall (unit : ℤ) (count : ℕ) (call : Call) : Type 0 where
  pub symbol : call.symbol < count
  pub x : IsNumber (call.x *ℤ unit)
  pub y : IsNumber (call.y *ℤ unit)

pub record IsWritablePicture (unit : ℤ) (drawings : List Drawing) (calls : List Call) : Type 0 where
  pub is_unit : IsUnit unit
  pub few : length drawings < 2 ^ 30
  pub drawn : All IsWritableDrawing drawings
  pub called : All (IsWritableCall unit (length drawings)) calls

-- ---- what is meant

-- a mask in grains
abbrev pub in_grains : ℤ → ℤ → ℤ
in_grains unit z = z *ℤ (pos 2 *ℤ unit)

abbrev pub drawn_mask : ℤ → Mask → Drawn
drawn_mask unit m = record {
  layer = m.layer;
  left = in_grains unit m.sides.left;
  right = in_grains unit m.sides.right;
  bottom = in_grains unit m.sides.bottom;
  top = in_grains unit m.sides.top;
}

-- the symbols are numbered from 1
abbrev pub symbol_at : ℤ → List Drawing → ℕ → Symbol
symbol_at unit drawings k =
    record {
      number = pos (k + 1);
      steps = map own (map (drawn_mask unit) (slice_index_or drawings k no_drawing).masks);
    }

abbrev pub step_of_call : ℤ → Call → Step
step_of_call unit call = called call.symbol (record { turn = 0; x = in_grains unit call.x; y = in_grains unit call.y })

abbrev pub hierarchy_of_picture : ℤ → List Drawing → List Call → Hierarchy
hierarchy_of_picture unit drawings calls =
    record {
      symbols = map (symbol_at unit drawings) (range_with_len 0 (length drawings));
      steps = map (step_of_call unit) calls;
    }

-- The text of a picture means the picture: each symbol and each call of it in grains. So its boxes, one by one, are
-- those of the picture.
pub record TextsMeanTheirPictures : Type 0 where
  pub means : (unit : ℤ) (drawings : List Drawing) (calls : List Call) → IsWritablePicture unit drawings calls
      → Means (cif_of unit drawings calls) (hierarchy_of_picture unit drawings calls)
  pub flat : (unit : ℤ) (drawings : List Drawing) (calls : List Call) → IsWritablePicture unit drawings calls
      → flattened (hierarchy_of_picture unit drawings calls) ≡ map (drawn_mask unit) (flat_of drawings calls)

-- The same to the reader of the texts of other tools: there is a hierarchy that the text means, and its boxes are
-- those of the picture.
abbrev pub TextsMeanTheirPicturesToOthers : Type 0
TextsMeanTheirPicturesToOthers =
    (unit : ℤ) (drawings : List Drawing) (calls : List Call) → IsWritablePicture unit drawings calls
    → (hierarchy : Hierarchy) × foreign.Means (cif_of unit drawings calls) hierarchy
    × (flattened hierarchy ≡ map (drawn_mask unit) (flat_of drawings calls))
