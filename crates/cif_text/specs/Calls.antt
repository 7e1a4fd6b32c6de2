-- The CIF text of a picture: its symbols, numbered from 1, its calls, and the end.
use Rattle.std.specs.Prelude.{ℕ, ◌+◌, ◌^◌, ◌<◌, ◌≤◌, ℤ, ◌*ℤ◌, All, List, [], ◌∷◌, ◌++◌, length, map, codes, flat_map}
use Rattle.std.specs.{Prelude.{decimal, slice_index_or}, Fmt.signed_decimal, List.range_with_len}
use Rattle.lam_geom.specs.Places.{IsPlacedBox}
use Rattle.mask_out.specs.declared.drawing.{Call.Call, Picture.Picture, Symbol.Symbol}
use Rattle.mask_out.specs.Pictures.{Drawing, no_drawing, IsWithin, IsCallOf}
use Rattle.cif_text.specs.Cif.{symbol_text}

-- a symbol by its number, from 1, and how far it is shifted, in hundredths of a micron
abbrev pub call_line : ℕ → ℤ → ℤ → List ℕ
call_line number x y =
    codes "C "
    ++ (decimal number ++ (codes " T " ++ (signed_decimal x ++ (codes " " ++ (signed_decimal y ++ codes ";\n")))))

-- a call, where the unit tells how many hundredths of a micron u has
abbrev pub call_text : ℤ → Call → List ℕ
call_text unit call = call_line (call.symbol + 1) (call.x *ℤ unit) (call.y *ℤ unit)

abbrev pub calls_text : ℤ → List Call → List ℕ
calls_text unit calls = flat_map (call_text unit) calls ++ codes "E\n"

-- the text of the symbol in position k, from 0
abbrev pub text_at : ℤ → List Drawing → ℕ → List ℕ
text_at unit drawings k =
    (let drawing = slice_index_or drawings k no_drawing in symbol_text (k + 1) unit drawing.name drawing.masks)

abbrev pub texts_of : ℤ → List Drawing → List (List ℕ)
texts_of unit drawings = map (text_at unit drawings) (range_with_len 0 (length drawings))

-- the text of each symbol, and that of the calls with the end
abbrev pub parts_of : ℤ → List Drawing → List Call → List (List ℕ)
parts_of unit drawings calls = texts_of unit drawings ++ (calls_text unit calls ∷ [])

abbrev pub cif_of : ℤ → List Drawing → List Call → List ℕ
cif_of unit drawings calls = flat_map (λ part. part) (parts_of unit drawings calls)

-- a symbol whose boxes are places, and whose name fits into a line
pub record CanBeWritten (symbol : Symbol) : Type 0 where
  pub placed : All (λ box. IsPlacedBox box.area) symbol.boxes
  pub named : length symbol.name ≤ 65000

-- a call that is shifted within 2^41 of the origin
pub record IsNear (call : Call) : Type 0 where
  pub x : IsWithin (2 ^ 41) call.x
  pub y : IsWithin (2 ^ 41) call.y

pub record IsWritable (picture : Picture) : Type 0 where
  pub few : length picture.symbols < 2 ^ 32
  pub drawn : All CanBeWritten picture.symbols
  pub called : All (IsCallOf (length picture.symbols)) picture.calls
