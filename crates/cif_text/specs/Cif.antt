-- The CIF text of a symbol.
use Rattle.std.specs.Prelude.{ℕ, ℤ, pos, int_div, ◌+ℤ◌, ◌-ℤ◌, ◌*ℤ◌, List, [], ◌∷◌, ◌++◌, filter, codes, flat_map}
use Rattle.std.specs.{Prelude.decimal, Fmt.signed_decimal}
use Rattle.lam_geom.specs.declared.boxes.MaskLayer.{MaskLayer, TheVariants.{ND, NP, NC, NM, NI, NB}}
use Rattle.mask_out.specs.Masks.{Mask, is_same_layer, mask_layers}

-- a box of CIF: its extents on x and y, and its centre
abbrev pub box_line : ℤ → ℤ → ℤ → ℤ → List ℕ
box_line width height x y =
    codes "B "
    ++ (signed_decimal width
    ++ (codes " "
    ++ (signed_decimal height
    ++ (codes " " ++ (signed_decimal x ++ (codes " " ++ (signed_decimal y ++ codes ";\n")))))))

-- in units of half of u, so nothing is rounded
abbrev pub box_text : Mask → List ℕ
box_text m = box_line (pos 2 *ℤ (m.sides.right -ℤ m.sides.left)) (pos 2 *ℤ (m.sides.top -ℤ m.sides.bottom))
    (m.sides.left +ℤ m.sides.right) (m.sides.bottom +ℤ m.sides.top)

abbrev pub layer_name : MaskLayer → List ℕ
layer_name ND = codes "ND"
layer_name NP = codes "NP"
layer_name NC = codes "NC"
layer_name NM = codes "NM"
layer_name NI = codes "NI"
layer_name NB = codes "NB"

-- a layer is named where it has boxes
abbrev pub layer_text : MaskLayer → List Mask → List ℕ
layer_text layer [] = []
layer_text layer (m ∷ masks) = codes "L " ++ (layer_name layer ++ (codes ";\n" ++ flat_map box_text (m ∷ masks)))

-- the boxes of each layer
abbrev pub layers_text : List Mask → List ℕ
layers_text masks = flat_map (λ layer. layer_text layer (filter (λ (m : Mask). is_same_layer layer m.layer) masks))
    mask_layers

-- the symbol's number and scale
abbrev pub scale_line : ℕ → ℤ → List ℕ
scale_line number unit =
    codes "DS " ++ (decimal number ++ (codes " " ++ (signed_decimal (int_div unit (pos 2)) ++ codes " 1;\n")))

-- the symbol, in units of half of u, of which the unit tells how many hundredths of a micron it has
unfoldable pub symbol_text : ℕ → ℤ → List ℕ → List Mask → List ℕ
symbol_text number unit name masks =
    scale_line number unit ++ (codes "9 " ++ (name ++ (codes ";\n" ++ (layers_text masks ++ codes "DF;\n"))))
