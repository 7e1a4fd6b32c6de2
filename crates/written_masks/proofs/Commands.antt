-- The commands of a picture, line by line.
use Rattle.std.proofs.Common.{ℕ, ◌+◌, ℤ, pos, ◌+ℤ◌, ◌-ℤ◌, ◌*ℤ◌, false, Some, List, [], ◌∷◌, ◌++◌, length, map, filter}
use Rattle.std.{proofs.Common.{flat_map, get_or}, specs.List.range_with_len}
use Rattle.lam_geom.specs.declared.boxes.MaskLayer.{MaskLayer}
use Rattle.mask_out.specs.declared.drawing.Call as drawn
use Rattle.mask_out.specs.{Masks.{Mask, is_same_layer, mask_layers}, Pictures.{Drawing, no_drawing}}
use Rattle.cif_lex.specs.declared.{placement.Placement.Placement, command.Command.{Command, TheVariants.Define}}
use Rattle.cif_lex.specs.declared.command.Command.TheVariants.{Finish, Layer, Area, Call, Extension}
use Rattle.cif_lex.proofs.Divisors.{divisor_of_shift}

abbrev pub box_command : Mask → Command
box_command m = Area (pos 2 *ℤ (m.sides.right -ℤ m.sides.left)) (pos 2 *ℤ (m.sides.top -ℤ m.sides.bottom))
    (m.sides.left +ℤ m.sides.right) (m.sides.bottom +ℤ m.sides.top)

-- a layer is named where it has boxes
abbrev pub layer_commands : MaskLayer → List Mask → List Command
layer_commands layer [] = []
layer_commands layer (m ∷ masks) = Layer (Some layer) ∷ map box_command (m ∷ masks)

abbrev pub on_layer : List Mask → MaskLayer → List Mask
on_layer masks layer = filter (λ (m : Mask). is_same_layer layer m.layer) masks

-- the boxes of these layers
abbrev pub layers_commands : List Mask → List MaskLayer → List Command
layers_commands masks layers = flat_map (λ layer. layer_commands layer (on_layer masks layer)) layers

abbrev pub symbol_commands : ℕ → ℤ → List Mask → List Command
symbol_commands number half masks =
    Define (pos number) half (pos 1) ∷ Extension ∷ (layers_commands masks mask_layers ++ (Finish ∷ []))

-- the symbol in position k, from 0
abbrev pub commands_at : ℤ → List Drawing → ℕ → List Command
commands_at half drawings k = symbol_commands (k + 1) half (get_or drawings k no_drawing).masks

abbrev pub symbols_commands : ℤ → List Drawing → List Command
symbols_commands half drawings = flat_map (commands_at half drawings) (range_with_len 0 (length drawings))

-- a shift alone
abbrev pub shift_by : ℤ → ℤ → Placement
shift_by x y = record { turn = 0; x = x; y = y }

abbrev pub call_command : ℤ → drawn.Call → Command
call_command unit call =
    let x = call.x *ℤ unit in
    let y = call.y *ℤ unit in
    Call (pos (call.symbol + 1)) (shift_by x y) false false (divisor_of_shift x y)

abbrev pub picture_commands : ℤ → ℤ → List Drawing → List drawn.Call → List Command
picture_commands unit half drawings calls = symbols_commands half drawings ++ map (call_command unit) calls
