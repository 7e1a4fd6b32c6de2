-- The text of a netlist: a head, a line for each net, and a line for each device. Lengths are in grains, half
-- hundredths of a micron.
use Rattle.std.specs.Prelude.{ℕ, ◌+◌, ◌==◌, ◌&&◌, Bool, true, false, List, [], ◌∷◌, ◌++◌, length, count_by, flat_map}
use Rattle.std.specs.{Prelude.{codes, decimal, if◌then◌else◌}, Fmt.signed_decimal, List.range_with_len}
use Rattle.lam_geom.specs.declared.boxes.{MaskBox.MaskBox, MaskLayer.{MaskLayer, TheVariants.{ND, NP, NM}}}
use Rattle.crossing_model.specs.Boxes.{layer_at}
use Rattle.net_model.specs.declared.netlist.{Device.Device, Netlist.Netlist, Piece.Piece}

-- ---- the pieces of a net

abbrev pub is_diffusion : MaskLayer → Bool
is_diffusion ND = true
is_diffusion layer = false

abbrev pub is_poly : MaskLayer → Bool
is_poly NP = true
is_poly layer = false

abbrev pub is_metal : MaskLayer → Bool
is_metal NM = true
is_metal layer = false

-- how many pieces of a net are of boxes on such a layer, by the layer of each box
abbrev pub pieces_on : (MaskLayer → Bool) → (ℕ → MaskLayer) → List Piece → ℕ → ℕ
pieces_on is_layer layer pieces net =
    count_by (λ (piece : Piece). (piece.net == net) && is_layer (layer piece.box_no)) pieces

-- ---- lines

abbrev pub head_line : ℕ → ℕ → List ℕ
head_line nets devices = codes "nets " ++ (decimal nets ++ (codes " devices " ++ (decimal devices ++ (10 ∷ []))))

-- how many pieces there are by layer
abbrev pub layer_words : ℕ → ℕ → ℕ → List ℕ
layer_words diffusion poly metal =
    codes " nd " ++ (decimal diffusion ++ (codes " np " ++ (decimal poly ++ (codes " nm " ++ decimal metal))))

-- a net with its counts
abbrev pub net_words : ℕ → ℕ → ℕ → ℕ → List ℕ
net_words net diffusion poly metal = codes "net " ++ (decimal net ++ layer_words diffusion poly metal)

abbrev pub words_of_net : (ℕ → MaskLayer) → List Piece → ℕ → List ℕ
words_of_net layer pieces net =
    net_words net (pieces_on is_diffusion layer pieces net) (pieces_on is_poly layer pieces net)
    (pieces_on is_metal layer pieces net)

abbrev pub line_of_net : List MaskBox → List Piece → ℕ → List ℕ
line_of_net boxes pieces net = words_of_net (layer_at boxes) pieces net ++ (10 ∷ [])

abbrev pub kind_word : Bool → List ℕ
kind_word depletion = if depletion then codes "dep" else codes "enh"

-- the number, kind and size of a device
abbrev pub size_words : ℕ → Device → List ℕ
size_words j d =
    codes "device "
    ++ (decimal j
    ++ (codes " "
    ++ (kind_word d.depletion ++ (codes " w " ++ (signed_decimal d.w ++ (codes " l " ++ signed_decimal d.l))))))

-- the nets of its terminals
abbrev pub terminal_words : ℕ → ℕ → ℕ → List ℕ
terminal_words gate low high =
    codes " gate " ++ (decimal gate ++ (codes " low " ++ (decimal low ++ (codes " high " ++ decimal high))))

-- the low corner of its channel
abbrev pub place_words : Device → List ℕ
place_words d =
    codes " at " ++ (signed_decimal d.channel.x.lo ++ (codes " " ++ (signed_decimal d.channel.y.lo ++ (10 ∷ []))))

abbrev pub device_line : ℕ → Device → List ℕ
device_line j d = size_words j d ++ (terminal_words d.gate d.low d.high ++ place_words d)

-- devices, numbered from j on
abbrev pub device_lines : ℕ → List Device → List ℕ
device_lines j [] = []
device_lines j (d ∷ devices) = device_line j d ++ device_lines (j + 1) devices

unfoldable pub text_of_netlist : List MaskBox → Netlist → List ℕ
text_of_netlist boxes list =
    head_line list.nets (length list.devices)
    ++ (flat_map (line_of_net boxes list.pieces) (range_with_len 0 list.nets) ++ device_lines 0 list.devices)
