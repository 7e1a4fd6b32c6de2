-- The ports of a side in order, and which of them meet at a border.
use Rattle.std.specs.Prelude.{◌≡◌, ℕ, ◌==◌, ◌+◌, ◌*◌, ◌&&◌, Option, Some, None, Bool, true, false, suc, List, [], ◌∷◌}
use Rattle.std.specs.{Prelude.{map, filter, flat_map, if◌then◌else◌, slice_index_or}, Ordering.int_eq, List.AllZip}
use Rattle.std.specs.{List.{range_with_len, zip}, Option.option_map}
use Rattle.lam_geom.specs.declared.boxes.{Axis.{Axis, TheVariants.{X, Y}}, Side.{Side, TheVariants.{Left, Right}}}
use Rattle.lam_geom.specs.declared.boxes.Side.TheVariants.{Bottom, Top}
use Rattle.rule_table.specs.declared.classes.Layer.{Layer, TheVariants.{Diffusion, Poly, Metal}}
use Rattle.cell_model.specs.{declared.cell.CellPort.CellPort, Wiring.is_same_layer}
use Rattle.plan_model.specs.declared.plan.Match.{Match}

-- ---- the ports of a side

abbrev pub is_same_side : Side → Side → Bool
is_same_side Left Left = true
is_same_side Right Right = true
is_same_side Bottom Bottom = true
is_same_side Top Top = true
is_same_side a b = false

-- diffusion before poly before metal
abbrev pub layer_rank : Layer → ℕ
layer_rank Diffusion = 0
layer_rank Poly = 1
layer_rank Metal = 2

-- ports of lesser place come first, and of one place those of lesser layer
abbrev pub port_rank : CellPort → ℕ
port_rank port = port.place * 3 + layer_rank port.layer

-- places end at 4095
abbrev pub port_ranks : List ℕ
port_ranks = range_with_len 0 12288

abbrev pub has_rank : ℕ → CellPort → Bool
has_rank rank port = port_rank port == rank

-- ports in order of place, of layer, and of their lines
unfoldable pub in_order : List CellPort → List CellPort
in_order ports = flat_map (λ rank. filter (has_rank rank) ports) port_ranks

abbrev pub is_on_side : Side → CellPort → Bool
is_on_side side port = is_same_side port.side side

-- the ports of a side in order
abbrev pub side_ports : Side → List CellPort → List CellPort
side_ports side ports = in_order (filter (is_on_side side) ports)

-- ---- a border

-- Where two instances stand beside one another, their ports share values of y; where one stands above the other, of
-- x. The sides that meet: that of the left or lower instance, and that of the other.
abbrev pub side_before : Axis → Side
side_before X = Top
side_before Y = Right

abbrev pub side_after : Axis → Side
side_after X = Bottom
side_after Y = Left

-- the ports of master m, from those of each
abbrev pub ports_of_master : List (List CellPort) → ℕ → List CellPort
ports_of_master ports m = slice_index_or ports m []

abbrev pub ports_before : Axis → List (List CellPort) → ℕ × ℕ → List CellPort
ports_before axis ports pair = side_ports (side_before axis) (ports_of_master ports pair.0)

abbrev pub ports_after : Axis → List (List CellPort) → ℕ × ℕ → List CellPort
ports_after axis ports pair = side_ports (side_after axis) (ports_of_master ports pair.1)

-- two ports may meet: they have one layer, and their wires one width
abbrev pub may_meet : CellPort → CellPort → Bool
may_meet a b = is_same_layer a.layer b.layer && int_eq a.width b.width

-- the first position at which two lists of ports do not fit: the ports there may not meet, or one list has ended
abbrev pub misfit : List CellPort → List CellPort → Option ℕ
misfit [] [] = None
misfit [] (b ∷ bs) = Some 0
misfit (a ∷ more) [] = Some 0
misfit (a ∷ more) (b ∷ bs) = if may_meet a b then option_map suc (misfit more bs) else Some 0

-- two masters fit at a border
abbrev pub misfit_at : Axis → List (List CellPort) → ℕ × ℕ → Option ℕ
misfit_at axis ports pair = misfit (ports_before axis ports pair) (ports_after axis ports pair)

abbrev pub FitsAt : Axis → List (List CellPort) → ℕ × ℕ → Type 0
FitsAt axis ports pair = misfit_at axis ports pair ≡ None

-- the ports of two masters that meet at a border
abbrev pub meeting_ports : Axis → List (List CellPort) → ℕ × ℕ → List (CellPort × CellPort)
meeting_ports axis ports pair = zip (ports_before axis ports pair) (ports_after axis ports pair)

abbrev pub match_of : ℕ × ℕ → CellPort × CellPort → Match
match_of pair met = record { a = pair.0; a_wire = met.0.wire; b = pair.1; b_wire = met.1.wire }

abbrev pub matches_at : Axis → List (List CellPort) → ℕ × ℕ → List Match
matches_at axis ports pair = map (match_of pair) (meeting_ports axis ports pair)
