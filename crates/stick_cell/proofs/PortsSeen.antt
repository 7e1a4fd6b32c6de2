-- The ports that are kept of a cell are those of the inlined cell.
use Rattle.std.proofs.Common.{◌≡◌, ℕ, suc, ◌<◌, ◌≤◌, ℤ, true, List, [], ◌∷◌, length, map, refl, sym, ap, ◌∙◌, arith}
use Rattle.std.{proofs.lemmas.Bool.Decides.nat_tests, specs.Prelude.Bool}
use Rattle.rule_table.specs.declared.technology.Tech.{Tech}
use Rattle.cell_model.specs.{declared.cell.{CellPort.CellPort, Port.Port, Wire.Wire}, Sound.wire_at, Ports.seen_port}
use Rattle.cell_model.specs.Ports.{ports_of_cell}
use Rattle.checked_cells.specs.{declared.cells.Cells.Cells, CheckedCell.{CheckedCell, Plug, cell_of, known_at, plug_at}}
use Rattle.checked_cells.specs.{Counts.weight_of, Built.AreBuilt, Ports.{is_light, port_of, ports_of}, Tables.known_of}
use Rattle.checked_cells.{specs.Tables.IsResolved, proofs.{BuiltPlugs.all_wired, StepsInlined.built_cells}}
use Rattle.stick_cell.specs.CellBuilder.{without_wire}

-- each port has the width of its wire
abbrev HaveWidths : List Wire → List Plug → Type 0
HaveWidths wires plugs = (k : ℕ) → k < length plugs
    → (wire_at wires (plug_at plugs k).port.wire).width ≡ (plug_at plugs k).width

-- a port of this width and wire
abbrev at_side : Plug → ℤ → ℕ → CellPort
at_side plug width wire =
    record { side = plug.port.side; layer = plug.port.layer; place = plug.port.place; width = width; wire = wire }

abbrev plug_ports : List Plug → List Port
plug_ports plugs = map (λ plug. plug.port) plugs

light_ports : (wires : List Wire) (plugs : List Plug) → HaveWidths wires plugs
    → map (port_of true) plugs ≡ map (seen_port wires) (plug_ports plugs)
light_ports wires [] h = refl
light_ports wires (plug ∷ plugs) h =
    ap (λ width. at_side plug width plug.port.wire ∷ map (port_of true) plugs) (sym (h 0 (omega arith)))
    ∙ ap (λ (rest : List CellPort). seen_port wires plug.port ∷ rest)
    (light_ports wires plugs (λ k lt. h (suc k) (omega arith)))

all_ports : (light : Bool) (wires : List Wire) (plugs : List Plug) → HaveWidths wires plugs
    → map without_wire (map (port_of light) plugs) ≡ map without_wire (map (seen_port wires) (plug_ports plugs))
all_ports light wires [] h = refl
all_ports light wires (plug ∷ plugs) h =
    ap (λ width. at_side plug width 0 ∷ map without_wire (map (port_of light) plugs)) (sym (h 0 (omega arith)))
    ∙ ap (λ (rest : List CellPort). without_wire (seen_port wires plug.port) ∷ rest)
    (all_ports light wires plugs (λ k lt. h (suc k) (omega arith)))

-- a cell of a design has a wire at each port, of the port's width
widths_of : (tech : Tech) (cells : List CheckedCell) (k : ℕ) → AreBuilt tech cells → k < length cells
    → HaveWidths (known_at cells k).wires (known_at cells k).plugs
widths_of tech cells k are lt j within =
    let known = known_at cells k in
    let built = are.built k lt in
    (built.plugs j within).width (all_wired known.plugs j (are.wired k lt) within)

is_light_of : (known : CheckedCell) → weight_of known ≤ 65536 → is_light known ≡ true
is_light_of known le = grind (arith, nat_tests)

-- of cells that are built one after another
pub light_ports_seen : (tech : Tech) (cells : List CheckedCell) (k : ℕ) → AreBuilt tech cells → k < length cells
    → weight_of (known_at cells k) ≤ 65536
    → ports_of (known_at cells k) ≡ ports_of_cell (cell_of (known_at cells k))
light_ports_seen tech cells k are lt light =
    let known = known_at cells k in
    ap (λ (b : Bool). map (port_of b) known.plugs) (is_light_of known light)
    ∙ light_ports known.wires known.plugs (widths_of tech cells k are lt)

pub light_seen : (cells : Cells) (k : ℕ) → IsResolved cells → k < length (known_of cells)
    → weight_of (known_at (known_of cells) k) ≤ 65536
    → ports_of (known_at (known_of cells) k) ≡ ports_of_cell (cell_of (known_at (known_of cells) k))
light_seen cells k is lt light = light_ports_seen cells.tech (known_of cells) k (built_cells cells is) lt light

pub each_seen : (cells : Cells) (k : ℕ) → IsResolved cells → k < length (known_of cells)
    → map without_wire (ports_of (known_at (known_of cells) k))
    ≡ map without_wire (ports_of_cell (cell_of (known_at (known_of cells) k)))
each_seen cells k is lt =
    let known = known_at (known_of cells) k in all_ports (is_light known) known.wires known.plugs
    (widths_of cells.tech (known_of cells) k (built_cells cells is) lt)
