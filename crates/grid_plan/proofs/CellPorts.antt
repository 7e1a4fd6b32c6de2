-- The cells that a design has, and the ports of each.
use Rattle.std.proofs.Common.{◌≡◌, ℕ, ◌<◌, ◌≤◌, List, [], length, map, get_or, sym, ap, subst, ◌∙◌, arith}
use Rattle.std.{proofs.lemmas.List.{get_or-map, length-map}, specs.List.{All, AllByRecursion}}
use Rattle.lam_geom.specs.declared.boxes.Side.{Side}
use Rattle.cell_model.specs.declared.cell.CellPort.{CellPort}
use Rattle.plan_model.specs.Borders.{side_ports}
use Rattle.checked_cells.specs.{declared.cells.Cells.Cells, CheckedCell.{CheckedCell, Plug, begun, known_at, no_plug}}
use Rattle.checked_cells.specs.{Ports.{port_of, ports_of, is_light}, Tables.{known_of, IsResolved}}
use Rattle.checked_cells.proofs.{TableReads.length-known_cells, StepsInlined.built_cells}
use Rattle.list_facts.proofs.Elements.{by_number, all_map, all_of}
use Rattle.grid_plan.specs.Numbered.{ports_of_cells}

pub few_known : (cells : Cells) → IsResolved cells → length (known_of cells) ≤ 256
few_known cells is =
    let e = length-known_cells cells.tech cells.design.now.cells (known_of cells) is.read in
    let few = is.writable.few_cells in
    omega arith

-- the ports of a cell lie near
pub near_ports : (cells : Cells) (k : ℕ) (read : List CellPort) → IsResolved cells → k < length (known_of cells)
    → read ≡ ports_of (known_at (known_of cells) k)
    → All (λ port. port.place ≤ 4095) read
near_ports cells k read is lt e =
    let known = known_at (known_of cells) k in
    let built = (built_cells cells is).built k lt in
    let plugs : AllByRecursion (λ (plug : Plug). plug.port.place ≤ 4095) known.plugs =
    by_number (λ (plug : Plug). plug.port.place ≤ 4095) known.plugs no_plug
    (λ j less. (built.plugs j less).place) in
    let ports = all_of (λ (port : CellPort). port.place ≤ 4095) (ports_of known)
    (all_map (λ (port : CellPort). port.place ≤ 4095) (port_of (is_light known)) known.plugs plugs) in
    let P : List CellPort → Type 0 = All (λ (port : CellPort). port.place ≤ 4095) in
    subst P (sym e) ports

-- the ports of a cell among those of each
pub ports_at : (cells : List CheckedCell) (k : ℕ) → k < length cells
    → get_or (ports_of_cells cells) k [] ≡ ports_of (known_at cells k)
ports_at cells k lt = get_or-map ports_of cells k (begun []) [] lt

-- there is a list of ports for each cell
pub side_count : (cells : List CheckedCell) (side : Side) (sides : List (List CellPort))
    → sides ≡ map (side_ports side) (ports_of_cells cells) → length sides ≡ length cells
side_count cells side sides e = ap length e
    ∙ (length-map (ports_of_cells cells) (side_ports side) ∙ length-map cells ports_of)
