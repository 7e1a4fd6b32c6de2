-- The table of a cell after its last line, and its ports.
use Rattle.std.proofs.Common.{◌≡◌, ℕ, ◌<◌, ◌≤◌, true, false, List, [], ◌∷◌, map, length, sum_by, refl, sym, ap, ◌∙◌}
use Rattle.std.proofs.{Common.arith, lemmas.{Bool.Decides.nat_tests, List.Sums.sum_by-cons}}
use Rattle.std.{proofs.Common.{Vec, Global}, specs.List.AllByRecursion}
use Rattle.rule_table.specs.declared.classes.Layer.{Layer, TheVariants.{Diffusion, Poly, Metal}}
use Rattle.cell_model.specs.{declared.cell.{Wire.Wire, CellPort.CellPort}, Counts.{items_in, layer_items, wire_items}}
use Rattle.stick_cell.specs.declared.builder.CellBuilder.{CellBuilder}
use Rattle.stick_cell.specs.CellBuilder.{IsCellBuilder, IsWiredBelow, port_so_far, without_wire}
use Rattle.checked_cells.specs.{CheckedCell.{CheckedCell, Plug}, Counts.{weight_of, capped}, Ports.{port_of, ports_of}}
use Rattle.checked_cells.specs.{Ports.is_light, Tables.Tells, declared.{table.Table.Table, sides.SideMap.SideMap}}

-- what is told of a table says nothing of its sides and ports
pub tells_still : (known : CheckedCell) (table : Table) (sides : SideMap) (ports : Vec CellPort Global)
    → Tells known table → Tells known (record table { sides = sides; ports = ports })
tells_still known table sides ports told =
    record {
      name = told.name;
      names = told.names;
      nodes = told.nodes;
      wires = told.wires;
      weight = told.weight;
      boxes = told.boxes;
      most_col = told.most_col;
      most_row = told.most_row;
      depth = told.depth;
    }

forgotten_plugs : (plugs : List Plug) → map without_wire (map port_so_far plugs) ≡ map (port_of false) plugs
forgotten_plugs [] = refl
forgotten_plugs (plug ∷ plugs) = ap (λ rest. port_of false plug ∷ rest) (forgotten_plugs plugs)

told_plugs : (count : ℕ) (plugs : List Plug) → count ≤ 65536 → AllByRecursion (IsWiredBelow count) plugs
    → map port_so_far plugs ≡ map (port_of true) plugs
told_plugs count [] few all = refl
told_plugs count (plug ∷ plugs) few all =
    let told : capped plug.port.wire ≡ plug.port.wire = omega (arith, all.0) in
    let wired : ℕ → CellPort =
    λ wire. record {
      side = plug.port.side;
      layer = plug.port.layer;
      place = plug.port.place;
      width = plug.width;
      wire = wire;
    } in
    ap (λ wire. wired wire ∷ map port_so_far plugs) told
    ∙ ap (λ rest. port_of true plug ∷ rest) (told_plugs count plugs few all.1)

is_heavy : (known : CheckedCell) (weight : ℕ) → weight ≡ capped (weight_of known) → 65536 < weight
    → is_light known ≡ false
is_heavy known weight is lt = let more : 65536 < weight_of known = omega arith in grind (arith, nat_tests)

light_from : (known : CheckedCell) (weight : ℕ) → weight ≡ capped (weight_of known) → weight ≤ 65536
    → is_light known ≡ true
light_from known weight is le = let few : weight_of known ≤ 65536 = omega arith in grind (arith, nat_tests)

one_or_more : (layer : Layer) → 1 ≤ layer_items layer
one_or_more Diffusion = omega arith
one_or_more Poly = omega arith
one_or_more Metal = omega arith

items_of_wires : (wires : List Wire) → length wires ≤ sum_by wire_items wires
items_of_wires [] = omega arith
items_of_wires (wire ∷ wires) =
    omega (arith, sum_by-cons wire_items wire wires, one_or_more wire.layer, items_of_wires wires)

-- a cell has no more wires than its weight
wires_below : (known : CheckedCell) → length known.wires ≤ weight_of known
unfolding weight_of items_in
wires_below known = omega (arith, items_of_wires known.wires)

-- where the cell may not be inlined they have no numbers of wires
pub ports-forgotten : (cells : List CheckedCell) (known : CheckedCell) (builder : CellBuilder) (ports : List CellPort)
    → IsCellBuilder cells known builder → 65536 < builder.table.weight
    → ports ≡ map without_wire builder.table.ports.items → ports ≡ ports_of known
ports-forgotten cells known builder ports is lt e =
    e ∙ ap (map without_wire) is.ports ∙ forgotten_plugs known.plugs
    ∙ ap (λ light. map (port_of light) known.plugs) (sym (is_heavy known builder.table.weight is.tells.weight lt))

-- and else they have
pub ports-told : (cells : List CheckedCell) (known : CheckedCell) (builder : CellBuilder)
    → IsCellBuilder cells known builder → builder.table.weight ≤ 65536 → builder.table.ports.items ≡ ports_of known
ports-told cells known builder is le =
    let few : length known.wires ≤ 65536 = omega (arith, wires_below known, is.tells.weight) in
    is.ports ∙ told_plugs (length known.wires) known.plugs few is.below
    ∙ ap (λ light. map (port_of light) known.plugs)
    (sym (light_from known builder.table.weight is.tells.weight le))
