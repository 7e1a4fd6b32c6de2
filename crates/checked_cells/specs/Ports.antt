-- The ports of a cell as its neighbours see them.
use Rattle.std.specs.Prelude.{nat_le, Bool, List, map, if◌then◌else◌}
use Rattle.cell_model.specs.declared.cell.CellPort.{CellPort}
use Rattle.checked_cells.specs.{CheckedCell.{CheckedCell, Plug}, Counts.weight_of}

-- whether the cell may be inlined
abbrev pub is_light : CheckedCell → Bool
is_light known = nat_le (weight_of known) 65536

-- the wire's number is told where the cell may be inlined, and else 0
abbrev pub port_of : Bool → Plug → CellPort
port_of light plug =
    record {
      side = plug.port.side;
      layer = plug.port.layer;
      place = plug.port.place;
      width = plug.width;
      wire = if light then plug.port.wire else 0;
    }

abbrev pub ports_of : CheckedCell → List CellPort
ports_of known = map (port_of (is_light known)) known.plugs
