-- The ports of a cell as its neighbours in a grid see them.
use Rattle.std.specs.Prelude.{List, map}
use Rattle.cell_model.specs.{declared.cell.{Cell.Cell, CellPort.CellPort, Port.Port, Wire.Wire}, Sound.wire_at}

-- a port, with the width of its wire
abbrev pub seen_port : List Wire → Port → CellPort
seen_port wires port =
    record {
      side = port.side;
      layer = port.layer;
      place = port.place;
      width = (wire_at wires port.wire).width;
      wire = port.wire;
    }

abbrev pub ports_of_cell : Cell → List CellPort
ports_of_cell cell = map (seen_port cell.wires) cell.ports
