-- Cells typed in, with the technologies that the program ships with: a transistor alone, a metal wire between two
-- joints, a poly wire from side to side, a part of an inverter, and a buried contact with a wire of each layer.
use Rattle.std.specs.Prelude.{ℕ, pos, false, [], ◌∷◌}
use Rattle.rule_table.specs.declared.classes.Layer.TheVariants.{Diffusion, Poly, Metal}
use Rattle.lam_geom.specs.declared.boxes.Side.TheVariants.{Left, Right}
use Rattle.cell_model.specs.declared.cell.{Axis2.TheVariants.{Across, Up}, NodeKind.{NodeKind, TheVariants.Joint}}
use Rattle.cell_model.specs.declared.cell.{NodeKind.TheVariants.{Contact, Buried, Fet}, Node.Node, Cell.Cell}
use Rattle.cell_model.specs.declared.cell.WireEnd.TheVariants as ends

abbrev pub node : NodeKind → ℕ → ℕ → Node
node kind col row = record { name = []; kind = kind; col = col; row = row }

-- a transistor alone: fet f enh h 0 0 4 4
abbrev pub transistor : Cell
transistor =
    record {
      name = [];
      nodes = node (Fet false Across (pos 4) (pos 4)) 0 0 ∷ [];
      wires = [];
      ports = [];
      limits = [];
    }

-- two metal joints in a column and the wire between them
abbrev pub column : Cell
column = record {
  name = [];
  nodes = node (Joint Metal (pos 6)) 0 0 ∷ node (Joint Metal (pos 8)) 0 1 ∷ [];
  wires = (record { layer = Metal; width = pos 6; low = ends.Node 0; high = ends.Node 1; along = Up }) ∷ [];
  ports = [];
  limits = [];
}

-- a poly wire from the left side to the right
abbrev pub through : Cell
through = record {
  name = [];
  nodes = [];
  wires = (record { layer = Poly; width = pos 4; low = ends.Port 0; high = ends.Port 1; along = Across }) ∷ [];
  ports = (record { name = []; side = Left; layer = Poly; place = 0; wire = 0 }) ∷
      (record { name = []; side = Right; layer = Poly; place = 0; wire = 0 }) ∷ [];
  limits = [];
}

-- the first nodes and wires of an inverter: a diffusion contact below a transistor whose gate runs across, and a
-- depletion one above
abbrev pub inverter : Cell
inverter = record {
  name = [];
  nodes = node (Contact Diffusion) 0 0 ∷ node (Fet false Across (pos 8) (pos 4)) 0 1 ∷ node (Contact Diffusion) 0 2 ∷
      node (Contact Poly) 1 3 ∷ [];
  wires =
      (record { layer = Metal; width = pos 6; low = ends.Port 0; high = ends.Node 0; along = Across })
      ∷ (record { layer = Diffusion; width = pos 4; low = ends.Node 0; high = ends.Node 1; along = Up })
      ∷ (record { layer = Diffusion; width = pos 4; low = ends.Node 1; high = ends.Node 2; along = Up })
      ∷ (record { layer = Poly; width = pos 4; low = ends.Port 1; high = ends.Node 1; along = Across })
      ∷ [];
  ports = (record { name = []; side = Left; layer = Metal; place = 0; wire = 0 }) ∷
      (record { name = []; side = Left; layer = Poly; place = 1; wire = 3 }) ∷ [];
  limits = [];
}

-- a buried contact, a diffusion joint to its left and a poly joint to its right, with the wires between them:
-- buried b 1 0, joint d diff 0 0, joint p poly 2 0, wire diff d b, wire poly b p
abbrev pub buried : Cell
buried = record {
  name = [];
  nodes = node Buried 1 0 ∷ node (Joint Diffusion (pos 4)) 0 0 ∷ node (Joint Poly (pos 4)) 2 0 ∷ [];
  wires =
      (record { layer = Diffusion; width = pos 4; low = ends.Node 1; high = ends.Node 0; along = Across })
      ∷ (record { layer = Poly; width = pos 4; low = ends.Node 0; high = ends.Node 2; along = Across })
      ∷ [];
  ports = [];
  limits = [];
}
