-- Cells typed in, and the layouts that the tests look at. The technologies are those that the program ships with.
use Rattle.std.specs.Prelude.{◌≡◌, ℕ, ◌+◌, ℤ, pos, neg_ℤ, Bool, false, true, List, [], ◌∷◌}
use Rattle.rule_table.specs.declared.{technology.Tech.Tech, classes.{Class.TheVariants.M, Layer.Layer}}
use Rattle.rule_table.specs.declared.classes.Layer.TheVariants.{Diffusion, Poly, Metal}
use Rattle.rule_table.specs.Technology.{numbers_of, shipped_numbers, shipped2_numbers}
use Rattle.lam_geom.specs.declared.boxes.Side.{Side, TheVariants.{Left, Right}}
use Rattle.sym_items.specs.{declared.items.{End.End, Item.Item, Coords.Coords}, Standing.nowhere}
use Rattle.cell_model.specs.declared.cell.{Axis2.{Axis2, TheVariants.{Across, Up}}, NodeKind.NodeKind}
use Rattle.cell_model.specs.declared.cell.{NodeKind.TheVariants.{Joint, Contact, Buried, Fet}, Node.Node}
use Rattle.cell_model.specs.{declared.cell.{WireEnd.WireEnd, Wire.Wire, Port.Port, Cell.Cell}, Sound.IsSound}
use Rattle.cell_model.specs.declared.cell.WireEnd.TheVariants as ends

-- the cell meets the checks under the technology that the program ships with
abbrev pub IsShipped : Cell → Type 0
IsShipped cell = (tech : Tech) → numbers_of tech ≡ shipped_numbers → IsSound tech cell

-- the same under the one with buried contacts
abbrev pub IsShipped2 : Cell → Type 0
IsShipped2 cell = (tech : Tech) → numbers_of tech ≡ shipped2_numbers → IsSound tech cell

abbrev pub node : NodeKind → ℕ → ℕ → Node
node kind col row = record { name = []; kind = kind; col = col; row = row }

-- a transistor whose gate runs across
abbrev pub fet : Bool → ℤ → ℤ → NodeKind
fet depletion w l = Fet depletion Across w l

abbrev pub cell_of : List Node → List Wire → List Port → Cell
cell_of nodes wires ports = record { name = []; nodes = nodes; wires = wires; ports = ports; limits = [] }

abbrev pub metal_wire : Axis2 → WireEnd → WireEnd → Wire
metal_wire along low high = record { layer = Metal; width = pos 6; low = low; high = high; along = along }

-- two metal joints in a column, and the wire between them
abbrev pub joints : Cell
joints = cell_of (node (Joint Metal (pos 6)) 0 0 ∷ node (Joint Metal (pos 6)) 0 1 ∷ [])
    (metal_wire Up (ends.Node 0) (ends.Node 1) ∷ []) []

-- a transistor alone, and a longer one that is wider across its gate
abbrev pub transistor : Cell
transistor = cell_of (node (fet false (pos 4) (pos 4)) 0 0 ∷ []) [] []

abbrev pub long_transistor : Cell
long_transistor = cell_of (node (fet true (pos 4) (pos 12)) 3 0 ∷ []) [] []

abbrev pub empty : Cell
empty = cell_of [] [] []

-- a metal wire from side to side, on its third row
abbrev pub port : Side → Port
port side = record { name = []; side = side; layer = Metal; place = 2; wire = 0 }

abbrev pub side_to_side : Cell
side_to_side = cell_of [] (metal_wire Across (ends.Port 0) (ends.Port 1) ∷ []) (port Left ∷ port Right ∷ [])

abbrev pub thin_wire : Layer → Axis2 → WireEnd → WireEnd → Wire
thin_wire layer along low high = record { layer = layer; width = pos 4; low = low; high = high; along = along }

abbrev pub pin : Side → Layer → ℕ → ℕ → Port
pin side layer place wire = record { name = []; side = side; layer = layer; place = place; wire = wire }

-- a buried contact alone
abbrev pub window : Cell
window = cell_of (node Buried 0 0 ∷ []) [] []

-- buried b 1 0, joint d diff 0 0, joint p poly 2 0, wire diff d b, wire poly b p
abbrev pub buried : Cell
buried = cell_of
    (node Buried 1 0 ∷ node (Joint Diffusion (pos 4)) 0 0 ∷ node (Joint Poly (pos 4)) 2 0 ∷ [])
    (thin_wire Diffusion Across (ends.Node 1) (ends.Node 0) ∷ thin_wire Poly Across (ends.Node 0) (ends.Node 2) ∷ [])
    []

-- an inverter: its nodes, wires and ports in order
abbrev pub inverter_nodes : List Node
inverter_nodes =
    node (Contact Diffusion) 0 0
    ∷ node (fet false (pos 8) (pos 4)) 0 1
    ∷ node (Contact Diffusion) 0 2
    ∷ node (fet true (pos 4) (pos 8)) 0 3
    ∷ node (Contact Diffusion) 0 4
    ∷ node (Contact Poly) 1 3
    ∷ node (Joint Metal (pos 6)) 1 2
    ∷ node (Contact Poly) 1 1
    ∷ []

abbrev pub inverter : Cell
inverter = cell_of inverter_nodes
    (metal_wire Across (ends.Port 0) (ends.Node 0)
    ∷ metal_wire Across (ends.Node 0) (ends.Port 1)
    ∷ thin_wire Diffusion Up (ends.Node 0) (ends.Node 1)
    ∷ thin_wire Diffusion Up (ends.Node 1) (ends.Node 2)
    ∷ thin_wire Diffusion Up (ends.Node 2) (ends.Node 3)
    ∷ thin_wire Diffusion Up (ends.Node 3) (ends.Node 4)
    ∷ metal_wire Across (ends.Port 4) (ends.Node 4)
    ∷ metal_wire Across (ends.Node 4) (ends.Port 5)
    ∷ thin_wire Poly Across (ends.Port 2) (ends.Node 1)
    ∷ thin_wire Poly Across (ends.Node 3) (ends.Node 5)
    ∷ metal_wire Across (ends.Node 2) (ends.Node 6)
    ∷ metal_wire Up (ends.Node 6) (ends.Node 5)
    ∷ thin_wire Poly Across (ends.Node 7) (ends.Port 3)
    ∷ metal_wire Up (ends.Node 7) (ends.Node 6)
    ∷ [])
    (pin Left Metal 0 0 ∷ pin Right Metal 0 1 ∷ pin Left Poly 1 8 ∷ pin Right Poly 1 12 ∷ pin Left Metal 4 6 ∷ pin
    Right Metal 4 7 ∷ [])

abbrev pub below : ℕ → End
below v = record { var = v; off = neg_ℤ (pos 3) }

abbrev pub above : ℕ → End
above v = record { var = v; off = pos 3 }

-- its nodes alone
abbrev pub bare_inverter : Cell
bare_inverter = cell_of inverter_nodes [] []

-- three metal boxes in a row: the first and the second 4 apart, the second and the third 2
abbrev pub box : ℕ → Item
box k = record {
  class = M;
  net = k;
  owner = k;
  xl = below (2 + k);
  xh = above (2 + k);
  yl = below 2;
  yh = above 2;
  least_x = pos 6;
  least_y = pos 6;
  at_low = nowhere;
  at_high = nowhere;
}

abbrev pub three : List Item
three = box 0 ∷ box 1 ∷ box 2 ∷ []

abbrev pub close : Coords
close = record { x = pos 0 ∷ pos 60 ∷ pos 10 ∷ pos 20 ∷ pos 28 ∷ []; y = pos 0 ∷ pos 20 ∷ pos 10 ∷ [] }

-- the same, each a spacing from the next
abbrev pub spaced : Coords
spaced = record { x = pos 0 ∷ pos 60 ∷ pos 10 ∷ pos 22 ∷ pos 34 ∷ []; y = pos 0 ∷ pos 20 ∷ pos 10 ∷ [] }
