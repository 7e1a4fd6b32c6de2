-- The items and the structure of the cells typed in, against ends and lengths worked by hand.
use Rattle.std.{proofs.Common.{◌≡◌, ℕ, ℤ, pos, [], ◌∷◌, refl}, specs.Prelude.{neg_ℤ, None}}
use Rattle.lam_geom.specs.declared.boxes.Axis.TheVariants.{X, Y}
use Rattle.rule_table.specs.declared.{technology.Tech.Tech, classes.Class.{Class, TheVariants.{M, P, Dc, Dm, C, G, B}}}
use Rattle.rule_table.specs.{Technology.{shipped_numbers, shipped2_numbers}, Keys.has_buried, Spacing.pad_in}
use Rattle.rule_table.specs.{Spacing.{margin_in, widest_in, spacing_in, greatest}, Faults.fault_of}
use Rattle.sym_items.specs.{declared.items.{End.End, Item.Item}, Standing.nowhere}
use Rattle.cons_graph.specs.declared.edges.{Edge.Edge, Why.{Why, TheVariants.{Size, Extent, Overlap, Margin}}}
use Rattle.cell_model.specs.declared.cell.{NodeNets.NodeNets, Nets.Nets}
use Rattle.expand.specs.{Variables.{past, variables_of}, Items.{items_of_node, items_of_wire, item_list}}
use Rattle.expand.specs.{Structure.structure_of, Worked.{transistor, column, through, inverter, buried}}

-- the shipped technology
abbrev shipped : fault_of shipped_numbers ≡ None → Tech
shipped sound = record { numbers = shipped_numbers; sound = sound }

-- the one with buried contacts
abbrev shipped2 : fault_of shipped2_numbers ≡ None → Tech
shipped2 sound = record { numbers = shipped2_numbers; sound = sound }

-- a box whose ends lie on these variables
abbrev item : Class → ℕ → ℕ → End → End → End → End → ℤ → ℤ → Item
item class net owner xl xh yl yh least_x least_y =
    record {
      class = class;
      net = net;
      owner = owner;
      xl = xl;
      xh = xh;
      yl = yl;
      yh = yh;
      least_x = least_x;
      least_y = least_y;
      at_low = nowhere;
      at_high = nowhere;
    }

-- so far below and above a variable
abbrev below : ℕ → ℕ → End
below v n = past v (neg_ℤ (pos n))

abbrev above : ℕ → ℕ → End
above v n = past v (pos n)

-- a gate, low and high diffusion of nets 0, 1 and 2
abbrev transistor_nets : Nets
transistor_nets = record { node = (record { main = 0; low = 1; high = 2 }) ∷ []; wire = []; count = 3 }

transistor_items : (s : fault_of shipped_numbers ≡ None) → items_of_node (shipped s) transistor transistor_nets 0
    ≡ item P 0 0 (below 2 6) (above 2 6) (below 2 2) (above 2 2) (pos 12) (pos 4)
    ∷ item Dm 1 0 (below 2 2) (above 2 2) (below 2 6) (above 2 6) (pos 4) (pos 12)
    ∷ item Dc 1 0 (below 2 2) (above 2 2) (below 2 6) (below 2 2) (pos 4) (pos 4)
    ∷ item Dc 2 0 (below 2 2) (above 2 2) (above 2 2) (above 2 6) (pos 4) (pos 4)
    ∷ item G 0 0 (below 2 2) (above 2 2) (below 2 2) (above 2 2) (pos 4) (pos 4)
    ∷ []
transistor_items s = refl

-- the wire of the column has its cross coordinate on x
abbrev column_nets : Nets
column_nets =
    record {
      node = (record { main = 0; low = 0; high = 0 }) ∷ (record { main = 0; low = 0; high = 0 }) ∷ [];
      wire = 0 ∷ [];
      count = 1;
    }

column_wire : (s : fault_of shipped_numbers ≡ None) → items_of_wire (shipped s) column column_nets 0
    ≡ item M 0 2 (below 4 3) (above 4 3) (below 2 3) (above 3 3) (pos 6) (pos 6) ∷ []
column_wire s = refl

column_variables : variables_of X column ≡ 5
column_variables = refl

column_rows : variables_of Y column ≡ 4
column_rows = refl

-- a port's end lies on the border
abbrev through_nets : Nets
through_nets = record { node = []; wire = 0 ∷ []; count = 1 }

through_wire : (s : fault_of shipped_numbers ≡ None) → items_of_wire (shipped s) through through_nets 0
    ≡ item P 0 0 (past 0 (pos 0)) (past 1 (pos 0)) (below 2 2) (above 2 2) (pos 4) (pos 4) ∷ []
through_wire s = refl

-- the inverter's nets: ground 0, output 1, supply 2, input 3
abbrev inverter_nets : Nets
inverter_nets = record {
  node = (record { main = 0; low = 0; high = 0 }) ∷ (record { main = 3; low = 0; high = 1 }) ∷
      (record { main = 1; low = 1; high = 1 }) ∷ (record { main = 1; low = 1; high = 1 }) ∷ [];
  wire = 0 ∷ 0 ∷ 1 ∷ 3 ∷ [];
  count = 4;
}

inverter_contact : (s : fault_of shipped_numbers ≡ None) → items_of_node (shipped s) inverter inverter_nets 0
    ≡ item M 0 0 (below 2 4) (above 2 4) (below 2 4) (above 2 4) (pos 8) (pos 8)
    ∷ item C 0 0 (below 2 2) (above 2 2) (below 2 2) (above 2 2) (pos 4) (pos 4)
    ∷ item Dm 0 0 (below 2 4) (above 2 4) (below 2 4) (above 2 4) (pos 8) (pos 8)
    ∷ item Dc 0 0 (below 2 4) (above 2 4) (below 2 4) (above 2 4) (pos 8) (pos 8)
    ∷ []
unfolding pad_in
inverter_contact s = refl

-- the diffusion wire from the contact ends 2 below the channel of the transistor
inverter_source : (s : fault_of shipped_numbers ≡ None) → items_of_wire (shipped s) inverter inverter_nets 1
    ≡ item Dm 0 5 (below 6 2) (above 6 2) (below 2 2) (below 3 4) (pos 4) (pos 4)
    ∷ item Dc 0 5 (below 6 2) (above 6 2) (below 2 2) (below 3 4) (pos 4) (pos 4)
    ∷ []
inverter_source s = refl

-- the poly wire from the left side ends 2 before the channel, which is 8 wide
inverter_input : (s : fault_of shipped_numbers ≡ None) → items_of_wire (shipped s) inverter inverter_nets 3
    ≡ item P 3 7 (past 0 (pos 0)) (below 3 6) (below 7 2) (above 7 2) (pos 4) (pos 4) ∷ []
inverter_input s = refl

-- the nets of a buried contact and its wires are one
abbrev buried_nets : Nets
buried_nets =
    let one : NodeNets = record { main = 0; low = 0; high = 0 } in
    record { node = one ∷ one ∷ one ∷ []; wire = 0 ∷ 0 ∷ []; count = 1 }

-- an item that stands at buried contacts
abbrev standing : ℕ → ℕ → Item → Item
standing low high i = record i { at_low = low; at_high = high }

buried_contact : (s : fault_of shipped2_numbers ≡ None) → items_of_node (shipped2 s) buried buried_nets 0
    ≡ standing 0 0 (item P 0 0 (below 2 2) (above 2 2) (below 2 2) (above 2 2) (pos 4) (pos 4))
    ∷ standing 0 0 (item Dm 0 0 (below 2 2) (above 2 2) (below 2 2) (above 2 2) (pos 4) (pos 4))
    ∷ standing 0 0 (item Dc 0 0 (below 2 2) (above 2 2) (below 2 2) (above 2 2) (pos 4) (pos 4))
    ∷ standing 0 0 (item B 0 0 (below 2 6) (above 2 6) (below 2 6) (above 2 6) (pos 12) (pos 12))
    ∷ []
buried_contact s = refl

-- the wire that ends at the contact, and the one that begins there
buried_diffusion : (s : fault_of shipped2_numbers ≡ None) → items_of_wire (shipped2 s) buried buried_nets 0
    ≡ standing nowhere 0 (item Dm 0 3 (below 3 2) (above 2 2) (below 5 2) (above 5 2) (pos 4) (pos 4))
    ∷ standing nowhere 0 (item Dc 0 3 (below 3 2) (above 2 2) (below 5 2) (above 5 2) (pos 4) (pos 4))
    ∷ []
buried_diffusion s = refl

buried_poly : (s : fault_of shipped2_numbers ≡ None) → items_of_wire (shipped2 s) buried buried_nets 1
    ≡ standing 0 nowhere (item P 0 4 (below 2 2) (above 4 2) (below 6 2) (above 6 2) (pos 4) (pos 4)) ∷ []
buried_poly s = refl

-- ---- inequalities

abbrev edge : ℕ → ℕ → ℤ → Why → Edge
edge tail head len why = record { from = tail; to = head; len = len; why = why }

abbrev minus : ℕ → ℤ
minus n = neg_ℤ (pos n)

-- the column on x: the wider joint leaves the wire 1 to move either way, and metal keeps 6 to each border
column_structure : (s : fault_of shipped_numbers ≡ None)
    → structure_of X (shipped s) column (item_list (shipped s) column column_nets)
    ≡ edge 0 1 (pos 6) Size
    ∷ edge 2 4 (pos 0) Overlap ∷ edge 4 2 (pos 0) Overlap ∷ edge 3 4 (minus 1) Overlap ∷ edge 4 3 (minus 1) Overlap
    ∷ edge 0 2 (pos 9) Margin ∷ edge 2 1 (pos 9) Margin ∷ edge 0 3 (pos 10) Margin ∷ edge 3 1 (pos 10) Margin ∷ edge 0
    4 (pos 9) Margin ∷ edge 4 1 (pos 9) Margin
    ∷ []
unfolding structure_of item_list margin_in widest_in spacing_in greatest has_buried
column_structure s = refl

-- a wire from side to side keeps no margin to the borders on which it ends, but keeps those of the other axis
through_across : (s : fault_of shipped_numbers ≡ None)
    → structure_of X (shipped s) through (item_list (shipped s) through through_nets)
    ≡ edge 0 1 (pos 6) Size ∷ edge 0 1 (pos 4) Extent ∷ []
unfolding structure_of item_list margin_in widest_in spacing_in greatest has_buried
through_across s = refl

through_up : (s : fault_of shipped_numbers ≡ None)
    → structure_of Y (shipped s) through (item_list (shipped s) through through_nets)
    ≡ edge 0 1 (pos 6) Size ∷ edge 0 2 (pos 6) Margin ∷ edge 2 1 (pos 6) Margin ∷ []
unfolding structure_of item_list margin_in widest_in spacing_in greatest has_buried
through_up s = refl
