-- What the names of a plan tell of the netlist of its sticks over any layouts.
use Rattle.std.specs.Prelude.{◌≡◌, ℕ, ◌+◌, List, [], ◌∷◌, ◌++◌, All, length, map, flat_map, slice_index}
use Rattle.std.specs.List.{range_with_len}
use Rattle.lam_geom.specs.declared.boxes.MaskBox.{MaskBox}
use Rattle.rule_table.specs.declared.technology.Tech.{Tech}
use Rattle.cell_model.specs.declared.cell.Nets.{Nets}
use Rattle.sym_items.specs.declared.items.Coords.{Coords}
use Rattle.expand.specs.declared.master.Master.{Master}
use Rattle.plan_model.specs.{declared.plan.Plan.Plan, Plan.grids_of}
use Rattle.crossing_model.specs.Boxes.{layer_at}
use Rattle.net_model.specs.{declared.netlist.{Device.Device, Netlist.Netlist}, Netlists.nets_of}
use Rattle.net_list.specs.Lines.{head_line}
use Rattle.instance_laws.specs.{Shapes.AreShapes, Sticks.IsSticksNetlist}
use Rattle.design_nets.specs.{Connections.IsPieceOf, Instances.instances_of, NamedNets.{net_line, device_line}}
use Rattle.design_nets.specs.{NamedNets.IsNamedText, NamedParts.{own_net_of, named_parts}, Nets.AreNetsOfAll}
use Rattle.design_nets.specs.declared.{instances.Instance.Instance, named_parts.NamedPart.NamedPart}

-- a named part of an instance has a piece
pub record HasPiece (plan : Plan) (masters : List Master) (nets : List Nets) (instances : List Instance)
    (p : NamedPart) : Type 0 where
  pub i : ℕ
  pub is : IsPieceOf plan masters nets instances (own_net_of masters nets instances p) i

abbrev pub NamedPartsHavePieces : Plan → List Master → Type 0
NamedPartsHavePieces plan masters =
    (nets : List Nets) → AreNetsOfAll masters nets
    → All (HasPiece plan masters nets (instances_of (grids_of plan)))
    (named_parts masters (instances_of (grids_of plan)))

-- there is only one text of names
abbrev pub IsNamedTextDetermined : Plan → List Master → Type 0
IsNamedTextDetermined plan masters = (grids : List (List ℕ)) (a b : List ℕ) → IsNamedText grids plan masters a
    → IsNamedText grids plan masters b → a ≡ b

-- A part stands on the line of the net that has its pieces.
abbrev pub PartsStandWithPieces : Tech → Plan → List Master → List Coords → Type 0
PartsStandWithPieces tech plan masters layouts =
    (list : Netlist) (grids : List (List ℕ)) (text : List ℕ) → IsSticksNetlist tech plan masters layouts list
    → (named : IsNamedText grids plan masters text)
    → (p : NamedPart) (i : ℕ)
    → IsPieceOf plan masters named.nets (instances_of (grids_of plan))
    (own_net_of masters named.nets (instances_of (grids_of plan)) p) i
    → slice_index (nets_of list.pieces) i ≡ named.number
    (own_net_of masters named.nets (instances_of (grids_of plan)) p)

-- ---- the same as the text of a netlist

-- devices with their names, numbered from j on
abbrev pub named_devices : ℕ → List (List ℕ × Device) → List ℕ
named_devices j [] = []
named_devices j (d ∷ devices) = device_line j d.1.depletion d.0 d.1.gate d.1.low d.1.high
    ++ named_devices (j + 1) devices

-- A text tells of the netlist of some boxes how many nets and devices it has, of each net its counts, and of each
-- device its kind and terminals; and some names.
pub record TellsNetlist (boxes : List MaskBox) (list : Netlist) (text : List ℕ) : Type 0 where
  pub names : ℕ → List (List ℕ)
  pub devices : List (List ℕ × Device)
  pub are : map (λ (d : List ℕ × Device). d.1) devices ≡ list.devices
  pub is : text ≡ head_line list.nets (length list.devices)
      ++ (flat_map (λ net. net_line (layer_at boxes) list.pieces net (names net)) (range_with_len 0 list.nets)
      ++ named_devices 0 devices)

abbrev pub NamesTellNetlists : Tech → Plan → List Master → List Coords → Type 0
NamesTellNetlists tech plan masters layouts =
    (boxes : List MaskBox) (list : Netlist) (grids : List (List ℕ)) (text : List ℕ)
    → AreShapes tech plan masters layouts boxes
    → IsSticksNetlist tech plan masters layouts list → IsNamedText grids plan masters text
    → TellsNetlist boxes list text
