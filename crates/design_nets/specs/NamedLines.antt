-- How the lines of nets and transistors are made from lists: the layers of boxes, the counts of nets, and their parts.
use Rattle.smallvec.specs.SmallVec.{SmallVec}
use Rattle.std.specs.Prelude.{ℕ, ◌<◌, List, [], ◌∷◌, ◌++◌, length, map, flat_map, slice_index_or}
use Rattle.lam_geom.specs.declared.boxes.MaskLayer.{MaskLayer}
use Rattle.expand.specs.declared.master.Master.{Master}
use Rattle.net_list.specs.{Lines.terminal_words, declared.counting.PieceCounts.PieceCounts, Counts.no_pieces}
use Rattle.net_list.specs.Counts.{counts_words}
use Rattle.design_nets.specs.declared.{fet_nodes.FetAt.FetAt, instances.Instance.Instance}
use Rattle.design_nets.specs.declared.named_parts.{NamedPart.NamedPart, CellPart.{CellPart, TheVariants.{Gate, Low}}}
use Rattle.design_nets.specs.declared.{named_parts.CellPart.TheVariants.High, shapes.Shape.Shape}
use Rattle.design_nets.specs.{declared.connections.Connections.Connections, Firsts.together, Instances.master_no}
use Rattle.design_nets.specs.{Listing.list_in, Connections.number_in, NamedNets.{spaced, shape_item}}
use Rattle.design_nets.specs.{NamedParts.{cell_no, part_of, own_net_of}, Pieces.layer_shown}

-- the layer of the box of a shape
abbrev pub layer_of_shape : List Master → List Instance → Shape → MaskLayer
layer_of_shape masters instances shape = layer_shown (shape_item masters instances shape).class

-- a line for each net, by its counts and its parts
abbrev pub line_of_parts : (NamedPart → List ℕ) → List PieceCounts → List (SmallVec NamedPart) → ℕ → List ℕ
line_of_parts name counts parts net = counts_words net (slice_index_or counts net no_pieces)
    ++ (flat_map spaced (map name (list_in parts net)) ++ (10 ∷ []))

abbrev pub lines_of_nets : (NamedPart → List ℕ) → List PieceCounts → List (SmallVec NamedPart) → List ℕ
lines_of_nets name counts parts = together (line_of_parts name counts parts) (length counts)

-- a node of an instance
pub record IsFet (masters : List Master) (instances : List Instance) (f : FetAt) : Type 0 where
  pub instance : f.instance < length instances
  pub master : master_no instances f.instance < length masters
  pub node : f.node < length (cell_no masters instances f.instance).nodes

-- the nets of the terminals of a transistor
abbrev pub number_at : List Master → Connections → ℕ → CellPart → ℕ
number_at masters c s part = number_in c.numbers (own_net_of masters c.nets.items c.instances.items (part_of s part))

abbrev pub terminals_of : List Master → Connections → FetAt → List ℕ
terminals_of masters c f = terminal_words (number_at masters c f.instance (Gate f.node))
    (number_at masters c f.instance (Low f.node)) (number_at masters c f.instance (High f.node))
