-- The text that tells for each net the names of its parts, and for each transistor the nets of its terminals.
use Rattle.std.specs.Prelude.{◌≡◌, ℕ, ◌+◌, ◌==◌, ◌&&◌, nat_lt, Bool, false, List, [], ◌∷◌, ◌++◌, length, map, filter}
use Rattle.std.specs.{Prelude.{flat_map, codes, decimal, if◌then◌else◌, slice_index_or}, List.range_with_len}
use Rattle.lam_geom.specs.declared.boxes.MaskLayer.{MaskLayer, TheVariants.ND}
use Rattle.cell_model.specs.declared.cell.{Nets.Nets, NodeKind.{NodeKind, TheVariants.{Joint, Contact, Buried, Fet}}}
use Rattle.cell_model.specs.Sound.{node_at}
use Rattle.sym_items.specs.declared.items.Item.{Item}
use Rattle.pair_rules.specs.Bound.{item_at}
use Rattle.expand.specs.declared.master.Master.{Master}
use Rattle.graph_search.specs.Netting.{next_net}
use Rattle.plan_model.specs.{declared.plan.Plan.Plan, Plan.grids_of}
use Rattle.pitch_join.specs.Masters.{master_at}
use Rattle.mask_out.specs.Masks.{is_drawn}
use Rattle.net_model.specs.{declared.netlist.Piece.Piece, Netlists.nets_of}
use Rattle.net_list.specs.Lines.{head_line, kind_word, terminal_words, words_of_net}
use Rattle.instance_laws.specs.{Shapes.{shapes_of, layer_of}, Sticks.no_shape}
use Rattle.design_nets.specs.declared.{fet_nodes.FetAt.FetAt, instances.Instance.Instance}
use Rattle.design_nets.specs.declared.named_parts.{NamedPart.NamedPart, CellPart.TheVariants.{Gate, Low, High}}
use Rattle.design_nets.specs.{declared.{owners.OwnNet.OwnNet, shapes.Shape.Shape}, Connections.AreSticksPieces}
use Rattle.design_nets.specs.{Connections.AreNumbersOfPieces, Firsts.together, Instances.{instances_of, instance_no}}
use Rattle.design_nets.specs.{Instances.master_no, NamedParts.{name_in, cell_no, part_of, named_parts, own_net_of}}
use Rattle.design_nets.specs.{NamedParts.parts_of_net, Nets.AreNetsOfAll, Pieces.is_fet, Shapes.shapes_in}

-- ---- names

-- Names of a grid: a grid that has a name has it in front of the places of its instances.
abbrev pub grid_word : List (List ℕ) → ℕ → List ℕ
grid_word grids g = if nat_lt g (length grids) then slice_index_or grids g [] ++ codes "." else []

-- row and column of an instance
abbrev pub place_word : Instance → List ℕ
place_word i = decimal i.row ++ (codes "." ++ (decimal i.col ++ codes ":"))

-- in front of a name: nothing where there is one instance in all
abbrev pub prefix_of : List (List ℕ) → List Instance → ℕ → List ℕ
prefix_of grids instances s = if length instances == 1 then [] else grid_word grids (instance_no instances s).grid
    ++ place_word (instance_no instances s)

-- the name of a part of an instance
abbrev pub name_of : List (List ℕ) → List Master → List Instance → NamedPart → List ℕ
name_of grids masters instances p = prefix_of grids instances p.instance
    ++ name_in (cell_no masters instances p.instance) p.part

-- ---- transistors

-- the item that a shape is, in its master
abbrev pub shape_item : List Master → List Instance → Shape → Item
shape_item masters instances shape =
    item_at (master_at masters (master_no instances shape.instance)).items.list shape.item

-- a shape is the diffusion of a transistor: of this node
abbrev pub shows_fet : List Master → List Instance → Shape → Bool
shows_fet masters instances shape =
    is_drawn ND (shape_item masters instances shape).class
    && is_fet (cell_no masters instances shape.instance) (shape_item masters instances shape).owner

abbrev pub fet_shown : List Master → List Instance → Shape → FetAt
fet_shown masters instances shape =
    record { instance = shape.instance; node = (shape_item masters instances shape).owner }

-- in order of the boxes of their diffusion
abbrev pub fets_of : List Master → List Instance → List Shape → List FetAt
fets_of masters instances shapes = map (fet_shown masters instances) (filter (shows_fet masters instances) shapes)

abbrev pub all_fets : List Master → List Instance → List FetAt
all_fets masters instances = fets_of masters instances (together (shapes_in masters instances) (length instances))

-- its own name has no suffix
abbrev pub fet_name : List (List ℕ) → List Master → List Instance → FetAt → List ℕ
fet_name grids masters instances f = prefix_of grids instances f.instance
    ++ (node_at (cell_no masters instances f.instance).nodes f.node).name

abbrev pub is_depletion : NodeKind → Bool
is_depletion (Joint layer width) = false
is_depletion (Contact lower) = false
is_depletion Buried = false
is_depletion (Fet depletion gate w l) = depletion

abbrev pub kind_of_fet : List Master → List Instance → FetAt → Bool
kind_of_fet masters instances f = is_depletion (node_at (cell_no masters instances f.instance).nodes f.node).kind

-- ---- lines

-- a name after a space
abbrev pub spaced : List ℕ → List ℕ
spaced name = codes " " ++ name

abbrev pub net_line : (ℕ → MaskLayer) → List Piece → ℕ → List (List ℕ) → List ℕ
net_line layer pieces net names = words_of_net layer pieces net ++ (flat_map spaced names ++ (10 ∷ []))

abbrev pub device_words : ℕ → Bool → List ℕ
device_words j depletion = codes "device " ++ (decimal j ++ (codes " " ++ (kind_word depletion ++ codes " ")))

abbrev pub device_line : ℕ → Bool → List ℕ → ℕ → ℕ → ℕ → List ℕ
device_line j depletion name gate low high =
    device_words j depletion ++ (name ++ (terminal_words gate low high ++ (10 ∷ [])))

-- ---- the text

-- the layer of box number k
abbrev pub layer_of_box : Plan → List Master → ℕ → MaskLayer
layer_of_box plan masters k = layer_of plan masters (slice_index_or (shapes_of plan masters) k no_shape)

-- the names of the parts of a net
abbrev pub names_of_net : List (List ℕ) → List Master → List Instance → (NamedPart → ℕ) → ℕ → List (List ℕ)
names_of_net grids masters instances number net =
    map (name_of grids masters instances) (parts_of_net number (named_parts masters instances) net)

-- the line of transistor number j
abbrev pub line_of_fet : List (List ℕ) → List Master → List Instance → (NamedPart → ℕ) → ℕ → FetAt → List ℕ
line_of_fet grids masters instances number j f =
    device_line j (kind_of_fet masters instances f) (fet_name grids masters instances f)
    (number (part_of f.instance (Gate f.node)))
    (number (part_of f.instance (Low f.node))) (number (part_of f.instance (High f.node)))

-- transistors, numbered from j on
abbrev pub lines_of_fets : List (List ℕ) → List Master → List Instance → (NamedPart → ℕ) → ℕ → List FetAt → List ℕ
lines_of_fets grids masters instances number j [] = []
lines_of_fets grids masters instances number j (f ∷ fets) =
    line_of_fet grids masters instances number j f ++ lines_of_fets grids masters instances number (j + 1) fets

abbrev pub net_lines : List (List ℕ) → Plan → List Master → List Piece → (NamedPart → ℕ) → ℕ → List ℕ
net_lines grids plan masters pieces number net =
    net_line (layer_of_box plan masters) pieces net
    (names_of_net grids masters (instances_of (grids_of plan)) number net)

-- A head, a line for each net, and a line for each transistor, from the pieces with their nets and the number of the
-- net of each part.
unfoldable pub named_text : List (List ℕ) → Plan → List Master → List Piece → (NamedPart → ℕ) → List ℕ
named_text grids plan masters pieces number =
    head_line (next_net (nets_of pieces)) (length (all_fets masters (instances_of (grids_of plan))))
    ++ (flat_map (net_lines grids plan masters pieces number) (range_with_len 0 (next_net (nets_of pieces)))
    ++ lines_of_fets grids masters (instances_of (grids_of plan)) number 0
    (all_fets masters (instances_of (grids_of plan))))

-- The text for the grids with these names, of which the plan is: the nets of parts have the numbers of their pieces.
pub record IsNamedText (grids : List (List ℕ)) (plan : Plan) (masters : List Master) (text : List ℕ) : Type 0 where
  pub nets : List Nets
  pub are_nets : AreNetsOfAll masters nets
  pub pieces : List Piece
  pub are_pieces : AreSticksPieces nets plan masters pieces
  pub number : OwnNet → ℕ
  pub numbered : AreNumbersOfPieces plan masters nets (instances_of (grids_of plan)) pieces number
  pub is : text ≡ named_text grids plan masters pieces
      (λ (p : NamedPart). number (own_net_of masters nets (instances_of (grids_of plan)) p))
