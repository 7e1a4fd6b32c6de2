-- Each form of line keeps what a cell has.
use Rattle.std.proofs.Common.{◌≡◌, ℕ, ◌+◌, ◌<◌, ◌≤◌, ℤ, pos, false, List, [], ◌∷◌, ◌++◌, length, take, map, Option}
use Rattle.std.proofs.{Common.{Some, refl, sym, ap, subst, ◌∙◌, arith}, lemmas.List.{length-append, length-map}}
use Rattle.std.proofs.lemmas.List.{get_or-append-add, get_or-map, get_or_push}
use Rattle.std.specs.{Prelude.{IsTrue, ◌&&◌}, List.AllByRecursion}
use Rattle.rule_table.specs.declared.{technology.Tech.Tech, classes.Layer.Layer}
use Rattle.stick_text.specs.{declared.design.Layer.Layer as DrawnLayer, Writable.IsName}
use Rattle.lam_geom.specs.declared.boxes.Side.{Side}
use Rattle.stick_lex.specs.Numbers.{IsNumber}
use Rattle.cell_model.specs.declared.cell.{NodeKind.NodeKind, Node.Node, Wire.Wire, Limit.Limit}
use Rattle.cell_model.specs.Sound.{node_at, no_node, IsNode, IsKind, IsWire, IsLimit}
use Rattle.checked_cells.specs.declared.names.{Copied.Copied, Binding.Binding, Terminal.Terminal}
use Rattle.checked_cells.specs.declared.names.{Terminal.TheVariants.Node as NodeEnd, Found.{Found, TheVariants.At}}
use Rattle.checked_cells.specs.CheckedCell.{CheckedCell, Plug, cell_of, known_at, with_node, with_port, with_wire}
use Rattle.checked_cells.specs.CheckedCell.{with_limit, with_copy, plugged, plug_at, no_plug, copied_node, copied_wire}
use Rattle.checked_cells.specs.{CheckedCell.{copied_limit, greatest_col, greatest_row}, Paths.Names, Checks.layer_of}
use Rattle.checked_cells.specs.{Checks.{is_fresh, is_place}, Lines.wired_of, Built.{IsNodePlace, IsCopy, IsRight}}
use Rattle.checked_cells.{specs.Built.{IsBuilt, AreBuilt}, proofs.Accepted.{both, place_from_test}}
use Rattle.checked_cells.proofs.{BuiltLists.{within_greatest_col, within_greatest_row}, BuiltNames.MoreNodes}
use Rattle.checked_cells.proofs.BuiltNames.{MorePlugs, same_nodes, more_nodes, same_plugs, more_plugs, same_cells}
use Rattle.checked_cells.proofs.{BuiltNames.{copy_of_same, AreRight, all_right_kept, IsAt, at_end_of}, BuiltWires.Holds}
use Rattle.checked_cells.proofs.BuiltWires.{more_of, wire_kept, limit_kept, wire_copied, limit_copied, NoneEndsAt}
use Rattle.checked_cells.proofs.{BuiltWires.{none_past_ports, none_of_copies}, BuiltRuns.{accepted_run, run_of_paths}}
use Rattle.checked_cells.proofs.{BuiltRuns.{is_wire, EndsFree, ends_free}, BuiltSides.{AreSidesApart, sides_append}}
use Rattle.checked_cells.proofs.BuiltSides.{sides_more, sides_copied, sides_elsewhere, sides_new, sides_one}
use Rattle.checked_cells.proofs.{PathsApart.{apart_node, apart_named, apart_copied}, Made.{IsWithNode, IsWithPort}}
use Rattle.checked_cells.proofs.{Made.{IsWithCopy, IsWithWire, IsWithLimit}, BuiltPlugs.{plugs_kept, plugs_pushed}}
use Rattle.checked_cells.proofs.BuiltPlugs.{more_plugged, plugs_wired, more_plugs_twice}
use Rattle.checked_cells.specs.declared.names.Binding.TheVariants as bindings
use Rattle.list_facts.proofs.Elements.{all_append, all_weaker, all_map}

-- ---- what a cell keeps where there is more

-- wires
wires_kept : (tech : Tech) (known next : CheckedCell) → MoreNodes known.nodes next.nodes
    → MorePlugs known.plugs next.plugs → AllByRecursion (IsWire tech (cell_of known)) known.wires
    → AllByRecursion (IsWire tech (cell_of next)) known.wires
wires_kept tech known next nodes plugs are =
    all_weaker (IsWire tech (cell_of known)) (IsWire tech (cell_of next))
    (wire_kept tech (cell_of known) (cell_of next) (more_of known next nodes plugs)) known.wires are

-- limits
limits_kept : (known next : CheckedCell) → MoreNodes known.nodes next.nodes → MorePlugs known.plugs next.plugs
    → AllByRecursion (IsLimit (cell_of known)) known.limits
    → AllByRecursion (IsLimit (cell_of next)) known.limits
limits_kept known next nodes plugs are =
    all_weaker (IsLimit (cell_of known)) (IsLimit (cell_of next))
    (limit_kept (cell_of known) (cell_of next) (more_of known next nodes plugs)) known.limits are

-- the names so far, and one more
names_pushed : (cells : List CheckedCell) (nodes new_nodes : List Node) (plugs new_plugs : List Plug) (table : Names)
    (name : List ℕ) (binding : Binding) → MoreNodes nodes new_nodes → MorePlugs plugs new_plugs
    → AreRight cells nodes plugs table → IsRight cells new_nodes new_plugs name binding
    → AreRight cells new_nodes new_plugs (table ++ (name, binding) ∷ [])
names_pushed cells nodes new_nodes plugs new_plugs table name binding mn mp are is =
    all_append (λ entry. IsRight cells new_nodes new_plugs entry.0 entry.1) table ((name, binding) ∷ [])
    (all_right_kept cells cells nodes new_nodes plugs new_plugs table (same_cells cells) mn mp are) (is, tt)

-- ---- a node

-- one more node
node_built : (tech : Tech) (cells : List CheckedCell) (known : CheckedCell) (name : List ℕ) (kind : NodeKind)
    (col row : ℕ) → IsName name → IsTrue (is_fresh known.names name) → IsBuilt tech cells known
    → IsKind tech kind → IsTrue (is_place col && is_place row) → IsBuilt tech cells (with_node known name kind col row)
node_built tech cells known name kind col row is_name fresh built is near =
    let node : Node = record { name = name; kind = kind; col = col; row = row } in
    let binding : Binding = bindings.Node (record { number = length known.nodes; kind = kind; col = col; row = row }) in
    let next : CheckedCell = with_node known name kind col row in
    let nodes : MoreNodes known.nodes next.nodes = more_nodes known.nodes (node ∷ []) in
    let plugs : MorePlugs known.plugs next.plugs = same_plugs known.plugs in
    let places : IsTrue (is_place col) × IsTrue (is_place row) = both (is_place col) (is_place row) near in
    record {
      nodes = all_append (IsNode tech) known.nodes (node ∷ []) built.nodes
          (record { col = place_from_test col places.0; row = place_from_test row places.1; kind = is }, tt);
      wires = wires_kept tech known next nodes plugs built.wires;
      sides = sides_more tech (cell_of known) (cell_of next) known.wires nodes built.wires built.sides;
      plugs = built.plugs;
      limits = limits_kept known next nodes plugs built.limits;
      apart = apart_node known.names name binding known.nodes node is_name fresh refl built.apart;
      names = names_pushed cells known.nodes next.nodes known.plugs next.plugs known.names name binding nodes plugs
          built.names (record {
            within = omega (arith, length-append known.nodes (node ∷ []));
            node = get_or_push known.nodes node no_node (length known.nodes) refl;
          });
      own_depth = built.own_depth;
      depth = built.depth;
    }

-- a line that adds a node
pub with_node_built : (tech : Tech) (cells : List CheckedCell) (known : CheckedCell) (name : List ℕ) (col row : ℕ)
    (next : CheckedCell) → IsName name → IsBuilt tech cells known → IsWithNode tech known name col row next
    → IsBuilt tech cells next
with_node_built tech cells known name col row next is_name built made =
    subst (IsBuilt tech cells) made.same
    (node_built tech cells known name made.kind col row is_name made.fresh built made.is made.near)

-- ---- a port

-- one more port
pub port_built : (tech : Tech) (cells : List CheckedCell) (known : CheckedCell) (name : List ℕ) (side : Side)
    (layer : Layer) (place : ℕ) (next : CheckedCell) → IsBuilt tech cells known
    → IsWithPort known name side layer place next → IsBuilt tech cells next
port_built tech cells known name side layer place next built made =
    let after : CheckedCell = with_port known name side layer place in
    let binding : Binding =
    bindings.Port (record { number = length known.plugs; side = side; layer = layer; place = place }) in
    let plug : Plug =
    record {
      port = record { name = name; side = side; layer = layer; place = place; wire = 0 };
      width = pos 0;
      wired = false;
    } in
    let nodes : MoreNodes known.nodes after.nodes = same_nodes known.nodes in
    let plugs : MorePlugs known.plugs after.plugs = more_plugs known.plugs (plug ∷ []) in
    let here : plug_at after.plugs (length known.plugs) ≡ plug =
    get_or_push known.plugs plug no_plug (length known.plugs) refl in
    let none : NoneEndsAt known.wires (length known.plugs) =
    none_past_ports tech (cell_of known) (length known.plugs) built.wires
    (omega (arith, length-map known.plugs (λ (p : Plug). p.port))) in
    subst (IsBuilt tech cells) made.same (record {
      nodes = built.nodes;
      wires = wires_kept tech known after nodes plugs built.wires;
      sides = built.sides;
      plugs = plugs_pushed known.wires known.plugs plug built.plugs (record {
        place = place_from_test place made.near;
        wire = λ wired. absurd (cc);
        width = λ wired. absurd (cc);
        ends_there = λ wired. absurd (cc);
        only = λ wired. absurd (cc);
        free = λ free. none;
      });
      limits = limits_kept known after nodes plugs built.limits;
      apart = apart_named known.names ((name, binding) ∷ []) known.nodes built.apart;
      names = names_pushed cells known.nodes after.nodes known.plugs after.plugs known.names name binding nodes plugs
          built.names (record {
            within = omega (arith, length-append known.plugs (plug ∷ []));
            side = ap (λ (p : Plug). p.port.side) here;
            layer = ap (λ (p : Plug). p.port.layer) here;
            place = ap (λ (p : Plug). p.port.place) here;
          });
      own_depth = built.own_depth;
      depth = built.depth;
    })

-- ---- a copy

-- the copied nodes lie near
nodes_copied : (tech : Tech) (name : List ℕ) (col row most_col most_row : ℕ) (nodes : List Node)
    → col + most_col ≤ 4095 → row + most_row ≤ 4095 → AllByRecursion (IsNode tech) nodes
    → AllByRecursion (λ node. node.col ≤ most_col) nodes → AllByRecursion (λ node. node.row ≤ most_row) nodes
    → AllByRecursion (IsNode tech) (map (copied_node name col row) nodes)
nodes_copied tech name col row most_col most_row [] near_col near_row are cols rows = tt
nodes_copied tech name col row most_col most_row (node ∷ nodes) near_col near_row are cols rows = (
  record { col = omega (arith, cols.0); row = omega (arith, rows.0); kind = are.0.kind },
  nodes_copied tech name
      col row most_col most_row nodes near_col near_row are.1 cols.1 rows.1,
)

-- a use
pub use_built : (tech : Tech) (cells : List CheckedCell) (known : CheckedCell) (name : List ℕ) (col row : ℕ)
    (next : CheckedCell) → IsName name → AreBuilt tech cells → IsBuilt tech cells known
    → IsWithCopy cells known name col row next → IsBuilt tech cells next
use_built tech cells known name col row next is_name are built made =
    let used : CheckedCell = known_at cells made.number in
    let of_used : IsBuilt tech (take made.number cells) used = are.built made.number made.earlier in
    let after : CheckedCell = with_copy known name made.number used col row in
    let copies : List Node = map (copied_node name col row) used.nodes in
    let first : ℕ = length known.nodes in
    let nodes : MoreNodes known.nodes after.nodes = more_nodes known.nodes copies in
    let plugs : MorePlugs known.plugs after.plugs = same_plugs known.plugs in
    let within : first + length used.nodes ≤ length after.nodes =
    omega (arith, length-append known.nodes copies, length-map used.nodes (copied_node name col row)) in
    let at : (j : ℕ) → j < length used.nodes
    → node_at after.nodes (first + j) ≡ copied_node name col row (node_at used.nodes j) =
    λ j lt. get_or-append-add known.nodes copies j no_node
    ∙ get_or-map (copied_node name col row) used.nodes j no_node no_node lt in
    let holds : Holds (cell_of used) (cell_of after) name first col row =
    record {
      closed = ap (λ (ps : List Plug). map (λ (plug : Plug). plug.port) ps) made.closed;
      within = within;
      node = at;
    } in
    let copy : Copied = record { cell = made.number; first = first; col = col; row = row } in
    let is_copy : IsCopy cells after.nodes name copy =
    copy_of_same used cells after.nodes name copy made.earlier refl made.closed within at in
    subst (IsBuilt tech cells) made.same (record {
      nodes = all_append (IsNode tech) known.nodes copies built.nodes
          (nodes_copied tech name col row (greatest_col used.nodes) (greatest_row used.nodes) used.nodes made.near_col
          made.near_row
          of_used.nodes (within_greatest_col used.nodes) (within_greatest_row used.nodes));
      wires = all_append (IsWire tech (cell_of after)) known.wires (map (copied_wire first) used.wires)
          (wires_kept tech known after nodes plugs built.wires)
          (all_map (IsWire tech (cell_of after)) (copied_wire first) used.wires
          (all_weaker (IsWire tech (cell_of used)) (λ wire. IsWire tech (cell_of after) (copied_wire first wire))
          (wire_copied tech (cell_of used) (cell_of after) name first col row holds) used.wires of_used.wires));
      sides = sides_append (cell_of after) known.wires (map (copied_wire first) used.wires)
          (sides_more tech (cell_of known) (cell_of after) known.wires nodes built.wires built.sides)
          (sides_elsewhere tech (cell_of known) (cell_of after) first known.wires used.wires (omega arith) built.wires)
          (sides_copied tech (cell_of used) (cell_of after) name first col row holds of_used.wires of_used.sides);
      plugs = plugs_kept known.wires (map (copied_wire first) used.wires) known.plugs
          (λ number. none_of_copies tech (cell_of used) first number holds.closed of_used.wires) built.plugs;
      limits = all_append (IsLimit (cell_of after)) known.limits (map (copied_limit first) used.limits)
          (limits_kept known after nodes plugs built.limits)
          (all_map (IsLimit (cell_of after)) (copied_limit first) used.limits
          (all_weaker (IsLimit (cell_of used)) (λ limit. IsLimit (cell_of after) (copied_limit first limit))
          (limit_copied (cell_of used) (cell_of after) name first col row holds) used.limits of_used.limits));
      apart = apart_copied known.names name (bindings.Copy copy) known.nodes used.nodes used.names col row is_name
          made.fresh built.apart of_used.apart;
      names = names_pushed cells known.nodes after.nodes known.plugs after.plugs known.names name (bindings.Copy copy)
          nodes plugs built.names is_copy;
      own_depth = omega (arith, built.own_depth);
      depth = omega (arith, built.depth, made.shallow);
    })

-- ---- a wire

-- one more wire
with_wire_built : (tech : Tech) (cells : List CheckedCell) (known : CheckedCell) (wire : Wire)
    → IsBuilt tech cells known → IsWire tech (cell_of known) wire
    → AreSidesApart (cell_of known) known.wires (wire ∷ [])
    → EndsFree known.plugs wire → IsBuilt tech cells (with_wire known wire)
with_wire_built tech cells known wire built is apart free =
    let next : CheckedCell = with_wire known wire in
    let number : ℕ = length known.wires in
    let once : List Plug = plugged number wire.width known.plugs wire.low in
    let nodes : MoreNodes known.nodes next.nodes = same_nodes known.nodes in
    let plugs : MorePlugs known.plugs next.plugs =
    more_plugs_twice known.plugs once next.plugs (more_plugged number wire.width known.plugs wire.low)
    (more_plugged number wire.width once wire.high) in
    record {
      nodes = built.nodes;
      wires = all_append (IsWire tech (cell_of next)) known.wires (wire ∷ [])
          (wires_kept tech known next nodes plugs built.wires)
          (wire_kept tech (cell_of known) (cell_of next) (more_of known next nodes plugs) wire is, tt);
      sides = sides_append (cell_of known) known.wires (wire ∷ []) built.sides apart (sides_one (cell_of known) wire);
      plugs = plugs_wired known.wires wire known.plugs free built.plugs;
      limits = limits_kept known next nodes plugs built.limits;
      apart = built.apart;
      names = all_right_kept cells cells known.nodes next.nodes known.plugs next.plugs known.names (same_cells cells)
          nodes plugs built.names;
      own_depth = built.own_depth;
      depth = built.depth;
    }

-- a wire between two paths
pub wire_built : (tech : Tech) (cells : List CheckedCell) (known : CheckedCell) (layer : DrawnLayer) (a b : List ℕ)
    (width : Option ℕ) (next : CheckedCell) → AreBuilt tech cells → IsBuilt tech cells known
    → IsWithWire tech cells known layer a b width next → IsBuilt tech cells next
wire_built tech cells known layer a b width next are built made =
    let at_from : (t : Terminal) → made.from ≡ At t → IsAt known.nodes known.plugs a t =
    λ t same. at_end_of tech cells known a t are built.names (made.found_from ∙ ap (λ (f : Found). Some f) same) in
    let at_to : (t : Terminal) → made.to ≡ At t → IsAt known.nodes known.plugs b t =
    λ t same. at_end_of tech cells known b t are built.names (made.found_to ∙ ap (λ (f : Found). Some f) same) in
    let (run, runs, met) = accepted_run tech (wired_of known) known.wires (layer_of layer) made.from made.to width
    made.wire made.between in
    let is_run = run_of_paths known a b made.from made.to run at_from at_to runs in
    let is : IsWire tech (cell_of known) made.wire =
    is_wire tech known (wired_of known) known.wires (layer_of layer) a b made.from made.to width made.wire at_from
    at_to made.between in
    let apart : AreSidesApart (cell_of known) known.wires (made.wire ∷ []) =
    sides_new (cell_of known) known.wires (layer_of layer) run made.wire is_run.low is_run.high met.left
    (ap (λ (w : Wire). w.layer) (sym met.same)) (ap (λ (w : Wire). w.along) (sym met.same))
    (ap (λ (w : Wire). w.low) (sym met.same)) (ap (λ (w : Wire). w.high) (sym met.same)) in
    subst (IsBuilt tech cells) made.same
    (with_wire_built tech cells known made.wire built is apart
    (ends_free tech known.plugs known.wires (layer_of layer) made.from made.to width made.wire made.between))

-- ---- a limit

-- one more limit
with_limit_built : (tech : Tech) (cells : List CheckedCell) (known : CheckedCell) (limit : Limit)
    → IsBuilt tech cells known → IsLimit (cell_of known) limit → IsBuilt tech cells (with_limit known limit)
with_limit_built tech cells known limit built is =
    let next : CheckedCell = with_limit known limit in
    let nodes : MoreNodes known.nodes next.nodes = same_nodes known.nodes in
    let plugs : MorePlugs known.plugs next.plugs = same_plugs known.plugs in
    record {
      nodes = built.nodes;
      wires = wires_kept tech known next nodes plugs built.wires;
      sides = built.sides;
      plugs = built.plugs;
      limits = all_append (IsLimit (cell_of next)) known.limits (limit ∷ [])
          (limits_kept known next nodes plugs built.limits)
          (limit_kept (cell_of known) (cell_of next) (more_of known next nodes plugs) limit is, tt);
      apart = built.apart;
      names = built.names;
      own_depth = built.own_depth;
      depth = built.depth;
    }

-- a limit between two paths
pub limit_built : (tech : Tech) (cells : List CheckedCell) (known : CheckedCell) (a b : List ℕ) (n : ℤ)
    (next : CheckedCell) → AreBuilt tech cells → IsNumber n → IsBuilt tech cells known
    → IsWithLimit cells known a b n next → IsBuilt tech cells next
limit_built tech cells known a b n next are is built made =
    let at_first : IsNodePlace known.nodes a made.first =
    at_end_of tech cells known a (NodeEnd made.first) are built.names made.found_first in
    let at_second : IsNodePlace known.nodes b made.second =
    at_end_of tech cells known b (NodeEnd made.second) are built.names made.found_second in
    subst (IsBuilt tech cells) made.same
    (with_limit_built tech cells known made.limit built
    (record {
      a = omega (arith, made.from, at_first.within);
      b = omega (arith, made.to, at_second.within);
      apart = made.apart;
      number = subst IsNumber (sym made.number) is;
    }))
