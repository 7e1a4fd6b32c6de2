-- A cell keeps what it has with each line, and each cell of a design is sound.
use Rattle.std.proofs.Common.{◌≡◌, ℕ, ◌+◌, ◌<◌, ◌≤◌, ◌≢◌, true, List, [], ◌∷◌, ◌++◌, length, take, Some, Result, Ok}
use Rattle.std.proofs.{Common.{sym, subst, inl, inr, arith}, lemmas.List.{length-append, length-map, get_or_push}}
use Rattle.std.proofs.lemmas.{List.{get_or_append_left, take_at, take-append-le}, Bool.cases_eq}
use Rattle.std.specs.{Prelude.{IsTrue, ◌⊎◌, fold, sum_by}, List.AllByRecursion}
use Rattle.rule_table.specs.declared.{technology.Tech.Tech, classes.Layer.Layer}
use Rattle.rule_table.specs.declared.classes.Layer.TheVariants as layers
use Rattle.stick_text.specs.declared.fault.{StickKind.TheVariants.{RepeatedName, PortWires}, StickFault.StickFault}
use Rattle.stick_text.specs.{declared.design.{Form.Form, Line.Line, CellText.CellText}, Writable.{IsForm, IsLine}}
use Rattle.stick_text.specs.{Writable.{IsCell, IsPath}, Reading.{◌>>=◌, demand}, Order.at_line}
use Rattle.stick_text.specs.declared.design.Form.TheVariants as forms
use Rattle.cell_model.specs.declared.cell.{NodeKind.NodeKind, Node.Node, Wire.Wire}
use Rattle.cell_model.specs.Counts.{items_in, layer_items, kind_items, node_items, wire_items}
use Rattle.cell_model.specs.Sound.{node_at, port_at, IsPort, IsSound, IsLight}
use Rattle.cell_model.specs.declared.cell.NodeKind.TheVariants as kinds
use Rattle.checked_cells.specs.declared.names.{NodePlace.NodePlace, Terminal.TheVariants.Node as NodeEnd}
use Rattle.checked_cells.specs.{declared.names.Found.TheVariants.At, CheckedCell.{CheckedCell, Plug, begun, cell_of}}
use Rattle.checked_cells.specs.{CheckedCell.{known_at, plug_at}, Paths.found_at, Checks.layer_of, Lines.after_form}
use Rattle.checked_cells.specs.Lines.{after_lines, after_cell, is_new_cell, cells_after, is_wired, known_cells}
use Rattle.checked_cells.specs.{Counts.weight_of, Built.{IsNodePlace, IsPlug, IsBuilt, AreBuilt}}
use Rattle.checked_cells.proofs.Accepted.{bound, two_bound, ok_same, at_line_ok, true_from_demand}
use Rattle.checked_cells.proofs.{BuiltNames.at_end_of, BuiltWires.port_of_plug, BuiltForms.with_node_built}
use Rattle.checked_cells.proofs.{BuiltForms.{port_built, use_built, wire_built, limit_built}, Made.joint_made}
use Rattle.checked_cells.proofs.Made.{contact_made, buried_made, fet_made, port_made, use_made, wire_made, limit_made}
use Rattle.checked_cells.proofs.{PathsApart.apart_none, BuiltPlugs.all_wired}

-- a cell before its first line
pub built-begun : (tech : Tech) (cells : List CheckedCell) (name : List ℕ) → IsBuilt tech cells (begun name)
built-begun tech cells name =
    record {
      nodes = tt;
      wires = tt;
      sides = λ j k lj lk leave. absurd (omega arith);
      plugs = λ k lt. absurd (omega arith);
      limits = tt;
      apart = apart_none;
      names = tt;
      own_depth =
          omega arith;
      depth = omega arith;
    }

-- one more line
pub built-after_form : (tech : Tech) (cells : List CheckedCell) (known : CheckedCell) (form : Form)
    (next : CheckedCell) → AreBuilt tech cells → IsForm form
    → IsBuilt tech cells known → after_form tech cells known form ≡ Ok next → IsBuilt tech cells next
built-after_form tech cells known (forms.Joint name layer col row width) next are is built e =
    with_node_built tech cells known name col row next is.0 built
    (joint_made tech known name layer col row width next e)
built-after_form tech cells known (forms.Contact name lower col row) next are is built e =
    with_node_built tech cells known name col row next is.0 built
    (contact_made tech known name lower col row next is.1 e)
built-after_form tech cells known (forms.Buried name col row) next are is built e =
    with_node_built tech cells known name col row next is.0 built (buried_made tech known name col row next e)
built-after_form tech cells known (forms.Fet name depletion vertical col row w l) next are is built e =
    with_node_built tech cells known name col row next is.0 built
    (fet_made tech known name depletion vertical col row w l next e)
built-after_form tech cells known (forms.Port name side layer place) next are is built e =
    port_built tech cells known name side (layer_of layer) place next built
    (port_made known name side layer place next e)
built-after_form tech cells known (forms.Inst name cell col row) next are is built e =
    use_built tech cells known name col row next is.0 are built (use_made cells known name cell col row next e)
built-after_form tech cells known (forms.Wire layer a b width) next are is built e =
    wire_built tech cells known layer a b width next are built (wire_made tech cells known layer a b width next e)
built-after_form tech cells known (forms.Limit vertical a b at_most n) next are is built e =
    limit_built tech cells known a b n next are is.2 built (limit_made cells known vertical a b at_most n next e)

-- a path that comes to a node is the node's name
pub node_place-found_at : (tech : Tech) (cells : List CheckedCell) (known : CheckedCell) (path : List ℕ)
    (node_place : NodePlace) → AreBuilt tech cells → IsPath path
    → IsBuilt tech cells known → found_at cells known path ≡ Some (At (NodeEnd node_place))
    → (node_place.number < length known.nodes)
    × (node_at known.nodes node_place.number
    ≡ record { name = path; kind = node_place.kind; col = node_place.col; row = node_place.row })
node_place-found_at tech cells known path node_place are is built e =
    let here : IsNodePlace known.nodes path node_place =
    at_end_of tech cells known path (NodeEnd node_place) are built.names e in
    (here.within, here.node)

-- no cells
pub are_built-none : (tech : Tech) → AreBuilt tech []
are_built-none tech = record { built = λ k lt. absurd (omega arith); wired = λ k lt. absurd (omega arith) }

-- ---- one more cell

-- a number of one of the cells
pub k_within : (cells : List CheckedCell) (known : CheckedCell) (k : ℕ) → k < length (cells ++ known ∷ [])
    → k ≤ length cells
k_within cells known k lt = omega (arith, lt, length-append cells (known ∷ []))

-- a cell before the last
pub known_before : (cells : List CheckedCell) (known : CheckedCell) (k : ℕ) → k < length cells
    → known_at (cells ++ known ∷ []) k ≡ known_at cells k
known_before cells known k lt = get_or_append_left cells (known ∷ []) (begun []) k lt

-- the last cell
pub known_last : (cells : List CheckedCell) (known : CheckedCell) (k : ℕ) → k ≡ length cells
    → known_at (cells ++ known ∷ []) k ≡ known
known_last cells known k e = get_or_push cells known (begun []) k (sym e)

-- each cell over those before it
built_at : (tech : Tech) (cells : List CheckedCell) (known : CheckedCell) → AreBuilt tech cells
    → IsBuilt tech cells known → (k : ℕ) → k ≤ length cells → (k ≡ length cells) ⊎ (k ≢ length cells)
    → IsBuilt tech (take k (cells ++ known ∷ [])) (known_at (cells ++ known ∷ []) k)
built_at tech cells known are built k le (inl e) =
    subst (λ (before : List CheckedCell). IsBuilt tech before (known_at (cells ++ known ∷ []) k))
    (sym (take_at cells (known ∷ []) k (sym e)))
    (subst (IsBuilt tech cells) (sym (known_last cells known k e)) built)
built_at tech cells known are built k le (inr ne) =
    let lt : k < length cells = omega (arith, le, ne) in
    subst (λ (before : List CheckedCell). IsBuilt tech before (known_at (cells ++ known ∷ []) k))
    (sym (take-append-le k cells (known ∷ []) le))
    (subst (IsBuilt tech (take k cells)) (sym (known_before cells known k lt)) (are.built k lt))

-- each cell with its ports wired
wired_at : (tech : Tech) (cells : List CheckedCell) (known : CheckedCell) → AreBuilt tech cells
    → IsTrue (is_wired known) → (k : ℕ) → k ≤ length cells → (k ≡ length cells) ⊎ (k ≢ length cells)
    → IsTrue (is_wired (known_at (cells ++ known ∷ []) k))
wired_at tech cells known are wired k le (inl e) =
    subst (λ (cell : CheckedCell). IsTrue (is_wired cell)) (sym (known_last cells known k e)) wired
wired_at tech cells known are wired k le (inr ne) =
    let lt : k < length cells = omega (arith, le, ne) in subst (λ (cell : CheckedCell). IsTrue (is_wired cell))
    (sym (known_before cells known k lt)) (are.wired k lt)

-- one more cell
pub are_built-append : (tech : Tech) (cells : List CheckedCell) (known : CheckedCell) → AreBuilt tech cells
    → IsBuilt tech cells known → IsTrue (is_wired known)
    → AreBuilt tech (cells ++ known ∷ [])
are_built-append tech cells known are built wired =
    record {
      built = λ k lt. built_at tech cells known are built k (k_within cells known k lt) (cases_eq k (length cells));
      wired = λ k lt. wired_at tech cells known are wired k (k_within cells known k lt) (cases_eq k (length cells));
    }

-- ---- the lines of a cell, and the cells of a design

-- the lines of a cell
pub built-after_lines : (tech : Tech) (cells : List CheckedCell) (known : CheckedCell) (lines : List Line)
    (last : CheckedCell) → AreBuilt tech cells → AllByRecursion IsLine lines → IsBuilt tech cells known
    → after_lines tech cells known lines ≡ Ok last → IsBuilt tech cells last
built-after_lines tech cells known [] last are is built e = subst (IsBuilt tech cells) (ok_same known last e) built
built-after_lines tech cells known (line ∷ lines) last are is built e =
    let first : (next : CheckedCell) × (at_line line.number (after_form tech cells known line.form) ≡ Ok next)
    × (after_lines tech cells next lines ≡ Ok last) =
    bound (at_line line.number (after_form tech cells known line.form)) (λ next. after_lines tech cells next lines)
    last e in
    built-after_lines tech cells first.0 lines last are is.1
    (built-after_form tech cells known line.form first.0 are is.0 built
    (at_line_ok line.number (after_form tech cells known line.form) first.0 first.1))
    first.2

-- a whole cell
pub built-after_cell : (tech : Tech) (cells : List CheckedCell) (text : CellText) (known : CheckedCell)
    → AreBuilt tech cells → IsCell text → after_cell tech cells text ≡ Ok known
    → IsBuilt tech cells known × IsTrue (is_wired known)
unfolding after_cell
built-after_cell tech cells text known are is e =
    let ended : CheckedCell → Result CheckedCell StickFault =
    λ last. at_line text.end_line (demand (is_wired last) PortWires) >>= λ wired. Ok last in
    let read : (u : Unit {0}) × (last : CheckedCell)
    × (at_line text.line (demand (is_new_cell cells text.name) RepeatedName) ≡ Ok u)
    × (after_lines tech cells (begun text.name) text.lines ≡ Ok last) × (ended last ≡ Ok known) =
    two_bound (at_line text.line (demand (is_new_cell cells text.name) RepeatedName))
    (after_lines tech cells (begun text.name) text.lines) (λ fresh last. ended last) known e in
    let last : CheckedCell = read.1 in
    let closed : (u : Unit {0}) × (at_line text.end_line (demand (is_wired last) PortWires) ≡ Ok u)
    × (◌≡◌ {A = Result CheckedCell StickFault} (Ok last) (Ok known)) =
    bound (at_line text.end_line (demand (is_wired last) PortWires)) (λ wired. Ok last) known read.4 in
    subst (λ (cell : CheckedCell). IsBuilt tech cells cell × IsTrue (is_wired cell)) (ok_same last known closed.2) (
      built-after_lines tech cells (begun text.name) text.lines last are is.1 (built-begun tech cells text.name) read.3,
      true_from_demand (is_wired last) PortWires closed.0
          (at_line_ok text.end_line (demand (is_wired last) PortWires) closed.0 closed.1),
    )

-- more cells
are_built-cells_after : (tech : Tech) (cells : List CheckedCell) (texts : List CellText) (all : List CheckedCell)
    → AreBuilt tech cells → AllByRecursion IsCell texts → cells_after tech cells texts ≡ Ok all → AreBuilt tech all
are_built-cells_after tech cells [] all are is e = subst (AreBuilt tech) (ok_same cells all e) are
are_built-cells_after tech cells (text ∷ texts) all are is e =
    let first : (known : CheckedCell) × (after_cell tech cells text ≡ Ok known)
    × (cells_after tech (cells ++ known ∷ []) texts ≡ Ok all) =
    bound (after_cell tech cells text) (λ known. cells_after tech (cells ++ known ∷ []) texts) all e in
    let built : IsBuilt tech cells first.0 × IsTrue (is_wired first.0) =
    built-after_cell tech cells text first.0 are is.0 first.1 in
    are_built-cells_after tech (cells ++ first.0 ∷ []) texts all
    (are_built-append tech cells first.0 are built.0 built.1) is.1 first.2

-- the cells of a design
pub are_built-known_cells : (tech : Tech) (texts : List CellText) (cells : List CheckedCell)
    → AllByRecursion IsCell texts → known_cells tech texts ≡ Ok cells → AreBuilt tech cells
unfolding known_cells
are_built-known_cells tech texts cells is e = are_built-cells_after tech [] texts cells (are_built-none tech) is e

-- ---- sound cells

-- a port at which a wire ends
port_of_wired : (tech : Tech) (cells : List CheckedCell) (known : CheckedCell) → IsBuilt tech cells known
    → IsTrue (is_wired known) → (k : ℕ) → k < length (cell_of known).ports
    → IsPort (cell_of known) k (port_at (cell_of known).ports k)
port_of_wired tech cells known built wired k lt =
    let within : k < length known.plugs = omega (arith, lt, length-map known.plugs (λ (plug : Plug). plug.port)) in
    let is : IsPlug known.wires k (plug_at known.plugs k) = built.plugs k within in
    let here : (plug_at known.plugs k).wired ≡ true = all_wired known.plugs k wired within in
    subst (IsPort (cell_of known) k) (sym (port_of_plug known.plugs k))
    (record { place = is.place; wire = is.wire here; wired = is.ends_there here; only = is.only here })

-- a cell with all its ports wired is sound
pub sound-built : (tech : Tech) (cells : List CheckedCell) (known : CheckedCell) → IsBuilt tech cells known
    → IsTrue (is_wired known) → IsSound tech (cell_of known)
sound-built tech cells known built wired =
    record {
      nodes = built.nodes;
      wires = built.wires;
      sides = built.sides;
      ports = port_of_wired tech cells known built wired;
      limits = built.limits;
    }

-- a cell of a design is sound
pub sound-known_at : (tech : Tech) (cells : List CheckedCell) (k : ℕ) → AreBuilt tech cells → k < length cells
    → IsSound tech (cell_of (known_at cells k))
sound-known_at tech cells k are lt =
    sound-built tech (take k cells) (known_at cells k) (are.built k lt) (are.wired k lt)

-- ---- few parts

-- a sum of numbers that are not 0
fewer_than : {X : Type 0} (f : X → ℕ) (some : (x : X) → 1 ≤ f x) (xs : List X) (sum : ℕ)
    → sum + length xs ≤ fold (λ a x. a + f x) sum xs
fewer_than f some [] sum = omega arith
fewer_than f some (x ∷ xs) sum = omega (arith, fewer_than f some xs (sum + f x), some x)

-- a layer has an item
some_layer_items : (layer : Layer) → 1 ≤ layer_items layer
some_layer_items layers.Diffusion = omega arith
some_layer_items layers.Poly = omega arith
some_layer_items layers.Metal = omega arith

-- a node has an item
some_kind_items : (kind : NodeKind) → 1 ≤ kind_items kind
some_kind_items (kinds.Joint layer width) = some_layer_items layer
some_kind_items (kinds.Contact lower) = omega arith
some_kind_items kinds.Buried = omega arith
some_kind_items (kinds.Fet depletion gate w l) = omega arith

-- each node has at least one item
pub fewer_nodes : (nodes : List Node) → length nodes ≤ sum_by node_items nodes
fewer_nodes nodes = omega (arith, fewer_than node_items (λ (node : Node). some_kind_items node.kind) nodes 0)

-- and each wire
pub fewer_wires : (wires : List Wire) → length wires ≤ sum_by wire_items wires
fewer_wires wires = omega (arith, fewer_than wire_items (λ (wire : Wire). some_layer_items wire.layer) wires 0)

-- a cell that may be inlined has few parts
pub light-cell_of : (known : CheckedCell) → weight_of known ≤ 65536 → IsLight (cell_of known)
unfolding weight_of items_in
light-cell_of known h = omega (arith, h, fewer_nodes known.nodes, fewer_wires known.wires)
