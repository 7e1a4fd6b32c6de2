-- A line that is no wire takes no side.
use Rattle.std.proofs.Common.{◌≡◌, ℕ, ◌+◌, ◌<◌, List, [], ◌∷◌, length, map, Result, Ok, Err, refl, sym, subst, ◌∙◌}
use Rattle.std.proofs.lemmas.List.{get_or-append-add, get_or-map}
use Rattle.rule_table.specs.declared.{technology.Tech.Tech, classes.Layer.Layer}
use Rattle.lam_geom.specs.declared.boxes.Side.{Side}
use Rattle.stick_text.specs.{declared.{fault.LineFault.LineFault, design.Form.Form}, Writable.{IsForm, IsName}}
use Rattle.stick_text.specs.declared.design.Form.TheVariants as forms
use Rattle.cell_model.specs.{declared.cell.{Node.Node, Limit.Limit}, Sound.{node_at, no_node}}
use Rattle.checked_cells.specs.declared.names.Binding.TheVariants as bindings
use Rattle.stick_cell.specs.{declared.builder.CellBuilder.CellBuilder, CellBuilder.{Grows, GrowsWith}}
use Rattle.stick_cell.proofs.SidesKept.{sides_with, sides_copy}
use Rattle.checked_cells.specs.{declared.sides.SideMap.SideMap, CheckedCell.{CheckedCell, known_at, with_node}}
use Rattle.checked_cells.specs.{CheckedCell.{with_port, with_limit, with_copy, copied_node}, Checks.layer_of}
use Rattle.checked_cells.specs.{Lines.after_form, Built.{IsBuilt, AreBuilt}, Sides.{TakenAt, side_entries, AreSidesOf}}
use Rattle.checked_cells.proofs.{BuiltNames.{more_nodes, same_nodes}, Made.{IsWithNode, IsWithPort, IsWithCopy}}
use Rattle.checked_cells.proofs.Made.{joint_made, contact_made, buried_made, fet_made, port_made, use_made, limit_made}

sides_node : (tech : Tech) (cells : List CheckedCell) (known : CheckedCell) (name : List ℕ) (col row : ℕ)
    (next : CheckedCell) (entries : TakenAt) → IsBuilt tech cells known → IsWithNode tech known name col row next
    → AreSidesOf cells known entries → AreSidesOf cells next entries
sides_node tech cells known name col row next entries built made are =
    let node : Node = record { name = name; kind = made.kind; col = col; row = row } in
    let P : CheckedCell → Type 0 = λ after. AreSidesOf cells after entries in
    subst P made.same
    (sides_with tech cells known (with_node known name made.kind col row) entries name
    (bindings.Node (record { number = length known.nodes; kind = made.kind; col = col; row = row })) made.fresh
    refl refl refl
    (more_nodes known.nodes (node ∷ [])) built.wires are)

sides_port : (tech : Tech) (cells : List CheckedCell) (known : CheckedCell) (name : List ℕ) (side : Side)
    (layer : Layer) (place : ℕ) (next : CheckedCell) (entries : TakenAt) → IsBuilt tech cells known
    → IsWithPort known name side layer place next → AreSidesOf cells known entries → AreSidesOf cells next entries
sides_port tech cells known name side layer place next entries built made are =
    let P : CheckedCell → Type 0 = λ after. AreSidesOf cells after entries in
    subst P made.same
    (sides_with tech cells known (with_port known name side layer place) entries name
    (bindings.Port (record { number = length known.plugs; side = side; layer = layer; place = place })) made.fresh
    refl refl refl
    (same_nodes known.nodes) built.wires are)

sides_use : (tech : Tech) (cells : List CheckedCell) (known : CheckedCell) (name : List ℕ) (col row : ℕ)
    (next : CheckedCell) (entries : TakenAt) → IsName name → AreBuilt tech cells → IsBuilt tech cells known
    → IsWithCopy cells known name col row next → AreSidesOf cells known entries → AreSidesOf cells next entries
sides_use tech cells known name col row next entries is cells_built built made are =
    let used : CheckedCell = known_at cells made.number in
    let after : CheckedCell = with_copy known name made.number used col row in
    let at : (j : ℕ) → j < length used.nodes
    → node_at after.nodes (length known.nodes + j) ≡ copied_node name col row (node_at used.nodes j) =
    λ j lt. get_or-append-add known.nodes (map (copied_node name col row) used.nodes) j no_node
    ∙ get_or-map (copied_node name col row) used.nodes j no_node no_node lt in
    let P : CheckedCell → Type 0 = λ after. AreSidesOf cells after entries in
    subst P made.same
    (sides_copy tech cells known after entries name
    (record { cell = made.number; first = length known.nodes; col = col; row = row }) is made.fresh refl refl
    (more_nodes known.nodes (map (copied_node name col row) used.nodes)) at built.wires
    (cells_built.built made.number made.earlier).wires are)

sides_limit : (cells : List CheckedCell) (known next : CheckedCell) (limit : Limit) (entries : TakenAt)
    → with_limit known limit ≡ next → AreSidesOf cells known entries → AreSidesOf cells next entries
sides_limit cells known next limit entries same are = let P : CheckedCell
    → Type 0 = λ after. AreSidesOf cells after entries in subst P same are

abbrev pub IsNoWire : Form → Type 0
IsNoWire (forms.Wire layer a b width) = ⊥
IsNoWire form = Unit {0}

-- after a line that is no wire the same sides are taken
sides_after : (tech : Tech) (cells : List CheckedCell) (known : CheckedCell) (form : Form) (next : CheckedCell)
    (entries : TakenAt) → IsNoWire form → AreBuilt tech cells → IsForm form → IsBuilt tech cells known
    → after_form tech cells known form ≡ Ok next → AreSidesOf cells known entries → AreSidesOf cells next entries
sides_after tech cells known (forms.Joint name layer col row width) next entries plain are is built e sides =
    sides_node tech cells known name col row next entries built
    (joint_made tech known name layer col row width next e) sides
sides_after tech cells known (forms.Contact name lower col row) next entries plain are is built e sides =
    sides_node tech cells known name col row next entries built
    (contact_made tech known name lower col row next is.1 e) sides
sides_after tech cells known (forms.Buried name col row) next entries plain are is built e sides =
    sides_node tech cells known name col row next entries built (buried_made tech known name col row next e) sides
sides_after tech cells known (forms.Fet name depletion vertical col row w l) next entries plain are is built e sides =
    sides_node tech cells known name col row next entries built
    (fet_made tech known name depletion vertical col row w l next e) sides
sides_after tech cells known (forms.Port name side layer place) next entries plain are is built e sides =
    sides_port tech cells known name side (layer_of layer) place next entries built
    (port_made known name side layer place next e) sides
sides_after tech cells known (forms.Inst name cell col row) next entries plain are is built e sides =
    sides_use tech cells known name col row next entries is.0 are built
    (use_made cells known name cell col row next e) sides
sides_after tech cells known (forms.Wire layer a b width) next entries plain are is built e sides = absurd plain
sides_after tech cells known (forms.Limit vertical a b at_most n) next entries plain are is built e sides =
    let made = limit_made cells known vertical a b at_most n next e in sides_limit cells known next (made.limit)
    entries made.same sides

-- and so what is kept of them tells of the cell after it
pub grows_with : {X : Type 0} {tech : Tech} {cells : List CheckedCell} {known : CheckedCell} {form kind : Form}
    {old : SideMap} (result : Result X LineFault) (new : CellBuilder) → form ≡ kind → IsNoWire kind
    → AreBuilt tech cells → IsForm form → IsBuilt tech cells known → AreSidesOf cells known (side_entries old)
    → new.table.sides ≡ old → Grows cells result new (after_form tech cells known form)
    → GrowsWith cells result new (after_form tech cells known form)
grows_with (Err fault) new e plain are is built sides same grows = grows
grows_with {tech} {cells} {known} {form} {old} (Ok x) new e plain are is built sides same (next, read, builder) = (
  next,
  read,
  builder,
  subst (λ (map : SideMap). AreSidesOf cells next (side_entries map)) (sym same)
      (sides_after tech cells known form next (side_entries old) (subst IsNoWire (sym e) plain) are is built read
      sides),
)
