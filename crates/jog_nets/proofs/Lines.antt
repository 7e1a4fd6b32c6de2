-- What a cell without uses has, told by the forms of its lines: its nodes, which of its names are ports, and between
-- which names its wires run.
use Rattle.std.proofs.Common.{◌≡◌, ℕ, ◌<◌, ℤ, pos, Bool, true, false, cond, List, [], ◌∷◌, ◌++◌, length, map, Option}
use Rattle.std.proofs.Common.{Some, None, Result, Ok, Err, inl, inr, sym, ap, subst, ◌∙◌, arith}
use Rattle.std.proofs.lemmas.List.{append_assoc, append-nil}
use Rattle.std.specs.{Prelude.{◌⊎◌, bytes_eq}, List.{AllByRecursion, AllZip, flat_map}, Map.lookup}
use Rattle.lam_geom.specs.declared.boxes.Side.{Side}
use Rattle.rule_table.specs.declared.technology.Tech.{Tech}
use Rattle.stick_text.specs.declared.{fault.StickKind.StickKind, design.{Layer.Layer as DrawnLayer, Form.Form}}
use Rattle.stick_text.specs.declared.design.Form.TheVariants.{Joint, Contact, Buried, Fet, Port, Inst, Wire, Limit}
use Rattle.cell_model.specs.declared.cell.NodeKind.TheVariants as kinds
use Rattle.cell_model.specs.{declared.cell.{Node.Node, WireEnd.WireEnd, Wire.Wire as CellWire}, Sound.node_at}
use Rattle.cell_model.specs.declared.cell.WireEnd.TheVariants as ends
use Rattle.checked_cells.specs.{declared.names.Binding.Binding, CheckedCell.{CheckedCell, plug_at}, Paths.Names}
use Rattle.checked_cells.specs.{Checks.{layer_of, sized}, Lines.axis_where}
use Rattle.checked_cells.proofs.{BuiltNames.{MoreNodes, MorePlugs, more_nodes, same_plugs}, BuiltPlugs.more_plugs_twice}
use Rattle.checked_cells.specs.declared.names.Binding.TheVariants as bindings

-- ---- what a form brings

abbrev pub size_or_none : Result ℤ StickKind → ℤ
size_or_none (Ok size) = size
size_or_none (Err kind) = pos 0

-- its node
abbrev pub nodes_in : Tech → Form → List Node
nodes_in tech (Joint name layer col row width) =
    record {
      name = name;
      kind = kinds.Joint (layer_of layer) (size_or_none (sized tech (layer_of layer) width));
      col = col;
      row = row;
    } ∷ []
nodes_in tech (Contact name lower col row) =
    record { name = name; kind = kinds.Contact (layer_of lower); col = col; row = row } ∷ []
nodes_in tech (Buried name col row) = record { name = name; kind = kinds.Buried; col = col; row = row } ∷ []
nodes_in tech (Fet name depletion vertical col row w l) =
    record { name = name; kind = kinds.Fet depletion (axis_where vertical) (pos w) (pos l); col = col; row = row } ∷
    []
nodes_in tech (Port name side layer place) = []
nodes_in tech (Inst name cell col row) = []
nodes_in tech (Wire layer a b width) = []
nodes_in tech (Limit vertical a b at_most n) = []

-- names, each with the side of its port, where it is one
abbrev pub Sided : Type 0
Sided = List (List ℕ × Option Side)

-- its name
abbrev pub sides_in : Form → Sided
sides_in (Joint name layer col row width) = (name, None) ∷ []
sides_in (Contact name lower col row) = (name, None) ∷ []
sides_in (Buried name col row) = (name, None) ∷ []
sides_in (Fet name depletion vertical col row w l) = (name, None) ∷ []
sides_in (Port name side layer place) = (name, Some side) ∷ []
sides_in (Inst name cell col row) = []
sides_in (Wire layer a b width) = []
sides_in (Limit vertical a b at_most n) = []

-- the layer of a wire, and the names of its ends
pub record Joining : Type 0 where
  pub layer : DrawnLayer
  pub a : List ℕ
  pub b : List ℕ

-- its wire
abbrev pub joins_in : Form → List Joining
joins_in (Joint name layer col row width) = []
joins_in (Contact name lower col row) = []
joins_in (Buried name col row) = []
joins_in (Fet name depletion vertical col row w l) = []
joins_in (Port name side layer place) = []
joins_in (Inst name cell col row) = []
joins_in (Wire layer a b width) = record { layer = layer; a = a; b = b } ∷ []
joins_in (Limit vertical a b at_most n) = []

abbrev pub IsNoUse : Form → Type 0
IsNoUse (Joint name layer col row width) = Unit {0}
IsNoUse (Contact name lower col row) = Unit {0}
IsNoUse (Buried name col row) = Unit {0}
IsNoUse (Fet name depletion vertical col row w l) = Unit {0}
IsNoUse (Port name side layer place) = Unit {0}
IsNoUse (Inst name cell col row) = ⊥
IsNoUse (Wire layer a b width) = Unit {0}
IsNoUse (Limit vertical a b at_most n) = Unit {0}

-- ---- the names of a cell

abbrev pub side_of : Binding → Option Side
side_of (bindings.Node node_place) = None
side_of (bindings.Port pin) = Some pin.side
side_of (bindings.Copy copy) = None

abbrev pub sided_entry : List ℕ × Binding → List ℕ × Option Side
sided_entry entry = (entry.0, side_of entry.1)

abbrev pub sides : Names → Sided
sides table = map sided_entry table

abbrev pub side_named : Sided → List ℕ → Option (Option Side)
side_named table name = lookup (λ other. bytes_eq name other) table

-- the name is not that of a use
abbrev pub IsOwn : Binding → Type 0
IsOwn (bindings.Node node_place) = Unit {0}
IsOwn (bindings.Port pin) = Unit {0}
IsOwn (bindings.Copy copy) = ⊥

abbrev pub AreOwn : Names → Type 0
AreOwn table = AllByRecursion (λ entry. IsOwn entry.1) table

-- what a name stands for, it stands for where there are more names
pub side_more : (table more : Sided) (name : List ℕ) (side : Option Side) → side_named table name ≡ Some side
    → side_named (table ++ more) name ≡ Some side
side_more [] more name side is = absurd cc
side_more (entry ∷ table) more name side is = by (bytes_eq name entry.0) (side_more table more name side) is
  where
    by : (b : Bool) → (side_named table name ≡ Some side → side_named (table ++ more) name ≡ Some side)
        → cond b (Some entry.1) (side_named table name) ≡ Some side
        → cond b (Some entry.1) (side_named (table ++ more) name) ≡ Some side
    by true rest is = is
    by false rest is = rest is

-- ---- the ends of wires

-- the end is the node or the port of this name
abbrev pub IsEndOf : CheckedCell → List ℕ → WireEnd → Type 0
IsEndOf known name (ends.Node i) = (i < length known.nodes) × ((node_at known.nodes i).name ≡ name)
    × (side_named (sides known.names) name ≡ Some None)
IsEndOf known name (ends.Port i) = (i < length known.plugs)
    × (side_named (sides known.names) name ≡ Some (Some (plug_at known.plugs i).port.side))

-- the wire runs between these two
pub record IsJoined (known : CheckedCell) (joining : Joining) (wire : CellWire) : Type 0 where
  pub layer : wire.layer ≡ layer_of joining.layer
  pub ends : (IsEndOf known joining.a wire.low × IsEndOf known joining.b wire.high)
      ⊎ (IsEndOf known joining.b wire.low × IsEndOf known joining.a wire.high)

-- ---- a cell after some of its lines

pub record Grew (tech : Tech) (known : CheckedCell) (forms : List Form) (next : CheckedCell) : Type 0 where
  pub nodes : next.nodes ≡ known.nodes ++ flat_map (nodes_in tech) forms
  pub names : sides next.names ≡ sides known.names ++ flat_map sides_in forms
  pub own : AreOwn next.names
  pub plugs : MorePlugs known.plugs next.plugs
  pub wires : List CellWire
  pub wired : next.wires ≡ known.wires ++ wires
  pub joins : AllZip (IsJoined next) (flat_map joins_in forms) wires

-- what holds of an end still holds
pub end_kept : (old new : CheckedCell) (more : Sided) (name : List ℕ) (end : WireEnd) → MoreNodes old.nodes new.nodes
    → sides new.names ≡ sides old.names ++ more → MorePlugs old.plugs new.plugs
    → IsEndOf old name end → IsEndOf new name end
end_kept old new more name (ends.Node i) nodes names plugs is = (
  omega (arith, nodes.long, is.0),
  ap (λ (node : Node). node.name) (nodes.same i is.0) ∙ is.1,
  ap (λ (table : Sided). side_named table name) names ∙ side_more (sides old.names) more name None is.2,
)
end_kept old new more name (ends.Port i) nodes names plugs is = (
  omega (arith, plugs.long, is.0),
  ap (λ (table : Sided). side_named table name) names
      ∙ side_more (sides old.names) more name (Some (plug_at old.plugs i).port.side) is.1
      ∙ ap (λ (side : Side). Some (Some side)) (sym (plugs.side i is.0)),
)

nodes_more : (tech : Tech) (known : CheckedCell) (forms : List Form) (next : CheckedCell) → Grew tech known forms next
    → MoreNodes known.nodes next.nodes
nodes_more tech known forms next grew =
    subst (MoreNodes known.nodes) (sym grew.nodes) (more_nodes known.nodes (flat_map (nodes_in tech) forms))

-- so does what holds of a wire
joined_kept : (tech : Tech) (known : CheckedCell) (forms : List Form) (next : CheckedCell)
    → Grew tech known forms next → (joining : Joining) (wire : CellWire) → IsJoined known joining wire
    → IsJoined next joining wire
joined_kept tech known forms next grew joining wire is =
    let kept : (name : List ℕ) (end : WireEnd) → IsEndOf known name end → IsEndOf next name end =
    λ name end. end_kept known next (flat_map sides_in forms) name end (nodes_more tech known forms next grew)
    grew.names grew.plugs in
    record { layer = is.layer; ends = by kept is.ends }
  where
    by : ((name : List ℕ) (end : WireEnd) → IsEndOf known name end → IsEndOf next name end)
        → (IsEndOf known joining.a wire.low × IsEndOf known joining.b wire.high)
        ⊎ (IsEndOf known joining.b wire.low × IsEndOf known joining.a wire.high)
        → (IsEndOf next joining.a wire.low × IsEndOf next joining.b wire.high)
        ⊎ (IsEndOf next joining.b wire.low × IsEndOf next joining.a wire.high)
    by kept (inl both) = inl (kept joining.a wire.low both.0, kept joining.b wire.high both.1)
    by kept (inr both) = inr (kept joining.b wire.low both.0, kept joining.a wire.high both.1)

zip_weaker : {A B : Type 0} (P Q : A → B → Type 0) (imp : (x : A) (y : B) → P x y → Q x y) (xs : List A) (ys : List B)
    → AllZip P xs ys → AllZip Q xs ys
zip_weaker P Q imp [] [] h = h
zip_weaker P Q imp [] (y ∷ ys) h = absurd h
zip_weaker P Q imp (x ∷ xs) [] h = absurd h
zip_weaker P Q imp (x ∷ xs) (y ∷ ys) h = (imp x y h.0, zip_weaker P Q imp xs ys h.1)

zip_append : {A B : Type 0} (R : A → B → Type 0) (xs : List A) (ys : List B) (zs : List A) (ws : List B)
    → AllZip R xs ys → AllZip R zs ws → AllZip R (xs ++ zs) (ys ++ ws)
zip_append R [] [] zs ws h k = k
zip_append R [] (y ∷ ys) zs ws h k = absurd h
zip_append R (x ∷ xs) [] zs ws h k = absurd h
zip_append R (x ∷ xs) (y ∷ ys) zs ws h k = (h.0, zip_append R xs ys zs ws h.1 k)

-- before its first line
pub grew_none : (tech : Tech) (known : CheckedCell) → AreOwn known.names → Grew tech known [] known
grew_none tech known own =
    record {
      nodes = sym (append-nil known.nodes);
      names = sym (append-nil (sides known.names));
      own = own;
      plugs = same_plugs known.plugs;
      wires = [];
      wired = sym (append-nil known.wires);
      joins = tt;
    }

joined_lists : {X : Type 0} (f : Form → List X) (form : Form) (forms : List Form) (a b c : List X)
    → b ≡ a ++ flat_map f (form ∷ []) → c ≡ b ++ flat_map f forms → c ≡ a ++ flat_map f (form ∷ forms)
joined_lists f form forms a b c e g =
    g ∙ ap (λ xs. xs ++ flat_map f forms) (e ∙ ap (λ xs. a ++ xs) (append-nil (f form)))
    ∙ append_assoc a (f form) (flat_map f forms)

-- one line, then the others
pub grew_more : (tech : Tech) (known : CheckedCell) (form : Form) (next : CheckedCell) (forms : List Form)
    (last : CheckedCell) → Grew tech known (form ∷ []) next → Grew tech next forms last
    → Grew tech known (form ∷ forms) last
grew_more tech known form next forms last first rest =
    record {
      nodes = joined_lists (nodes_in tech) form forms known.nodes next.nodes last.nodes first.nodes rest.nodes;
      names = joined_lists sides_in form forms (sides known.names) (sides next.names) (sides last.names) first.names
          rest.names;
      own = rest.own;
      plugs = more_plugs_twice known.plugs next.plugs last.plugs first.plugs rest.plugs;
      wires = first.wires ++ rest.wires;
      wired = rest.wired ∙ ap (λ (ws : List CellWire). ws ++ rest.wires) first.wired
          ∙ append_assoc known.wires first.wires rest.wires;
      joins = subst
          (λ (js : List Joining). AllZip (IsJoined last) (js ++ flat_map joins_in forms) (first.wires ++ rest.wires))
          (append-nil (joins_in form))
          (zip_append (IsJoined last) (flat_map joins_in (form ∷ [])) first.wires (flat_map joins_in forms) rest.wires
          (zip_weaker (IsJoined next) (IsJoined last) (joined_kept tech next forms last rest)
          (flat_map joins_in (form ∷ [])) first.wires first.joins) rest.joins);
    }
