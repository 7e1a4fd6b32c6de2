-- Each line of a cell without uses adds to the cell what its form brings.
use Rattle.std.proofs.Common.{◌≡◌, ℕ, ℤ, pos, Bool, true, false, cond, List, [], ◌∷◌, ◌++◌, length, map, Option, Some}
use Rattle.std.proofs.{Common.{None, Result, Ok, inl, inr, refl, sym, ap, subst, ◌∙◌}, lemmas.List.append-nil}
use Rattle.std.proofs.lemmas.List.{map-append, Splits.join_with_byte-slice_split}
use Rattle.std.specs.Prelude.{◌⊎◌, ◌&&◌, ◌||◌, ◌==◌, not, nat_lt, bytes_eq, option_map, option_and_then, IsTrue}
use Rattle.std.specs.{Prelude.if◌then◌else◌, List.{AllByRecursion, AllZip, join_with_byte}}
use Rattle.list_facts.proofs.Elements.{all_append}
use Rattle.lam_geom.specs.declared.boxes.Side.{Side}
use Rattle.rule_table.specs.{declared.technology.Tech.Tech, Technology.has_buried_of}
use Rattle.stick_lex.specs.Tokens.{names}
use Rattle.stick_text.specs.declared.fault.StickKind.{StickKind, TheVariants.{RepeatedName, FarPlace, BadSize}}
use Rattle.stick_text.specs.declared.{fault.StickKind.TheVariants.NoBuried, design.Layer.Layer as DrawnLayer}
use Rattle.stick_text.specs.declared.design.Form.{Form, TheVariants.{Joint, Contact, Buried, Fet, Port, Inst, Wire}}
use Rattle.stick_text.specs.{declared.design.{Form.TheVariants.Limit, Line.Line}, Writable.{IsForm, IsLine}}
use Rattle.stick_text.specs.{Reading.{◌>>=◌, demand}, Order.at_line}
use Rattle.cell_model.specs.declared.cell.{Axis2.{Axis2, TheVariants.{Across, Up}}, NodeKind.NodeKind, Node.Node}
use Rattle.cell_model.specs.declared.cell.{WireEnd.WireEnd, Wire.Wire as CellWire}
use Rattle.cell_model.specs.Wiring.{axis_of, is_low_side, is_same_axis}
use Rattle.cell_model.specs.declared.cell.NodeKind.TheVariants as kinds
use Rattle.checked_cells.specs.declared.names.{Binding.Binding, Terminal.Terminal, Found.{Found, TheVariants.At}}
use Rattle.checked_cells.specs.{declared.names.Run.Run, CheckedCell.{CheckedCell, Plug, with_node, with_port}}
use Rattle.checked_cells.specs.{CheckedCell.{with_wire, plugged}, Paths.{Names, named, names_at, walk_on, walk}}
use Rattle.checked_cells.specs.{Paths.found_at, Checks.{layer_of, is_fresh, is_place, is_channel, sized}}
use Rattle.checked_cells.specs.Lines.{axis_where, wired_of, after_joint, after_contact, after_buried, after_fet}
use Rattle.checked_cells.specs.{Lines.{after_form, after_lines}, Wires.{line_of, run_along, run_between, end_of}}
use Rattle.checked_cells.{specs.Built.{IsBuilt, AreBuilt}, proofs.Accepted.{bound, two_demanded, demanded, ok_same}}
use Rattle.checked_cells.proofs.{Accepted.at_line_ok, Made.{IsWithPort, IsWithWire, IsWithLimit, port_made, wire_made}}
use Rattle.checked_cells.proofs.{Made.limit_made, BuiltNames.{MorePlugs, IsAt, at_end_of, same_nodes, same_plugs}}
use Rattle.checked_cells.proofs.{BuiltNames.more_plugs, BuiltPlugs.{more_plugged, more_plugs_twice}}
use Rattle.checked_cells.proofs.{BuiltRuns.{accepted_run, run_ends}, Built.built-after_form}
use Rattle.checked_cells.specs.declared.names.Binding.TheVariants as bindings
use Rattle.checked_cells.specs.declared.names.Terminal.TheVariants as terminals
use Rattle.jog_nets.proofs.Lines.{size_or_none, nodes_in, Sided, sides_in, Joining, joins_in, IsNoUse, side_of}
use Rattle.jog_nets.proofs.Lines.{sided_entry, sides, side_named, IsOwn, AreOwn, IsEndOf, IsJoined, end_kept, Grew}
use Rattle.jog_nets.proofs.Lines.{grew_none, grew_more}

-- ---- nodes and ports

-- one more node
node_grew : (tech : Tech) (known : CheckedCell) (form : Form) (name : List ℕ) (kind : NodeKind) (col row : ℕ)
    (next : CheckedCell) → AreOwn known.names
    → nodes_in tech form ≡ record { name = name; kind = kind; col = col; row = row } ∷ []
    → sides_in form ≡ (name, None) ∷ [] → joins_in form ≡ []
    → with_node known name kind col row ≡ next → Grew tech known (form ∷ []) next
node_grew tech known form name kind col row next own nodes sided joins e =
    let node_place : Binding =
    bindings.Node (record { number = length known.nodes; kind = kind; col = col; row = row }) in
    subst (Grew tech known (form ∷ [])) e (record {
      nodes = ap (λ (more : List Node). known.nodes ++ more) (sym nodes ∙ sym (append-nil (nodes_in tech form)));
      names = map-append sided_entry known.names ((name, node_place) ∷ [])
          ∙ ap (λ (more : Sided). sides known.names ++ more) (sym sided ∙ sym (append-nil (sides_in form)));
      own = all_append (λ (entry : List ℕ × Binding). IsOwn entry.1) known.names ((name, node_place) ∷ []) own (tt, tt);
      plugs = same_plugs known.plugs;
      wires = [];
      wired = sym (append-nil known.wires);
      joins = subst (λ (js : List Joining). AllZip (IsJoined (with_node known name kind col row)) (js ++ []) [])
          (sym joins) tt;
    })

joint_grew : (tech : Tech) (known : CheckedCell) (name : List ℕ) (layer : DrawnLayer) (col row : ℕ) (width : Option ℕ)
    (next : CheckedCell) → AreOwn known.names
    → after_joint tech known name layer col row width ≡ Ok next
    → Grew tech known (Joint name layer col row width ∷ []) next
unfolding after_joint
joint_grew tech known name layer col row width next own e =
    let with_size : ℤ → CheckedCell = λ size. with_node known name (kinds.Joint (layer_of layer) size) col row in
    let met : IsTrue (is_fresh known.names name) × IsTrue (is_place col && is_place row)
    × ((sized tech (layer_of layer) width >>= λ size. Ok (with_size size)) ≡ Ok next) =
    two_demanded (is_fresh known.names name) (is_place col && is_place row) RepeatedName FarPlace
    (sized tech (layer_of layer) width >>= λ size. Ok (with_size size)) next e in
    let size : (z : ℤ) × (sized tech (layer_of layer) width ≡ Ok z)
    × (◌≡◌ {A = Result CheckedCell StickKind} (Ok (with_size z)) (Ok next)) =
    bound (sized tech (layer_of layer) width) (λ z. Ok (with_size z)) next met.2 in
    let same : size_or_none (sized tech (layer_of layer) width) ≡ size.0 = ap size_or_none size.1 in
    node_grew tech known (Joint name layer col row width) name
    (kinds.Joint (layer_of layer) (size_or_none (sized tech (layer_of layer) width))) col row next own refl refl
    refl
    (ap with_size same ∙ ok_same (with_size size.0) next size.2)

contact_grew : (tech : Tech) (known : CheckedCell) (name : List ℕ) (lower : DrawnLayer) (col row : ℕ)
    (next : CheckedCell) → AreOwn known.names
    → after_contact known name lower col row ≡ Ok next → Grew tech known (Contact name lower col row ∷ []) next
unfolding after_contact
contact_grew tech known name lower col row next own e =
    let after : CheckedCell = with_node known name (kinds.Contact (layer_of lower)) col row in
    let met : IsTrue (is_fresh known.names name) × IsTrue (is_place col && is_place row)
    × (◌≡◌ {A = Result CheckedCell StickKind} (Ok after) (Ok next)) =
    two_demanded (is_fresh known.names name) (is_place col && is_place row) RepeatedName FarPlace (Ok after) next e in
    node_grew tech known (Contact name lower col row) name (kinds.Contact (layer_of lower)) col row next own refl refl
    refl (ok_same after next met.2)

buried_grew : (tech : Tech) (known : CheckedCell) (name : List ℕ) (col row : ℕ) (next : CheckedCell)
    → AreOwn known.names
    → after_buried tech known name col row ≡ Ok next → Grew tech known (Buried name col row ∷ []) next
unfolding after_buried
buried_grew tech known name col row next own e =
    let after : CheckedCell = with_node known name kinds.Buried col row in
    let met : IsTrue (is_fresh known.names name) × IsTrue (is_place col && is_place row)
    × ((demand (has_buried_of tech) NoBuried >>= λ u. Ok after) ≡ Ok next) =
    two_demanded (is_fresh known.names name) (is_place col && is_place row) RepeatedName FarPlace
    (demand (has_buried_of tech) NoBuried >>= λ u. Ok after) next e in
    node_grew tech known (Buried name col row) name kinds.Buried col row next own refl refl refl
    (ok_same after next (demanded (has_buried_of tech) NoBuried (Ok after) next met.2).1)

fet_grew : (tech : Tech) (known : CheckedCell) (name : List ℕ) (depletion vertical : Bool) (col row w l : ℕ)
    (next : CheckedCell) → AreOwn known.names
    → after_fet tech known name depletion vertical col row w l ≡ Ok next
    → Grew tech known (Fet name depletion vertical col row w l ∷ []) next
unfolding after_fet
fet_grew tech known name depletion vertical col row w l next own e =
    let after : CheckedCell = with_node known name (kinds.Fet depletion (axis_where vertical) (pos w) (pos l)) col
    row in
    let met : IsTrue (is_fresh known.names name) × IsTrue (is_place col && is_place row)
    × ((demand (is_channel tech w l) BadSize >>= λ u. Ok after) ≡ Ok next) =
    two_demanded (is_fresh known.names name) (is_place col && is_place row) RepeatedName FarPlace
    (demand (is_channel tech w l) BadSize >>= λ u. Ok after) next e in
    node_grew tech known (Fet name depletion vertical col row w l) name
    (kinds.Fet depletion (axis_where vertical) (pos w) (pos l)) col row next own refl refl refl
    (ok_same after next (demanded (is_channel tech w l) BadSize (Ok after) next met.2).1)

-- one more port
port_grew : (tech : Tech) (known : CheckedCell) (name : List ℕ) (side : Side) (layer : DrawnLayer) (place : ℕ)
    (next : CheckedCell) → AreOwn known.names
    → IsWithPort known name side (layer_of layer) place next → Grew tech known (Port name side layer place ∷ []) next
port_grew tech known name side layer place next own made =
    let after : CheckedCell = with_port known name side (layer_of layer) place in
    let pin : Binding =
    bindings.Port (record { number = length known.plugs; side = side; layer = layer_of layer; place = place }) in
    subst (Grew tech known (Port name side layer place ∷ [])) made.same (record {
      nodes = sym (append-nil known.nodes);
      names = map-append sided_entry known.names ((name, pin) ∷ []);
      own = all_append (λ (entry : List ℕ × Binding). IsOwn entry.1) known.names ((name, pin) ∷ []) own (tt, tt);
      plugs = more_plugs known.plugs
          (record {
            port = record { name = name; side = side; layer = layer_of layer; place = place; wire = 0 };
            width = pos 0;
            wired = false;
          } ∷ []);
      wires = [];
      wired = sym (append-nil known.wires);
      joins = tt;
    })

-- one more limit
limit_grew : (tech : Tech) (cells : List CheckedCell) (known : CheckedCell) (vertical : Bool) (a b : List ℕ)
    (at_most : Bool) (n : ℤ) (next : CheckedCell) → AreOwn known.names
    → IsWithLimit cells known a b n next → Grew tech known (Limit vertical a b at_most n ∷ []) next
limit_grew tech cells known vertical a b at_most n next own made =
    subst (Grew tech known (Limit vertical a b at_most n ∷ [])) made.same (record {
      nodes = sym (append-nil known.nodes);
      names = sym (append-nil (sides known.names));
      own = own;
      plugs = same_plugs known.plugs;
      wires = [];
      wired = sym (append-nil known.wires);
      joins = tt;
    })

-- ---- wires

-- the terminal is a node, or a port on a side
abbrev side_at_end : Terminal → Option Side
side_at_end (terminals.Node node_place) = None
side_at_end (terminals.Port pin) = Some pin.side

own_named : (table : Names) (name : List ℕ) (binding : Binding) → AreOwn table → named table name ≡ Some binding
    → IsOwn binding
own_named [] name binding own e = absurd cc
own_named (entry ∷ table) name binding own e = by (bytes_eq name entry.0) (own_named table name binding own.1) e
  where
    by : (b : Bool) → (named table name ≡ Some binding → IsOwn binding)
        → cond b (Some entry.1) (named table name) ≡ Some binding → IsOwn binding
    by true rest e = let same : entry.1 ≡ binding = cc in subst IsOwn same own.0
    by false rest e = rest e

side_of_named : (table : Names) (name : List ℕ) → side_named (sides table) name ≡ option_map side_of (named table name)
side_of_named [] name = refl
side_of_named (entry ∷ table) name = by (bytes_eq name entry.0) (side_of_named table name)
  where
    by : (b : Bool) → side_named (sides table) name ≡ option_map side_of (named table name)
        → cond b (Some (side_of entry.1)) (side_named (sides table) name)
        ≡ option_map side_of (cond b (Some entry.1) (named table name))
    by true rest = refl
    by false rest = rest

-- after one of its own names, a cell has what the name stands for
own_after : (binding : Binding) (name : List ℕ) (path : List (List ℕ)) (inner : ℕ → Option Found) (t : Terminal)
    → IsOwn binding → walk_on binding path inner ≡ Some (At t)
    → (side_of binding ≡ side_at_end t) × (join_with_byte 46 (name ∷ path) ≡ name)
own_after (bindings.Node node_place) name [] inner t own e = let same : terminals.Node node_place ≡ t =
    cc in (ap side_at_end same, refl)
own_after (bindings.Node node_place) name (next ∷ path) inner t own e = absurd (cc)
own_after (bindings.Port pin) name [] inner t own e = let same : terminals.Port pin ≡ t =
    cc in (ap side_at_end same, refl)
own_after (bindings.Port pin) name (next ∷ path) inner t own e = absurd (cc)
own_after (bindings.Copy copy) name path inner t own e = absurd own

own_walk : (tables : List Names) (table : Names) (path : List (List ℕ)) (t : Terminal) → AreOwn table
    → walk tables table path ≡ Some (At t)
    → side_named (sides table) (join_with_byte 46 path) ≡ Some (side_at_end t)
own_walk tables table [] t own e = absurd (cc)
own_walk tables table (name ∷ path) t own e = by (named table name) refl e
  where
    by : (found : Option Binding) → named table name ≡ found
        → option_and_then (λ binding. walk_on binding path (λ k. walk tables (names_at tables k) path)) found
        ≡ Some (At t)
        → side_named (sides table) (join_with_byte 46 (name ∷ path)) ≡ Some (side_at_end t)
    by None is e = absurd (cc)
    by (Some binding) is e =
        let here : (side_of binding ≡ side_at_end t) × (join_with_byte 46 (name ∷ path) ≡ name) =
        own_after binding name path (λ k. walk tables (names_at tables k) path) t
        (own_named table name binding own is) e in
        ap (side_named (sides table)) here.1 ∙ side_of_named table name ∙ ap (option_map side_of) is
        ∙ ap (λ (side : Option Side). Some side) here.0

-- the terminal that a path comes to
end_found : (tech : Tech) (cells : List CheckedCell) (known : CheckedCell) (path : List ℕ) (t : Terminal)
    → AreBuilt tech cells → IsBuilt tech cells known → AreOwn known.names
    → found_at cells known path ≡ Some (At t) → IsEndOf known path (end_of t)
unfolding found_at
end_found tech cells known path t are built own e =
    let at : IsAt known.nodes known.plugs path t = at_end_of tech cells known path t are built.names e in
    let side : side_named (sides known.names) path ≡ Some (side_at_end t) =
    ap (side_named (sides known.names)) (sym (join_with_byte-slice_split 46 path))
    ∙ own_walk (map (λ (cell : CheckedCell). cell.names) cells) known.names (names path) t own e in
    by t at side
  where
    by : (t : Terminal) → IsAt known.nodes known.plugs path t
        → side_named (sides known.names) path ≡ Some (side_at_end t) → IsEndOf known path (end_of t)
    by (terminals.Node node_place) at side = (at.within, ap (λ (node : Node). node.name) at.node, side)
    by (terminals.Port pin) at side = (at.within, side ∙ ap (λ (s : Side). Some (Some s)) (sym at.side))

-- the ends of a run are the two that it is between
abbrev AreEnds : Terminal → Terminal → Run → Type 0
AreEnds s t run = ((run.low ≡ s) × (run.high ≡ t)) ⊎ ((run.low ≡ t) × (run.high ≡ s))

ends_along : (along : Axis2) (is_low : Bool) (s t : Terminal) (run : Run) → run_along along is_low s t ≡ run
    → AreEnds s t run
ends_along along true s t run e = inl (ap (λ (r : Run). r.low) (sym e), ap (λ (r : Run). r.high) (sym e))
ends_along along false s t run e = inr (ap (λ (r : Run). r.low) (sym e), ap (λ (r : Run). r.high) (sym e))

ends_where : (test : Bool) (along : Axis2) (is_low : Bool) (rest : Option Run) (s t : Terminal) (run : Run)
    → (rest ≡ Some run → AreEnds s t run)
    → (if test then Some (run_along along is_low s t) else rest) ≡ Some run → AreEnds s t run
ends_where true along is_low rest s t run on e = let same : run_along along is_low s t ≡ run =
    cc in ends_along along is_low s t run same
ends_where false along is_low rest s t run on e = on e

ends_between : (s t : Terminal) (run : Run) → run_between s t ≡ Some run → AreEnds s t run
ends_between (terminals.Node a) (terminals.Node b) run e =
    ends_where ((a.row == b.row) && not (a.col == b.col)) Across (nat_lt a.col b.col)
    (if (a.col == b.col) && not (a.row == b.row)
    then Some (run_along Up (nat_lt a.row b.row) (terminals.Node a) (terminals.Node b)) else None)
    (terminals.Node a) (terminals.Node b) run
    (ends_where ((a.col == b.col) && not (a.row == b.row)) Up (nat_lt a.row b.row) None (terminals.Node a)
    (terminals.Node b) run (λ none. absurd (cc))) e
ends_between (terminals.Node a) (terminals.Port q) run e =
    ends_where (line_of (axis_of q.side) a == q.place) (axis_of q.side) (not (is_low_side q.side)) None
    (terminals.Node a) (terminals.Port q) run (λ none. absurd (cc)) e
ends_between (terminals.Port p) (terminals.Node b) run e =
    ends_where (line_of (axis_of p.side) b == p.place) (axis_of p.side) (is_low_side p.side) None (terminals.Port p)
    (terminals.Node b) run (λ none. absurd (cc)) e
ends_between (terminals.Port p) (terminals.Port q) run e =
    ends_where (is_same_axis (axis_of p.side) (axis_of q.side)
    && (not (is_low_side p.side) && is_low_side q.side || is_low_side p.side && not (is_low_side q.side))
    && (p.place == q.place))
    (axis_of p.side) (is_low_side p.side) None (terminals.Port p) (terminals.Port q) run (λ none. absurd (cc)) e

-- one more wire
wire_grew : (tech : Tech) (cells : List CheckedCell) (known : CheckedCell) (layer : DrawnLayer) (a b : List ℕ)
    (width : Option ℕ) (next : CheckedCell) → AreBuilt tech cells → IsBuilt tech cells known
    → AreOwn known.names → IsWithWire tech cells known layer a b width next
    → Grew tech known (Wire layer a b width ∷ []) next
wire_grew tech cells known layer a b width next are built own made =
    let (run, runs, met) = accepted_run tech (wired_of known) known.wires (layer_of layer) made.from made.to width
    made.wire made.between in
    let (s, t, from_at, to_at, between) = run_ends made.from made.to run runs in
    let after : CheckedCell = with_wire known made.wire in
    let at_a : IsEndOf known a (end_of s) =
    end_found tech cells known a s are built own (made.found_from ∙ ap (λ (f : Found). Some f) from_at) in
    let at_b : IsEndOf known b (end_of t) =
    end_found tech cells known b t are built own (made.found_to ∙ ap (λ (f : Found). Some f) to_at) in
    let number : ℕ = length known.wires in
    let once : List Plug = plugged number made.wire.width known.plugs made.wire.low in
    let more : MorePlugs known.plugs after.plugs =
    more_plugs_twice known.plugs once after.plugs (more_plugged number made.wire.width known.plugs made.wire.low)
    (more_plugged number made.wire.width once made.wire.high) in
    let low : end_of run.low ≡ made.wire.low = ap (λ (w : CellWire). w.low) met.same in
    let high : end_of run.high ≡ made.wire.high = ap (λ (w : CellWire). w.high) met.same in
    let kept : (name : List ℕ) (end : WireEnd) → IsEndOf known name end → IsEndOf after name end =
    λ name end. end_kept known after [] name end (same_nodes known.nodes) (sym (append-nil (sides known.names))) more in
    subst (Grew tech known (Wire layer a b width ∷ [])) made.same (record {
      nodes = sym (append-nil known.nodes);
      names = sym (append-nil (sides known.names));
      own = own;
      plugs = more;
      wires = made.wire ∷ [];
      wired = refl;
      joins = (
        record {
          layer = ap (λ (w : CellWire). w.layer) (sym met.same);
          ends = by s t run (kept a (end_of s) at_a) (kept b (end_of t) at_b) low high
              (ends_between s t run between);
        },
        tt,
      );
    })
  where
    by : (s t : Terminal) (run : Run) → IsEndOf (with_wire known made.wire) a (end_of s)
        → IsEndOf (with_wire known made.wire) b (end_of t) → end_of run.low ≡ made.wire.low
        → end_of run.high ≡ made.wire.high
        → AreEnds s t run
        → (IsEndOf (with_wire known made.wire) a made.wire.low × IsEndOf (with_wire known made.wire) b made.wire.high)
        ⊎ (IsEndOf (with_wire known made.wire) b made.wire.low × IsEndOf (with_wire known made.wire) a made.wire.high)
    by s t run at_a at_b low high (inl e) =
        inl (
          subst (IsEndOf (with_wire known made.wire) a) (sym (ap end_of e.0) ∙ low) at_a,
          subst
              (IsEndOf (with_wire known made.wire) b) (sym (ap end_of e.1) ∙ high) at_b,
        )
    by s t run at_a at_b low high (inr e) =
        inr (
          subst (IsEndOf (with_wire known made.wire) b) (sym (ap end_of e.0) ∙ low) at_b,
          subst
              (IsEndOf (with_wire known made.wire) a) (sym (ap end_of e.1) ∙ high) at_a,
        )

-- ---- lines

-- one more line
grew_form : (tech : Tech) (cells : List CheckedCell) (known : CheckedCell) (form : Form) (next : CheckedCell)
    → AreBuilt tech cells → IsForm form → IsNoUse form → IsBuilt tech cells known → AreOwn known.names
    → after_form tech cells known form ≡ Ok next → Grew tech known (form ∷ []) next
grew_form tech cells known (Joint name layer col row width) next are is whole built own e =
    joint_grew tech known name layer col row width next own e
grew_form tech cells known (Contact name lower col row) next are is whole built own e =
    contact_grew tech known name lower col row next own e
grew_form tech cells known (Buried name col row) next are is whole built own e =
    buried_grew tech known name col row next own e
grew_form tech cells known (Fet name depletion vertical col row w l) next are is whole built own e =
    fet_grew tech known name depletion vertical col row w l next own e
grew_form tech cells known (Port name side layer place) next are is whole built own e =
    port_grew tech known name side layer place next own (port_made known name side layer place next e)
grew_form tech cells known (Inst name cell col row) next are is whole built own e = absurd whole
grew_form tech cells known (Wire layer a b width) next are is whole built own e =
    wire_grew tech cells known layer a b width next are built own (wire_made tech cells known layer a b width next e)
grew_form tech cells known (Limit vertical a b at_most n) next are is whole built own e =
    limit_grew tech cells known vertical a b at_most n next own (limit_made cells known vertical a b at_most n next e)

-- the lines of a cell
pub grew_lines : (tech : Tech) (cells : List CheckedCell) (known : CheckedCell) (lines : List Line)
    (last : CheckedCell) → AreBuilt tech cells → AllByRecursion IsLine lines
    → AllByRecursion (λ line. IsNoUse line.form) lines → IsBuilt tech cells known → AreOwn known.names
    → after_lines tech cells known lines ≡ Ok last
    → Grew tech known (map (λ line. line.form) lines) last
grew_lines tech cells known [] last are is whole built own e =
    subst (Grew tech known []) (ok_same known last e) (grew_none tech known own)
grew_lines tech cells known (line ∷ lines) last are is whole built own e =
    let first : (next : CheckedCell) × (at_line line.number (after_form tech cells known line.form) ≡ Ok next)
    × (after_lines tech cells next lines ≡ Ok last) =
    bound (at_line line.number (after_form tech cells known line.form)) (λ next. after_lines tech cells next lines)
    last e in
    let read : after_form tech cells known line.form ≡ Ok first.0 =
    at_line_ok line.number (after_form tech cells known line.form) first.0 first.1 in
    let grew : Grew tech known (line.form ∷ []) first.0 =
    grew_form tech cells known line.form first.0 are is.0 whole.0 built own read in
    grew_more tech known line.form first.0 (map (λ line. line.form) lines) last grew
    (grew_lines tech cells first.0 lines last are is.1 whole.1
    (built-after_form tech cells known line.form first.0 are is.0 built read) grew.own first.2)
