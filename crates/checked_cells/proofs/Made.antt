-- What a line that is not refused makes of its cell.
use Rattle.std.proofs.Common.{◌≡◌, ℕ, ◌+◌, ◌<◌, ◌≤◌, ℤ, pos, Bool, List, [], ◌∷◌, length, Option, Some, Result, Ok}
use Rattle.std.proofs.{Common.{refl, ap, ◌∙◌, arith}, lemmas.{List.Quantifiers.position-Some, Bool.Decides.nat_tests}}
use Rattle.std.specs.Prelude.{IsTrue, ◌&&◌, ◌==◌, not, nat_lt, bytes_eq}
use Rattle.rule_table.specs.{declared.{technology.Tech.Tech, classes.Layer.Layer}, Technology.has_buried_of}
use Rattle.rule_table.specs.declared.classes.Layer.TheVariants as layers
use Rattle.stick_text.specs.declared.fault.StickKind.{StickKind, TheVariants.{RepeatedName, UseCycle, UseDepth}}
use Rattle.stick_text.specs.declared.fault.StickKind.TheVariants.{UsedPorts, FarPlace, BadSize, BadLimit, NoBuried}
use Rattle.stick_text.specs.{declared.design.Layer.Layer as DrawnLayer, Writable.IsLower, Reading.{◌>>=◌, demand}}
use Rattle.stick_text.specs.declared.design.Layer.TheVariants as drawn
use Rattle.lam_geom.specs.declared.boxes.Side.{Side}
use Rattle.cell_model.specs.{declared.cell.{NodeKind.NodeKind, Wire.Wire, Limit.Limit}, Sound.IsKind}
use Rattle.cell_model.specs.declared.cell.NodeKind.TheVariants as kinds
use Rattle.checked_cells.specs.declared.names.{Found.{Found, TheVariants.At}, NodePlace.NodePlace}
use Rattle.checked_cells.specs.{declared.names.Terminal.TheVariants.Node as NodeEnd, CheckedCell.{CheckedCell, Plug}}
use Rattle.checked_cells.specs.CheckedCell.{begun, known_at, with_node, with_port, with_wire, with_limit, with_copy}
use Rattle.checked_cells.specs.{CheckedCell.{greatest_col, greatest_row}, Paths.found_at, Checks.{layer_of, is_fresh}}
use Rattle.checked_cells.specs.{Checks.{is_place, is_channel, sized}, Wires.{known_name, wire_between, limited}}
use Rattle.checked_cells.specs.Lines.{axis_where, number_of, known_number, is_empty, wired_of, after_joint}
use Rattle.checked_cells.specs.Lines.{after_contact, after_buried, after_fet, after_port, with_use, after_use}
use Rattle.checked_cells.specs.Lines.{after_wire, after_limit}
use Rattle.checked_cells.proofs.Accepted.{bound, two_bound, demanded, two_demanded, both, ok_same, known_name_ok}
use Rattle.checked_cells.proofs.Accepted.{known_number_ok, limited_ok, less_from_test, apart_from_test, place_from_test}
use Rattle.checked_cells.proofs.BuiltSizes.{size_of_sized, sizes_of_channel}

-- ---- a node

-- a node with a new name, that lies near
pub record IsWithNode (tech : Tech) (known : CheckedCell) (name : List ℕ) (col row : ℕ) (next : CheckedCell) : Type
    0 where
  pub kind : NodeKind
  pub is : IsKind tech kind
  pub fresh : IsTrue (is_fresh known.names name)
  pub near : IsTrue (is_place col && is_place row)
  pub same : with_node known name kind col row ≡ next

pub joint_made : (tech : Tech) (known : CheckedCell) (name : List ℕ) (layer : DrawnLayer) (col row : ℕ)
    (width : Option ℕ) (next : CheckedCell) → after_joint tech known name layer col row width ≡ Ok next
    → IsWithNode tech known name col row next
unfolding after_joint
joint_made tech known name layer col row width next e =
    let with_size : ℤ → CheckedCell = λ size. with_node known name (kinds.Joint (layer_of layer) size) col row in
    let met : IsTrue (is_fresh known.names name) × IsTrue (is_place col && is_place row)
    × ((sized tech (layer_of layer) width >>= λ size. Ok (with_size size)) ≡ Ok next) =
    two_demanded (is_fresh known.names name) (is_place col && is_place row) RepeatedName FarPlace
    (sized tech (layer_of layer) width >>= λ size. Ok (with_size size)) next e in
    let size : (z : ℤ) × (sized tech (layer_of layer) width ≡ Ok z)
    × (◌≡◌ {A = Result CheckedCell StickKind} (Ok (with_size z)) (Ok next)) =
    bound (sized tech (layer_of layer) width) (λ z. Ok (with_size z)) next met.2 in
    record {
      kind = kinds.Joint (layer_of layer) size.0;
      is = size_of_sized tech (layer_of layer) width size.0 size.1;
      fresh = met.0;
      near = met.1;
      same = ok_same (with_size size.0) next size.2;
    }

-- a contact's lower layer is not metal
lower_is_no_metal : (lower : DrawnLayer) → IsLower lower → layer_of lower ≡ layers.Metal → ⊥
lower_is_no_metal drawn.Diffusion is e = cc
lower_is_no_metal drawn.Poly is e = cc
lower_is_no_metal drawn.Metal is e = is

pub contact_made : (tech : Tech) (known : CheckedCell) (name : List ℕ) (lower : DrawnLayer) (col row : ℕ)
    (next : CheckedCell) → IsLower lower → after_contact known name lower col row ≡ Ok next
    → IsWithNode tech known name col row next
unfolding after_contact
contact_made tech known name lower col row next is e =
    let after : CheckedCell = with_node known name (kinds.Contact (layer_of lower)) col row in
    let met : IsTrue (is_fresh known.names name) × IsTrue (is_place col && is_place row)
    × (◌≡◌ {A = Result CheckedCell StickKind} (Ok after) (Ok next)) =
    two_demanded (is_fresh known.names name) (is_place col && is_place row) RepeatedName FarPlace (Ok after) next e in
    record {
      kind = kinds.Contact (layer_of lower);
      is = lower_is_no_metal lower is;
      fresh = met.0;
      near = met.1;
      same = ok_same after next met.2;
    }

pub buried_made : (tech : Tech) (known : CheckedCell) (name : List ℕ) (col row : ℕ) (next : CheckedCell)
    → after_buried tech known name col row ≡ Ok next → IsWithNode tech known name col row next
unfolding after_buried
buried_made tech known name col row next e =
    let after : CheckedCell = with_node known name kinds.Buried col row in
    let met : IsTrue (is_fresh known.names name) × IsTrue (is_place col && is_place row)
    × ((demand (has_buried_of tech) NoBuried >>= λ u. Ok after) ≡ Ok next) =
    two_demanded (is_fresh known.names name) (is_place col && is_place row) RepeatedName FarPlace
    (demand (has_buried_of tech) NoBuried >>= λ u. Ok after) next e in
    let there : IsTrue (has_buried_of tech) × (◌≡◌ {A = Result CheckedCell StickKind} (Ok after) (Ok next)) =
    demanded (has_buried_of tech) NoBuried (Ok after) next met.2 in
    record { kind = kinds.Buried; is = there.0; fresh = met.0; near = met.1; same = ok_same after next there.1 }

pub fet_made : (tech : Tech) (known : CheckedCell) (name : List ℕ) (depletion vertical : Bool) (col row w l : ℕ)
    (next : CheckedCell) → after_fet tech known name depletion vertical col row w l ≡ Ok next
    → IsWithNode tech known name col row next
unfolding after_fet
fet_made tech known name depletion vertical col row w l next e =
    let after : CheckedCell = with_node known name (kinds.Fet depletion (axis_where vertical) (pos w) (pos l)) col
    row in
    let met : IsTrue (is_fresh known.names name) × IsTrue (is_place col && is_place row)
    × ((demand (is_channel tech w l) BadSize >>= λ u. Ok after) ≡ Ok next) =
    two_demanded (is_fresh known.names name) (is_place col && is_place row) RepeatedName FarPlace
    (demand (is_channel tech w l) BadSize >>= λ u. Ok after) next e in
    let channel : IsTrue (is_channel tech w l) × (◌≡◌ {A = Result CheckedCell StickKind} (Ok after) (Ok next)) =
    demanded (is_channel tech w l) BadSize (Ok after) next met.2 in
    record {
      kind = kinds.Fet depletion (axis_where vertical) (pos w) (pos l);
      is = sizes_of_channel tech w l channel.0;
      fresh = met.0;
      near = met.1;
      same = ok_same after next channel.1;
    }

-- ---- a port

pub record IsWithPort (known : CheckedCell) (name : List ℕ) (side : Side) (layer : Layer) (place : ℕ)
    (next : CheckedCell) : Type 0 where
  pub fresh : IsTrue (is_fresh known.names name)
  pub near : IsTrue (is_place place)
  pub same : with_port known name side layer place ≡ next

pub port_made : (known : CheckedCell) (name : List ℕ) (side : Side) (layer : DrawnLayer) (place : ℕ)
    (next : CheckedCell) → after_port known name side layer place ≡ Ok next
    → IsWithPort known name side (layer_of layer) place next
unfolding after_port
port_made known name side layer place next e =
    let after : CheckedCell = with_port known name side (layer_of layer) place in
    let met : IsTrue (is_fresh known.names name) × IsTrue (is_place place)
    × (◌≡◌ {A = Result CheckedCell StickKind} (Ok after) (Ok next)) =
    two_demanded (is_fresh known.names name) (is_place place) RepeatedName FarPlace (Ok after) next e in
    record { fresh = met.0; near = met.1; same = ok_same after next met.2 }

-- ---- a copy

-- no ports
empty_from_test : (plugs : List Plug) → IsTrue (is_empty plugs) → plugs ≡ []
empty_from_test [] h = refl
empty_from_test (plug ∷ plugs) h = absurd (grind (arith, nat_tests))

-- a cell that was found is there
within_position : (cells : List CheckedCell) (name : List ℕ) (k : ℕ) → number_of cells name ≡ Some k → k < length cells
within_position cells name k e =
    (position-Some (λ (cell : CheckedCell). bytes_eq name cell.name) cells k (begun []) e).0

-- a copy with a new name of an earlier cell, which has no ports, is not too deep and whose nodes come to lie near
pub record IsWithCopy (cells : List CheckedCell) (known : CheckedCell) (name : List ℕ) (col row : ℕ)
    (next : CheckedCell) : Type 0 where
  pub number : ℕ
  pub earlier : number < length cells
  pub fresh : IsTrue (is_fresh known.names name)
  pub closed : (known_at cells number).plugs ≡ []
  pub shallow : (known_at cells number).depth < 16
  pub near_col : col + greatest_col (known_at cells number).nodes ≤ 4095
  pub near_row : row + greatest_row (known_at cells number).nodes ≤ 4095
  pub same : with_copy known name number (known_at cells number) col row ≡ next

copy_made : (cells : List CheckedCell) (known : CheckedCell) (name : List ℕ) (k : ℕ) (col row : ℕ)
    (next : CheckedCell) → IsTrue (is_fresh known.names name) → k < length cells
    → with_use known name k (known_at cells k) col row ≡ Ok next → IsWithCopy cells known name col row next
unfolding with_use
copy_made cells known name k col row next fresh earlier e =
    let used : CheckedCell = known_at cells k in
    let after : CheckedCell = with_copy known name k used col row in
    let near : Bool = is_place (col + greatest_col used.nodes) && is_place (row + greatest_row used.nodes) in
    let met : IsTrue (is_empty used.plugs) × IsTrue (nat_lt used.depth 16)
    × ((demand near FarPlace >>= λ u. Ok after) ≡ Ok next) =
    two_demanded (is_empty used.plugs) (nat_lt used.depth 16) UsedPorts UseDepth
    (demand near FarPlace >>= λ u. Ok after) next e in
    let last : IsTrue near × (◌≡◌ {A = Result CheckedCell StickKind} (Ok after) (Ok next)) =
    demanded near FarPlace (Ok after) next met.2 in
    let places : IsTrue (is_place (col + greatest_col used.nodes))
    × IsTrue (is_place (row + greatest_row used.nodes)) =
    both (is_place (col + greatest_col used.nodes)) (is_place (row + greatest_row used.nodes)) last.0 in
    record {
      number = k;
      earlier = earlier;
      fresh = fresh;
      closed = empty_from_test used.plugs met.0;
      shallow = less_from_test used.depth 16 met.1;
      near_col = place_from_test (col + greatest_col used.nodes) places.0;
      near_row = place_from_test (row + greatest_row used.nodes) places.1;
      same = ok_same after next last.1;
    }

pub use_made : (cells : List CheckedCell) (known : CheckedCell) (name cell : List ℕ) (col row : ℕ)
    (next : CheckedCell) → after_use cells known name cell col row ≡ Ok next
    → IsWithCopy cells known name col row next
unfolding after_use
use_made cells known name cell col row next e =
    let rest : ℕ → Result CheckedCell StickKind = λ k. with_use known name k (known_at cells k) col row in
    let met : IsTrue (is_fresh known.names name) × IsTrue (not (bytes_eq cell known.name))
    × ((known_number (number_of cells cell) >>= rest) ≡ Ok next) =
    two_demanded (is_fresh known.names name) (not (bytes_eq cell known.name)) RepeatedName UseCycle
    (known_number (number_of cells cell) >>= rest) next e in
    let number : (k : ℕ) × (known_number (number_of cells cell) ≡ Ok k) × (rest k ≡ Ok next) =
    bound (known_number (number_of cells cell)) rest next met.2 in
    copy_made cells known name number.0 col row next met.0
    (within_position cells cell number.0 (known_number_ok (number_of cells cell) number.0 number.1)) number.2

-- ---- a wire

-- a wire between what two paths come to
pub record IsWithWire (tech : Tech) (cells : List CheckedCell) (known : CheckedCell) (layer : DrawnLayer)
    (a b : List ℕ) (width : Option ℕ) (next : CheckedCell) : Type 0 where
  pub from : Found
  pub to : Found
  pub wire : Wire
  pub found_from : found_at cells known a ≡ Some from
  pub found_to : found_at cells known b ≡ Some to
  pub between : wire_between tech (wired_of known) known.wires (layer_of layer) from to width ≡ Ok wire
  pub same : with_wire known wire ≡ next

pub wire_made : (tech : Tech) (cells : List CheckedCell) (known : CheckedCell) (layer : DrawnLayer) (a b : List ℕ)
    (width : Option ℕ) (next : CheckedCell) → after_wire tech cells known layer a b width ≡ Ok next
    → IsWithWire tech cells known layer a b width next
unfolding after_wire
wire_made tech cells known layer a b width next e =
    let between : Found → Found → Result CheckedCell StickKind =
    λ from to. wire_between tech (wired_of known) known.wires (layer_of layer) from to width >>= λ wire.
    Ok (with_wire known wire) in
    let named : (from : Found) × (to : Found) × (known_name (found_at cells known a) ≡ Ok from)
    × (known_name (found_at cells known b) ≡ Ok to) × (between from to ≡ Ok next) =
    two_bound (known_name (found_at cells known a)) (known_name (found_at cells known b)) between next e in
    let made : (wire : Wire)
    × (wire_between tech (wired_of known) known.wires (layer_of layer) named.0 named.1 width ≡ Ok wire)
    × (◌≡◌ {A = Result CheckedCell StickKind} (Ok (with_wire known wire)) (Ok next)) =
    bound (wire_between tech (wired_of known) known.wires (layer_of layer) named.0 named.1 width)
    (λ wire. Ok (with_wire known wire)) next named.4 in
    record {
      from = named.0;
      to = named.1;
      wire = made.0;
      found_from = known_name_ok (found_at cells known a) named.0 named.2;
      found_to = known_name_ok (found_at cells known b) named.1 named.3;
      between = made.1;
      same = ok_same (with_wire known made.0) next made.2;
    }

-- ---- a limit

-- a limit between two nodes that two paths come to
pub record IsWithLimit (cells : List CheckedCell) (known : CheckedCell) (a b : List ℕ) (n : ℤ)
    (next : CheckedCell) : Type 0 where
  pub first : NodePlace
  pub second : NodePlace
  pub found_first : found_at cells known a ≡ Some (At (NodeEnd first))
  pub found_second : found_at cells known b ≡ Some (At (NodeEnd second))
  pub limit : Limit
  pub from : limit.a ≡ first.number
  pub to : limit.b ≡ second.number
  pub number : limit.n ≡ n
  pub apart : limit.a ≡ limit.b → ⊥
  pub same : with_limit known limit ≡ next

pub limit_made : (cells : List CheckedCell) (known : CheckedCell) (vertical : Bool) (a b : List ℕ) (at_most : Bool)
    (n : ℤ) (next : CheckedCell) → after_limit cells known vertical a b at_most n ≡ Ok next
    → IsWithLimit cells known a b n next
unfolding after_limit
limit_made cells known vertical a b at_most n next e =
    let limit : NodePlace → NodePlace → Limit =
    λ first second.
    record { axis = axis_where vertical; a = first.number; b = second.number; at_most = at_most; n = n } in
    let apart : NodePlace → NodePlace → Result CheckedCell StickKind =
    λ first second. demand (not (first.number == second.number)) BadLimit >>= λ u.
    Ok (with_limit known (limit first second)) in
    let between : Found → Found → Result CheckedCell StickKind =
    λ from to. limited from >>= λ first. limited to >>= λ second. apart first second in
    let named : (from : Found) × (to : Found) × (known_name (found_at cells known a) ≡ Ok from)
    × (known_name (found_at cells known b) ≡ Ok to) × (between from to ≡ Ok next) =
    two_bound (known_name (found_at cells known a)) (known_name (found_at cells known b)) between next e in
    let node_places : (first : NodePlace) × (second : NodePlace) × (limited named.0 ≡ Ok first)
    × (limited named.1 ≡ Ok second) × (apart first second ≡ Ok next) =
    two_bound (limited named.0) (limited named.1) apart next named.4 in
    let last = demanded (not (node_places.0.number == node_places.1.number)) BadLimit
    (Ok (with_limit known (limit node_places.0 node_places.1))) next node_places.4 in
    record {
      first = node_places.0;
      second = node_places.1;
      found_first = known_name_ok (found_at cells known a) named.0 named.2
          ∙ ap (λ (f : Found). Some f) (limited_ok named.0 node_places.0 node_places.2);
      found_second = known_name_ok (found_at cells known b) named.1 named.3
          ∙ ap (λ (f : Found). Some f) (limited_ok named.1 node_places.1 node_places.3);
      limit = limit node_places.0 node_places.1;
      from = refl;
      to = refl;
      number = refl;
      apart = apart_from_test node_places.0.number node_places.1.number last.0;
      same = ok_same (with_limit known (limit node_places.0 node_places.1)) next last.1;
    }
