-- A cell with a jog has the nets of the one before.
use Rattle.std.proofs.Common.{◌≡◌, ℕ, ◌+◌, ◌<◌, ◌≤◌, true, false, List, [], ◌∷◌, ◌++◌, length, map, Option, Some, None}
use Rattle.std.proofs.{Common.{inl, inr, refl, sym, ap, subst, ◌∙◌, arith}, lemmas.List.get_or_at}
use Rattle.std.proofs.lemmas.{List.{Concat.flat_map-append, Sums.sum_by-take-le}, Slice.Zip.AllZip-long, Bool.cases_eq}
use Rattle.std.{proofs.lemmas.Bool.Decides.nat_tests, specs.{Prelude.{◌⊎◌, Contains}, List.{AllZip, flat_map}}}
use Rattle.lam_geom.specs.declared.boxes.Side.{Side}
use Rattle.rule_table.specs.declared.technology.Tech.{Tech}
use Rattle.stick_text.specs.declared.design.{Layer.Layer as DrawnLayer, Form.{Form, TheVariants.Wire}, Line.Line}
use Rattle.cell_model.specs.declared.cell.NodeKind.TheVariants as kinds
use Rattle.cell_model.specs.declared.cell.{Node.Node, WireEnd.WireEnd, Wire.Wire as CellWire}
use Rattle.cell_model.specs.Sound.{node_at, wire_at, no_wire, IsWire}
use Rattle.cell_model.specs.Nets.{kind_parts, node_parts, first_part, attachments_of}
use Rattle.cell_model.specs.declared.cell.WireEnd.TheVariants as ends
use Rattle.checked_cells.specs.{CheckedCell.{CheckedCell, cell_of}, Checks.{layer_of, sized}}
use Rattle.jog_insert.specs.{Bends.{Bend, part_col, moved_row, moved_form}, Jogs.{lower_name, upper_name, bent_forms}}
use Rattle.jog_insert.specs.{Jogs.IsFree, Nets.{wire_ends, terminals_of, AreOneNet, moved_part, IsOfJog, KeepsNets}}
use Rattle.graph_search.{specs.Netting.Attached, proofs.Chains.{reaches_none, reaches_trans}}
use Rattle.jog_nets.specs.Parts.{node_after, KeepsParts}
use Rattle.jog_nets.proofs.{Links.{AreBentLinks, IsOneNet, same_nets, one_net, to_end}, Lines.{size_or_none, nodes_in}}
use Rattle.jog_nets.proofs.Lines.{Sided, sides_in, Joining, joins_in, sides, side_named, IsEndOf, IsJoined}
use Rattle.jog_nets.proofs.{Told.IsCellTold, Turned.moved_node, Parts.{AreInserted, length_new, node_moved}}
use Rattle.jog_nets.proofs.{Parts.{moved_number, moved_between, number_back}, Moved.{IsBentOf, node_end, AreWiresBent}}
use Rattle.jog_nets.proofs.{Moved.moved_wires, Bent.{between_names, upward_names, AreThree, IsOnePart, lower_at}}
use Rattle.jog_nets.proofs.Bent.{upper_at, five_of, bent_links, HasOne, has_one, HasThree, has_three}
use Rattle.jog_nets.proofs.{KeptParts.parts_kept, Forms.{forms_of, nodes_of_moved, sides_of_moved, joins_of_moved}}
use Rattle.jog_nets.proofs.Named.{side_inserted, side_of_first, side_of_second, none_named, other_name}

-- ---- the links

row_below : (bend : Bend) (row : ℕ) → row ≤ bend.row → moved_row bend row ≡ row
row_below bend row le = grind (arith, nat_tests)

row_above : (bend : Bend) (row : ℕ) → bend.row < row → moved_row bend row ≡ row + 1
row_above bend row lt = grind (arith, nat_tests)

own_name : (known : CheckedCell) (name : List ℕ) (end : WireEnd) (i : ℕ) → end ≡ ends.Node i → IsEndOf known name end
    → IsEndOf known (node_at known.nodes i).name (ends.Node i)
own_name known name end i e is =
    let here : IsEndOf known name (ends.Node i) = subst (IsEndOf known name) e is in
    (here.0, refl, ap (side_named (sides known.names)) here.1 ∙ here.2)

-- the ends of a wire between two nodes have their names
names_of_ends : (known : CheckedCell) (joining : Joining) (wire : CellWire) (i j : ℕ) → IsJoined known joining wire
    → wire.low ≡ ends.Node i → wire.high ≡ ends.Node j
    → IsEndOf known (node_at known.nodes i).name (ends.Node i)
    × IsEndOf known (node_at known.nodes j).name (ends.Node j)
names_of_ends known joining wire i j joined low high = by joined.ends
  where
    by : (IsEndOf known joining.a wire.low × IsEndOf known joining.b wire.high)
        ⊎ (IsEndOf known joining.b wire.low × IsEndOf known joining.a wire.high)
        → IsEndOf known (node_at known.nodes i).name (ends.Node i)
        × IsEndOf known (node_at known.nodes j).name (ends.Node j)
    by (inl e) = (own_name known joining.a wire.low i low e.0, own_name known joining.b wire.high j high e.1)
    by (inr e) = (own_name known joining.b wire.low i low e.0, own_name known joining.a wire.high j high e.1)

-- where the two joints stand in the new cell
pub record AreJoints (bend : Bend) (prefix : List Node) (lower upper : Node) (new : CheckedCell) : Type 0 where
  pub lower_end : IsEndOf new lower.name (ends.Node (length prefix))
  pub upper_end : IsEndOf new upper.name (ends.Node (length prefix + 1))
  pub lower_row : lower.row ≡ bend.row + 1
  pub upper_row : upper.row ≡ bend.row + 1
  pub lower_part : IsOnePart lower
  pub upper_part : IsOnePart upper

-- the names between which the three wires run
abbrev to_lower : DrawnLayer → List ℕ → Node → Joining
to_lower layer low lower = record { layer = layer; a = low; b = lower.name }

abbrev across : DrawnLayer → Node → Node → Joining
across layer lower upper = record { layer = layer; a = lower.name; b = upper.name }

abbrev from_upper : DrawnLayer → Node → List ℕ → Joining
from_upper layer upper high = record { layer = layer; a = upper.name; b = high }

-- the three wires end at the joints and at the ends of the bent one
three_wires : (tech : Tech) (bend : Bend) (prefix back : List Node) (lower upper : Node) (old new : CheckedCell)
    → IsBentOf bend prefix back lower upper old new → AreJoints bend prefix lower upper new
    → (low high : ℕ) (layer : DrawnLayer) (a b : List ℕ) (wire first middle last : CellWire)
    → IsJoined old (record { layer = layer; a = a; b = b }) wire
    → IsJoined new (to_lower layer (node_at old.nodes low).name lower) first
    → IsJoined new (across layer lower upper) middle
    → IsJoined new (from_upper layer upper (node_at old.nodes high).name) last
    → IsWire tech (cell_of new) first → IsWire tech (cell_of new) last → wire.low ≡ ends.Node low
    → wire.high ≡ ends.Node high → (node_at old.nodes low).row ≤ bend.row → bend.row < (node_at old.nodes high).row
    → (low < length old.nodes) × (high < length old.nodes)
    × AreThree (length prefix) low high (layer_of layer) wire first middle last
three_wires tech bend prefix back lower upper old new h joints low high layer a b wire first middle last joined
    first_joined middle_joined last_joined first_is last_is from to below above =
    let at : ℕ = length prefix in
    let named : IsEndOf old (node_at old.nodes low).name (ends.Node low)
    × IsEndOf old (node_at old.nodes high).name (ends.Node high) =
    names_of_ends old (record { layer = layer; a = a; b = b }) wire low high joined from to in
    let low_end : IsEndOf new (node_at old.nodes low).name (ends.Node (node_after at low)) =
    node_end bend prefix back lower upper old new h (node_at old.nodes low).name low named.0 in
    let high_end : IsEndOf new (node_at old.nodes high).name (ends.Node (node_after at high)) =
    node_end bend prefix back lower upper old new h (node_at old.nodes high).name high named.1 in
    let low_row : (node_at new.nodes (node_after at low)).row ≡ moved_row bend (node_at old.nodes low).row =
    ap (λ (node : Node). node.row)
    (node_moved bend prefix back lower upper old.nodes new.nodes h.inserted low named.0.0).1 in
    let high_row : (node_at new.nodes (node_after at high)).row ≡ moved_row bend (node_at old.nodes high).row =
    ap (λ (node : Node). node.row)
    (node_moved bend prefix back lower upper old.nodes new.nodes h.inserted high named.1.0).1 in
    let lower_row : (node_at new.nodes at).row ≡ bend.row + 1 =
    ap (λ (node : Node). node.row) (lower_at bend prefix back lower upper old.nodes new.nodes h.inserted)
    ∙ joints.lower_row in
    let upper_row : (node_at new.nodes (at + 1)).row ≡ bend.row + 1 =
    ap (λ (node : Node). node.row) (upper_at bend prefix back lower upper old.nodes new.nodes h.inserted)
    ∙ joints.upper_row in
    let rise_low : (node_at new.nodes (node_after at low)).row < (node_at new.nodes at).row =
    omega (arith, low_row, lower_row, row_below bend (node_at old.nodes low).row below, below) in
    let rise_high : (node_at new.nodes (at + 1)).row < (node_at new.nodes (node_after at high)).row =
    omega (arith, high_row, upper_row, row_above bend (node_at old.nodes high).row above, above) in (
      named.0.0,
      named.1.0,
      record {
        of_wire = record { own = joined.layer; low = from; high = to };
        of_first = upward_names tech new layer (node_at old.nodes low).name lower.name first (node_after at low) at
            h.apart low_end joints.lower_end rise_low first_joined first_is;
        of_middle = between_names new layer lower.name upper.name middle at (at + 1) h.apart joints.lower_end
            joints.upper_end middle_joined;
        of_last = upward_names tech new layer upper.name (node_at old.nodes high).name last (at + 1)
            (node_after at high) h.apart joints.upper_end high_end rise_high last_joined last_is;
      },
    )

-- ---- the nets

one_of_two : (first p : ℕ) → first ≤ p → p < first + 2 → (p ≡ first) ⊎ (p ≡ first + 1)
one_of_two first p le lt = elim (cases_eq p first) [ inl e ↦ inl e | inr ne ↦ inr (omega (arith, ne)) ]

one_of_three : (first p : ℕ) → first ≤ p → p < first + 3 → (p ≡ first) ⊎ ((p ≡ first + 1) ⊎ (p ≡ first + 1 + 1))
one_of_three first p le lt = elim (cases_eq p first) [
  | inl e ↦ inl e
  | inr ne ↦ elim (cases_eq p (first + 1)) [ inl e ↦ inr (inl e) | inr other ↦ inr (inr (omega (arith, ne, other))) ]
]

-- cells with such links have the same nets
nets_of_links : (old new : CheckedCell) (at k : ℕ) → first_part old.nodes at ≤ node_parts old.nodes
    → (links : AreBentLinks (attachments_of (cell_of old)) (attachments_of (cell_of new))
    (moved_number (first_part old.nodes at) (node_parts old.nodes) k)
    (number_back (first_part old.nodes at) (node_parts old.nodes) k)
    (five_of (first_part old.nodes at) (node_parts old.nodes) k))
    → terminals_of (cell_of old) k ≡ links.low ∷ links.high ∷ [] → KeepsNets (cell_of old) (cell_of new) at k
nets_of_links old new at k few h terminals =
    let net = one_net (attachments_of (cell_of old)) (attachments_of (cell_of new))
    (moved_number (first_part old.nodes at) (node_parts old.nodes) k)
    (number_back (first_part old.nodes at) (node_parts old.nodes) k)
    (five_of (first_part old.nodes at) (node_parts old.nodes) k) h in
    let moved : ℕ → ℕ = moved_number (first_part old.nodes at) (node_parts old.nodes) k in
    record {
      same = λ p q lt_p lt_q. same_nets (attachments_of (cell_of old)) (attachments_of (cell_of new))
          (moved_number (first_part old.nodes at) (node_parts old.nodes) k)
          (number_back (first_part old.nodes at) (node_parts old.nodes) k)
          (five_of (first_part old.nodes at) (node_parts old.nodes) k) h p q;
      two = ap length terminals;
      bent = λ p terminal is among. reaches_trans (Attached (attachments_of (cell_of new))) p
          (moved (node_parts old.nodes + k)) (moved terminal) (by p net is)
          (to_end (attachments_of (cell_of new)) moved h.low h.high (moved (node_parts old.nodes + k)) terminal
          net.to_low net.to_high (subst (λ (ends_of : List ℕ). Contains ends_of terminal) terminals among));
    }
  where
    by : (p : ℕ)
        → IsOneNet (attachments_of (cell_of new))
        (moved_number (first_part old.nodes at) (node_parts old.nodes) k h.low)
        (moved_number (first_part old.nodes at) (node_parts old.nodes) k (node_parts old.nodes + k))
        (first_part old.nodes at)
        (moved_number (first_part old.nodes at) (node_parts old.nodes) k (node_parts old.nodes + k) + 1)
        (first_part old.nodes at + 1)
        (moved_number (first_part old.nodes at) (node_parts old.nodes) k (node_parts old.nodes + k) + 1 + 1)
        (moved_number (first_part old.nodes at) (node_parts old.nodes) k h.high)
        → IsOfJog (cell_of old) at k p
        → AreOneNet (cell_of new) p (moved_part (cell_of old) at k (node_parts old.nodes + k))
    by p net (inl is) =
        let P : ℕ → Type 0 =
        λ x. AreOneNet (cell_of new) x (moved_part (cell_of old) at k (node_parts old.nodes + k)) in
        elim (one_of_two (first_part old.nodes at) p is.0 is.1)
        [ inl e ↦ subst P (sym e) net.to_lower | inr e ↦ subst P (sym e) net.to_upper ]
    by p net (inr is) =
        let P : ℕ → Type 0 =
        λ x. AreOneNet (cell_of new) x (moved_part (cell_of old) at k (node_parts old.nodes + k)) in
        let m : ℕ = moved_number (first_part old.nodes at) (node_parts old.nodes) k (node_parts old.nodes + k) in
        let first : m ≡ node_parts old.nodes + k + 2 =
        moved_between (first_part old.nodes at) (node_parts old.nodes) k (node_parts old.nodes + k)
        (omega (arith, few)) (omega arith) in
        elim (one_of_three m p (omega (arith, is.0, first)) (omega (arith, is.1, first))) [
          | inl e ↦ subst P (sym e) (reaches_none (Attached (attachments_of (cell_of new))) m m refl)
          | inr later ↦ elim later [ inl e ↦ subst P (sym e) net.to_middle | inr e ↦ subst P (sym e) net.to_last ]
        ]

-- the nets are kept, and so are the parts
kept_of_wires : (tech : Tech) (bend : Bend) (prefix back : List Node) (lower upper : Node) (old new : CheckedCell)
    → IsBentOf bend prefix back lower upper old new → AreJoints bend prefix lower upper new
    → (k low high : ℕ) (before after : List Joining) (layer : DrawnLayer) (a b : List ℕ)
    → HasOne tech old before (record { layer = layer; a = a; b = b }) after
    → HasThree tech new before (to_lower layer (node_at old.nodes low).name lower) (across layer lower upper)
    (from_upper layer upper (node_at old.nodes high).name) after
    → length before ≡ k → (wire_at old.wires k).low ≡ ends.Node low → (wire_at old.wires k).high ≡ ends.Node high
    → (node_at old.nodes low).row ≤ bend.row → bend.row < (node_at old.nodes high).row
    → KeepsNets (cell_of old) (cell_of new) (length prefix) k × KeepsParts (cell_of old) (cell_of new) (length prefix) k
kept_of_wires tech bend prefix back lower upper old new h joints k low high before after layer a b one three count
    from to below above =
    let number : length one.prefix ≡ k = AllZip-long (IsJoined old) before one.prefix one.prefix_joined ∙ count in
    let here : wire_at old.wires k ≡ one.wire = ap (λ (wires : List CellWire). wire_at wires k) one.wires
    ∙ get_or_at one.prefix one.wire one.back no_wire k number in
    let ends_here = three_wires tech bend prefix back lower upper old new h joints low high layer a b one.wire
    three.first three.middle three.last one.joined three.first_joined three.middle_joined three.last_joined
    three.first_is three.last_is (ap (λ (wire : CellWire). wire.low) (sym here) ∙ from)
    (ap (λ (wire : CellWire). wire.high) (sym here) ∙ to) below above in
    let wires : AreWiresBent (length prefix) k old new = record {
      before = one.prefix;
      wire = one.wire;
      after = one.back;
      its_before = three.prefix;
      first = three.first;
      middle = three.middle;
      last = three.last;
      its_after = three.back;
      old_wires = one.wires;
      new_wires = three.wires;
      count = number;
      before_moved = moved_wires tech bend prefix back lower upper old new h before one.prefix three.prefix
          one.prefix_joined three.prefix_joined one.prefix_are three.prefix_are;
      after_moved = moved_wires tech bend prefix back lower upper old new h after one.back three.back one.back_joined
          three.back_joined one.back_are three.back_are;
    } in
    let links = bent_links bend prefix back lower upper old new h.inserted joints.lower_part joints.upper_part k low
    high (layer_of layer) wires ends_here.0 ends_here.1 ends_here.2 in (
      nets_of_links old new (length prefix) k
          (sum_by-take-le (λ (node : Node). kind_parts node.kind) old.nodes (length prefix)) links.0
          (ap (wire_ends old.nodes) here ∙ links.1),
      parts_kept bend prefix back lower upper old new h.inserted k wires,
    )

-- ---- from the lines

-- the nodes of the two joints
abbrev lower_node : Tech → Bend → ℕ → DrawnLayer → ℕ → Node
lower_node tech bend n layer width =
    record {
      name = lower_name n;
      kind = kinds.Joint (layer_of layer)
          (size_or_none (sized tech (layer_of layer) (Some width)));
      col = part_col bend false;
      row = bend.row + 1;
    }

abbrev upper_node : Tech → Bend → ℕ → DrawnLayer → ℕ → Node
upper_node tech bend n layer width =
    record {
      name = upper_name n;
      kind = kinds.Joint (layer_of layer)
          (size_or_none (sized tech (layer_of layer) (Some width)));
      col = part_col bend true;
      row = bend.row + 1;
    }

-- the forms of the new cell
abbrev pub new_forms : Bend → ℕ → DrawnLayer → List ℕ → List ℕ → ℕ → List Form → List Form → List Form
new_forms bend n layer low high width prefix back =
    map (moved_form bend) prefix ++ (bent_forms bend n layer low high width ++ map (moved_form bend) back)

-- its nodes
inserted_of : (tech : Tech) (bend : Bend) (n : ℕ) (layer : DrawnLayer) (a b low high : List ℕ) (own : Option ℕ)
    (width : ℕ) (prefix back : List Form) (old new : CheckedCell)
    → IsCellTold tech (prefix ++ Wire layer a b own ∷ back) old
    → IsCellTold tech (new_forms bend n layer low high width prefix back) new
    → AreInserted bend (flat_map (nodes_in tech) prefix) (flat_map (nodes_in tech) back)
    (lower_node tech bend n layer width) (upper_node tech bend n layer width) old.nodes new.nodes
inserted_of tech bend n layer a b low high own width prefix back old new told its_told =
    record {
      old_nodes = told.nodes ∙ flat_map-append (nodes_in tech) prefix (Wire layer a b own ∷ back);
      new_nodes = its_told.nodes ∙ flat_map-append (nodes_in tech) (map (moved_form bend) prefix)
          (bent_forms bend n layer low high width ++ map (moved_form bend) back)
          ∙ ap (λ (nodes : List Node). nodes ++ lower_node tech bend n layer width ∷ upper_node tech bend n layer
          width ∷ flat_map (nodes_in tech) (map (moved_form bend) back)) (nodes_of_moved tech bend prefix)
          ∙ ap (λ (nodes : List Node). map (moved_node bend) (flat_map (nodes_in tech) prefix)
          ++ lower_node tech bend n layer width ∷ upper_node tech bend n layer width ∷ nodes) (nodes_of_moved tech
          bend back);
      one_lower = refl;
      one_upper = refl;
    }

-- its names
new_names : (tech : Tech) (bend : Bend) (n : ℕ) (layer : DrawnLayer) (low high : List ℕ) (width : ℕ)
    (prefix back : List Form) (new : CheckedCell)
    → IsCellTold tech (new_forms bend n layer low high width prefix back) new
    → sides new.names ≡ flat_map sides_in prefix ++ (lower_name n, None) ∷ (upper_name n, None) ∷ flat_map sides_in back
new_names tech bend n layer low high width prefix back new told =
    told.names ∙ flat_map-append sides_in (map (moved_form bend) prefix)
    (bent_forms bend n layer low high width ++ map (moved_form bend) back)
    ∙ ap (λ (names : Sided). names ++ (lower_name n, None) ∷ (upper_name n, None) ∷ flat_map sides_in
    (map (moved_form bend) back)) (sides_of_moved bend prefix)
    ∙ ap (λ (names : Sided). flat_map sides_in prefix ++ (lower_name n, None) ∷ (upper_name n, None) ∷ names)
    (sides_of_moved bend back)

-- its wires
new_joins : (tech : Tech) (bend : Bend) (n : ℕ) (layer : DrawnLayer) (low high : List ℕ) (width : ℕ)
    (prefix back : List Form) (new : CheckedCell)
    → IsCellTold tech (new_forms bend n layer low high width prefix back) new
    → AllZip (IsJoined new)
    (flat_map joins_in prefix ++ to_lower layer low (lower_node tech bend n layer width) ∷ across layer
    (lower_node tech bend n layer width) (upper_node tech bend n layer width)
    ∷ from_upper layer (upper_node tech bend n layer width) high ∷ flat_map joins_in back) new.wires
new_joins tech bend n layer low high width prefix back new told =
    let lower : Node = lower_node tech bend n layer width in
    let upper : Node = upper_node tech bend n layer width in
    subst (λ (joins : List Joining). AllZip (IsJoined new) joins new.wires)
    (flat_map-append joins_in (map (moved_form bend) prefix)
    (bent_forms bend n layer low high width ++ map (moved_form bend) back)
    ∙ ap (λ (joins : List Joining). joins ++ to_lower layer low lower ∷ across layer lower upper ∷ from_upper layer
    upper high ∷ flat_map joins_in (map (moved_form bend) back)) (joins_of_moved bend prefix)
    ∙ ap (λ (joins : List Joining). flat_map joins_in prefix ++ to_lower layer low lower ∷ across layer lower upper ∷
    from_upper layer upper high ∷ joins) (joins_of_moved bend back))
    told.joins

-- the names of the old cell still stand for what they did, and those of the joints for nodes
joints_of : (tech : Tech) (bend : Bend) (n : ℕ) (layer : DrawnLayer) (a b low high : List ℕ) (own : Option ℕ)
    (width : ℕ) (lines : List Line) (prefix back : List Form) (old new : CheckedCell)
    → forms_of lines ≡ prefix ++ Wire layer a b own ∷ back → IsFree lines n
    → IsCellTold tech (prefix ++ Wire layer a b own ∷ back) old
    → IsCellTold tech (new_forms bend n layer low high width prefix back) new
    → IsBentOf bend (flat_map (nodes_in tech) prefix) (flat_map (nodes_in tech) back)
    (lower_node tech bend n layer width) (upper_node tech bend n layer width) old new
    × AreJoints bend (flat_map (nodes_in tech) prefix) (lower_node tech bend n layer width)
    (upper_node tech bend n layer width) new
joints_of tech bend n layer a b low high own width lines prefix back old new split free told its_told =
    let prefix_nodes : List Node = flat_map (nodes_in tech) prefix in
    let back_nodes : List Node = flat_map (nodes_in tech) back in
    let lower : Node = lower_node tech bend n layer width in
    let upper : Node = upper_node tech bend n layer width in
    let prefix_names : Sided = flat_map sides_in prefix in
    let back_names : Sided = flat_map sides_in back in
    let inserted : AreInserted bend prefix_nodes back_nodes lower upper old.nodes new.nodes =
    inserted_of tech bend n layer a b low high own width prefix back old new told its_told in
    let whole : flat_map sides_in (forms_of lines) ≡ prefix_names ++ back_names = ap (flat_map sides_in) split
    ∙ flat_map-append sides_in prefix (Wire layer a b own ∷ back) in
    let old_names : sides old.names ≡ prefix_names ++ back_names = told.names
    ∙ flat_map-append sides_in prefix (Wire layer a b own ∷ back) in
    let its_names : sides new.names ≡ prefix_names ++ (lower_name n, None) ∷ (upper_name n, None) ∷ back_names =
    new_names tech bend n layer low high width prefix back new its_told in
    let named : (name : List ℕ) (side : Option Side) → side_named (sides old.names) name ≡ Some side
    → side_named (sides new.names) name ≡ Some side =
    λ name side is.
    let there : side_named (flat_map sides_in (forms_of lines)) name ≡ Some side =
    ap (λ (names : Sided). side_named names name) (whole ∙ sym old_names) ∙ is in
    ap (λ (names : Sided). side_named names name) its_names
    ∙ side_inserted prefix_names back_names (lower_name n) (upper_name n) name
    (other_name lines name (lower_name n) side there free.0)
    (other_name lines name (upper_name n) side there free.1)
    ∙ ap (λ (names : Sided). side_named names name) (sym whole) ∙ there in
    let size : length new.nodes ≡ length prefix_nodes + 2 + length back_nodes = ap length inserted.new_nodes
    ∙ length_new bend prefix_nodes back_nodes lower upper in (
      record { inserted = inserted; named = named; apart = its_told.apart },
      record {
        lower_end = (
          omega (arith, size),
          ap (λ (node : Node). node.name)
              (lower_at bend prefix_nodes back_nodes lower upper old.nodes new.nodes inserted),
          ap (λ (names : Sided). side_named names (lower_name n)) its_names
              ∙ side_of_first prefix_names back_names (lower_name n) (upper_name n)
              (none_named lines back_names prefix_names (lower_name n) whole free.0),
        );
        upper_end = (
          omega (arith, size),
          ap (λ (node : Node). node.name)
              (upper_at bend prefix_nodes back_nodes lower upper old.nodes new.nodes inserted),
          ap (λ (names : Sided). side_named names (upper_name n)) its_names
              ∙ side_of_second prefix_names back_names (lower_name n) (upper_name n)
              (none_named lines back_names prefix_names (upper_name n) whole free.1),
        );
        lower_row = refl;
        upper_row = refl;
        lower_part = record { one = refl; first = λ its_layer is_low. refl };
        upper_part = record { one = refl; first = λ its_layer is_low. refl };
      },
    )

-- a cell whose lines are those after a jog has the nets and the parts of the one before
pub kept_of_forms : (tech : Tech) (bend : Bend) (n : ℕ) (layer : DrawnLayer) (a b : List ℕ) (own : Option ℕ)
    (width k low high : ℕ) (lines : List Line) (prefix back : List Form) (old new : CheckedCell)
    → forms_of lines ≡ prefix ++ Wire layer a b own ∷ back → IsFree lines n
    → IsCellTold tech (prefix ++ Wire layer a b own ∷ back) old
    → IsCellTold tech
    (new_forms bend n layer (node_at old.nodes low).name (node_at old.nodes high).name width prefix back) new
    → length (flat_map joins_in prefix) ≡ k
    → (wire_at old.wires k).low ≡ ends.Node low → (wire_at old.wires k).high ≡ ends.Node high
    → (node_at old.nodes low).row ≤ bend.row → bend.row < (node_at old.nodes high).row
    → KeepsNets (cell_of old) (cell_of new) (length (flat_map (nodes_in tech) prefix)) k
    × KeepsParts (cell_of old) (cell_of new) (length (flat_map (nodes_in tech) prefix)) k
kept_of_forms tech bend n layer a b own width k low high lines prefix back old new split free told its_told count from
    to below above =
    let name_low : List ℕ = (node_at old.nodes low).name in
    let name_high : List ℕ = (node_at old.nodes high).name in
    let prefix_nodes : List Node = flat_map (nodes_in tech) prefix in
    let back_nodes : List Node = flat_map (nodes_in tech) back in
    let lower : Node = lower_node tech bend n layer width in
    let upper : Node = upper_node tech bend n layer width in
    let before : List Joining = flat_map joins_in prefix in
    let after : List Joining = flat_map joins_in back in
    let bent = joints_of tech bend n layer a b name_low name_high own width lines prefix back old new split free told
    its_told in
    let wire : Joining = record { layer = layer; a = a; b = b } in
    let joins : AllZip (IsJoined old) (before ++ wire ∷ after) old.wires =
    subst (λ (all : List Joining). AllZip (IsJoined old) all old.wires)
    (flat_map-append joins_in prefix (Wire layer a b own ∷ back)) told.joins in
    let one : HasOne tech old before wire after = has_one tech old before wire after joins told.wires in
    let three : HasThree tech new before (to_lower layer name_low lower) (across layer lower upper)
    (from_upper layer upper name_high) after =
    has_three tech new before (to_lower layer name_low lower) (across layer lower upper)
    (from_upper layer upper name_high) after
    (new_joins tech bend n layer name_low name_high width prefix back new its_told) its_told.wires in
    kept_of_wires tech bend prefix_nodes back_nodes lower upper old new bent.0 bent.1 k low high before after layer a
    b one three count from to below above
