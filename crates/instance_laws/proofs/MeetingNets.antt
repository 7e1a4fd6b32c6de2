-- The nets of items that stand at a buried contact.
use Rattle.std.proofs.Common.{◌≡◌, ℕ, zero, suc, ◌+◌, ◌<◌, Bool, true, false, List, [], ◌∷◌, ◌++◌, length, map, take}
use Rattle.std.proofs.Common.{cond, Contains, refl, sym, ap, ◌∙◌, subst, arith, inl, inr, ◌⊎◌}
use Rattle.std.proofs.lemmas.List.{get_or-drop, Elements.{Contains-append_left, Contains-append_right}}
use Rattle.std.{proofs.lemmas.List.Sums.{sum_by-cons, sum_by_more_le}, specs.{Prelude.slice_index, List.AllByRecursion}}
use Rattle.rule_table.specs.declared.{technology.Tech.Tech, classes.Layer.Layer}
use Rattle.sym_items.specs.{declared.items.Item.Item, Standing.{nowhere, StandsAt}}
use Rattle.cell_model.specs.declared.cell.{Axis2.{Axis2, TheVariants.{Across, Up}}, NodeKind.NodeKind}
use Rattle.cell_model.specs.declared.cell.{NodeKind.TheVariants.{Joint, Contact, Buried, Fet}, Node.Node}
use Rattle.cell_model.specs.declared.cell.{NodeNets.NodeNets, Nets.Nets, Cell.Cell, Wire.Wire, WireEnd.WireEnd}
use Rattle.cell_model.specs.Nets.{kind_parts, node_parts, first_part, joined_part, end_parts, with_each, attachments}
use Rattle.cell_model.specs.{Nets.{attachments_of, nets_of_kind, nets_of_nodes, AreNets}, Sound.{node_at, wire_at}}
use Rattle.cell_model.specs.Sound.{no_node, IsEnd}
use Rattle.cell_model.specs.declared.cell.WireEnd.TheVariants as ends
use Rattle.graph_search.specs.Netting.{Attached, Reaches}
use Rattle.pair_rules.specs.Bound.{no_item, item_at}
use Rattle.list_facts.proofs.Elements.{all_at}
use Rattle.expand.specs.{declared.master.Master.Master, Masters.IsMaster, Items.{nets_at, items_of_node}}
use Rattle.expand.{specs.{NodeItems.{item_running, channel_items, kind_items}, Variables.half}, proofs.Cells.wire_sound}
use Rattle.buried_contacts.proofs.{Contacts.stands_there, Owners.{layer_boxes, items_owned, item_keeps, box_of_owner}}
use Rattle.buried_contacts.proofs.Owners.{IsBoxOfWire}
use Rattle.instance_laws.proofs.{AtPorts.net_of_box, MeetingBlocks.{run_node, stands_in, OwnerOf, a_node, a_wire}}
use Rattle.instance_laws.proofs.MeetingBlocks.{owner_of}

-- ---- a wire has the net of a buried contact at which it ends

more_parts : (kind : NodeKind) → 0 < kind_parts kind
more_parts (Joint layer width) = omega arith
more_parts (Contact lower) = omega arith
more_parts Buried = omega arith
more_parts (Fet depletion gate w l) = omega arith

first_below : (nodes : List Node) (k : ℕ) → k < length nodes → first_part nodes k < node_parts nodes
first_below nodes k lt =
    let within = sum_by_more_le (λ (node : Node). kind_parts node.kind) nodes k no_node lt in
    let some = more_parts (node_at nodes k).kind in
    omega (arith, within, some)

-- the nets of node k are those of its parts
nets_there : (numbers : List ℕ) (s : ℕ) (nodes : List Node) (k : ℕ) → k < length nodes
    → nets_at (nets_of_nodes numbers s nodes) k ≡ nets_of_kind (node_at nodes k).kind numbers (s + first_part nodes k)
nets_there numbers s [] k lt = absurd (omega arith)
nets_there numbers s (node ∷ nodes) zero lt = let e : s ≡ s + 0 = omega arith in ap (nets_of_kind node.kind numbers) e
nets_there numbers s (node ∷ nodes) (suc k) lt =
    let more = sum_by-cons (λ (node : Node). kind_parts node.kind) node (take k nodes) in
    let e : (s + kind_parts node.kind) + first_part nodes k ≡ s + first_part (node ∷ nodes) (suc k) =
    omega (arith, more) in
    nets_there numbers (s + kind_parts node.kind) nodes k (omega arith)
    ∙ ap (nets_of_kind (node_at nodes k).kind numbers) e

in_each : (wire part : ℕ) (parts : List ℕ) → Contains parts part → Contains (with_each wire parts) (wire, part)
in_each wire part [] h = absurd (let lt = h.1 in omega (arith, lt))
in_each wire part (p ∷ parts) (zero, lt, e) = (0, omega arith, ap (λ (z : ℕ). (wire, z)) e)
in_each wire part (p ∷ parts) (suc k, lt, e) =
    let rest = in_each wire part parts (k, omega (arith, lt), e) in
    Contains-append_right ((wire, p) ∷ []) (with_each wire parts) (wire, part) rest

in_attachments : (nodes : List Node) (s : ℕ) (wires : List Wire) (w part : ℕ) → w < length wires
    → Contains (end_parts nodes (wire_at wires w).layer true (wire_at wires w).low
    ++ end_parts nodes (wire_at wires w).layer false (wire_at wires w).high) part → Contains (attachments nodes s
    wires) (s + w, part)
in_attachments nodes s [] w part lt h = absurd (omega arith)
in_attachments nodes s (wire ∷ wires) zero part lt h =
    let parts = end_parts nodes wire.layer true wire.low ++ end_parts nodes wire.layer false wire.high in
    let e : s ≡ s + 0 = omega arith in
    subst (λ (n : ℕ). Contains (attachments nodes s (wire ∷ wires)) (n, part)) e
    (Contains-append_left (with_each s parts) (attachments nodes (s + 1) wires) (s, part)
    (in_each s part parts h))
in_attachments nodes s (wire ∷ wires) (suc w) part lt h =
    let parts = end_parts nodes wire.layer true wire.low ++ end_parts nodes wire.layer false wire.high in
    let e : (s + 1) + w ≡ s + suc w = omega arith in
    subst (λ (n : ℕ). Contains (attachments nodes s (wire ∷ wires)) (n, part)) e
    (Contains-append_right (with_each s parts) (attachments nodes (s + 1) wires) (s + 1 + w, part)
    (in_attachments nodes (s + 1) wires w part (omega arith) h))

-- a buried contact has one part
one_part : (kind : NodeKind) (layer : Layer) (is_low : Bool) → kind ≡ Buried → joined_part kind layer is_low ≡ 0
one_part kind layer is_low e = ap (λ (z : NodeKind). joined_part z layer is_low) e

one_net : (kind : NodeKind) (numbers : List ℕ) (k : ℕ) → kind ≡ Buried
    → (let n : NodeNets = nets_of_kind kind numbers k in n.main) ≡ slice_index numbers k
one_net kind numbers k e = ap (λ (z : NodeKind). let n : NodeNets = nets_of_kind z numbers k in n.main) e

-- an end of a wire
abbrev end_of : Wire → Bool → WireEnd
end_of wire true = wire.low
end_of wire false = wire.high

in_ends : (nodes : List Node) (wire : Wire) (is_low : Bool) (k : ℕ) → end_of wire is_low ≡ ends.Node k
    → Contains (end_parts nodes wire.layer true wire.low ++ end_parts nodes wire.layer false wire.high)
    (first_part nodes k + joined_part (node_at nodes k).kind wire.layer is_low)
in_ends nodes wire true k e =
    let own : Contains (end_parts nodes wire.layer true (ends.Node k))
    (first_part nodes k + joined_part (node_at nodes k).kind wire.layer true) = (0, omega arith, refl) in
    Contains-append_left (end_parts nodes wire.layer true wire.low) (end_parts nodes wire.layer false wire.high) _
    (subst (λ (z : WireEnd). Contains (end_parts nodes wire.layer true z)
    (first_part nodes k + joined_part (node_at nodes k).kind wire.layer true)) (sym e) own)
in_ends nodes wire false k e =
    let own : Contains (end_parts nodes wire.layer false (ends.Node k))
    (first_part nodes k + joined_part (node_at nodes k).kind wire.layer false) = (0, omega arith, refl) in
    Contains-append_right (end_parts nodes wire.layer true wire.low) (end_parts nodes wire.layer false wire.high) _
    (subst (λ (z : WireEnd). Contains (end_parts nodes wire.layer false z)
    (first_part nodes k + joined_part (node_at nodes k).kind wire.layer false)) (sym e) own)

wire_joins : (cell : Cell) (nets : Nets) (w k : ℕ) (is_low : Bool) → AreNets cell nets → w < length cell.wires
    → k < length cell.nodes → (node_at cell.nodes k).kind ≡ Buried
    → end_of (wire_at cell.wires w) is_low ≡ ends.Node k → slice_index nets.wire w ≡ (nets_at nets.node k).main
wire_joins cell nets w k is_low are lt less buried e =
    let numbers : List ℕ = are.numbers in
    let wire : Wire = wire_at cell.wires w in
    let a : ℕ = node_parts cell.nodes + w in
    let b : ℕ = first_part cell.nodes k in
    let none = one_part (node_at cell.nodes k).kind wire.layer is_low buried in
    let part : b + joined_part (node_at cell.nodes k).kind wire.layer is_low ≡ b = omega (arith, none) in
    let joined : Contains (attachments_of cell) (a, b) =
    subst (λ (z : ℕ). Contains (attachments_of cell) (a, z)) part
    (in_attachments cell.nodes (node_parts cell.nodes) cell.wires w _ lt (in_ends cell.nodes wire is_low k e)) in
    let reached : Reaches (Attached (attachments_of cell)) a b = (1, (b, inl joined, refl)) in
    let below = first_below cell.nodes k less in
    let same : slice_index numbers a ≡ slice_index numbers b =
    are.netting.same a b (omega (arith, lt)) (omega (arith, below)) reached in
    let of_wire : slice_index nets.wire w ≡ slice_index numbers a = ap (λ (l : List ℕ). slice_index l w) are.wires
    ∙ get_or-drop (node_parts cell.nodes) numbers w 0 in
    let zero_more : 0 + b ≡ b = omega arith in
    let of_node : (nets_at nets.node k).main ≡ slice_index numbers b =
    ap (λ (l : List NodeNets). (nets_at l k).main) are.nodes
    ∙ (ap (λ (n : NodeNets). n.main) (nets_there numbers 0 cell.nodes k less)
    ∙ (one_net (node_at cell.nodes k).kind numbers (0 + b) buried ∙ ap (slice_index numbers) zero_more)) in
    of_wire ∙ (same ∙ sym of_node)

-- ---- what stands at a buried contact

-- an item of a node stands nowhere, or it is of that buried contact and has its net
abbrev StandsAsNode : ℕ → NodeNets → Item → Type 0
StandsAsNode k nets i = ((i.at_low ≡ nowhere) × (i.at_high ≡ nowhere))
    ⊎ ((i.at_low ≡ k) × (i.at_high ≡ k) × (i.net ≡ nets.main))

stands_running : (k : ℕ) (nets : NodeNets) (gate : Axis2) (is : List Item) → AllByRecursion (StandsAsNode k nets) is
    → AllByRecursion (StandsAsNode k nets) (map (item_running gate) is)
stands_running k nets gate [] h = tt
stands_running k nets Across (i ∷ is) h = (h.0, stands_running k nets Across is h.1)
stands_running k nets Up (i ∷ is) h = (h.0, stands_running k nets Up is h.1)

implant_stands : (k : ℕ) (nets : NodeNets) (depletion : Bool) (i : Item) → StandsAsNode k nets i
    → AllByRecursion (StandsAsNode k nets) (cond depletion (i ∷ []) [])
implant_stands k nets true i h = (h, tt)
implant_stands k nets false i h = tt

kind_stands : (tech : Tech) (k : ℕ) (kind : NodeKind) (nets : NodeNets)
    → AllByRecursion (StandsAsNode k nets) (kind_items tech k kind nets)
kind_stands tech k (Joint layer width) nets = layer_boxes (StandsAsNode k nets) layer _ (λ c h. inl (refl, refl))
kind_stands tech k (Contact lower) nets =
    (inl (refl, refl), (inl (refl, refl), layer_boxes (StandsAsNode k nets) lower _ (λ c h. inl (refl, refl))))
kind_stands tech k Buried nets =
    (inr (refl, refl, refl), (inr (refl, refl, refl), (inr (refl, refl, refl), (inr (refl, refl, refl), tt))))
kind_stands tech k (Fet depletion gate w l) nets =
    stands_running k nets gate (channel_items tech k nets depletion (half w) (half l)) (
      inl (refl, refl),
      (
        inl (refl, refl),
        (
          inl (refl, refl),
          (inl (refl, refl), (inl (refl, refl), implant_stands k nets depletion _ (inl (refl, refl)))),
        ),
      ),
    )

node_net : (k n : ℕ) (nets : NodeNets) (i : Item) → StandsAsNode k nets i → StandsAt i n → (k ≡ n) × (i.net ≡ nets.main)
node_net k n nets i (inl none) (ne, inl e) = absurd (ne (sym e ∙ none.0))
node_net k n nets i (inl none) (ne, inr e) = absurd (ne (sym e ∙ none.1))
node_net k n nets i (inr own) (ne, inl e) = (sym own.0 ∙ e, own.2)
node_net k n nets i (inr own) (ne, inr e) = (sym own.1 ∙ e, own.2)

-- an item that stands at a buried contact has its net
pub contact_net : (tech : Tech) (master : Master) (m : IsMaster tech master) (i n : ℕ) → i < length master.items.list
    → StandsAt (item_at master.items.list i) n
    → (item_at master.items.list i).net ≡ (nets_at m.items.nets.node n).main
contact_net tech master m i n lt stands = by (owner_of tech master m i lt)
  where
    of_wire : (w : ℕ) → IsBoxOfWire tech master.cell m.items.nets (item_at master.items.list i) w
        → StandsAt (item_at master.items.list i) n
        → (item_at master.items.list i).net ≡ (nets_at m.items.nets.node n).main
    of_wire w box (ne, inl e) =
        let keeps = item_keeps tech master.cell m.items.nets (item_at master.items.list i) w box in
        let there = stands_there master.cell (wire_at master.cell.wires w).low n ne (sym keeps.at_low ∙ e) in
        let less : n < length master.cell.nodes =
        subst (IsEnd master.cell) there.0 (wire_sound tech master.cell w m.sound box.among).low in
        net_of_box tech master.cell m.items.nets (item_at master.items.list i) w box
        ∙ wire_joins master.cell m.items.nets w n true m.items.of_cell box.among less there.1 there.0
    of_wire w box (ne, inr e) =
        let keeps = item_keeps tech master.cell m.items.nets (item_at master.items.list i) w box in
        let there = stands_there master.cell (wire_at master.cell.wires w).high n ne (sym keeps.at_high ∙ e) in
        let less : n < length master.cell.nodes =
        subst (IsEnd master.cell) there.0 (wire_sound tech master.cell w m.sound box.among).high in
        net_of_box tech master.cell m.items.nets (item_at master.items.list i) w box
        ∙ wire_joins master.cell m.items.nets w n false m.items.of_cell box.among less there.1 there.0

    by : OwnerOf master.cell (item_at master.items.list i).owner
        → (item_at master.items.list i).net ≡ (nets_at m.items.nets.node n).main
    by (a_node k among e) =
        let block : List Item = items_of_node tech master.cell m.items.nets k in
        let there = stands_in master.items.list block k i (run_node tech master m k among) lt e in
        let own = all_at (StandsAsNode k (nets_at m.items.nets.node k)) block no_item there.j
        (kind_stands tech k (node_at master.cell.nodes k).kind (nets_at m.items.nets.node k)) there.among in
        let is = node_net k n (nets_at m.items.nets.node k) (item_at block there.j) own
        (subst (λ (z : Item). StandsAt z n) there.is stands) in
        ap (λ (z : Item). z.net) there.is ∙ (is.1 ∙ ap (λ (l : ℕ). (nets_at m.items.nets.node l).main) is.0)
    by (a_wire w among e) =
        of_wire w
        (box_of_owner tech master.cell m.items.nets (item_at master.items.list i) w
        (items_owned tech master m i no_item lt) e) stands
