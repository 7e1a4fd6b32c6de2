-- The numbers of the parts of a cell: of which node and which of its parts a number is, or of which wire, and the
-- nets of parts.
use Rattle.std.proofs.Common.{◌≡◌, ℕ, zero, suc, ◌+◌, ◌<◌, ◌≤◌, true, false, Bool, List, [], ◌∷◌, ◌++◌, length, take}
use Rattle.std.proofs.Common.{refl, sym, ap, ◌∙◌, subst, arith, inl, inr, take_all}
use Rattle.std.proofs.lemmas.{Bool.cases_lt, List.{get_or-drop, Sums.sum_by-cons, Elements.Contains-append_cases}}
use Rattle.std.specs.{Prelude.slice_index, List.Contains}
use Rattle.rule_table.specs.declared.classes.Layer.{Layer}
use Rattle.cell_model.specs.declared.cell.{Node.Node, NodeNets.NodeNets, Nets.Nets, Cell.Cell, Wire.Wire}
use Rattle.cell_model.specs.declared.cell.WireEnd.{WireEnd}
use Rattle.cell_model.specs.Nets.{kind_parts, node_parts, first_part, joined_part, end_parts, with_each, attachments}
use Rattle.cell_model.specs.{Nets.{attachments_of, nets_of_kind, nets_of_nodes, AreNets}, Sound.{node_at, wire_at}}
use Rattle.cell_model.specs.declared.cell.WireEnd.TheVariants as ends
use Rattle.expand.specs.Items.{nets_at}
use Rattle.instance_laws.proofs.OnBorder.{wire_end}

-- ---- numbers of parts

more_parts : (node : Node) (nodes : List Node) → node_parts (node ∷ nodes) ≡ kind_parts node.kind + node_parts nodes
more_parts node nodes = sum_by-cons (λ (node : Node). kind_parts node.kind) node nodes

-- the parts of a node come before those of later nodes, and all before those of wires
parts_before : (nodes : List Node) (j k : ℕ) → j < k → k ≤ length nodes
    → first_part nodes j + kind_parts (node_at nodes j).kind ≤ first_part nodes k
parts_before [] j k lt le = absurd (omega (arith, lt, le))
parts_before (node ∷ nodes) j zero lt le = absurd (omega (arith, lt))
parts_before (node ∷ nodes) zero (suc k) lt le = let more = more_parts node (take k nodes) in omega (arith, more)
parts_before (node ∷ nodes) (suc j) (suc k) lt le =
    let low = more_parts node (take j nodes) in
    let high = more_parts node (take k nodes) in
    let rest = parts_before nodes j k (omega (arith, lt)) (omega (arith, le)) in
    omega (arith, low, high, rest)

pub parts_within : (nodes : List Node) (k : ℕ) → k < length nodes
    → first_part nodes k + kind_parts (node_at nodes k).kind ≤ node_parts nodes
parts_within nodes k lt =
    let h = parts_before nodes k (length nodes) lt (omega arith) in
    subst (λ (some : List Node). first_part nodes k + kind_parts (node_at nodes k).kind ≤ node_parts some)
    (take_all (length nodes) nodes (omega arith)) h

-- a number is that of one part of one node
pub node_part_is : (nodes : List Node) (j k p q : ℕ) → j < length nodes → k < length nodes
    → p < kind_parts (node_at nodes j).kind → q < kind_parts (node_at nodes k).kind
    → first_part nodes j + p ≡ first_part nodes k + q → (j ≡ k) × (p ≡ q)
node_part_is nodes j k p q lj lk lp lq e = elim (cases_lt j k) [
  | inl below ↦ (let before = parts_before nodes j k below (omega (arith, lk)) in absurd (omega (arith, before, lp, e)))
  | inr not_below ↦ elim (cases_lt k j) [
    | inl above ↦
        (let before = parts_before nodes k j above (omega (arith, lj)) in absurd (omega (arith, before, lq, e)))
    | inr not_above ↦
        let same : j ≡ k = omega (arith, not_below, not_above) in
        let level : first_part nodes j ≡ first_part nodes k = ap (first_part nodes) same in
        (same, omega (arith, level, e))
  ]
]

-- ---- nets of parts

nets_of_node : (numbers : List ℕ) (v : ℕ) (nodes : List Node) (k : ℕ) → k < length nodes
    → nets_at (nets_of_nodes numbers v nodes) k ≡ nets_of_kind (node_at nodes k).kind numbers (v + first_part nodes k)
nets_of_node numbers v [] k lt = absurd (omega (arith, lt))
nets_of_node numbers v (node ∷ nodes) zero lt = let same : v ≡ v + first_part (node ∷ nodes) zero =
    omega arith in ap (nets_of_kind node.kind numbers) same
nets_of_node numbers v (node ∷ nodes) (suc k) lt =
    let more = more_parts node (take k nodes) in
    let same : (v + kind_parts node.kind) + first_part nodes k ≡ v + first_part (node ∷ nodes) (suc k) =
    omega (arith, more) in
    nets_of_node numbers (v + kind_parts node.kind) nodes k (omega (arith, lt))
    ∙ ap (nets_of_kind (node_at nodes k).kind numbers) same

pub node_nets_are : (cell : Cell) (nets : Nets) (k : ℕ) → (own : AreNets cell nets) → k < length cell.nodes
    → nets_at nets.node k ≡ nets_of_kind (node_at cell.nodes k).kind own.numbers (first_part cell.nodes k)
node_nets_are cell nets k own lt =
    let same : 0 + first_part cell.nodes k ≡ first_part cell.nodes k = omega arith in
    ap (λ (l : List NodeNets). nets_at l k) own.nodes
    ∙ (nets_of_node own.numbers 0 cell.nodes k lt
    ∙ ap (nets_of_kind (node_at cell.nodes k).kind own.numbers) same)

pub wire_net_is : (cell : Cell) (nets : Nets) (w : ℕ) → (own : AreNets cell nets)
    → slice_index nets.wire w ≡ slice_index own.numbers (node_parts cell.nodes + w)
wire_net_is cell nets w own = ap (λ (l : List ℕ). slice_index l w) own.wires
    ∙ get_or-drop (node_parts cell.nodes) own.numbers w 0

-- ---- attachments

-- a part of a wire is attached to that of the node at which the wire ends
pub record IsAttached (cell : Cell) (a c : ℕ) : Type 0 where
  pub w : ℕ
  pub wire : w < length cell.wires
  pub first : a ≡ node_parts cell.nodes + w
  pub is_low : Bool
  pub k : ℕ
  pub at_node : wire_end is_low (wire_at cell.wires w) ≡ ends.Node k
  pub second : c ≡ first_part cell.nodes k + joined_part (node_at cell.nodes k).kind (wire_at cell.wires w).layer is_low

with_one : (wire : ℕ) (parts : List ℕ) (a c : ℕ) → Contains (with_each wire parts) (a, c)
    → (a ≡ wire) × Contains parts c
with_one wire [] a c h = absurd (omega (arith, h.1))
with_one wire (part ∷ parts) a c (zero, lt, e) =
    (sym (ap (λ (p : ℕ × ℕ). p.0) e), (zero, omega arith, ap (λ (p : ℕ × ℕ). p.1) e))
with_one wire (part ∷ parts) a c (suc n, lt, e) = let rest =
    with_one wire parts a c (n, omega (arith, lt), e) in (rest.0, (suc rest.1.0, omega (arith, rest.1.1), rest.1.2))

end_part : (nodes : List Node) (layer : Layer) (is_low : Bool) (end : WireEnd) (c : ℕ)
    → Contains (end_parts nodes layer is_low end) c
    → (k : ℕ) × (end ≡ ends.Node k) × (c ≡ first_part nodes k + joined_part (node_at nodes k).kind layer is_low)
end_part nodes layer is_low (ends.Node k) c (zero, lt, e) = (k, refl, sym e)
end_part nodes layer is_low (ends.Node k) c (suc n, lt, e) = absurd (omega (arith, lt))
end_part nodes layer is_low (ends.Port k) c h = absurd (omega (arith, h.1))

-- the same among some wires whose parts are numbered from v on
record IsLinkOf (nodes : List Node) (v : ℕ) (wires : List Wire) (a c : ℕ) : Type 0 where
  w : ℕ
  wire : w < length wires
  first : a ≡ v + w
  among : Contains
      (end_parts nodes (wire_at wires w).layer true (wire_at wires w).low
      ++ end_parts nodes (wire_at wires w).layer false (wire_at wires w).high) c

link_of : (nodes : List Node) (v : ℕ) (wires : List Wire) (a c : ℕ) → Contains (attachments nodes v wires) (a, c)
    → IsLinkOf nodes v wires a c
link_of nodes v [] a c h = absurd (omega (arith, h.1))
link_of nodes v (wire ∷ wires) a c h =
    let parts : List ℕ = end_parts nodes wire.layer true wire.low ++ end_parts nodes wire.layer false wire.high in
    elim (Contains-append_cases (with_each v parts) (attachments nodes (v + 1) wires) (a, c) h) [
      | inl here ↦
          (let one = with_one v parts a c here in let e = one.0 in
          record { w = 0; wire = omega arith; first = omega (arith, e); among = one.1 })
      | inr there ↦
          (let rest = link_of nodes (v + 1) wires a c there in let e = rest.first in let lt = rest.wire in
          record { w = suc rest.w; wire = omega (arith, lt); first = omega (arith, e); among = rest.among })
    ]

pub attached_is : (cell : Cell) (a c : ℕ) → Contains (attachments_of cell) (a, c) → IsAttached cell a c
attached_is cell a c h =
    let link = link_of cell.nodes (node_parts cell.nodes) cell.wires a c h in
    let wire : Wire = wire_at cell.wires link.w in
    elim (Contains-append_cases (end_parts cell.nodes wire.layer true wire.low)
    (end_parts cell.nodes wire.layer false wire.high) c link.among) [
      | inl low ↦
          (let e = end_part cell.nodes wire.layer true wire.low c low in
          record {
            w = link.w;
            wire = link.wire;
            first = link.first;
            is_low = true;
            k = e.0;
            at_node = e.1;
            second = e.2;
          })
      | inr high ↦
          (let e = end_part cell.nodes wire.layer false wire.high c high in
          record {
            w = link.w;
            wire = link.wire;
            first = link.first;
            is_low = false;
            k = e.0;
            at_node = e.1;
            second = e.2;
          })
    ]
