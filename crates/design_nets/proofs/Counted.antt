-- Numbers that stand in order, and the nets of a cell that they give.
use Rattle.std.proofs.Common.{◌≡◌, ℕ, zero, suc, ◌+◌, ◌<◌, ◌≤◌, List, [], ◌∷◌, length, take, get_or, refl, sym, ap, ◌∙◌}
use Rattle.std.proofs.{Common.{subst, arith, inl, inr, add-one, length-drop}, lemmas.{Bool.cases_lt, List.take_all}}
use Rattle.std.{proofs.lemmas.List.{get_or-drop, get_or_default}, specs.List.All}
use Rattle.cell_model.specs.declared.cell.{Cell.Cell, Nets.Nets, Node.Node, NodeNets.NodeNets}
use Rattle.cell_model.specs.Nets.{kind_parts, node_parts, parts_of, nets_of_nodes, AreNets}
use Rattle.graph_search.{specs.Netting.{IsNumberedInOrder, next_net}, proofs.Determined.next_net_more}

-- ---- the next number

below_next : (numbers : List ℕ) (n k : ℕ) → n ≤ length numbers → k < n → get_or numbers k 0 < next_net (take n numbers)
below_next numbers zero k le lt = absurd (omega (arith, lt))
below_next numbers (suc n) k le lt =
    let s = ap (λ (m : ℕ). next_net (take m numbers)) (sym (add-one n)) in
    let more = next_net_more numbers n (omega (arith, le)) in
    elim (cases_lt k n) [
      | inl before ↦ (let h = below_next numbers n k (omega (arith, le)) before in omega (arith, h, s, more))
      | inr past ↦
          (let e : k ≡ n = omega (arith, lt, past) in
          let here = ap (λ (m : ℕ). get_or numbers m 0) e in
          omega (arith, here, s, more))
    ]

-- it is above each
pub number_below : (numbers : List ℕ) (k : ℕ) → k < length numbers → get_or numbers k 0 < next_net numbers
number_below numbers k lt =
    subst (λ (ns : List ℕ). get_or numbers k 0 < next_net ns) (take_all (length numbers) numbers (omega arith))
    (below_next numbers (length numbers) k (omega arith) lt)

next_within : (numbers : List ℕ) → IsNumberedInOrder numbers → (n : ℕ) → n ≤ length numbers
    → next_net (take n numbers) ≤ n
next_within numbers ordered zero le = omega arith
next_within numbers ordered (suc n) le =
    let s = ap (λ (m : ℕ). next_net (take m numbers)) (sym (add-one n)) in
    let more = next_net_more numbers n (omega (arith, le)) in
    let before = next_within numbers ordered n (omega (arith, le)) in
    let here = ordered n (omega (arith, le)) in
    omega (arith, s, more, before, here)

-- and where they stand in order no more than there are
pub next_few : (numbers : List ℕ) → IsNumberedInOrder numbers → next_net numbers ≤ length numbers
next_few numbers ordered =
    subst (λ (ns : List ℕ). next_net ns ≤ length numbers) (take_all (length numbers) numbers (omega arith))
    (next_within numbers ordered (length numbers) (omega arith))

-- ---- the nets of a cell

nodes_counted : (numbers : List ℕ) (k : ℕ) (nodes : List Node) → length (nets_of_nodes numbers k nodes) ≡ length nodes
nodes_counted numbers k [] = refl
nodes_counted numbers k (node ∷ nodes) = ap suc (nodes_counted numbers (k + kind_parts node.kind) nodes)

module _ (cell : Cell) (nets : Nets) (own : AreNets cell nets) where
  pub node_count : length nets.node ≡ length cell.nodes
  node_count = ap (λ (ns : List NodeNets). length ns) own.nodes ∙ nodes_counted own.numbers 0 cell.nodes

  pub wire_count : length nets.wire ≡ length cell.wires
  wire_count =
      let e = ap (λ (ns : List ℕ). length ns) own.wires in
      let counted = own.netting.counted in
      omega (arith, e, counted, length-drop (node_parts cell.nodes) own.numbers)

  -- each number is of a net
  pub part_below : (k : ℕ) → k < parts_of cell → get_or own.numbers k 0 < nets.count
  part_below k lt =
      let counted = own.netting.counted in
      let below = number_below own.numbers k (omega (arith, lt, counted)) in
      let e = own.count in
      omega (arith, below, e)

  pub wire_below : All (λ n. n < nets.count) nets.wire
  wire_below w d lt =
      let counted = own.netting.counted in
      let wires = wire_count in
      let there = ap (λ (ns : List ℕ). get_or ns w 0) own.wires ∙ get_or-drop (node_parts cell.nodes) own.numbers w 0 in
      let below = part_below (node_parts cell.nodes + w) (omega (arith, lt, wires)) in
      let same = get_or_default nets.wire w d 0 lt in
      omega (arith, below, there, same)

  pub count_few : nets.count ≤ parts_of cell
  count_few =
      let few = next_few own.numbers own.in_order in
      let counted = own.netting.counted in
      let e = own.count in
      omega (arith, few, counted, e)
