use Rattle.std.proofs.{Common.{◌≡◌, ℕ, ◌-◌, List, length, drop, sym, ◌∙◌, ap, subst, arith}, lemmas.List.take_rest}
use Rattle.smallvec.specs.SmallVec.{SmallVec}
use Rattle.cell_model.specs.{declared.cell.Wire.Wire, Nets.{node_parts, parts_of, attachments_of, nets_of_nodes}}
use Rattle.graph_search.specs.{Netting.IsNetting, Search.{AreMutual, AreNeighbours}}
use Rattle.graph_search.proofs.Neighbours.{mutual_neighbours}
use Rattle.cell_nets.proofs.Attachments.{node_parts_few}
use Rattle.cell_nets.proofs.netting.nets.Goals as goal

pub numbers-requires-clause-both_ways : goal.numbers-requires-clause-both_ways
numbers-requires-clause-both_ways c =
    let P : List (SmallVec ℕ) → Type 0 = AreMutual in
    subst P (sym c.as_slice.ensures.value)
    (mutual_neighbours (parts_of c.args.cell.now) (attachments_of c.args.cell.now) c.in_ok-lists.lists.items
    c.in_ok-lists.ensures)

pub numbers-requires-clause-few : goal.numbers-requires-clause-few
numbers-requires-clause-few c =
    let f = node_parts_few c.args.cell.now.nodes in
    let n = c.in_ok-lists.ensures.counted in
    let l = c.requires.light in
    let e = ap (λ (xs : List (SmallVec ℕ)). length xs) c.as_slice.ensures.value in
    omega arith

pub returns : goal.returns
returns c =
    let cell = c.args.cell.now in
    let parts = c.in_ok-parts.parts.items in
    let lists = c.in_ok-lists.lists.items in
    let count = parts_of cell in
    let same : length lists ≡ count = c.in_ok-lists.ensures.counted in
    let N : List (SmallVec ℕ) → Type 0 = λ ls. AreNeighbours (length ls) (attachments_of cell) ls
    → IsNetting (length ls) (attachments_of cell) parts in
    let K : ℕ → Type 0 = λ n. AreNeighbours n (attachments_of cell) lists → IsNetting n (attachments_of cell) parts in
    let ours : AreNeighbours (length lists) (attachments_of cell) lists
    → IsNetting (length lists) (attachments_of cell) parts =
    subst N c.as_slice.ensures.value (c.in_ok-parts.ensures.netting (attachments_of cell)) in
    let netting : IsNetting count (attachments_of cell) parts = subst K same ours c.in_ok-lists.ensures in
    let first : ℕ = c.len.result - length c.as_slice-4.result.now in
    let rest : first ≡ node_parts cell.nodes =
    (let n = netting.counted in let w : length c.as_slice-4.result.now
    ≡ length cell.wires = ap (λ (ws : List Wire). length ws) c.as_slice-4.ensures in let l =
    c.len.ensures in omega arith) in
    record {
      numbers = parts;
      netting = netting;
      in_order = c.in_ok-parts.ensures.numbers.in_order;
      nodes = c.from_vec.ensures ∙ c.in_ok-node.ensures
          ∙ ap (λ (ps : List ℕ). nets_of_nodes ps 0 c.as_slice-3.result.now) c.as_slice-2.ensures.value
          ∙ ap (nets_of_nodes parts 0) c.as_slice-3.ensures;
      wires = c.from_vec-2.ensures ∙ c.in_ok-wire.ensures.items ∙ take_rest c.deref.result.now first
          ∙ ap (drop first) c.deref.ensures.value
          ∙ ap (λ (k : ℕ). drop k parts) rest;
      count = c.in_ok-parts.ensures.count;
    }
