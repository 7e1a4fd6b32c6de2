-- What the law of what is found tells of nodes that paths come to: that they lie near, and that different paths come
-- to different nodes.
use Rattle.std.proofs.Common.{◌≡◌, ℕ, ◌<◌, ◌==◌, List, length, refl, sym, ap, ◌∙◌, arith}
use Rattle.std.proofs.lemmas.{Bool.Decides.{same_from_decides, Decides-eqb}, Slice.Eq.bytes_eq-Decides}
use Rattle.std.specs.{List.AllByRecursion, Str.bytes_eq}
use Rattle.rule_table.specs.declared.technology.Tech.{Tech}
use Rattle.cell_model.specs.{declared.cell.Node.Node as CellNode, Sound.{IsNode, node_at, no_node}}
use Rattle.checked_cells.specs.declared.names.{NodePlace.NodePlace, Terminal.TheVariants.{Node, Port}, Found.Found}
use Rattle.checked_cells.specs.{declared.names.Found.TheVariants.{At, AtCopy, Through}, Kept.IsNearFound}
use Rattle.list_facts.proofs.Elements.{all_at}

-- the node of this name at this node_place is the node_place's number among the nodes
pub record IsNodeOf (nodes : List CellNode) (path : List ℕ) (node_place : NodePlace) : Type 0 where
  pub within : node_place.number < length nodes
  pub is : node_at nodes node_place.number
      ≡ record { name = path; kind = node_place.kind; col = node_place.col; row = node_place.row }

-- a node that is found lies near where the cell's nodes do
pub near-found : (tech : Tech) (nodes : List CellNode) (path : List ℕ) (found : Found)
    → AllByRecursion (IsNode tech) nodes
    → ((node_place : NodePlace) → found ≡ At (Node node_place) → IsNodeOf nodes path node_place) → IsNearFound found
near-found tech nodes path (At (Node node_place)) all of =
    let o = of node_place refl in
    let node = all_at (IsNode tech) nodes no_node node_place.number all o.within in
    let col : (node_at nodes node_place.number).col ≡ node_place.col = ap (λ (n : CellNode). n.col) o.is in
    let row : (node_at nodes node_place.number).row ≡ node_place.row = ap (λ (n : CellNode). n.row) o.is in
    (omega (arith, node.col, col), omega (arith, node.row, row))
near-found tech nodes path (At (Port pin)) all of = tt
near-found tech nodes path AtCopy all of = tt
near-found tech nodes path Through all of = tt

-- paths to one node are one path
one_path : (nodes : List CellNode) (a b : List ℕ) (low high : NodePlace) → IsNodeOf nodes a low
    → IsNodeOf nodes b high → low.number ≡ high.number → a ≡ b
one_path nodes a b low high of_a of_b same =
    ap (λ (n : CellNode). n.name) (sym of_a.is ∙ ap (node_at nodes) same ∙ of_b.is)

-- two paths come to one node where they are one path
pub same_number : (nodes : List CellNode) (a b : List ℕ) (low high : NodePlace) → IsNodeOf nodes a low
    → IsNodeOf nodes b high → (a ≡ b → low ≡ high) → (low.number == high.number) ≡ bytes_eq a b
same_number nodes a b low high of_a of_b same =
    let tells = Decides-eqb low.number high.number in
    same_from_decides (low.number == high.number) (bytes_eq a b) (
      (λ e. one_path nodes a b low high of_a of_b (tells.0 e)),
      (λ e. tells.1 (ap (λ (s : NodePlace). s.number) (same e))),
    )
    (bytes_eq-Decides a b)
