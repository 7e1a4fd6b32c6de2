-- A master has few items, so that all pairs that lie near one another can be looked for by their boxes.
use Rattle.std.proofs.{Common.{◌+◌, ◌≤◌, ◌^◌, true, false, length, get_or, arith}, lemmas.List.Sums.sum_by-le}
use Rattle.rule_table.specs.declared.{technology.Tech.Tech, classes.Layer.{Layer, TheVariants.{Diffusion, Poly, Metal}}}
use Rattle.cell_model.specs.declared.cell.{NodeKind.{NodeKind, TheVariants.{Joint, Contact, Buried, Fet}}, Cell.Cell}
use Rattle.cell_model.specs.{Counts.{layer_items, kind_items, node_items, wire_items, items_in}, Sound.IsLight}
use Rattle.expand.specs.{declared.master.Master.Master, Masters.IsMaster, Laws.IsLawful}

layer_few : (layer : Layer) → layer_items layer ≤ 2
layer_few Metal = omega arith
layer_few Poly = omega arith
layer_few Diffusion = omega arith

kind_few : (kind : NodeKind) → kind_items kind ≤ 6
kind_few (Joint layer width) = omega (arith, layer_few layer)
kind_few (Contact lower) = omega (arith, layer_few lower)
kind_few Buried = omega arith
kind_few (Fet true gate w l) = omega arith
kind_few (Fet false gate w l) = omega arith

light_few : (cell : Cell) → IsLight cell → items_in cell ≤ 2 ^ 20
unfolding items_in
light_few cell light =
    let l : length cell.nodes + length cell.wires + length cell.limits ≤ 65536 = light in
    let a = sum_by-le node_items 6 cell.nodes (λ k d lt. kind_few (get_or cell.nodes k d).kind) in
    let b = sum_by-le wire_items 2 cell.wires (λ k d lt. layer_few (get_or cell.wires k d).layer) in
    omega (arith, a, b, l)

pub few_items : (tech : Tech) (master : Master) → IsMaster tech master → IsLawful tech master
    → length master.items.list ≤ 2 ^ 20
few_items tech master is lawful = let few = light_few master.cell is.light in let count =
    lawful.count in omega (arith, few, count)
