use Rattle.std.proofs.Common.{◌≡◌, ℕ, ◌<◌, List, [], ◌++◌, length, sym, ap, ◌∙◌, subst}
use Rattle.std.specs.List.{flat_map, range_with_len}
use Rattle.sym_items.specs.declared.items.Item.{Item}
use Rattle.expand.specs.Items.{items_of_node, items_of_wire, item_list}
use Rattle.expand.proofs.{Among.among_of, Counted.{list_counted, items_few}}
use Rattle.rule_table.specs.declared.technology.Tech.{Tech}
use Rattle.cell_model.specs.declared.cell.{Cell.Cell, Nets.Nets}
use Rattle.expand.proofs.items.items_of.Goals as goal

-- the nodes' items and then the wires'
list_made : (tech : Tech) (cell : Cell) (nets : Nets) (none one two : List Item) → none ≡ []
    → one ≡ none ++ flat_map (items_of_node tech cell nets) (range_with_len 0 (length cell.nodes))
    → two ≡ one ++ flat_map (items_of_wire tech cell nets) (range_with_len 0 (length cell.wires))
    → two ≡ item_list tech cell nets
unfolding item_list
list_made tech cell nets none one two e f g =
    let nodes : List Item = flat_map (items_of_node tech cell nets) (range_with_len 0 (length cell.nodes)) in
    let wires : List Item = flat_map (items_of_wire tech cell nets) (range_with_len 0 (length cell.wires)) in
    g ∙ ap (λ (xs : List Item). xs ++ wires) (f ∙ ap (λ (xs : List Item). xs ++ nodes) e)

pub returns-clause-among : goal.returns-clause-among
returns-clause-among c =
    let a = c.args in
    let is = c.from_vec.ensures ∙ list_made a.tech.now a.cell.now a.nets.now _ _ _ c.new-list.ensures.items
    c.in_ok-push_nodes.ensures c.in_ok-push_wires.ensures in
    among_of a.tech.now a.cell.now a.nets.now c.from_vec.result c.variables.result c.variables-2.result
    c.requires.sound is c.variables.ensures c.variables-2.ensures

pub returns-clause-count : goal.returns-clause-count
returns-clause-count c =
    let a = c.args in
    let is = c.from_vec.ensures ∙ list_made a.tech.now a.cell.now a.nets.now _ _ _ c.new-list.ensures.items
    c.in_ok-push_nodes.ensures c.in_ok-push_wires.ensures in
    ap length is ∙ list_counted a.tech.now a.cell.now a.nets.now

pub returns-clause-few : goal.returns-clause-few
returns-clause-few c =
    let a = c.args in
    let is = c.from_vec.ensures ∙ list_made a.tech.now a.cell.now a.nets.now _ _ _ c.new-list.ensures.items
    c.in_ok-push_nodes.ensures c.in_ok-push_wires.ensures in
    let P : ℕ → Type 0 = λ n. n < 4294967296 in
    subst P (sym (ap length is ∙ list_counted a.tech.now a.cell.now a.nets.now)) (items_few a.cell.now c.requires.light)
