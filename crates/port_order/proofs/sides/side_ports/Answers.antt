use Rattle.std.proofs.Common.{◌≡◌, ◌≤◌, ◌∙◌, All, List, ap, sym, subst, filter, rules}
use Rattle.std.proofs.lemmas.List.{Elements.All-filter, Sorted.{IsNonDecreasingBy-from_sort_by_key, answers_always}}
use Rattle.cell_model.specs.declared.cell.CellPort.{CellPort}
use Rattle.plan_model.specs.Borders.{port_rank, is_on_side, in_order}
use Rattle.port_order.proofs.Ordered.{sorted_in_order}
use Rattle.port_order.proofs.sides.side_ports.Goals as goal

pub returns-clause-ports : goal.returns-clause-ports
returns-clause-ports c =
    let ports = c.args.ports.now in
    let side = c.args.side in
    let sorted = c.in_ok-sort_by_key.ensures in
    let near = All-filter (is_on_side side) (λ (port : CellPort). port.place ≤ 4095) ports c.requires.places in
    let found : c.in_ok-found.found.items ≡ filter (is_on_side side) ports = c.in_ok-found.ensures in
    let new = c.sort_by_key.new.self.items in
    let up = IsNonDecreasingBy-from_sort_by_key port_rank new sorted.sorted (λ a r q k. search rules) in
    let stable =
    sorted.stable port_rank (answers_always _ (λ a r. r ≡ port_rank a.0.now) _ (λ f a r f' q. search rules)) in
    let near_here : All (λ (port : CellPort). port.place ≤ 4095) c.in_ok-found.found.items =
    (let P : List CellPort → Type 0 = All (λ (port : CellPort). port.place ≤ 4095) in subst P (sym found) near) in
    ◌∙◌ {A = List CellPort} c.from_vec.ensures
    (sorted_in_order c.in_ok-found.found.items new near_here sorted.permutation up stable ∙ ap in_order found)
