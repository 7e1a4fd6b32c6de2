use Rattle.std.proofs.Common.{◌≡◌, ◌^◌, All, ◌++◌, ◌∙◌, ◌∷◌, [], List, ap, sym, subst, map, ◌<◌, length, get_or, arith}
use Rattle.std.proofs.lemmas.List.{take_all, length-map, Elements.All-push}
use Rattle.cell_model.specs.declared.cell.CellPort.{CellPort}
use Rattle.plan_model.specs.Borders.{side_ports}
use Rattle.checked_cells.{specs.{Ports.ports_of, Tables.known_of}, proofs.TableReads.vec_len-tables}
use Rattle.grid_plan.specs.Numbered.{ports_of_cells}
use Rattle.grid_plan.proofs.{CellPorts.{few_known, near_ports, ports_at}, Pieces.map_step}
use Rattle.grid_plan.proofs.sides.sides_of.Goals as goal

pub overflow_cast-k-end : goal.overflow_cast-k-end
overflow_cast-k-end c =
    let few = few_known c.args.cells.now c.requires.resolved in
    let many = vec_len-tables c.args.cells.now c.requires.resolved in
    let e = c.len-k-end.ensures in
    grind arith

pub ports-requires-clause-within : goal.ports-requires-clause-within
ports-requires-clause-within c =
    let many = vec_len-tables c.args.cells.now c.requires.resolved in
    let e = c.len-k-end.ensures in
    let test = c.loop-k-test.true in
    omega arith

pub side_ports-requires : goal.side_ports-requires
side_ports-requires c =
    let many = vec_len-tables c.args.cells.now c.requires.resolved in
    let e = c.len-k-end.ensures in
    let test = c.loop-k-test.true in
    record {
      places = near_ports c.args.cells.now c.loop-k.k c.ports.result.now c.requires.resolved (omega arith)
          c.ports.ensures;
    }

pub loop-k-preserved : goal.loop-k-preserved
loop-k-preserved c =
    let cells = known_of c.args.cells.now in
    let f = side_ports c.args.side in
    let k = c.loop-k.k in
    let now = c.loop-k.sides.items in
    let many = vec_len-tables c.args.cells.now c.requires.resolved in
    let e = c.len-k-end.ensures in
    let test = c.loop-k-test.true in
    let wide = length-map cells ports_of in
    let lt : k < length cells = omega arith in
    let made : c.in_ok-side_ports.field-0 ≡ f (get_or (ports_of_cells cells) k []) =
    c.in_ok-side_ports.ensures.ports ∙ ap f (◌∙◌ {A = List CellPort} c.ports.ensures (sym (ports_at cells k lt))) in
    let P : List CellPort → Type 0 = λ side. length side < 2 ^ 32 in
    let Q : List (List CellPort) → Type 0 = All P in
    record {
      short = subst Q (sym c.in_ok-push.ensures.items)
          (All-push P now c.in_ok-side_ports.field-0 c.loop-k.invariant.short c.in_ok-side_ports.ensures.short);
      sides = map_step f [] (ports_of_cells cells) k [] now _ (omega arith) c.loop-k.invariant.sides
          (c.in_ok-push.ensures.items ∙ ap (λ z. now ++ z ∷ []) made);
    }

pub returns-clause-sides : goal.returns-clause-sides
returns-clause-sides c =
    let cells = known_of c.args.cells.now in
    let many = vec_len-tables c.args.cells.now c.requires.resolved in
    let e = c.len-k-end.ensures in
    let test = c.loop-k-test.false in
    let wide = length-map cells ports_of in
    c.loop-k.invariant.sides
    ∙ ap (map (side_ports c.args.side)) (take_all c.loop-k.k (ports_of_cells cells) (omega arith))
