use Rattle.std.proofs.{Common.{ℕ, ◌+◌, max, length, refl, sym, ap, ◌∙◌, arith}, lemmas.List.length_push}
use Rattle.cell_model.specs.{declared.cell.Node.Node, Counts.{kind_items, kind_boxes}}
use Rattle.checked_cells.specs.{declared.names.Binding.Binding, CheckedCell.with_node, Counts.{weight_of, boxes_of}}
use Rattle.checked_cells.{specs.{Counts.capped, NameEntries.entries_of}, proofs.Counting.{counted, weight-with_node}}
use Rattle.checked_cells.proofs.{Counting.{boxes-with_node, greatest_col-push, greatest_row-push}, Stepping.steps-push}
use Rattle.stick_cell.proofs.LineSteps.{names-push}
use Rattle.checked_cells.specs.declared.names.Binding.TheVariants as bindings
use Rattle.stick_cell.proofs.builder.CellBuilder.add_node.Goals as goal

pub returns-clause-grows : goal.returns-clause-grows
returns-clause-grows c = λ cells known built.
    let name = c.args.name.now in
    let table = c.args.self.now.table in
    let node : Node = record { name = name; kind = c.args.kind; col = c.args.col; row = c.args.row } in
    let next = with_node known name c.args.kind c.args.col c.args.row in
    let binding : ℕ → Binding =
    λ number.
    bindings.Node (record { number = number; kind = c.args.kind; col = c.args.col; row = c.args.row }) in
    record {
      tells = record {
        name = built.tells.name;
        names = names-push (entries_of table.names) (entries_of c.add.new.self) known.names name (binding table.nodes)
            (binding (length known.nodes)) c.in_ok-add.ensures built.tells.names (ap binding built.tells.nodes);
        nodes = counted table.nodes (length known.nodes) 1 c.capped_sum-self.result (length next.nodes)
            built.tells.nodes c.capped_sum-self.ensures (length_push known.nodes node);
        wires = built.tells.wires;
        weight = counted table.weight (weight_of known) (kind_items c.args.kind) c.capped_sum-self-2.result
            (weight_of next) built.tells.weight (c.capped_sum-self-2.ensures
            ∙ ap (λ (n : ℕ). capped (table.weight + n)) c.kind_items.ensures) (weight-with_node known name c.args.kind
            c.args.col c.args.row);
        boxes = counted table.boxes (boxes_of known) (kind_boxes c.args.kind) c.capped_sum-self-3.result
            (boxes_of next) built.tells.boxes (c.capped_sum-self-3.ensures
            ∙ ap (λ (n : ℕ). capped (table.boxes + n)) c.kind_boxes.ensures) (boxes-with_node known name c.args.kind
            c.args.col c.args.row);
        most_col = c.max-self.ensures ∙ ap (λ (n : ℕ). max n c.args.col) built.tells.most_col
            ∙ sym (greatest_col-push known.nodes node);
        most_row = c.max-self-2.ensures ∙ ap (λ (n : ℕ). max n c.args.row) built.tells.most_row
            ∙ sym (greatest_row-push known.nodes node);
        depth = built.tells.depth;
      };
      ports = built.ports;
      wired = built.wired;
      steps = steps-push cells known next table.steps.items _ _ built.steps c.in_ok-push.ensures.items tt refl
          (omega (arith, weight-with_node known name c.args.kind c.args.col c.args.row)) (λ light. refl);
      below = built.below;
    }
