use Rattle.std.proofs.{Common.{◌≡◌, ℕ, ◌+◌, map, length, refl, ap, ◌∙◌, arith}, lemmas.List.{length-append, length-map}}
use Rattle.checked_cells.specs.{declared.names.Binding.Binding, CheckedCell.{known_at, with_copy, copied_node}}
use Rattle.checked_cells.specs.{CheckedCell.copied_wire, Counts.{weight_of, boxes_of}, NameEntries.entries_of}
use Rattle.checked_cells.proofs.Counting.{counted, counted_copy, weight-with_copy, boxes-with_copy, most-copies}
use Rattle.checked_cells.proofs.Stepping.{steps-push}
use Rattle.stick_cell.proofs.LineSteps.{names-push, below-more}
use Rattle.checked_cells.specs.declared.names.Binding.TheVariants as bindings
use Rattle.stick_cell.proofs.builder.CellBuilder.add_copy.Goals as goal

pub returns-clause-grows : goal.returns-clause-grows
returns-clause-grows c = λ cells known built earlier is.
    let a = c.args in
    let name = a.name.now in
    let table = a.self.now.table in
    let used = a.used.now in
    let other = known_at cells a.cell in
    let next = with_copy known name a.cell other a.col a.row in
    let binding : ℕ → Binding =
    λ first. bindings.Copy (record { cell = a.cell; first = first; col = a.col; row = a.row }) in
    let nodes : length next.nodes ≡ length known.nodes + length other.nodes =
    omega (
      arith,
      length-append known.nodes (map (copied_node name a.col a.row) other.nodes),
      length-map
          other.nodes (copied_node name a.col a.row),
    ) in
    let wires : length next.wires ≡ length known.wires + length other.wires =
    omega (
      arith,
      length-append known.wires (map (copied_wire (length known.nodes)) other.wires),
      length-map
          other.wires (copied_wire (length known.nodes)),
    ) in
    record {
      tells = record {
        name = built.tells.name;
        names = names-push (entries_of table.names) (entries_of c.add.new.self) known.names name (binding table.nodes)
            (binding (length known.nodes)) c.in_ok-add.ensures built.tells.names (ap binding built.tells.nodes);
        nodes = counted_copy table.nodes (length known.nodes) used.nodes (length other.nodes) c.capped_sum-self.result
            (length next.nodes) built.tells.nodes is.tells.nodes c.capped_sum-self.ensures nodes;
        wires = counted_copy table.wires (length known.wires) used.wires (length other.wires)
            c.capped_sum-self-2.result (length next.wires) built.tells.wires is.tells.wires
            c.capped_sum-self-2.ensures wires;
        weight = counted c.capped_sum.result (weight_of known + weight_of other) 1 c.capped_sum-self-3.result
            (weight_of next)
            (counted_copy table.weight (weight_of known) used.weight (weight_of other) c.capped_sum.result
            (weight_of known + weight_of other) built.tells.weight is.tells.weight c.capped_sum.ensures refl)
            c.capped_sum-self-3.ensures (omega (arith, weight-with_copy known name a.cell other a.col a.row));
        boxes = counted_copy table.boxes (boxes_of known) used.boxes (boxes_of other) c.capped_sum-self-4.result
            (boxes_of next) built.tells.boxes is.tells.boxes c.capped_sum-self-4.ensures
            (boxes-with_copy known name a.cell other a.col a.row);
        most_col = c.most_with_copy-self.ensures
            ∙ most-copies (λ node. node.col) a.col (copied_node name a.col a.row) (λ node. refl) known.nodes
            other.nodes table.most_col used.nodes used.most_col built.tells.most_col is.tells.nodes is.tells.most_col;
        most_row = c.most_with_copy-self-2.ensures
            ∙ most-copies (λ node. node.row) a.row (copied_node name a.col a.row) (λ node. refl) known.nodes
            other.nodes table.most_row used.nodes used.most_row built.tells.most_row is.tells.nodes is.tells.most_row;
        depth = omega (arith, c.max-self.ensures, built.tells.depth, is.tells.depth);
      };
      ports = built.ports;
      wired = built.wired;
      steps = steps-push cells known next table.steps.items _ _ built.steps c.in_ok-push.ensures.items
          (earlier, omega (arith, c.requires.near_col), omega (arith, c.requires.near_row)) refl
          (omega (arith, weight-with_copy known name a.cell other a.col a.row)) (λ light. refl);
      below = below-more (length known.wires) (length next.wires) known.plugs (omega arith) built.below;
    }
