use Rattle.std.proofs.Common.{refl, sym, ap, ◌∙◌, arith}
use Rattle.checked_cells.specs.{CheckedCell.with_limit, Counts.{weight_of, capped}}
use Rattle.checked_cells.proofs.{Counting.{counted, weight-with_limit, boxes-with_limit}, Stepping.steps-push}
use Rattle.stick_cell.proofs.builder.CellBuilder.add_limit.Goals as goal

pub returns-clause-grows : goal.returns-clause-grows
returns-clause-grows c = λ cells known limit is exact.
    let table = c.args.self.now.table in
    let next = with_limit known limit in
    record {
      tells = record {
        name = is.tells.name;
        names = is.tells.names;
        nodes = is.tells.nodes;
        wires = is.tells.wires;
        weight = counted table.weight (weight_of known) 1 c.capped_sum-self.result (weight_of next) is.tells.weight
            c.capped_sum-self.ensures (weight-with_limit known limit);
        boxes = is.tells.boxes ∙ ap capped (sym (boxes-with_limit known limit));
        most_col = is.tells.most_col;
        most_row = is.tells.most_row;
        depth = is.tells.depth;
      };
      ports = is.ports;
      wired = is.wired;
      steps = steps-push cells known next table.steps.items _ _ is.steps c.in_ok-push.ensures.items tt refl
          (omega (arith, weight-with_limit known limit)) exact;
      below = is.below;
    }
