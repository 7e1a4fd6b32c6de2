use Rattle.std.proofs.Common.{◌≡◌, ℕ, ◌+◌, ◌≤◌, length, refl, ap, ◌∙◌, rules, arith, w64, to_z, of_z}
use Rattle.std.proofs.lemmas.List.{length_push}
use Rattle.cell_model.specs.{declared.cell.Wire.Wire, Counts.layer_items}
use Rattle.checked_cells.specs.{CheckedCell.{plugged, with_wire}, Counts.{weight_of, boxes_of, capped}, Kept.capped_end}
use Rattle.checked_cells.proofs.{Counting.{counted, weight-with_wire, boxes-with_wire}, Stepping.steps-push}
use Rattle.stick_cell.proofs.{LineSteps.below-more, WireSteps.{plug-step, mark-step, below-plugged, exact_wire}}
use Rattle.stick_cell.proofs.builder.CellBuilder.add_wire.Goals as goal

pub returns-clause-grows : goal.returns-clause-grows
returns-clause-grows c = λ cells known wire built ends is.
    let a = c.args in
    let table = a.self.now.table in
    let next = with_wire known wire in
    let n = length known.wires in
    let one = plugged n wire.width known.plugs wire.low in
    let wide : to_z w64 (of_z w64 a.wire.width) ≡ wire.width =
    let held : to_z w64 (of_z w64 a.wire.width) ≡ a.wire.width = search rules in held
    ∙ ap (λ (w : Wire). w.width) is in
    let low : a.wire.low ≡ capped_end wire.low = ap (λ (w : Wire). w.low) is in
    let high : a.wire.high ≡ capped_end wire.high = ap (λ (w : Wire). w.high) is in
    record {
      tells = record {
        name = built.tells.name;
        names = built.tells.names;
        nodes = built.tells.nodes;
        wires = counted table.wires n 1 c.capped_sum-self.result (length next.wires) built.tells.wires
            c.capped_sum-self.ensures (length_push known.wires wire);
        weight = counted table.weight (weight_of known) (layer_items wire.layer) c.capped_sum-self-2.result
            (weight_of next) built.tells.weight
            (c.capped_sum-self-2.ensures
            ∙ ap (λ (m : ℕ). capped (table.weight + m))
            (c.layer_items.ensures ∙ ap (λ (w : Wire). layer_items w.layer) is)) (weight-with_wire known wire);
        boxes = counted table.boxes (boxes_of known) 1 c.capped_sum-self-3.result (boxes_of next) built.tells.boxes
            c.capped_sum-self-3.ensures (boxes-with_wire known wire);
        most_col = built.tells.most_col;
        most_row = built.tells.most_row;
        depth = built.tells.depth;
      };
      ports = plug-step n table.wires wire.width (to_z w64 (of_z w64 a.wire.width)) one wire.high a.wire.high
          c.plug.new.ports.items c.plug-2.new.ports.items built.tells.wires wide high
          (plug-step n table.wires wire.width (to_z w64 (of_z w64 a.wire.width)) known.plugs wire.low a.wire.low
          table.ports.items c.plug.new.ports.items built.tells.wires wide low built.ports c.plug.ensures)
          c.plug-2.ensures;
      wired = mark-step n wire.width one wire.high a.wire.high c.mark.new.wired.items c.mark-2.new.wired.items high
          (mark-step n wire.width known.plugs wire.low a.wire.low a.self.now.wired.items c.mark.new.wired.items low
          built.wired c.mark.ensures)
          c.mark-2.ensures;
      steps = steps-push cells known next table.steps.items _ _ built.steps c.in_ok-push.ensures.items tt refl
          (omega (arith, weight-with_wire known wire))
          (λ light. ap (with_wire known) (is ∙ exact_wire next wire light ends));
      below =
          let more : n ≤ length next.wires = omega (arith, length_push known.wires wire) in
          below-plugged (length next.wires) n wire.width one wire.high more
          (below-plugged (length next.wires) n wire.width known.plugs wire.low more
          (below-more n (length next.wires) known.plugs more built.below));
    }
