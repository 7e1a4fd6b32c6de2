use Rattle.std.proofs.Common.{refl, ◌∙◌}
use Rattle.cell_model.specs.Counts.{items_in, boxes_in}
use Rattle.checked_cells.{specs.Counts.{weight_of, boxes_of}, proofs.Stepping.steps-none}
use Rattle.stick_cell.proofs.builder.CellBuilder.new.Goals as goal

pub returns-clause-builder : goal.returns-clause-builder
unfolding weight_of boxes_of items_in boxes_in
returns-clause-builder c = λ cells. record {
  tells = record {
    name = refl;
    names = c.with_room.ensures;
    nodes = refl;
    wires = refl;
    weight = refl;
    boxes = refl;
    most_col = refl;
    most_row = refl;
    depth = refl;
  };
  ports = c.new-2.ensures.items;
  wired = c.new-3.ensures.items;
  steps = steps-none cells c.args.name.now _ (c.reserve.ensures.items ∙ c.new-steps.ensures.items);
  below = tt;
}
