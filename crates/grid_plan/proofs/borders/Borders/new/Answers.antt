use Rattle.std.proofs.Common.{◌+◌, ◌*◌, ◌∙◌, ap, map, rules, arith}
use Rattle.plan_model.specs.Borders.{side_ports}
use Rattle.checked_cells.specs.Tables.{known_of}
use Rattle.grid_plan.{specs.Numbered.ports_of_cells, proofs.{CellPorts.{few_known, side_count}, FirstPlaces.none_true}}
use Rattle.grid_plan.proofs.borders.Borders.new.Goals as goal

pub invariant_of-result : goal.invariant_of-result
invariant_of-result c =
    let cells = known_of c.args.cells.now in
    let few = few_known c.args.cells.now c.requires.resolved in
    let one = side_count cells _ c.in_ok-sides_of.field-0.items c.in_ok-sides_of.ensures.sides in
    let other = side_count cells _ c.in_ok-sides_of-2.field-0.items c.in_ok-sides_of-2.ensures.sides in
    record {
      one_length = omega (arith, c.in_ok-sides_of.field-0.ok.0, c.in_ok-sides_of-2.field-0.ok.0);
      few = omega (arith, c.in_ok-sides_of.field-0.ok.0);
      short = c.in_ok-sides_of.ensures.short;
      room = search rules;
      told = λ a b la lb is. none_true c.in_ok-vec.field-0.items (a * 256 + b) _
          (c.in_ok-vec.ensures.items_if_clones_equal (λ y e. e)) is;
    }

pub returns : goal.returns
returns c =
    let ports = ports_of_cells (known_of c.args.cells.now) in
    record {
      before = c.in_ok-sides_of.ensures.sides ∙ ap (λ side. map (side_ports side) ports) c.side_before.ensures;
      after = c.in_ok-sides_of-2.ensures.sides ∙ ap (λ side. map (side_ports side) ports) c.side_after.ensures;
    }
