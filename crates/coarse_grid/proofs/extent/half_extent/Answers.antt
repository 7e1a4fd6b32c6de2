use Rattle.std.{proofs.Common.{◌∙◌, ◌++◌, ap, map, fold, pos}, specs.Int.int_max}
use Rattle.cell_model.specs.declared.cell.{Node.Node, Wire.Wire}
use Rattle.expand.specs.Variables.{half}
use Rattle.coarse_grid.specs.Extent.{reach_of, half_extent_of}
use Rattle.coarse_grid.proofs.{Extents.widened, Folds.{fold_map_on, all_read}, Lines.wire_size}
use Rattle.coarse_grid.proofs.extent.half_extent.Goals as goal

pub loop-wire-preserved : goal.loop-wire-preserved
loop-wire-preserved c =
    let cell = c.args.cell.now in
    let size = wire_size c.args.tech.now cell c.as_slice-wire-items.result.now c.loop-wire.wire-index _ c.requires
    c.as_slice-wire-items.ensures c.loop-wire-test.true in
    let wide = widened _ _ _ _ c.loop-wire.invariant.low c.loop-wire.invariant.high size c.half.ensures.value
    c.max-most-in-loop-wire.ensures.value in
    record {
      value = fold_map_on int_max (pos 0) (λ (wire : Wire). half wire.width)
          (map (λ (node : Node). reach_of c.args.tech.now node.kind) cell.nodes) c.as_slice-wire-items.result.now
          cell.wires
          c.loop-wire.wire-index _ _ _ c.as_slice-wire-items.ensures c.loop-wire-test.true c.loop-wire.invariant.value
          wide.0;
      low = wide.1;
      high = wide.2;
    }

pub returns-clause-value : goal.returns-clause-value
unfolding half_extent_of
returns-clause-value c =
    let cell = c.args.cell.now in
    c.loop-wire.invariant.value
    ∙ ap (λ ws.
    fold int_max (pos 0)
    (map (λ (node : Node). reach_of c.args.tech.now node.kind) cell.nodes
    ++ map (λ (wire : Wire). half wire.width) ws))
    (all_read c.as_slice-wire-items.result.now cell.wires c.loop-wire.wire-index c.as_slice-wire-items.ensures
    c.loop-wire-test.false)
