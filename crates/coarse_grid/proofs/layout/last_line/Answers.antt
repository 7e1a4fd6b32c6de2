use Rattle.std.{proofs.Common.{◌∙◌, ◌++◌, ap, map, fold, max}, specs.List.flat_map}
use Rattle.coarse_grid.{specs.Start.{node_line, port_lines, last_line}, proofs.Folds.all_read}
use Rattle.coarse_grid.proofs.layout.last_line.Goals as goal

pub returns-clause-value : goal.returns-clause-value
unfolding last_line
returns-clause-value c =
    let cell = c.args.cell.now in
    c.loop-port.invariant.value
    ∙ ap (λ ports. fold max 0 (map (node_line c.args.axis) cell.nodes ++ flat_map (port_lines c.args.axis) ports))
    (all_read c.as_slice-port-items.result.now cell.ports c.loop-port.port-index c.as_slice-port-items.ensures
    c.loop-port-test.false)
