use Rattle.std.{proofs.Common.{◌<◌, ◌≤◌, length, get_or, set, ap, ◌∙◌, arith}, specs.Prelude.pos}
use Rattle.rule_table.specs.declared.classes.Layer.TheVariants.{Diffusion}
use Rattle.lam_geom.specs.declared.boxes.Side.TheVariants.{Left}
use Rattle.cell_model.specs.declared.cell.CellPort.{CellPort}
use Rattle.stick_cell.{specs.CellBuilder.without_wire, proofs.Forgetting.{forgotten-step, forgotten-back}}
use Rattle.stick_cell.proofs.builder.forget_wires.Goals as goal

pub loop-port-init : goal.loop-port-init
loop-port-init c = c.deref_mut-port-items.ensures.value

pub loop-port-preserved : goal.loop-port-preserved
loop-port-preserved c =
    let ports = c.args.ports.now.items in
    let i = c.loop-port.port-index in
    let lt : i < length ports = omega (arith, c.loop-port-test.true, ap length c.deref_mut-port-items.ensures.value) in
    let d : CellPort = record { side = Left; layer = Diffusion; place = 0; width = pos 0; wire = 0 } in
    ap (λ items. set items i (without_wire (get_or items i d))) c.loop-port.invariant ∙ forgotten-step ports i d lt

pub returns : goal.returns
returns c =
    let ports = c.args.ports.now in
    let le : length ports.items ≤ c.loop-port.port-index =
    omega (arith, c.loop-port-test.false, ap length c.deref_mut-port-items.ensures.value) in
    forgotten-back ports.items c.loop-port.port-items c.loop-port.port-index ports.len c.loop-port.invariant le
    (omega (arith, ports.ok.0))
