use Rattle.std.proofs.Common.{◌≡◌, ◌<◌, ap, sym, ◌∙◌, subst, arith, ℕ, length}
use Rattle.rule_table.specs.Bounds.{IsSize}
use Rattle.cell_model.specs.{declared.cell.{Axis2.TheVariants.Up, Node.Node, Wire.Wire}, Sound.wire_at}
use Rattle.cell_model.specs.declared.cell.WireEnd.TheVariants as ends
use Rattle.jog_insert.{specs.Jogs.Crosses, proofs.Bendable.{unread, is_crossed_out, wire_here, node_here}}
use Rattle.jog_insert.proofs.Bendable.{wire_of_sound, low_within, high_within, size_read, size_is, is_up, is_run}
use Rattle.jog_insert.proofs.runs.run_of.Goals as goal

pub returns-then-is_crossed : goal.returns-then-is_crossed
returns-then-is_crossed c =
    let cell = c.args.cell.now in
    let k = c.args.k in
    let low = c.in_ok-low.low in
    let among : k < length cell.wires = omega (arith, ap length c.as_slice-wires.ensures) in
    let wire = wire_here cell c.as_slice-wires.result.now k unread c.as_slice-wires.ensures among in
    let from : (wire_at cell.wires k).low ≡ ends.Node low = ap (λ (w : Wire). w.low) wire ∙ c.in_ok-low.ensures in
    let node = node_here cell c.as_slice-nodes.result.now low c.index-nodes-low.result c.as_slice-nodes.ensures
    (low_within c.requires.sound.0 cell k low c.requires.sound.1 among from) c.index-nodes-low.is in
    let w = c.if-is_crossed.ensures in
    is_crossed_out cell k c.args.row low from (
      w.0,
      w.1,
      w.2,
      subst (λ (col : ℕ). Crosses cell col c.args.row (wire_at cell.wires w.0))
          (ap (λ (n : Node). n.col) (sym node)) w.3,
    )

pub unsigned-requires : goal.unsigned-requires
unsigned-requires c =
    let cell = c.args.cell.now in
    let k = c.args.k in
    let among : k < length cell.wires = omega (arith, ap length c.as_slice-wires.ensures) in
    let wire = wire_here cell c.as_slice-wires.result.now k unread c.as_slice-wires.ensures among in
    size_read _
    (subst (λ (w : Wire). IsSize w.width) wire
    (wire_of_sound c.requires.sound.0 cell k c.requires.sound.1 among).size)

pub returns : goal.returns
returns c =
    let cell = c.args.cell.now in
    let k = c.args.k in
    let low = c.in_ok-low.low in
    let high = c.in_ok-high.high in
    let tech = c.requires.sound.0 in
    let sound = c.requires.sound.1 in
    let among : k < length cell.wires = omega (arith, ap length c.as_slice-wires.ensures) in
    let wire = wire_here cell c.as_slice-wires.result.now k unread c.as_slice-wires.ensures among in
    let up : (wire_at cell.wires k).along ≡ Up = ap (λ (w : Wire). w.along) wire ∙ is_up _ c.if-ne.ensures in
    let from : (wire_at cell.wires k).low ≡ ends.Node low = ap (λ (w : Wire). w.low) wire ∙ c.in_ok-low.ensures in
    let to : (wire_at cell.wires k).high ≡ ends.Node high = ap (λ (w : Wire). w.high) wire ∙ c.in_ok-high.ensures in
    let below = node_here cell c.as_slice-nodes.result.now low c.index-nodes-low.result c.as_slice-nodes.ensures
    (low_within tech cell k low sound among from) c.index-nodes-low.is in
    let above = node_here cell c.as_slice-nodes.result.now high c.index-nodes-high.result c.as_slice-nodes.ensures
    (high_within tech cell k high sound among to) c.index-nodes-high.is in
    let low_row = ap (λ (n : Node). n.row) below in
    let high_row = ap (λ (n : Node). n.row) above in
    let size = (wire_of_sound tech cell k sound among).size in
    let width = ap (λ (w : Wire). w.width) wire
    ∙ size_is _ c.unsigned.result (subst (λ (w : Wire). IsSize w.width) wire size) c.unsigned.ensures in
    is_run tech cell k c.args.row c.index-nodes-low.result.col low high c.unsigned.result sound among up from to
    (ap (λ (n : Node). n.col) below)
    (omega (arith, low_row, c.if-row-below.false)) (omega (arith, high_row, c.if-above-row.false))
    c.if-is_crossed.ensures width
