use Rattle.expand.proofs.Cells.{kind_sound_at}
use Rattle.expand.proofs.wires.reach_at.Goals as goal

pub reach-requires-clause-kind : goal.reach-requires-clause-kind
reach-requires-clause-kind c =
    kind_sound_at c.args.tech.now c.args.cell.now c.args.end c.in-Node.node _ c.requires.sound c.requires.end
    c.in-Node.is c.kind_at.ensures
