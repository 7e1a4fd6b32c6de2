use Rattle.crossings.proofs.Improper.{least_bad}
use Rattle.crossings.proofs.standings.standing_of.Goals as goal

pub returns-in-Some : goal.returns-in-Some
returns-in-Some c = least_bad c.args.tech.now c.args.boxes.now c.args.number c.in-Some.least c.in-Several.ensures
    c.in-Some.ensures.0 c.in-Some.ensures.1
