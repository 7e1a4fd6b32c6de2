use Rattle.crossings.proofs.Meetings.{meets_overlap}
use Rattle.crossings.proofs.unburied.least_unburied.Goals as goal

pub returns-in-None : goal.returns-in-None
returns-in-None c = λ k met. c.in-None.ensures k (meets_overlap c.args.tech.now c.args.boxes.now c.args.number k met)
