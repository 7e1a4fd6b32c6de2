use Rattle.crossings.proofs.Meetings.{meets_overlap}
use Rattle.crossings.proofs.unburied.meets_some.Goals as goal

pub returns-in-None : goal.returns-in-None
returns-in-None c = (
  λ t. absurd cc,
  λ h.
      absurd (c.in-None.ensures h.0 (meets_overlap c.args.tech.now c.args.boxes.now c.args.number h.0 h.1)),
)
