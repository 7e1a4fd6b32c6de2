use Rattle.pass_run.proofs.Moved.{stays}
use Rattle.pass_run.proofs.laws.meeting_stays_laid_out.Goals as goal

pub returns : goal.returns
returns c = λ axis layout values laid next. stays axis c.args.tech.now c.args.master.now layout values
    c.master_is_lawful.ensures laid next
