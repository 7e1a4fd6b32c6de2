-- The law is the lemma on the masters that share a column or a row.
use Rattle.pitch_join.specs.Masters.{ports_of_masters}
use Rattle.instance_laws.proofs.Aligned.{all_aligned}
use Rattle.instance_laws.proofs.laws.grids_are_aligned.Goals as goal

pub returns : goal.returns
returns c = all_aligned (ports_of_masters c.args.masters.now) c.args.plan.now c.args.layouts.now
    c.requires.planned.planned (λ axis. (c.requires.finished.meet axis).borders)
