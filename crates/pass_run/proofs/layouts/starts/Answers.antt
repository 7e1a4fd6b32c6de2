use Rattle.std.proofs.{Common.{sym, subst}, lemmas.Result.IfOk-weaker}
use Rattle.expand.specs.{declared.master.Master.Master, Masters.IsMaster}
use Rattle.par_phase.proofs.Answers.{answers_are}
use Rattle.pass_run.specs.Layouts.{start_of_master}
use Rattle.pass_run.proofs.layouts.starts.Goals as goal

pub map_split-requires-clause-accepts : goal.map_split-requires-clause-accepts
map_split-requires-clause-accepts g c = λ κs le k d lt p is.
    let M : Master → Type 0 = IsMaster c.args.tech.now in
    subst M (sym is) (c.requires.masters k d lt)

pub returns : goal.returns
returns g c =
    IfOk-weaker c.map_split.result _ _ (λ layouts zipped.
    answers_are _ _ (start_of_master c.args.tech.now) (λ p layout says. says) c.args.masters.now layouts.items
    zipped) c.map_split.ensures.answers
