use Rattle.std.proofs.{Common.{List, All, subst, take_all, arith}, lemmas.List.Elements.All-more}
use Rattle.expand.specs.{declared.master.Master.Master, Laws.IsLawful}
use Rattle.pass_run.proofs.laws.masters_are_lawful.Goals as goal

pub loop-master-preserved : goal.loop-master-preserved
loop-master-preserved c =
    let lawful = subst (IsLawful c.args.tech.now) c.master-item.is c.master_is_lawful.ensures in
    All-more (IsLawful c.args.tech.now) c.args.masters.now c.loop-master.master-index c.master-item.result
    c.loop-master-test.true c.loop-master.invariant lawful

pub returns : goal.returns
returns c =
    let L : List Master → Type 0 = All (IsLawful c.args.tech.now) in
    let test = c.loop-master-test.false in
    subst L (take_all c.loop-master.master-index c.args.masters.now (omega arith)) c.loop-master.invariant
