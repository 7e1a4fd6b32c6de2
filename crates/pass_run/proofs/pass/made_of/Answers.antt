use Rattle.std.proofs.Common.{ap, sym}
use Rattle.pass_run.{specs.declared.{pass.Made.Made, step.Step.Step}, proofs.Solved.{ended, fars_within, pass_made}}
use Rattle.pass_run.proofs.pass.made_of.Goals as goal

pub recorded-requires-clause-ended : goal.recorded-requires-clause-ended
recorded-requires-clause-ended c = ended c.requires.planned c.requires.lawful c.requires.laid c.requires.run

pub recorded-requires-clause-among : goal.recorded-requires-clause-among
recorded-requires-clause-among c =
    fars_within c.args.axis c.args.masters.now c.args.listed.now.base c.args.listed.now.graph.vars
    c.requires.run.is_list.bases c.requires.run.is_list.vars

pub returns-clause-made : goal.returns-clause-made
returns-clause-made c =
    let made : Made = record {
      step = c.in_ok-step.step;
      layouts = c.in_ok-layouts.layouts;
      text = c.in_ok-step.text;
      most = c.in_ok-layouts.most;
    } in
    let moved = c.in_ok-layouts.ensures in
    let told = c.in_ok-step.ensures in
    pass_made c.requires.planned c.requires.lawful c.requires.laid c.requires.run c.args.pass c.args.told made
    c.args.solved.x
    told.paths told.step (sym (ap (λ (s : Step). s.x) told.step)) moved.layouts told.text moved.most moved.none
