use Rattle.std.proofs.Common.{ap}
use Rattle.pass_run.{specs.declared.step.Step.Step, proofs.Solved.walks_listed}
use Rattle.pass_run.proofs.pass.recorded.Goals as goal

pub pass_text-requires-clause-walks : goal.pass_text-requires-clause-walks
pass_text-requires-clause-walks c =
    walks_listed c.args.listed.now.graph.edges c.args.solved.log c.args.listed.now.base c.in_ok-step.step.walks
    (ap (λ (s : Step). s.walks) c.in_ok-step.ensures.value) c.in_ok-step.ensures.paths
