use Rattle.std.proofs.Common.{◌≡◌, All, take}
use Rattle.pass_run.specs.OneStep.{walks_to, HasPath}
use Rattle.pass_run.proofs.pass.walks_to.Given as goal

abbrev pub invariant-loop-far : goal.invariant-loop-far
invariant-loop-far l = record {
  walks : l.walks.items ≡ walks_to l.log (take l.far-index l.listed.base);
  paths : All (HasPath l.listed.graph.edges l.log) (take l.far-index l.listed.base);
}
