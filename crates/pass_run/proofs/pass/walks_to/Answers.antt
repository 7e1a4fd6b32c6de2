use Rattle.std.proofs.Common.{◌++◌, ◌∷◌, [], ap, ◌∙◌}
use Rattle.pass_run.specs.{declared.step.Walk.Walk, OneStep.{walk_to, HasPath}}
use Rattle.pass_run.proofs.{Lists.{image_read, holds_read}, Solved.path_of}
use Rattle.pass_run.proofs.pass.walks_to.Goals as goal

pub loop-far-preserved : goal.loop-far-preserved
loop-far-preserved c =
    let log = c.args.log.now in
    let base = c.args.listed.now.base in
    let read = c.as_slice-far-items.result.now in
    let k = c.loop-far.far-index in
    let walk = c.in_ok-edges.ensures in
    record {
      walks = image_read (walk_to log) base read k 0 c.loop-far.walks.items c.push.new.self.items
          c.as_slice-far-items.ensures c.loop-far-test.true c.loop-far.invariant.walks
          (c.in_ok-push.ensures.items
          ∙ ap (λ edges. let own : Walk = record { edges = edges } in c.loop-far.walks.items ++ own ∷ [])
          (c.from_vec.ensures ∙ walk.value));
      paths = holds_read (HasPath c.args.listed.now.graph.edges log) base read k 0 c.as_slice-far-items.ensures
          c.loop-far-test.true c.loop-far.invariant.paths
          (path_of c.args.listed.now.graph.edges log _ c.in_ok-edges.edges.items walk.value walk.passes walk.simple
          walk.as_long);
    }
