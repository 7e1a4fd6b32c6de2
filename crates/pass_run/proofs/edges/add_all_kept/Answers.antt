use Rattle.std.proofs.{Common.{◌++◌, List, length, ap, ◌∙◌, arith}, lemmas.Result.err_from_is_err_and}
use Rattle.list_facts.proofs.Pieces.{piece_added}
use Rattle.cons_graph.specs.declared.edges.Edge.{Edge}
use Rattle.pitch_join.specs.{declared.joint.Joint.Joint, Joined.kept_edges_at}
use Rattle.pass_run.{specs.Passes.kept_count, proofs.Lists.image_added}
use Rattle.pass_run.proofs.Adding.{edges_counted, found_edges, refused_alone, refused_so_far}
use Rattle.pass_run.proofs.edges.add_all_kept.Goals as goal

pub returns-in_default-clause-fault : goal.returns-in_default-clause-fault
returns-in_default-clause-fault c =
    refused_alone c.args.axis c.args.tech.now c.args.masters.now c.args.layouts.now c.args.found.now
    c.loop-one.one-index c.one-item.result c.requires.found c.loop-one-test.true c.one-item.is
    c.args.joint.now.edges.items c.in_default.is

pub returns-in_err-add_edges-clause-fault : goal.returns-in_err-add_edges-clause-fault
returns-in_err-add_edges-clause-fault c =
    let p = err_from_is_err_and c.from_residual.result c.from_residual.ensures.1 in
    rw (p.1, p.2)
    (refused_so_far c.args.axis c.args.tech.now c.args.masters.now c.args.layouts.now c.args.found.now
    c.loop-one.one-index c.one-item.result c.requires.found c.loop-one-test.true c.one-item.is
    c.args.joint.now.edges.items c.loop-one.joint.edges.items c.deref.result.now _
    (rw c.reserve.ensures.items at c.loop-one.invariant.edges)
    (c.deref.ensures.value
    ∙ found_edges c.args.axis c.args.tech.now c.args.masters.now c.args.layouts.now c.args.found.now
    c.loop-one.one-index c.one-item.result c.requires.found c.loop-one-test.true c.one-item.is c.in-Edges.edges
    c.in-Edges.is)
    c.in_err-add_edges.ensures.fault)

pub loop-one-preserved : goal.loop-one-preserved
loop-one-preserved c =
    let axis = c.args.axis in
    let tech = c.args.tech.now in
    let m = c.loop-one.one-index in
    let masters = c.args.masters.now in
    let layouts = c.args.layouts.now in
    let own = found_edges axis tech masters layouts c.args.found.now m c.one-item.result c.requires.found
    c.loop-one-test.true c.one-item.is c.in-Edges.edges c.in-Edges.is in
    let long = c.len.ensures in
    let counted = ap (λ (es : List Edge). length es) own ∙ edges_counted axis tech masters layouts m in
    record {
      edges = piece_added (kept_edges_at axis tech masters layouts) m c.reserve.new.self.items
          c.loop-one.joint.edges.items _ c.loop-one.invariant.edges
          (c.in_ok-add_edges.ensures.edges
          ∙ ap (λ es. c.loop-one.joint.edges.items ++ es) (c.deref.ensures.value ∙ own));
      others = c.in_ok-add_edges.ensures.others
          ∙ ap (λ (j : Joint). record j { edges = c.add_edges.new.joint.edges }) c.loop-one.invariant.others;
      counts = image_added (kept_count axis tech masters layouts) m c.len.result c.loop-one.counts.items _
          c.loop-one.invariant.counts (omega (arith, long, counted, c.in-Edges.edges.ok.0)) c.in_ok-push.ensures.items;
    }
