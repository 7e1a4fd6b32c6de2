use Rattle.list_facts.proofs.Pieces.{piece_added}
use Rattle.pass_run.specs.Report.{master_text}
use Rattle.pass_run.proofs.text.pass_text.Goals as goal

pub loop-m-preserved : goal.loop-m-preserved
loop-m-preserved c =
    piece_added (master_text c.args.masters.now c.args.listed.now.graph.edges c.args.step.now) c.loop-m.m
    c.push_counts.new.text.items c.loop-m.text.items c.push_master.new.text.items
    c.loop-m.invariant c.in_ok-push_master.ensures
