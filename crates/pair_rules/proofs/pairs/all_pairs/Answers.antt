use Rattle.std.proofs.Common.{[]}
use Rattle.pair_rules.specs.Candidates.{candidates_to}
use Rattle.list_facts.proofs.Pieces.{piece_added}
use Rattle.pair_rules.proofs.pairs.all_pairs.Goals as goal

pub loop-j-preserved : goal.loop-j-preserved
loop-j-preserved c =
    piece_added (candidates_to c.args.axis c.args.tech.now c.args.coords.now c.args.items.now) c.loop-j.j []
    c.loop-j.pairs.items c.push_pairs_to.new.pairs.items
    c.loop-j.invariant c.in_ok-push_pairs_to.ensures.ok
