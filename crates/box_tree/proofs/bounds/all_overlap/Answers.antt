use Rattle.std.proofs.Common.{refl}
use Rattle.box_tree.proofs.Within.{overlap_both}
use Rattle.box_tree.proofs.bounds.all_overlap.Goals as goal

pub returns-then-all_meet : goal.returns-then-all_meet
returns-then-all_meet c = λ t own r. overlap_both c.args.area.now own (c.if-all_meet.ensures refl own.x r.0)
    (c.all_meet-then-all_meet.ensures t own.y r.1)
