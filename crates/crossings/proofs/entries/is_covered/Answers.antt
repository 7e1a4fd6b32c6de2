use Rattle.std.proofs.Common.{of_z, to_z, w64}
use Rattle.box_tree.proofs.Within.{margin_held}
use Rattle.crossings.proofs.EntryBoxes.{covered_by_entry}
use Rattle.crossings.proofs.entries.is_covered.Goals as goal

pub returns : goal.returns
returns c = λ boxes layer on.
    covered_by_entry boxes layer c.args.tree.now c.args.area.now c.args.margin (to_z w64 (of_z w64 c.args.margin)) _
    (margin_held c.args.margin c.requires.margin) c.any.ensures on
