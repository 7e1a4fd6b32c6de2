use Rattle.coarse_grid.proofs.ClassTrees.{parts_made}
use Rattle.coarse_grid.proofs.class_tree.class_tree.Goals as goal

pub alike_of-requires : goal.alike_of-requires
alike_of-requires c =
    let made = parts_made c.args.coords.now c.args.items.now c.args.class c.in_ok-entries.entries.items
    c.in_ok-new.field-0 c.into_parts-parts.result c.in_ok-new.ensures c.into_parts-parts.ensures.entries
    c.into_parts-parts.ensures.tree c.in_ok-entries.ensures in
    record { parts = made.1 }

pub returns-clause-tree : goal.returns-clause-tree
returns-clause-tree c =
    let made = parts_made c.args.coords.now c.args.items.now c.args.class c.in_ok-entries.entries.items
    c.in_ok-new.field-0 c.into_parts-parts.result c.in_ok-new.ensures c.into_parts-parts.ensures.entries
    c.into_parts-parts.ensures.tree c.in_ok-entries.ensures in
    record { entries = made.0; parts = made.1; flags = c.in_ok-alike.ensures }
