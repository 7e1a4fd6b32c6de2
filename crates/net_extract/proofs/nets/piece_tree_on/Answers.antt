use Rattle.std.proofs.Common.{rules}
use Rattle.net_extract.proofs.Begun.{new_tree_of, pieces_fit}
use Rattle.net_extract.proofs.nets.piece_tree_on.Goals as goal

pub new_tree-requires : goal.new_tree-requires
new_tree-requires g c =
    let ground = c.args.ground.now in
    let fit = pieces_fit ground.boxes.now ground.pieces.now.crossings.items ground.pieces.now.placed.items
    ground.pieces.now.starts.items c.args.layer c.in_ok-entries.entries.items c.requires.ground.searchable
    c.requires.ground.pieces c.in_ok-entries.ensures in
    (search rules, (fit.0, (fit.1, c.requires.shares)))

pub returns : goal.returns
returns g c =
    new_tree_of c.in_ok-entries.entries.items c.new_tree.result c.in_ok-entries.ensures c.new_tree.ensures
