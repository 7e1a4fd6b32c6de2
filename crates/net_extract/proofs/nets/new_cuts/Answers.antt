use Rattle.std.proofs.Common.{rules}
use Rattle.net_extract.{specs.Grounds.placed_on, proofs.Begun.{crowded_fit, new_tree}}
use Rattle.net_extract.proofs.nets.new_cuts.Goals as goal

pub new_tree-requires : goal.new_tree-requires
new_tree-requires g c =
    let ground = c.args.ground.now in
    let fit = crowded_fit ground.boxes.now (placed_on ground) c.in_ok-lists.lists.over c.in_ok-entries.entries.items
    c.requires.ground.searchable c.in_ok-entries.ensures in
    (search rules, (fit.0, (fit.1, c.requires.shares)))

pub returns : goal.returns
returns g c =
    let boxes = c.args.ground.now.boxes.now in
    record {
      lists = c.in_ok-lists.ensures;
      crowded = new_tree c.in_ok-entries.entries.items c.in_ok-crowded.crowded c.in_ok-entries.ensures
          c.in_ok-crowded.ensures;
    }
