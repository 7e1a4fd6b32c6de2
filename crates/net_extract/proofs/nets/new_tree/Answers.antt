use Rattle.std.proofs.lemmas.Result.{IfOk-weaker}
use Rattle.box_tree.specs.UnvisitedTrees.{IsNewUnvisitedTree}
use Rattle.net_extract.{specs.Spreading.IsNewTreeWith, proofs.Begun.new_with}
use Rattle.net_extract.proofs.nets.new_tree.Goals as goal

pub returns : goal.returns
returns g c =
    let given = c.args.entries.items in
    let made = c.in_ok-tree.tree in
    IfOk-weaker c.new_unvisited_tree.result (IsNewUnvisitedTree made) (IsNewTreeWith given)
    (λ tree. new_with given made tree c.in_ok-tree.ensures) c.new_unvisited_tree.ensures
