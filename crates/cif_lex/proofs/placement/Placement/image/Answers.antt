use Rattle.cif_lex.proofs.Turning.{turned_is_near, sum_fits, image_is}
use Rattle.cif_lex.proofs.placement.Placement.image.Goals as goal

pub overflow_add-result : goal.overflow_add-result
overflow_add-result c =
    let k = turned_is_near c.args.self.turn (c.args.x, c.args.y) c.turned-right.result c.turned-right.ensures
    c.requires.near in
    sum_fits c.turned-right.result.0 c.args.self.x k.left k.right c.requires.shift.left c.requires.shift.right

pub overflow_add-result-2 : goal.overflow_add-result-2
overflow_add-result-2 c =
    let k = turned_is_near c.args.self.turn (c.args.x, c.args.y) c.turned-right.result c.turned-right.ensures
    c.requires.near in
    sum_fits c.turned-right.result.1 c.args.self.y k.below k.above c.requires.shift.below c.requires.shift.above

pub returns : goal.returns
returns c = image_is c.args.self (c.args.x, c.args.y) c.turned-right.result c.turned-right.ensures c.requires.near
    c.requires.shift
