use Rattle.std.proofs.{Common.{◌≡◌, ◌<◌, length, ◌∙◌, arith}, lemmas.List.get_or_read}
use Rattle.round_log.{specs.Looks.place_in, proofs.Planned.{In-from_contains, place_in_range}}
use Rattle.liao_wong.proofs.worklist.Order.place.Goals as goal

pub returns-clause-in_order : goal.returns-clause-in_order
returns-clause-in_order c =
    let order = c.args.self.now.variables.now in
    let places = c.args.self.now.places.items in
    let small : place_in order c.args.v < length order =
    place_in_range order c.args.v
    (In-from_contains order c.args.v (c.requires.names.each c.args.v c.requires.in_range)) in
    let is : c.index.result.now ≡ place_in order c.args.v =
    get_or_read places c.args.v c.index.result.now c.requires.in_range c.index.ensures 0
    ∙ c.requires.places.1 c.args.v c.requires.in_range in
    omega arith
