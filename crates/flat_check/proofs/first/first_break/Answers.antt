use Rattle.flat_check.proofs.first.first_break.Goals as goal

pub returns : goal.returns
returns g c = rw (c.in_ok-known.ensures.tech, c.in_ok-known.ensures.boxes) at c.first_by_trees.ensures
