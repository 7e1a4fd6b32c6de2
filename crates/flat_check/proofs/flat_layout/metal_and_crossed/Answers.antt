use Rattle.flat_check.proofs.flat_layout.metal_and_crossed.Goals as goal

pub returns : goal.returns
returns g c = record { metal = c.join.ensures.first; crossed = c.join.ensures.second }
