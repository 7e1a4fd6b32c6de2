use Rattle.net_extract.proofs.nets.lower_trees.Goals as goal

pub returns : goal.returns
returns g c = record { diffusion = c.join.ensures.first; poly = c.join.ensures.second }
