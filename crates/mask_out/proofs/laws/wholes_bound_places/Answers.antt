use Rattle.lam_geom.specs.declared.boxes.Axis.TheVariants.{X, Y}
use Rattle.rule_table.specs.Technology.{widest_of}
use Rattle.sym_items.specs.Layouts.{size_in}
use Rattle.plan_model.specs.Plan.{grids_of}
use Rattle.mask_out.proofs.Reach.{wholes_bound}
use Rattle.mask_out.proofs.laws.wholes_bound_places.Goals as goal

pub returns : goal.returns
returns c =
    wholes_bound (size_in X c.args.coords.now) (size_in Y c.args.coords.now) (widest_of c.args.tech.now)
    (grids_of c.args.plan.now) c.requires.widths c.requires.heights c.requires.widest c.requires.rectangular
    c.requires.aligned c.requires.narrow c.requires.low
