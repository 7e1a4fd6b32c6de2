-- The law is the lemma on the picture.
use Rattle.instance_laws.proofs.PictureShapes.{picture_shows}
use Rattle.instance_laws.proofs.netlists.pictures_show_shapes.Goals as goal

pub returns : goal.returns
returns c = picture_shows c.args.tech.now c.args.plan.now c.args.masters.now c.args.layouts.now c.requires.planned
    c.requires.counted
