use Rattle.list_facts.proofs.Elements.{all_of}
use Rattle.plan_model.specs.Plan.{grids_of}
use Rattle.design_nets.specs.{Instances.instances_of, NamedLaws.HasPiece, NamedParts.named_parts}
use Rattle.design_nets.proofs.HavePieces.{parts_have_pieces}
use Rattle.design_nets.proofs.laws.named_parts_have_pieces.Goals as goal

pub returns : goal.returns
returns c = λ nets all. (
    let plan = c.args.plan.now in
    let masters = c.args.masters.now in
    let instances = instances_of (grids_of plan) in
    all_of (HasPiece plan masters nets instances) (named_parts masters instances)
    (parts_have_pieces c.args.tech.now plan masters c.requires.planned nets all))
