-- The law is the lemmas on the items of each owner.
use Rattle.instance_laws.proofs.MeetingOwners.{diffusion_conducts, pieces_have_masks, owners_have_poly}
use Rattle.instance_laws.proofs.MeetingOwners.{owners_have_metal}
use Rattle.instance_laws.proofs.meetings.items_are_of_owners.Goals as goal

pub returns-clause-diffusion : goal.returns-clause-diffusion
returns-clause-diffusion c = diffusion_conducts c.args.tech.now c.args.plan.now c.args.masters.now c.requires
    c.args.layouts.now

pub returns-clause-masks : goal.returns-clause-masks
returns-clause-masks c = pieces_have_masks c.args.tech.now c.args.plan.now c.args.masters.now c.requires

pub returns-clause-poly : goal.returns-clause-poly
returns-clause-poly c = owners_have_poly c.args.tech.now c.args.plan.now c.args.masters.now c.requires

pub returns-clause-metal : goal.returns-clause-metal
returns-clause-metal c = owners_have_metal c.args.tech.now c.args.plan.now c.args.masters.now c.requires
