use Rattle.design_masters.proofs.FewParts.{few_parts, few_in_all}
use Rattle.design_masters.proofs.masters.make_masters.Goals as goal

pub returns-clause-few_parts : goal.returns-clause-few_parts
returns-clause-few_parts g c =
    few_parts c.args.tech.now c.args.design.now c.in_ok-planned.planned.plan c.in_ok-masters.masters.items
    c.in_ok-masters.ensures.of_design c.requires.few_names c.in_ok-masters.ensures.named

pub returns-clause-few_boxes : goal.returns-clause-few_boxes
returns-clause-few_boxes g c =
    few_in_all c.args.tech.now c.args.design.now c.in_ok-planned.planned.plan c.in_ok-masters.masters.items
    c.in_ok-masters.ensures.of_design
