use Rattle.design_nets.proofs.NamesTold.{names_told, part_stands}
use Rattle.design_nets.proofs.laws.names_tell_the_netlist.Goals as goal

pub returns-clause-told : goal.returns-clause-told
returns-clause-told c = λ boxes list grids text shapes sticks is.
    names_told c.args.tech.now c.args.plan.now c.args.masters.now c.requires.planned c.args.layouts.now list sticks
    grids text is boxes shapes c.transistors_have_boxes.ensures

pub returns-clause-parts : goal.returns-clause-parts
returns-clause-parts c = λ list grids text sticks is p i of.
    part_stands c.args.tech.now c.args.plan.now c.args.masters.now c.requires.planned c.args.layouts.now list sticks
    grids text is p i of
