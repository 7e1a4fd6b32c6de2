use Rattle.std.proofs.Common.{rules}
use Rattle.stick_cell.proofs.LineSides.{grows_with}
use Rattle.stick_cell.proofs.builder.CellBuilder.line.Goals as goal

pub returns-in-Joint : goal.returns-in-Joint
returns-in-Joint c = λ cells known are tables have form built is sides.
    grows_with c.joint.result c.joint.new.self c.in-Joint.is tt are form built sides c.joint.ensures.sides
    (search rules)

pub returns-in-Contact : goal.returns-in-Contact
returns-in-Contact c = λ cells known are tables have form built is sides.
    grows_with c.contact.result c.contact.new.self c.in-Contact.is tt are form built sides c.contact.ensures.sides
    (search rules)

pub returns-in-Buried : goal.returns-in-Buried
returns-in-Buried c = λ cells known are tables have form built is sides.
    grows_with c.buried.result c.buried.new.self c.in-Buried.is tt are form built sides c.buried.ensures.sides
    (search rules)

pub returns-in-Fet : goal.returns-in-Fet
returns-in-Fet c = λ cells known are tables have form built is sides.
    grows_with c.fet.result c.fet.new.self c.in-Fet.is tt are form built sides c.fet.ensures.sides
    (search rules)

pub returns-in-Port : goal.returns-in-Port
returns-in-Port c = λ cells known are tables have form built is sides.
    grows_with c.port.result c.port.new.self c.in-Port.is tt are form built sides c.port.ensures.sides
    (search rules)

pub returns-in-Inst : goal.returns-in-Inst
returns-in-Inst c = λ cells known are tables have form built is sides.
    grows_with c.copy.result c.copy.new.self c.in-Inst.is tt are form built sides c.copy.ensures.sides
    (search rules)

pub returns-in-Limit : goal.returns-in-Limit
returns-in-Limit c = λ cells known are tables have form built is sides.
    grows_with c.limit.result c.limit.new.self c.in-Limit.is tt are form built sides c.limit.ensures.sides
    (search rules)
