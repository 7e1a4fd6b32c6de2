-- What `nets` writes is determined.
use Rattle.std.proofs.Common.{◌≡◌, List}
use Rattle.lam_io.specs.Io.{Bytes}
use Rattle.rule_table.specs.declared.technology.Tech.{Tech}
use Rattle.stick_text.specs.{declared.design.Design.Design as Sticks, Writable.IsWritable}
use Rattle.expand.specs.declared.master.Master.{Master}
use Rattle.plan_model.specs.declared.plan.Plan.{Plan}
use Rattle.design_nets.{specs.NamedNets.IsNamedText, proofs.OneText.text_determined}
use Rattle.design_masters.{specs.Plans.AreMastersOf, proofs.Planned.masters_planned}
use Rattle.design_commands.specs.Nets.{names_of_grids}
use Rattle.design_layouts.proofs.Layouts.{of_plan}

pub one_text_of_nets : (tech : Tech) (design : Sticks) (plan : Plan) (masters : List Master) → IsWritable design
    → AreMastersOf tech design plan masters
    → (o p : Bytes) → IsNamedText (names_of_grids design.grids) plan masters o
    → IsNamedText (names_of_grids design.grids) plan masters p → o ≡ p
one_text_of_nets tech design plan masters writable are o p a b =
    text_determined tech plan masters (of_plan (masters_planned tech design plan masters writable are))
    (names_of_grids design.grids) o p a b
