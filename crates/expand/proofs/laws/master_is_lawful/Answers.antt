use Rattle.std.proofs.Common.{◌≡◌, length, refl, ap, ◌∙◌, arith}
use Rattle.lam_geom.specs.declared.boxes.Axis.{Axis, TheVariants.{X, Y}}
use Rattle.rule_table.specs.declared.technology.Tech.{Tech}
use Rattle.sym_items.specs.Transposed.{vars_along}
use Rattle.cell_model.specs.Counts.{items_in}
use Rattle.expand.specs.{declared.master.Master.Master, Variables.variables_of, Masters.IsMaster}
use Rattle.expand.proofs.{Among.items_lie, Counted.{list_counted, items_few}, GraphEdges.shape_of, Standing.stands}
use Rattle.expand.proofs.laws.master_is_lawful.Goals as goal

vars_counted : (tech : Tech) (master : Master) → IsMaster tech master → (axis : Axis)
    → vars_along axis master.items ≡ variables_of axis master.cell
vars_counted tech master m X = ap (λ i. i.x_vars) m.items.are
vars_counted tech master m Y = ap (λ i. i.y_vars) m.items.are

pub returns : goal.returns
returns c =
    let tech = c.args.tech.now in
    let master = c.args.master.now in
    let m = c.requires in
    let count : length master.items.list ≡ items_in master.cell = ap (λ i. length i.list) m.items.are
    ∙ list_counted tech master.cell m.items.nets in
    let few = items_few master.cell m.light in
    record {
      count = count;
      few = omega (arith, count, few);
      vars = vars_counted tech master m;
      lie = items_lie tech master.cell master.items m.sound m.items;
      shape = λ axis. shape_of axis tech master.cell master.items _ m.sound m.light m.items refl;
      stands = λ axis x. stands axis tech master x m;
    }
