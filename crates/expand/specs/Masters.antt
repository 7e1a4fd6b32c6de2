-- A cell that meets the checks, with its items.
use Rattle.rule_table.specs.declared.technology.Tech.{Tech}
use Rattle.cell_model.specs.Sound.{IsSound, IsLight}
use Rattle.expand.specs.{declared.master.Master.Master, Items.AreItems}

-- the cell is sound and light, and the items are its own
pub record IsMaster (tech : Tech) (master : Master) : Type 0 where
  pub sound : IsSound tech master.cell
  pub light : IsLight master.cell
  pub items : AreItems tech master.cell master.items
