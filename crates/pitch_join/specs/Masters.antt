-- The masters of a plan.
use Rattle.std.specs.{Prelude.{ℕ, ◌+◌, ◌≤◌, All, List, [], length, map, slice_index_or, sum_by}, List.range_with_len}
use Rattle.rule_table.specs.declared.technology.Tech.{Tech}
use Rattle.cell_model.specs.{declared.cell.{Cell.Cell, CellPort.CellPort}, Ports.ports_of_cell, Sound.IsLight}
use Rattle.expand.specs.{declared.master.Master.Master, Masters.IsMaster}
use Rattle.plan_model.specs.{declared.plan.Plan.Plan, Plan.IsPlanOver}

-- master number m
abbrev pub no_cell : Cell
no_cell = record { name = []; nodes = []; wires = []; ports = []; limits = [] }

abbrev pub no_master : Master
no_master = record { cell = no_cell; items = record { list = []; x_vars = 0; y_vars = 0 } }

abbrev pub master_at : List Master → ℕ → Master
master_at masters m = slice_index_or masters m no_master

abbrev pub master_numbers : List Master → List ℕ
master_numbers masters = range_with_len 0 (length masters)

-- the ports of a master, and of each
abbrev pub master_ports : Master → List CellPort
master_ports master = ports_of_cell master.cell

abbrev pub ports_of_masters : List Master → List (List CellPort)
ports_of_masters masters = map master_ports masters

-- a master has few parts
abbrev pub IsLightMaster : Master → Type 0
IsLightMaster master = IsLight master.cell

-- how many nodes, wires and limits a master has
abbrev pub parts_in : Master → ℕ
parts_in master = length master.cell.nodes + length master.cell.wires + length master.cell.limits

-- The masters are those of a plan, and have few parts together.
pub record ArePlanned (tech : Tech) (plan : Plan) (masters : List Master) : Type 0 where
  pub each : All (IsMaster tech) masters
  pub few_parts : sum_by parts_in masters ≤ 65536
  pub planned : IsPlanOver (ports_of_masters masters) plan
