-- What it says of one master that values of an axis meet its structure and keep its kept pairs apart.
use Rattle.std.specs.Prelude.{◌≡◌, ℕ, ℤ, All, List, length}
use Rattle.lam_geom.specs.declared.boxes.Axis.{Axis}
use Rattle.rule_table.specs.declared.technology.Tech.{Tech}
use Rattle.liao_wong.specs.Answers.{IsWithinLimit}
use Rattle.sym_items.specs.{declared.items.Coords.Coords, Values.value_of, Extents.IsLongUnder}
use Rattle.expand.specs.{declared.master.Master.Master, Variables.variables_of, Laws.MeetsStructure}
use Rattle.pair_rules.specs.{Candidates.{candidates_of, Keeps}, Kept.kept_of, Laws.moved}
use Rattle.pass_run.specs.Laid.{IsLaidOut}

-- values of an axis meet a master over a layout: its structure, and the inequality of each of its kept pairs
pub record MeetsMaster (axis : Axis) (tech : Tech) (master : Master) (layout : Coords) (x : ℕ → ℤ) : Type 0 where
  pub structure : MeetsStructure axis tech master x
  pub kept : All (Keeps axis x master.items.list) (kept_of axis tech layout master.items.list)

-- values for an axis of a layout: one for each variable, within 2^55 of 0, that meet the master
pub record IsNextFor (axis : Axis) (tech : Tech) (master : Master) (layout : Coords) (values : List ℤ) : Type 0 where
  pub counted : length values ≡ variables_of axis master.cell
  pub small : All IsWithinLimit values
  pub meets : MeetsMaster axis tech master layout (value_of values)

-- With these values on the axis a pass may be made over the layout again: each item has a box and all keep their
-- spacings. All candidates of the layout before keep apart, and each item is as long as it has to be.
pub record StaysLaidOut (axis : Axis) (tech : Tech) (master : Master) (layout : Coords) (values : List ℤ) : Type 0 where
  pub laid : IsLaidOut tech master (moved axis layout values)
  pub apart : All (Keeps axis (value_of values) master.items.list) (candidates_of axis tech layout master.items.list)
  pub long : All (IsLongUnder axis (value_of values)) master.items.list

abbrev pub MeetingStays : Tech → Master → Type 0
MeetingStays tech master = (axis : Axis) (layout : Coords) (values : List ℤ) → IsLaidOut tech master layout
    → IsNextFor axis tech master layout values → StaysLaidOut axis tech master layout values
