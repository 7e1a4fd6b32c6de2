-- The mask boxes of a picture, one by one.
use Rattle.std.specs.Prelude.{ℕ, ◌≤◌, All, List, length, sum_by}
use Rattle.lam_geom.specs.declared.boxes.Axis.TheVariants.{X, Y}
use Rattle.rule_table.specs.{declared.technology.Tech.Tech, Technology.widest_of}
use Rattle.cell_model.specs.Counts.{boxes_in}
use Rattle.sym_items.specs.{declared.items.Coords.Coords, Layouts.size_in}
use Rattle.expand.specs.declared.master.Master.{Master}
use Rattle.plan_model.specs.{declared.plan.Plan.Plan, Plan.grids_of}
use Rattle.pitch_join.specs.Masters.{master_at}
use Rattle.mask_out.specs.{Masks.Mask, Pictures.{drawings_in, calls_of, flat_of}}

-- the boxes of the picture of layouts, one by one
abbrev pub boxes_of_picture : Tech → Plan → List Master → List Coords → List Mask
boxes_of_picture tech plan masters layouts =
    flat_of (drawings_in masters layouts)
    (calls_of (size_in X layouts) (size_in Y layouts) (widest_of tech) (grids_of plan))
