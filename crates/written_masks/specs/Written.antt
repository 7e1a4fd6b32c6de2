-- What the text of the masks of finished layouts means: boxes that show all items, and whose extracted nets are the
-- sticks'.
use Rattle.std.specs.Prelude.{◌≡◌, ◌≢◌, ℕ, ◌^◌, ◌<◌, ℤ, pos, ◌*ℤ◌, ◌≤ℤ◌, All, List, length, map}
use Rattle.lam_geom.specs.declared.boxes.{Axis.TheVariants.{X, Y}, MaskBox.MaskBox}
use Rattle.rule_table.specs.{declared.technology.Tech.Tech, Technology.{numbers_of, widest_of}}
use Rattle.sym_items.specs.{declared.items.Coords.Coords, Layouts.size_in}
use Rattle.expand.specs.declared.master.Master.{Master}
use Rattle.plan_model.specs.{declared.plan.Plan.Plan, Instances.{whole_width, whole_height}, Plan.grids_of}
use Rattle.master_counts.specs.Parts.{AllStand}
use Rattle.mask_out.specs.Pictures.{drawings_in, calls_of}
use Rattle.cif_text.specs.Calls.{cif_of}
use Rattle.cif_read.specs.{Files.drawn_of, Hierarchies.{Hierarchy, flattened}}
use Rattle.cif_foreign.specs.Meaning.{Means}
use Rattle.instance_laws.specs.{Shapes.AreShapes, Sticks.NetsAreTheSticks}

-- u in hundredths of a micron
abbrev pub unit_of : Tech → ℤ
unit_of tech = (numbers_of tech).unit

-- Names without a semicolon, masters that all stand in the grids, and all grids together within 2^30 hundredths of a
-- micron on both axes.
pub record FitIntoText (tech : Tech) (plan : Plan) (masters : List Master) (layouts : List Coords) : Type 0 where
  pub counted : length layouts ≡ length masters
  pub named : All (λ (master : Master). All (λ b. b ≢ 59) master.cell.name) masters
  pub stand : AllStand plan masters
  pub width : (whole_width (size_in X layouts) (widest_of tech) (grids_of plan) *ℤ unit_of tech) ≤ℤ pos (2 ^ 30)
  pub height : (whole_height (size_in Y layouts) (grids_of plan) *ℤ unit_of tech) ≤ℤ pos (2 ^ 30)

-- the CIF text of the layouts
abbrev pub text_of_layouts : Tech → Plan → List Master → List Coords → List ℕ
text_of_layouts tech plan masters layouts =
    cif_of (unit_of tech) (drawings_in masters layouts)
    (calls_of (size_in X layouts) (size_in Y layouts) (widest_of tech) (grids_of plan))

-- A text means boxes, one by one, that show the items of all instances; and their nets and transistors are the sticks'.
pub record HasSticksNets (tech : Tech) (plan : Plan) (masters : List Master) (layouts : List Coords)
    (text : List ℕ) : Type 0 where
  pub hierarchy : Hierarchy
  pub means : Means text hierarchy
  pub boxes : List MaskBox
  pub drawn : map drawn_of boxes ≡ flattened hierarchy
  pub shapes : AreShapes tech plan masters layouts boxes
  pub nets : NetsAreTheSticks tech plan masters layouts boxes
