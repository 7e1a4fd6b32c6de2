-- How wide and how high the grids of a plan are together, and how far that may be.
use Rattle.std.specs.Prelude.{ℕ, ◌^◌, ◌*ℤ◌, ◌≤ℤ◌, ◌<ℤ◌, ◌⊎◌, ℤ, pos, List}
use Rattle.lam_geom.specs.declared.boxes.Axis.TheVariants.{X, Y}
use Rattle.rule_table.specs.{declared.technology.Tech.Tech, Technology.{numbers_of, widest_of}}
use Rattle.sym_items.specs.{declared.items.Coords.Coords, Layouts.size_in}
use Rattle.plan_model.specs.{declared.plan.Plan.Plan, Instances.{whole_width, whole_height}, Plan.grids_of}

-- the width and the height of masks, in hundredths of a micron
abbrev pub most_extent : ℤ
most_extent = pos (2 ^ 30)

-- u in hundredths of a micron
abbrev pub unit_of : Tech → ℤ
unit_of tech = (numbers_of tech).unit

abbrev pub IsWithinExtent : Tech → ℤ → Type 0
IsWithinExtent tech length = (length *ℤ unit_of tech) ≤ℤ most_extent

abbrev pub IsPastExtent : Tech → ℤ → Type 0
IsPastExtent tech length = most_extent <ℤ (length *ℤ unit_of tech)

-- no size is below 0
abbrev pub AreSizes : (ℕ → ℤ) → Type 0
AreSizes size = (m : ℕ) → pos 0 ≤ℤ size m

-- how wide and how high all grids are together
abbrev pub width_of_all : Tech → Plan → List Coords → ℤ
width_of_all tech plan layouts = whole_width (size_in X layouts) (widest_of tech) (grids_of plan)

abbrev pub height_of_all : Plan → List Coords → ℤ
height_of_all plan layouts = whole_height (size_in Y layouts) (grids_of plan)

-- The whole is within the extent.
pub record IsWithin (tech : Tech) (plan : Plan) (layouts : List Coords) : Type 0 where
  pub width : IsWithinExtent tech (width_of_all tech plan layouts)
  pub height : IsWithinExtent tech (height_of_all plan layouts)

abbrev pub IsPast : Tech → Plan → List Coords → Type 0
IsPast tech plan layouts = IsPastExtent tech (width_of_all tech plan layouts)
    ⊎ IsPastExtent tech (height_of_all plan layouts)
