-- Items of all instances, and the spacings that they keep.
use Rattle.std.specs.Prelude.{◌≡◌, ◌≢◌, ℕ, ◌<◌, ℤ, ◌+ℤ◌, ◌≤ℤ◌, List, Some, length, IsTrue}
use Rattle.lam_geom.specs.declared.boxes.Axis.{Axis, TheVariants.{X, Y}}
use Rattle.rule_table.specs.{declared.{classes.Rule.Rule, technology.Tech.Tech}, Technology.{spacing_of, widest_of}}
use Rattle.cell_model.specs.{declared.cell.{CellPort.CellPort, Nets.Nets}, Nets.AreNets}
use Rattle.sym_items.specs.{declared.items.{Coords.Coords, Item.Item}, Layouts.{layout_at, size_in}, Sides.Sides}
use Rattle.sym_items.specs.{Sides.{sides_in, gap_of_sides}, Standing.StandTogether}
use Rattle.expand.specs.declared.master.Master.{Master}
use Rattle.pair_rules.specs.{Bound.{is_poly_on_diffusion, item_at}, Clean.IsClean}
use Rattle.plan_model.specs.{declared.plan.Plan.Plan, GridNets.IsOneNet, Instances.{InstancePlace, IsInstancePlace}}
use Rattle.plan_model.specs.{Instances.{master_at_spot, left_of, bottom_of}, Plan.grids_of}
use Rattle.pitch_join.specs.{Layouts.LayoutsMeet, Masters.{master_at, ports_of_masters}}

-- finished layouts of masters: bound items of a master keep their spacing, and the layouts meet the plan on both axes
pub record AreFinished (tech : Tech) (plan : Plan) (masters : List Master) (layouts : List Coords) : Type 0 where
  pub clean : (m : ℕ) → m < length masters → IsClean tech (layout_at layouts m) (master_at masters m).items.list
  pub meet : (axis : Axis) → LayoutsMeet axis tech plan masters layouts

-- Two items of instances are bound with a spacing: they have different owners, told apart by instance; their classes
-- have a rule with it; no net, joined through ports that meet, frees them; and no buried contact of an instance joins
-- them.
pub record IsBoundInGrid (tech : Tech) (ports : List (List CellPort)) (nets : ℕ → Nets) (grids : List (List (List ℕ)))
    (p : InstancePlace) (a : Item) (q : InstancePlace) (b : Item) (s : ℤ) : Type 0 where
  pub owners : p ≡ q → a.owner ≢ b.owner
  pub rule : Rule
  pub ruled : spacing_of tech a.class b.class ≡ Some rule
  pub spacing : rule.s ≡ s
  pub unjoined : IsTrue rule.net_exempt → ¬ IsOneNet ports nets grids p a.net q b.net
  pub apart : IsTrue (is_poly_on_diffusion a.class b.class) → p ≡ q → ¬ StandTogether a b

-- the sides of a box, so far to the right and so far up
abbrev pub shifted_sides : ℤ → ℤ → Sides → Sides
shifted_sides x y s = record { left = x +ℤ s.left; right = x +ℤ s.right; bottom = y +ℤ s.bottom; top = y +ℤ s.top }

-- where an item of an instance lies
abbrev pub sides_at_spot : Tech → Plan → List Coords → InstancePlace → Item → Sides
sides_at_spot tech plan layouts p item =
    shifted_sides (left_of (size_in X layouts) (widest_of tech) (grids_of plan) p)
    (bottom_of (size_in Y layouts) (grids_of plan) p)
    (sides_in (layout_at layouts (master_at_spot (grids_of plan) p)) item)

-- item number i of the master of an instance
abbrev pub item_in : Plan → List Master → InstancePlace → ℕ → Item
item_in plan masters p i = item_at (master_at masters (master_at_spot (grids_of plan) p)).items.list i

abbrev pub items_at : Plan → List Master → InstancePlace → List Item
items_at plan masters p = (master_at masters (master_at_spot (grids_of plan) p)).items.list

-- these are the nets of each master
abbrev pub AreNetsOf : List Master → (ℕ → Nets) → Type 0
AreNetsOf masters nets = (m : ℕ) → m < length masters → AreNets (master_at masters m).cell (nets m)

-- Every two bound items of all instances lie at least their spacing apart.
abbrev pub AllKeepSpacing : Tech → Plan → List Master → List Coords → Type 0
AllKeepSpacing tech plan masters layouts =
    (nets : ℕ → Nets) → AreNetsOf masters nets
    → (p q : InstancePlace) → IsInstancePlace (grids_of plan) p → IsInstancePlace (grids_of plan) q
    → (i j : ℕ) → i < length (items_at plan masters p) → j < length (items_at plan masters q)
    → (s : ℤ) → IsBoundInGrid tech (ports_of_masters masters) nets (grids_of plan) p (item_in plan masters p i) q
    (item_in plan masters q j) s
    → s ≤ℤ gap_of_sides (sides_at_spot tech plan layouts p (item_in plan masters p i))
    (sides_at_spot tech plan layouts q (item_in plan masters q j))
