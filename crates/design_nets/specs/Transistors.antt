-- Which items of a master are of which of its nodes, and what a transistor is by its diffusion.
use Rattle.std.specs.Prelude.{◌≡◌, ℕ, ◌<◌, ◌≤◌, ◌^◌, ℤ, pos, neg_ℤ, ◌≤ℤ◌, All, List, length, slice_index, slice_get}
use Rattle.std.specs.{Prelude.Some, List.range_with_len}
use Rattle.lam_geom.specs.declared.boxes.Axis.TheVariants.{X, Y}
use Rattle.rule_table.specs.declared.{classes.Class.{Class, TheVariants.{P, Dm, G}}, technology.Tech.Tech}
use Rattle.rule_table.specs.Technology.{widest_of}
use Rattle.cell_model.specs.{declared.cell.{Axis2.Axis2, Cell.Cell}, Sound.node_at}
use Rattle.cell_model.specs.declared.cell.NodeKind.TheVariants as kinds
use Rattle.sym_items.specs.{declared.items.{Coords.Coords, Item.Item}, Layouts.{layout_at, size_in}, Sides.Sides}
use Rattle.sym_items.specs.Sides.{sides_in}
use Rattle.pair_rules.specs.Bound.{item_at}
use Rattle.expand.specs.declared.master.Master.{Master}
use Rattle.buried_contacts.specs.Contacts.{axis_along}
use Rattle.plan_model.specs.{declared.plan.Plan.Plan, Instances.{InstancePlace, IsInstancePlace, master_at_spot}}
use Rattle.plan_model.specs.Plan.{grids_of}
use Rattle.pitch_join.specs.Masters.{master_at}
use Rattle.instance_laws.specs.{Planned.AreOfPlan, Rules.item_in}
use Rattle.mask_out.specs.{declared.drawing.Call.Call, Pictures.{HaveBoxes, IsDrawable, calls_of}}
use Rattle.design_nets.specs.declared.{node_items.NodeItems.NodeItems, shapes.Shapes.Shapes, transistors.Fet.Fet}
use Rattle.design_nets.specs.{Instances.{instances_of, master_no}, Shapes.{drawn_in, shape_no, AreShapesOf}}

-- ---- the items of nodes

-- the item in a position of some, by their numbers, is of this class and of this owner
pub record IsOf (items : List Item) (among : List ℕ) (class : Class) (k j : ℕ) : Type 0 where
  pub within : j < length among
  pub of_class : (item_at items (slice_index among j)).class ≡ class
  pub owned : (item_at items (slice_index among j)).owner ≡ k

-- for each of so many owners that has an item of this class among some, the position of one
pub record AreOfOwners (items : List Item) (among : List ℕ) (class : Class) (count : ℕ) (places : List ℕ) : Type 0 where
  pub counted : length places ≡ count
  pub each : (k j : ℕ) → k < count → IsOf items among class k j → IsOf items among class k (slice_index places k)

-- the poly of the nodes of a master among the items that are boxes, and their channels among all items
pub record AreNodeItems (master : Master) (found : NodeItems) : Type 0 where
  pub polys : AreOfOwners master.items.list (drawn_in master) P (length master.cell.nodes) found.polys.items
  pub channels : AreOfOwners master.items.list (range_with_len 0 (length master.items.list)) G
      (length master.cell.nodes) found.channels.items

-- those of each master
pub record AreItemsOfNodes (masters : List Master) (all : List NodeItems) : Type 0 where
  pub counted : length all ≡ length masters
  pub each : (m : ℕ) (found : NodeItems) → slice_get all m ≡ Some found → AreNodeItems (master_at masters m) found

-- ---- transistors

-- an item is the diffusion of a transistor of its cell
pub record IsFetItem (cell : Cell) (item : Item) (fet : Fet) : Type 0 where
  pub diffusion : item.class ≡ Dm
  pub node : item.owner < length cell.nodes
  pub gate : Axis2
  pub w : ℤ
  pub l : ℤ
  pub kind : (node_at cell.nodes item.owner).kind ≡ kinds.Fet fet.depletion gate w l
  pub runs : fet.axis ≡ axis_along gate

-- ---- where they lie

-- a box within 2^40 of the origin, on either side
pub record LiesNear (s : Sides) : Type 0 where
  pub left : neg_ℤ (pos (2 ^ 40)) ≤ℤ s.left
  pub right : s.right ≤ℤ pos (2 ^ 40)
  pub bottom : neg_ℤ (pos (2 ^ 40)) ≤ℤ s.bottom
  pub top : s.top ≤ℤ pos (2 ^ 40)

-- each box of an instance lies within 2^40 of where the instance stands
abbrev pub BoxesLieNear : Plan → List Master → List Coords → Type 0
BoxesLieNear plan masters layouts =
    (p : InstancePlace) → IsInstancePlace (grids_of plan) p
    → All (λ n. LiesNear (sides_in (layout_at layouts (master_at_spot (grids_of plan) p)) (item_in plan masters p n)))
    (drawn_in (master_at masters (master_at_spot (grids_of plan) p)))

-- A plan of masters and its layouts, with a call for each instance and a box for each item that is one: all within
-- reach, and not too many.
pub record IsLaidOut (tech : Tech) (plan : Plan) (masters : List Master) (layouts : List Coords) (calls : List Call)
    (shapes : Shapes) : Type 0 where
  pub planned : AreOfPlan tech plan masters
  pub near : BoxesLieNear plan masters layouts
  pub counted : length layouts ≡ length masters
  pub boxes : HaveBoxes layouts masters
  pub drawable : IsDrawable (size_in X layouts) (size_in Y layouts) (widest_of tech) (grids_of plan)
  pub called : calls ≡ calls_of (size_in X layouts) (size_in Y layouts) (widest_of tech) (grids_of plan)
  pub shown : AreShapesOf masters (instances_of (grids_of plan)) shapes.all.items shapes.firsts.items
  pub few : length shapes.all.items ≤ 2 ^ 20

-- the cell and the item of box number k
abbrev pub master_shown : Plan → List Master → Shapes → ℕ → Master
master_shown plan masters shapes k =
    master_at masters (master_no (instances_of (grids_of plan)) (shape_no shapes.all.items k).instance)

abbrev pub cell_shown : Plan → List Master → Shapes → ℕ → Cell
cell_shown plan masters shapes k = (master_shown plan masters shapes k).cell

abbrev pub item_shown : Plan → List Master → Shapes → ℕ → Item
item_shown plan masters shapes k =
    item_at (master_shown plan masters shapes k).items.list (shape_no shapes.all.items k).item
