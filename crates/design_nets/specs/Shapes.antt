-- What the boxes of all instances show, instance by instance.
use Rattle.std.specs.Prelude.{◌≡◌, ℕ, List, length, map, slice_index_or}
use Rattle.expand.specs.declared.master.Master.{Master}
use Rattle.pitch_join.specs.Masters.{master_at}
use Rattle.instance_laws.specs.{Conductors.InstanceItem, Meetings.at, Shapes.drawn_items}
use Rattle.design_nets.specs.{declared.{instances.Instance.Instance, shapes.Shape.Shape}, Firsts.{together, AreFirsts}}
use Rattle.design_nets.specs.Instances.{spot_no, master_no}

abbrev pub shape : ℕ → ℕ → Shape
shape s n = record { instance = s; item = n }

-- the item that a shape is
abbrev pub drawn_by : List Instance → Shape → InstanceItem
drawn_by instances shape = at (spot_no instances shape.instance) shape.item

-- the items of a master that are boxes, by number
abbrev pub drawn_in : Master → List ℕ
drawn_in master = drawn_items master.items.list

-- those of instance number s
abbrev pub shapes_in : List Master → List Instance → ℕ → List Shape
shapes_in masters instances s = map (shape s) (drawn_in (master_at masters (master_no instances s)))

-- shape number k
abbrev pub no_shape : Shape
no_shape = record { instance = 0; item = 0 }

abbrev pub shape_no : List Shape → ℕ → Shape
shape_no shapes k = slice_index_or shapes k no_shape

-- the shapes of all instances, and of each instance the number of its first
pub record AreShapesOf (masters : List Master) (instances : List Instance) (shapes : List Shape)
    (firsts : List ℕ) : Type 0 where
  pub all : shapes ≡ together (shapes_in masters instances) (length instances)
  pub begins : AreFirsts (shapes_in masters instances) (length instances) 0 firsts
