-- What holds of every pass.
use Rattle.std.specs.Prelude.{◌≡◌, ℕ, ◌<◌, ℤ, ◌≤ℤ◌, All, Contains, List, ◌∷◌, [], length}
use Rattle.lam_geom.specs.declared.boxes.Axis.{Axis}
use Rattle.rule_table.specs.declared.technology.Tech.{Tech}
use Rattle.cons_graph.specs.{declared.edges.Edge.Edge, SimpleWalks.{edges_of, heads_of, length_of, HasNoRepeat}}
use Rattle.cons_graph.specs.{SimpleWalks.WalksFromTo, Solutions.{IsSolution, value_of}}
use Rattle.sym_items.specs.{declared.items.{Item.Item, Coords.Coords}, Boxes.HasBox, Extents.IsLongUnder}
use Rattle.sym_items.specs.{Layouts.layout_at, Transposed.values_along}
use Rattle.expand.specs.declared.master.Master.{Master}
use Rattle.pair_rules.specs.Clean.{IsClean}
use Rattle.plan_model.specs.declared.plan.Plan.{Plan}
use Rattle.pitch_join.specs.{Masters.master_at, Joined.{system_variables, far_of, full_system, pruned_system}}
use Rattle.pass_run.specs.{declared.step.{Step.Step, Walk.Walk}, Layouts.{system_values, moved_by}, Report.walk_at}
use Rattle.pass_run.specs.Report.{size_at}

-- an item is at least as long on an axis as it has to be
abbrev pub IsLong : Axis → Coords → Item → Type 0
IsLong axis layout item = IsLongUnder axis (value_of (values_along axis layout)) item

-- A layout of some items: each has a box, and is as long as it has to be on these axes, and all bound items keep
-- their spacing.
pub record IsWellPlaced (tech : Tech) (layout : Coords) (items : List Item) (axes : List Axis) : Type 0 where
  pub boxes : All (HasBox layout) items
  pub long : (axis : Axis) → Contains axes axis → All (IsLong axis layout) items
  pub clean : IsClean tech layout items

-- so it is with the layout of each master
abbrev pub AreWellPlaced : Tech → List Master → List Coords → List Axis → Type 0
AreWellPlaced tech masters layouts axes = (m : ℕ) → m < length masters
    → IsWellPlaced tech (layout_at layouts m) (master_at masters m).items.list axes

-- Listed inequalities that make a walk from the origin to a far border, which meets no variable twice and is as long
-- as the size there. Each of them is one of the system's.
pub record IsCriticalPath (listed system : List Edge) (far : ℕ) (walk : Walk) (size : ℤ) : Type 0 where
  pub passes : WalksFromTo listed 0 walk.edges far
  pub of_system : All (Contains system) (edges_of listed walk.edges)
  pub simple : HasNoRepeat (0 ∷ heads_of listed walk.edges)
  pub as_long : length_of listed walk.edges ≡ size

-- the walk to the far border of master m is critical
abbrev pub HasCriticalPath : Tech → Plan → List Master → List Coords → Step → ℕ → Type 0
HasCriticalPath tech plan masters before step m =
    IsCriticalPath (pruned_system step.axis tech plan masters before) (full_system step.axis tech plan masters before)
    (far_of step.axis masters m) (walk_at step m) (size_at masters step m)

-- What holds of a pass over the layouts before it, where these axes have had passes: for each master there is a
-- critical path; where its axis has had a pass, the values before it solve its system, and none of them grows; and
-- each layout after it is well placed.
pub record IsSoundPass (tech : Tech) (plan : Plan) (masters : List Master) (had : List Axis) (before : List Coords)
    (step : Step) : Type 0 where
  pub one_each : length step.walks ≡ length masters
  pub paths : (m : ℕ) → m < length masters → HasCriticalPath tech plan masters before step m
  pub solved_before : Contains had step.axis
      → IsSolution (full_system step.axis tech plan masters before) (value_of (system_values step.axis before))
  pub none_grows : Contains had step.axis → (v : ℕ) → v < system_variables step.axis masters
      → value_of step.x v ≤ℤ value_of (system_values step.axis before) v
  pub placed : AreWellPlaced tech masters (moved_by masters before step) (step.axis ∷ had)

-- so it is with each of some passes
abbrev pub AreSound : Tech → Plan → List Master → List Axis → List Coords → List Step → Type 0
AreSound tech plan masters had before [] = Unit {0}
AreSound tech plan masters had before (step ∷ steps) =
    IsSoundPass tech plan masters had before step
    × AreSound tech plan masters (step.axis ∷ had) (moved_by masters before step) steps
