-- What is made before the list of a pass is put together.
use Rattle.std.specs.Prelude.{◌≡◌, ℕ, ◌-◌, ◌≤◌, List, length, sum_by}
use Rattle.lam_geom.specs.declared.boxes.Axis.{Axis}
use Rattle.rule_table.specs.declared.technology.Tech.{Tech}
use Rattle.cons_graph.specs.Constraints.{IsConstraintGraph}
use Rattle.sym_items.specs.declared.items.Coords.{Coords}
use Rattle.expand.specs.declared.master.Master.{Master}
use Rattle.plan_model.specs.declared.plan.Plan.{Plan}
use Rattle.pitch_join.specs.{Joined.{bases_of, fixed_of, kept_edges_at, system_variables}, Masters.parts_in}
use Rattle.pitch_join.specs.{declared.joint.Joint.Joint, Names.system_names}
use Rattle.pass_run.specs.declared.ready.Ready.{Ready, TheVariants.{Order, Fixed, Kept}}
use Rattle.pass_run.specs.{declared.ready.Prepared.Prepared, Found.{IsFound, AreFound}, OneStep.IsOrderAlong}

-- the inequalities of some masters that hold whatever their layouts, of which a constraint graph can be made where the
-- masters have few parts together
pub record IsFixedJoint (axis : Axis) (tech : Tech) (plan : Plan) (masters : List Master) (joint : Joint) : Type 0 where
  pub vars : joint.vars ≡ system_variables axis masters
  pub bases : joint.base ≡ bases_of axis masters
  pub edges : joint.edges.items ≡ fixed_of axis tech plan masters
  pub names : joint.names ≡ system_names axis masters
  pub named : length joint.names ≡ joint.vars
  pub shape : sum_by parts_in masters ≤ 65536
      → IsConstraintGraph (record { vars = joint.vars; edges = joint.edges.items })

-- all that is made
pub record IsPrepared (axis : Axis) (tech : Tech) (plan : Plan) (masters : List Master) (layouts : List Coords)
    (prepared : Prepared) : Type 0 where
  pub order : IsOrderAlong axis layouts prepared.order.items
  pub joint : IsFixedJoint axis tech plan masters prepared.joint
  pub found : AreFound axis tech masters layouts prepared.found.items

-- one of these, by its number: the order comes first, then the inequalities, then what is found of each master
abbrev pub IsReady : Axis → Tech → Plan → List Master → List Coords → ℕ → Ready → Type 0
IsReady axis tech plan masters layouts number (Order order) = (number ≡ 0) × IsOrderAlong axis layouts order.items
IsReady axis tech plan masters layouts number (Fixed joint) = (number ≡ 1) × IsFixedJoint axis tech plan masters joint
IsReady axis tech plan masters layouts number (Kept found) =
    (2 ≤ number) × IsFound (kept_edges_at axis tech masters layouts (number - 2)) found

-- something of the kind that is made as this number
abbrev pub IsOfNumber : ℕ → Ready → Type 0
IsOfNumber number (Order order) = number ≡ 0
IsOfNumber number (Fixed joint) = number ≡ 1
IsOfNumber number (Kept found) = 2 ≤ number
