-- What is found of each master before the list of a pass is put together.
use Rattle.std.specs.Prelude.{◌≡◌, ℕ, ◌<◌, List, length, slice_index_or}
use Rattle.lam_geom.specs.declared.boxes.Axis.{Axis}
use Rattle.rule_table.specs.declared.technology.Tech.{Tech}
use Rattle.cons_graph.specs.declared.edges.Edge.{Edge}
use Rattle.sym_items.specs.declared.items.Coords.{Coords}
use Rattle.expand.specs.declared.master.Master.{Master}
use Rattle.pitch_join.specs.Joined.{kept_edges_at}
use Rattle.pass_run.specs.{declared.finding.Found.{Found, TheVariants.{Edges, TooMany}}, Alike.most_edges}

-- where these are the inequalities of a master's kept pairs: they are found, or that they are too many for a list
abbrev pub IsFound : List Edge → Found → Type 0
IsFound kept (Edges edges) = edges.items ≡ kept
IsFound kept TooMany = most_edges < length kept

-- what is found of all masters, one after another
pub record AreFound (axis : Axis) (tech : Tech) (masters : List Master) (layouts : List Coords) (found : List Found) :
    Type 0 where
  pub one_each : length found ≡ length masters
  pub each : (m : ℕ) (d : Found) → m < length masters
      → IsFound (kept_edges_at axis tech masters layouts m) (slice_index_or found m d)
